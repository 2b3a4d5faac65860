use Rattle.std.proofs.Common.{ℕ, ap₂}
use Rattle.journal_store.specs.declared.allowance.Allowance.{Allowance}
use Rattle.bus_service.proofs.kind.BusCoreServedCoreBusKind.permits.Goals as goal

abbrev so_much : ℕ → ℕ → Allowance
so_much entries bytes = record { entries = entries; bytes = bytes }

pub may_end-last-requires : goal.may_end-last-requires
may_end-last-requires c = c.may_make-any.ensures.0

pub returns : goal.returns
returns c = record { left = ap₂ so_much c.entries_left.ensures c.bytes_left.ensures; any = c.may_make-any.ensures; last = c.may_end-last.ensures }
