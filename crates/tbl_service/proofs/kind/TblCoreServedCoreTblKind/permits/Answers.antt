use Rattle.std.proofs.Common.{ℕ, ap₂}
use Rattle.journal_store.specs.declared.allowance.Allowance.{Allowance}
use Rattle.tbl_service.proofs.kind.TblCoreServedCoreTblKind.permits.Goals as goal

abbrev so_much : ℕ → ℕ → Allowance
so_much entries bytes = record { entries = entries; bytes = bytes }

pub returns : goal.returns
returns c = record { left = ap₂ so_much c.entries_left.ensures c.bytes_left.ensures; end = c.may_make.ensures }
