use Rattle.std.proofs.Common.{◌≡◌, take, drop}
use Rattle.bus_words.specs.Log.{left_of}
use Rattle.journal_store.specs.Budgets.{allowances}
use Rattle.host_report.specs.Copies.{fits}
use Rattle.host_report.proofs.mem_audit.copy_entries.Given as goal

abbrev pub invariant-loop-i : goal.invariant-loop-i
invariant-loop-i l = record {
  copied : l.target.entries ≡ take l.i l.journal.entries;
  rest : fits (left_of l.target) (drop l.i l.journal.entries) ≡ fits (allowances l.initial.target.budgets) l.journal.entries;
}
