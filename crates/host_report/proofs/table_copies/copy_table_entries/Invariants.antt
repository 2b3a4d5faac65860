use Rattle.std.proofs.Common.{◌≡◌, take, drop}
use Rattle.tbl_words.specs.Log.{left_of}
use Rattle.journal_store.specs.Budgets.{allowances}
use Rattle.host_report.specs.Copies.{table_fits}
use Rattle.host_report.proofs.table_copies.copy_table_entries.Given as goal

abbrev pub invariant-loop-i : goal.invariant-loop-i
invariant-loop-i l = record {
  copied : l.target.entries ≡ take l.i l.journal.entries;
  rest : table_fits (left_of l.target) (drop l.i l.journal.entries) ≡ table_fits (allowances l.initial.target.budgets) l.journal.entries;
}
