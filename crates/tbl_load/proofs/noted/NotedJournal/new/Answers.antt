use Rattle.std.proofs.Common.{[], length, ap, sym, ◌∙◌, subst, arith}
use Rattle.journal_store.specs.Budgets.{entries_left}
use Rattle.tbl_words.specs.Log.{Log, left_of}
use Rattle.tbl_load.specs.Notes.{AreDue}
use Rattle.tbl_load.proofs.Budgets.{entries_left-allowances}
use Rattle.tbl_load.proofs.noted.NotedJournal.new.Goals as goal

pub invariant_of-result : goal.invariant_of-result
invariant_of-result c =
    let log = c.in_ok-new.ensures in
    let no_entry = ap (λ (l : Log). length l.entries) log in
    let entries = ap (λ (l : Log). entries_left (left_of l)) log ∙ entries_left-allowances c.args.budgets.now in
    record {
      due = subst (λ (l : Log). AreDue l.entries c.in_ok-with_capacity.field-0.items) (sym log)
          (subst (λ notes. AreDue [] notes) (sym c.in_ok-with_capacity.ensures.items) tt);
      room = omega (arith, no_entry, entries, c.total_entries-entries.ensures, c.in_ok-with_capacity.ensures.exact);
    }
