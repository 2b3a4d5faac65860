use Rattle.std.proofs.Common.{length, ap, ◌∙◌, arith}
use Rattle.journal_store.specs.Budgets.{entries_left}
use Rattle.bus_words.specs.Log.{Log, left_of}
use Rattle.sb_calls.proofs.Budgets.{entries_left-allowances}
use Rattle.sb_calls.proofs.noted.NotedJournal.new.Goals as goal

pub invariant_of-result : goal.invariant_of-result
invariant_of-result c =
    let log = c.in_ok-new.ensures in
    let no_entry = ap (λ (l : Log). length l.entries) log in
    let entries = ap (λ (l : Log). entries_left (left_of l)) log ∙ entries_left-allowances c.args.budgets.now in
    record {
      even = ap (λ xs. length xs) c.in_ok-with_capacity.ensures.items ∙ omega (arith, no_entry);
      room = omega (arith, no_entry, entries, c.total_entries-entries.ensures, c.in_ok-with_capacity.ensures.exact);
    }
