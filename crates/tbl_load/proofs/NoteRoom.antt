-- The room for notes, if a call may be entered.
use Rattle.std.proofs.Common.{◌≡◌, ℕ, ◌+◌, ◌<◌, ◌≤◌, length, ap, ◌∙◌, arith}
use Rattle.std.proofs.lemmas.List.{length_push}
use Rattle.tbl_words.specs.declared.history.Entry.{Entry}
use Rattle.tbl_words.specs.Entries.{call_bytes}
use Rattle.tbl_words.specs.Log.{Log, left_of, with_entry}
use Rattle.tbl_load.proofs.Journals.{left_from-push}
use Rattle.journal_store.specs.Budgets.{HasRoom, allowances, entries_left}
use Rattle.journal_store.proofs.Charges.{entries_left-charged}

module _ (journal : Log) (e : Entry) (capacity : ℕ) (left : HasRoom (left_of journal) e.app (call_bytes e.call)) (room : length journal.entries + entries_left (left_of journal) ≤ capacity) where
  pub place_left : (notes : ℕ) → notes ≡ length journal.entries → notes < capacity
  place_left notes even = let one = entries_left-charged (left_of journal) e.app (call_bytes e.call) left in omega (arith, even, one, room)

  pub room_left : length (with_entry journal e).entries + entries_left (left_of (with_entry journal e)) ≤ capacity
  room_left =
      let one : entries_left (left_of (with_entry journal e)) + 1 ≡ entries_left (left_of journal) =
      ap (λ l. entries_left l + 1) (left_from-push (allowances journal.budgets) journal.entries e) ∙ entries_left-charged (left_of journal) e.app (call_bytes e.call) left in
      let more = length_push journal.entries e in
      omega (arith, one, more, room)
