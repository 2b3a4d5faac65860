-- The room for notes, if a call may be entered, and if the last entry gets another answer.
use Rattle.std.proofs.Common.{◌≡◌, ℕ, ◌+◌, ◌<◌, ◌≤◌, List, [], ◌∷◌, ◌++◌, length, map, ap, sym, ◌∙◌, arith}
use Rattle.std.proofs.lemmas.List.{length_push, map_push}
use Rattle.fsw_base.specs.declared.config.Budget.{Budget}
use Rattle.bus_words.specs.declared.calls.BusAnswer.{BusAnswer}
use Rattle.bus_words.specs.declared.history.Entry.{Entry}
use Rattle.bus_words.specs.Entries.{call_bytes}
use Rattle.bus_words.specs.Log.{Log, charge_of, left_of, with_entry}
use Rattle.bus_words.proofs.Journals.{left_from-push, ends}
use Rattle.journal_store.specs.Budgets.{HasRoom, allowances, left_from, entries_left}
use Rattle.journal_store.proofs.Charges.{entries_left-charged}

module _ (journal : Log) (e : Entry) (capacity : ℕ) (left : HasRoom (left_of journal) e.app (call_bytes e.call)) (room : length journal.entries + entries_left (left_of journal) ≤ capacity) where
  pub place_left : (notes : ℕ) → notes ≡ length journal.entries → notes < capacity
  place_left notes even = let one = entries_left-charged (left_of journal) e.app (call_bytes e.call) left in omega (arith, even, one, room)

  pub room_left : length (with_entry journal e).entries + entries_left (left_of (with_entry journal e)) ≤ capacity
  room_left =
      let one : entries_left (left_of (with_entry journal e)) + 1 ≡ entries_left (left_of journal) =
      ap (λ l. entries_left l + 1) (left_from-push (allowances journal.budgets) journal.entries e) ∙ entries_left-charged (left_of journal) e.app (call_bytes e.call) left in
      let more = length_push journal.entries e in
      omega (arith, one, more, room)

module _ (old new : Log) (answer : BusAnswer) (some : 1 ≤ length old.entries) (budgets : new.budgets ≡ old.budgets)
    (answered : (front : List Entry) (last : Entry) → old.entries ≡ front ++ last ∷ [] → new.entries ≡ front ++ record last { answer = answer } ∷ []) where
  -- the last entry of the journal, and those before it
  abbrev front : List Entry
  front = (ends old.entries some).0

  abbrev last : Entry
  last = (ends old.entries some).1

  before : old.entries ≡ front ++ last ∷ []
  before = (ends old.entries some).2

  after : new.entries ≡ front ++ record last { answer = answer } ∷ []
  after = answered front last before

  pub as_many : length new.entries ≡ length old.entries
  as_many = ap length after ∙ length_push front (record last { answer = answer }) ∙ sym (length_push front last) ∙ ap length (sym before)

  pub as_much_left : left_of new ≡ left_of old
  as_much_left =
      ap (λ (bs : List Budget). left_from (allowances bs) (map charge_of new.entries)) budgets
      ∙ ap (left_from (allowances old.budgets))
      (ap (map charge_of) after
      ∙ map_push charge_of front (record last { answer = answer })
      ∙ sym (map_push charge_of front last)
      ∙ ap (map charge_of) (sym before))
