-- Copying a history of the tables entry by entry.
use Rattle.std.proofs.Common.{◌≡◌, ℕ, ◌+◌, ◌<◌, ◌&&◌, Bool, true, false, List, [], ◌∷◌, ◌++◌, take, drop, length, map, Some, slice_get, ap, sym, ◌∙◌}
use Rattle.std.proofs.lemmas.List.{map_push}
use Rattle.journal_store.specs.declared.allowance.Allowance.{Allowance}
use Rattle.journal_store.specs.Budgets.{allowances, charged, left_from}
use Rattle.journal_store.proofs.Charges.{left_from-push}
use Rattle.tbl_words.specs.declared.history.Entry.{Entry}
use Rattle.tbl_words.specs.Entries.{call_bytes}
use Rattle.tbl_words.specs.Log.{Log, charge_of, left_of, with_entry}
use Rattle.host_report.specs.Copies.{has_room, table_fits, CopiesTableEntry}
use Rattle.host_report.proofs.CopyLaws.{drop_get, take_get, place_of}

-- one more entry is one more charge
left_from-one : (left : List Allowance) (es : List Entry) (e : Entry) →
    left_from left (map charge_of (es ++ e ∷ [])) ≡ charged (left_from left (map charge_of es)) e.app (call_bytes e.call)
left_from-one left es e = ap (left_from left) (map_push charge_of es e) ∙ left_from-push left (map charge_of es) (charge_of e)

-- the entry at a place, and those behind it
pub table_fits_step : (left : List Allowance) (history : List Entry) (i : ℕ) (e : Entry) → slice_get history i ≡ Some e →
    table_fits left (drop i history) ≡ (has_room left e.app (call_bytes e.call) && table_fits (charged left e.app (call_bytes e.call)) (drop (i + 1) history))
table_fits_step left history i e is = ap (table_fits left) (drop_get history i e is)

-- an entry that isn't within the budgets
pub table_copy_stops : (old new : Log) (history : List Entry) (i : ℕ) (done : Bool) → i < length history → CopiesTableEntry old new history i done → done ≡ false →
    table_fits (left_of old) (drop i history) ≡ false
table_copy_stops old new history i done there copies refused =
    let place = place_of history i there in
    let e : Entry = place.0 in
    table_fits_step (left_of old) history i e place.1
    ∙ ap (λ b. b && table_fits (charged (left_of old) e.app (call_bytes e.call)) (drop (i + 1) history)) (sym ((copies e place.1).0) ∙ refused)

-- an entry more
pub table_copy_goes : (old new : Log) (history : List Entry) (i : ℕ) (done : Bool) → i < length history → CopiesTableEntry old new history i done → done ≡ true →
    old.entries ≡ take i history → (new.entries ≡ take (i + 1) history) × (table_fits (left_of new) (drop (i + 1) history) ≡ table_fits (left_of old) (drop i history))
table_copy_goes old new history i done there copies added so_far =
    let place = place_of history i there in
    let e : Entry = place.0 in
    let longer : new ≡ with_entry old e = (copies e place.1).1 added in
    let rest = drop (i + 1) history in (
      ap (λ (log : Log). log.entries) longer ∙ ap (λ (es : List Entry). es ++ e ∷ []) so_far ∙ sym (take_get history i e place.1),
      ap (λ (log : Log). table_fits (left_of log) rest) longer
          ∙ ap (λ left. table_fits left rest) (left_from-one (allowances old.budgets) old.entries e)
          ∙ sym (table_fits_step (left_of old) history i e place.1
          ∙ ap (λ b. b && table_fits (charged (left_of old) e.app (call_bytes e.call)) rest) (sym ((copies e place.1).0) ∙ added)),
    )

-- what an empty journal leaves is what its budgets allow
pub table_fits-empty : (journal : Log) (history : List Entry) → journal.entries ≡ [] → table_fits (left_of journal) history ≡ table_fits (allowances journal.budgets) history
table_fits-empty journal history empty = ap (λ es. table_fits (left_from (allowances journal.budgets) (map charge_of es)) history) empty
