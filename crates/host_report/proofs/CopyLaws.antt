-- Copying a history entry by entry.
use Rattle.std.proofs.Common.{◌≡◌, ℕ, zero, suc, ◌+◌, ◌-◌, ◌<◌, ◌≤◌, ◌&&◌, nat_le, Bool, true, false, cond, List, [], ◌∷◌, ◌++◌, take, drop, length, map, Some, slice_get, refl, ap, sym, ◌∙◌, arith, add-one}
use Rattle.std.proofs.lemmas.Bool.Decides.{nat_tests}
use Rattle.bus_words.specs.declared.history.Entry.{Entry}
use Rattle.journal_store.specs.declared.allowance.Allowance.{Allowance}
use Rattle.bus_words.specs.Entries.{call_bytes}
use Rattle.journal_store.specs.Budgets.{allowances, charged, left_from}
use Rattle.bus_words.specs.Log.{Log, charge_of, left_of, with_entry}
use Rattle.bus_words.proofs.Journals.{left_from-push}
use Rattle.script_runs.specs.Histories.{Histories}
use Rattle.host_report.specs.Copies.{Copies, has_room, fits, are_within, with_copy, CopiesEntry}

-- what is left of a list from one of its items on
pub drop_get : {X : Type 0} (xs : List X) (i : ℕ) (x : X) → slice_get xs i ≡ Some x → drop i xs ≡ x ∷ drop (i + 1) xs
drop_get xs i x is = rest xs i x is ∙ ap (λ n. x ∷ drop n xs) (sym (add-one i))
  where
    rest : {Y : Type 0} (ys : List Y) (k : ℕ) (y : Y) → slice_get ys k ≡ Some y → drop k ys ≡ y ∷ drop (suc k) ys
    rest [] k y s = absurd (cc (s))
    rest (z ∷ ys) zero y s = let same : z ≡ y = cc (s) in ap (λ w. w ∷ ys) same
    rest (z ∷ ys) (suc k) y s = rest ys k y s

-- one item more of a list
pub take_get : {X : Type 0} (xs : List X) (i : ℕ) (x : X) → slice_get xs i ≡ Some x → take (i + 1) xs ≡ take i xs ++ x ∷ []
take_get xs i x is = ap (λ n. take n xs) (add-one i) ∙ front xs i x is
  where
    front : {Y : Type 0} (ys : List Y) (k : ℕ) (y : Y) → slice_get ys k ≡ Some y → take (suc k) ys ≡ take k ys ++ y ∷ []
    front [] k y s = absurd (cc (s))
    front (z ∷ ys) zero y s = let same : z ≡ y = cc (s) in ap (λ w. w ∷ []) same
    front (z ∷ ys) (suc k) y s = ap (λ l. z ∷ l) (front ys k y s)

-- the entry at a place, and those behind it
pub fits_step : (left : List Allowance) (history : List Entry) (i : ℕ) (e : Entry) → slice_get history i ≡ Some e →
    fits left (drop i history) ≡ (has_room left e.app (call_bytes e.call) && fits (charged left e.app (call_bytes e.call)) (drop (i + 1) history))
fits_step left history i e is = ap (fits left) (drop_get history i e is)

-- what stands at a place
pub place_of : {X : Type 0} (xs : List X) (i : ℕ) → i < length xs → (x : X) × (slice_get xs i ≡ Some x)
place_of [] i h = absurd (omega arith)
place_of (x ∷ xs) zero h = (x, refl)
place_of (x ∷ xs) (suc i) h = let there : i < length xs = omega arith in place_of xs i there

-- an entry that isn't within the budgets
pub copy_stops : (old new : Log) (history : List Entry) (i : ℕ) (done : Bool) → i < length history → CopiesEntry old new history i done → done ≡ false →
    fits (left_of old) (drop i history) ≡ false
copy_stops old new history i done there copies refused =
    let place = place_of history i there in
    let e : Entry = place.0 in
    fits_step (left_of old) history i e place.1
    ∙ ap (λ b. b && fits (charged (left_of old) e.app (call_bytes e.call)) (drop (i + 1) history)) (sym ((copies e place.1).0) ∙ refused)

-- an entry more
pub copy_goes : (old new : Log) (history : List Entry) (i : ℕ) (done : Bool) → i < length history → CopiesEntry old new history i done → done ≡ true →
    old.entries ≡ take i history → (new.entries ≡ take (i + 1) history) × (fits (left_of new) (drop (i + 1) history) ≡ fits (left_of old) (drop i history))
copy_goes old new history i done there copies added so_far =
    let place = place_of history i there in
    let e : Entry = place.0 in
    let longer : new ≡ with_entry old e = (copies e place.1).1 added in
    let rest = drop (i + 1) history in (
      ap (λ (log : Log). log.entries) longer ∙ ap (λ (es : List Entry). es ++ e ∷ []) so_far ∙ sym (take_get history i e place.1),
      ap (λ (log : Log). fits (left_of log) rest) longer
          ∙ ap (λ left. fits left rest) (left_from-push (allowances old.budgets) old.entries e)
          ∙ sym (fits_step (left_of old) history i e place.1
          ∙ ap (λ b. b && fits (charged (left_of old) e.app (call_bytes e.call)) rest) (sym ((copies e place.1).0) ∙ added)),
    )

-- histories within the budgets are copied if there is room
pub one_more : (c : Copies) (histories : Histories) → 1 ≤ c.room → are_within c.budgets histories ≡ true →
    with_copy c histories ≡ record c { copies = c.copies ++ histories ∷ []; room = c.room - 1 }
one_more c histories some within =
    let room : nat_le 1 c.room ≡ true = grind (arith, nat_tests) in
    let both : (nat_le 1 c.room && are_within c.budgets histories) ≡ true =
    ap (λ b. b && are_within c.budgets histories) room ∙ within in
    ap (λ b. cond b (record c { copies = c.copies ++ histories ∷ []; room = c.room - 1 }) (record c { told = false; room = 0 })) both

-- what an empty journal leaves is what its budgets allow
pub fits-empty : (journal : Log) (history : List Entry) → journal.entries ≡ [] → fits (left_of journal) history ≡ fits (allowances journal.budgets) history
fits-empty journal history empty = ap (λ es. fits (left_from (allowances journal.budgets) (map charge_of es)) history) empty
