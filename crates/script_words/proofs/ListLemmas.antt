-- Laws of reading each item of a list, as a loop does.
use Rattle.std.proofs.Common.{◌≡◌, ℕ, ◌+◌, ◌<◌, List, [], ◌∷◌, ◌++◌, length, drop, get_or, Result, Ok, Err, refl, sym, ap, ◌∙◌, append_assoc, drop-cons, add-one}
use Rattle.std.proofs.lemmas.List.{append-nil}
use Rattle.fsw_base.specs.declared.script_faults.FaultKind.{FaultKind}
use Rattle.script_words.specs.Readings.{◌>>=◌}
use Rattle.script_words.specs.Lists.{each}

-- what was read before, and what is still read
abbrev pub with_front : {A : Type 0} → List A → Result (List A) FaultKind → Result (List A) FaultKind
with_front front reading = reading >>= λ items. Ok (front ++ items)

regrouped : {A : Type 0} (front : List A) (a : A) (reading : Result (List A) FaultKind) → with_front front (reading >>= λ items. Ok (a ∷ items)) ≡ with_front (front ++ a ∷ []) reading
regrouped front a (Ok items) = ap (λ xs. Ok xs) (sym (append_assoc front (a ∷ []) items))
regrouped front a (Err fault) = refl

pub each_more : {X A : Type 0} (read : X → Result A FaultKind) (front : List A) (items after : List X) (item : X) (a : A) (total : Result (List A) FaultKind) → read item ≡ Ok a → items ≡ item ∷ after
    → with_front front (each read items) ≡ total → with_front (front ++ a ∷ []) (each read after) ≡ total
unfolding each
each_more read front items after item a total one cut so_far =
    sym (regrouped front a (each read after)) ∙ ap (λ r. with_front front (r >>= λ first. each read after >>= λ others. Ok (first ∷ others))) (sym one) ∙ ap (λ xs. with_front front (each read xs)) (sym cut) ∙ so_far

pub each_fault : {X A : Type 0} (read : X → Result A FaultKind) (front : List A) (items after : List X) (item : X) (fault : FaultKind) (total : Result (List A) FaultKind) → read item ≡ Err fault → items ≡ item ∷ after
    → with_front front (each read items) ≡ total → total ≡ Err fault
unfolding each
each_fault read front items after item fault total one cut so_far =
    sym so_far ∙ ap (λ xs. with_front front (each read xs)) cut ∙ ap (λ r. with_front front (r >>= λ first. each read after >>= λ others. Ok (first ∷ others))) one

pub each_end : {X A : Type 0} (read : X → Result A FaultKind) (front : List A) (items : List X) (total : Result (List A) FaultKind) → items ≡ [] → with_front front (each read items) ≡ total → total ≡ Ok front
unfolding each
each_end read front items total cut so_far =
    sym so_far ∙ ap (λ xs. with_front front (each read xs)) cut ∙ ap (λ xs. Ok xs) (append-nil front)

-- the item at a place, and the items behind it
pub drop_cut : {X : Type 0} (xs : List X) (i : ℕ) (d : X) → i < length xs → drop i xs ≡ get_or xs i d ∷ drop (i + 1) xs
drop_cut xs i d lt = rw add-one (drop-cons xs i d lt)
