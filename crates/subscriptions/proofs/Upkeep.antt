-- What is kept of the slots stays so as a subscription is added, changes or ends.
use Rattle.std.proofs.Common.{◌≡◌, ◌≢◌, ℕ, suc, ◌+◌, ◌<◌, ◌≤◌, ◌⊎◌, true, false, List, [], ◌∷◌, ◌++◌, length, get_or, set, Option, Some, None, is_some, refl, sym, ap, ◌∙◌, inl, inr, arith, get_or-set_same, get_or-set_other}
use Rattle.std.proofs.lemmas.Bool.{cases_eq}
use Rattle.std.proofs.lemmas.List.{length-set, length_push}
use Rattle.subscriptions.specs.declared.place.Place.{Place}
use Rattle.subscriptions.specs.Inside.{held_in, live_upto, number_in, number_at, with_waiting, AreKept}
use Rattle.subscriptions.proofs.Changes.{live_added, live_shorter}
use Rattle.subscriptions.proofs.LiveSubscriptions.{in_range}
use Rattle.subscriptions.proofs.FreeSlots.{last_free, free_taken, free_given}
use Rattle.subscriptions.proofs.Writes.{written, same_at, number_waiting, some_waiting, nothing_there}

-- numbers stay distinct if a slot gets one that is above all, or none
distinct_still : (slots : List (Option Place)) (slot : ℕ) (new : Option Place) → slot < length slots → ((j k : ℕ) → 0 < number_at slots j → number_at slots j ≡ number_at slots k → j ≡ k) →
    ((k : ℕ) → k ≢ slot → 0 < number_in new → number_at slots k ≢ number_in new) →
    (j k : ℕ) → 0 < number_at (set slots slot new) j → number_at (set slots slot new) j ≡ number_at (set slots slot new) k → j ≡ k
distinct_still slots slot new inside distinct apart j k used same = settled (cases_eq j slot) (cases_eq k slot)
  where
    here : number_at (set slots slot new) slot ≡ number_in new
    here = ap number_in (get_or-set_same slots slot new None inside)

    beside : (i : ℕ) → i ≢ slot → number_at (set slots slot new) i ≡ number_at slots i
    beside i ne = ap number_in (get_or-set_other slots slot i new None ne)

    settled : (j ≡ slot) ⊎ (j ≡ slot → ⊥) → (k ≡ slot) ⊎ (k ≡ slot → ⊥) → j ≡ k
    settled (inl e) (inl f) = e ∙ sym f
    settled (inl e) (inr g) =
        let is : number_at (set slots slot new) j ≡ number_in new = ap (number_at (set slots slot new)) e ∙ here in
        absurd (apart k g (omega (arith, used, is)) (sym (beside k g) ∙ sym same ∙ is))
    settled (inr g) (inl f) =
        let is : number_at (set slots slot new) k ≡ number_in new = ap (number_at (set slots slot new)) f ∙ here in
        absurd (apart j g (omega (arith, used, same, is)) (sym (beside j g) ∙ same ∙ is))
    settled (inr g) (inr h) = distinct j k (omega (arith, used, beside j g)) (sym (beside j g) ∙ same ∙ beside k h)

-- another count of messages that wait
pub kept_waiting : (slots : List (Option Place)) (free : List ℕ) (made slot waiting : ℕ) → AreKept slots free made → length (live_upto (set slots slot (with_waiting waiting (get_or slots slot None))) made) ≡ length (live_upto slots made)
    → AreKept (set slots slot (with_waiting waiting (get_or slots slot None))) free made
kept_waiting slots free made slot waiting kept all = record {
  positive = λ k is. omega (arith, numbers k, kept.positive k (sym (somes k) ∙ is));
  distinct = λ j k used same. kept.distinct j k (omega (arith, used, numbers j)) (sym (numbers j) ∙ same ∙ numbers k);
  unused = record {
    empty = λ i h. (omega (arith, (kept.unused.empty i h).0, length-set slots slot (with_waiting waiting (get_or slots slot None))), nothing_there (get_or (set slots slot (with_waiting waiting (get_or slots slot None))) (get_or free i 0) None) (λ is. nothing i h (sym (somes (get_or free i 0)) ∙ is)));
    once = kept.unused.once;
  };
  numbers = λ k. omega (arith, numbers k, kept.numbers k);
  full = omega (arith, all, kept.full, length-set slots slot (with_waiting waiting (get_or slots slot None)));
}
  where
    numbers : (k : ℕ) → number_at (set slots slot (with_waiting waiting (get_or slots slot None))) k ≡ number_at slots k
    numbers = same_at number_in (with_waiting waiting) (number_waiting waiting) slots slot

    somes : (k : ℕ) → is_some (get_or (set slots slot (with_waiting waiting (get_or slots slot None))) k None) ≡ is_some (get_or slots k None)
    somes = same_at is_some (with_waiting waiting) (some_waiting waiting) slots slot

    nothing : (i : ℕ) → i < length free → is_some (get_or slots (get_or free i 0) None) ≡ true → ⊥
    nothing i h is = let none : is_some (get_or slots (get_or free i 0) None) ≡ false = ap is_some ((kept.unused.empty i h).1) in cc

-- a new subscription in the free slot named last
pub kept_added : (slots : List (Option Place)) (free : List ℕ) (made now slot : ℕ) (p : Place) → AreKept slots (free ++ slot ∷ []) made → now ≡ suc made → p.number ≡ now → AreKept (set slots slot (Some p)) free now
kept_added slots free made now slot p kept next its = record {
  positive = λ k is. written slots slot (Some p) inside (λ _ o. is_some o ≡ true → 0 < number_in o) (λ _. omega (arith, its, next)) (λ k ne. kept.positive k) k is;
  distinct = distinct_still slots slot (Some p) inside kept.distinct (λ k ne some same. omega (arith, same, its, next, kept.numbers k));
  unused = free_taken slots free slot (Some p) kept.unused;
  numbers = written slots slot (Some p) inside (λ _ o. number_in o ≤ now) (omega (arith, its)) (λ k ne. omega (arith, kept.numbers k, next));
  full = omega (arith, kept.full, length_push free slot, length-set slots slot (Some p), ap length grown, length_push (live_upto slots made) (held_in slot p));
}
  where
    inside : slot < length slots
    inside = (last_free slots free slot kept.unused).0

    grown : live_upto (set slots slot (Some p)) now ≡ live_upto slots made ++ held_in slot p ∷ []
    grown =
        let l = last_free slots free slot kept.unused in
        ap (live_upto (set slots slot (Some p))) next ∙ live_added slots slot p made l.0 l.1 (its ∙ next) kept.numbers

pub live_grown : (slots : List (Option Place)) (free : List ℕ) (made now slot : ℕ) (p : Place) → AreKept slots (free ++ slot ∷ []) made → now ≡ suc made → p.number ≡ now → live_upto (set slots slot (Some p)) now ≡ live_upto slots made ++ held_in slot p ∷ []
live_grown slots free made now slot p kept next its =
    let l = last_free slots free slot kept.unused in
    ap (live_upto (set slots slot (Some p))) next ∙ live_added slots slot p made l.0 l.1 (its ∙ next) kept.numbers

-- a slot is freed
pub kept_freed : (slots : List (Option Place)) (free : List ℕ) (made slot : ℕ) (p : Place) → AreKept slots free made → get_or slots slot None ≡ Some p → ((k : ℕ) → k ≢ slot → number_at slots k ≢ p.number) → AreKept (set slots slot None) (free ++ slot ∷ []) made
kept_freed slots free made slot p kept here others = record {
  positive = λ k is. written slots slot None inside (λ _ o. is_some o ≡ true → 0 < number_in o) (λ e. absurd cc) (λ k ne. kept.positive k) k is;
  distinct = distinct_still slots slot None inside kept.distinct (λ k ne some. absurd (omega (arith, some)));
  unused = free_given slots slots free slot refl (λ k none. none) kept.unused inside (ap is_some here);
  numbers = written slots slot None inside (λ _ o. number_in o ≤ made) (omega arith) (λ k ne. kept.numbers k);
  full =
      let l : length (set slots slot None) ≡ length slots = length-set slots slot None in
      omega (arith, shorter, kept.full, l, length_push free slot);
}
  where
    inside : slot < length slots
    inside = in_range slots slot p here

    shorter : length (live_upto (set slots slot None) made) + 1 ≡ length (live_upto slots made)
    shorter =
        live_shorter slots slot p.number p made (omega (arith, kept.positive slot (ap is_some here), ap number_in here))
        (omega (arith, kept.numbers slot, ap number_in here)) here refl others
