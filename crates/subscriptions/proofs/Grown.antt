-- A slot more, if none is free.
use Rattle.std.proofs.Common.{◌≡◌, ℕ, zero, suc, ◌+◌, ◌<◌, ◌≤◌, eqb, cond, List, [], ◌∷◌, ◌++◌, length, get_or, Option, Some, None, is_some, refl, sym, ap, subst, ◌∙◌, arith}
use Rattle.std.proofs.lemmas.List.{length_push, get_or_past}
use Rattle.subscriptions.specs.declared.place.Place.{Place}
use Rattle.subscriptions.specs.Inside.{held_in, numbered, live_upto, number_in, number_at, with_slot, with_free, AreKept}

-- a further slot that is free has what no slot has
pub still_at : (slots : List (Option Place)) (k : ℕ) → get_or (slots ++ None ∷ []) k None ≡ get_or slots k None
still_at [] zero = refl
still_at [] (suc k) = refl
still_at (slot ∷ slots) zero = refl
still_at (slot ∷ slots) (suc k) = still_at slots k

numbered_still : (number first : ℕ) (slots : List (Option Place)) → numbered number first (slots ++ None ∷ []) ≡ numbered number first slots
numbered_still number first [] = refl
numbered_still number first (None ∷ slots) = numbered_still number (first + 1) slots
numbered_still number first (Some p ∷ slots) = ap (λ xs. cond (eqb p.number number) (held_in first p ∷ xs) xs) (numbered_still number (first + 1) slots)

live_still : (slots : List (Option Place)) (upto : ℕ) → live_upto (slots ++ None ∷ []) upto ≡ live_upto slots upto
live_still slots zero = refl
live_still slots (suc upto) =
    ap (λ xs. xs ++ numbered (suc upto) 0 (slots ++ None ∷ [])) (live_still slots upto)
    ∙ ap (λ xs. live_upto slots upto ++ xs) (numbered_still (suc upto) 0 slots)

-- what is kept of the slots then
pub kept_grown : (slots : List (Option Place)) (free : List ℕ) (made : ℕ) → AreKept slots free made → AreKept (with_slot slots free) (with_free slots free) made
kept_grown slots (slot ∷ free) made kept = kept
kept_grown slots [] made kept = record {
  positive = λ k is. omega (arith, number k, kept.positive k (sym (ap is_some (still_at slots k)) ∙ is));
  distinct = λ j k used same. kept.distinct j k (omega (arith, used, number j)) (sym (number j) ∙ same ∙ number k);
  unused = record {
    empty = λ i h. first i (omega (arith, h));
    once = λ i j h k e. omega (arith, h, k);
  };
  numbers = λ k. omega (arith, number k, kept.numbers k);
  full = omega (arith, kept.full, ap length (live_still slots made), length_push slots (let none : Option Place = None in none));
}
  where
    number : (k : ℕ) → number_at (slots ++ None ∷ []) k ≡ number_at slots k
    number k = ap number_in (still_at slots k)

    first : (i : ℕ) → i ≡ 0 → (get_or (length slots ∷ []) i 0 < length (slots ++ None ∷ [])) × (get_or (slots ++ None ∷ []) (get_or (length slots ∷ []) i 0) None ≡ None)
    first i e =
        subst (λ n. (get_or (length slots ∷ []) n 0 < length (slots ++ None ∷ [])) × (get_or (slots ++ None ∷ []) (get_or (length slots ∷ []) n 0) None ≡ None)) (sym e)
        (omega (arith, length_push slots (let none : Option Place = None in none)), still_at slots (length slots) ∙ get_or_past slots (length slots) None (omega arith))

pub live_grown_slots : (slots : List (Option Place)) (free : List ℕ) (made : ℕ) → live_upto (with_slot slots free) made ≡ live_upto slots made
live_grown_slots slots (slot ∷ free) made = refl
live_grown_slots slots [] made = live_still slots made

-- how many there are then: one more if none was free, so that there are as many as are live
pub length_grown : (slots : List (Option Place)) (free : List ℕ) (made room : ℕ) → AreKept slots free made → length slots ≤ room → length (live_upto slots made) < room → length (with_slot slots free) ≤ room
length_grown slots (slot ∷ free) made room kept few less = few
length_grown slots [] made room kept few less = omega (arith, kept.full, less, length_push slots (let none : Option Place = None in none))
