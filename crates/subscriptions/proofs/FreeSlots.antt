-- The free slots, as one is taken into use and as one is given back.
use Rattle.std.proofs.Common.{◌≡◌, ◌≢◌, ℕ, ◌<◌, ◌⊎◌, true, false, List, [], ◌∷◌, ◌++◌, length, get_or, set, Option, None, is_some, refl, sym, ap, subst, ◌∙◌, inl, inr, arith, get_or-set_same, get_or-set_other}
use Rattle.std.proofs.lemmas.Bool.{cases_eq}
use Rattle.std.proofs.lemmas.List.{length-set, length_push, get_or_push, get_or_append_left}
use Rattle.subscriptions.specs.declared.place.Place.{Place}
use Rattle.subscriptions.specs.Inside.{AreFree}

-- the slot named last is free
pub last_free : (slots : List (Option Place)) (free : List ℕ) (slot : ℕ) → AreFree slots (free ++ slot ∷ []) → (slot < length slots) × (get_or slots slot None ≡ None)
last_free slots free slot a =
    let at : get_or (free ++ slot ∷ []) (length free) 0 ≡ slot = get_or_push free slot 0 (length free) refl in
    subst (λ x. (x < length slots) × (get_or slots x None ≡ None)) at (a.empty (length free) (omega (arith, length_push free slot)))

pub free_taken : (slots : List (Option Place)) (free : List ℕ) (slot : ℕ) (new : Option Place) → AreFree slots (free ++ slot ∷ []) → AreFree (set slots slot new) free
free_taken slots free slot new a = record {
  empty = λ i h. still i h (same i h) (a.empty i (longer i h));
  once = λ i j h k e. a.once i j (longer i h) (longer j k) (same i h ∙ (e ∙ sym (same j k)));
}
  where
    longer : (i : ℕ) → i < length free → i < length (free ++ slot ∷ [])
    longer i h = omega (arith, h, length_push free slot)

    same : (i : ℕ) → i < length free → get_or (free ++ slot ∷ []) i 0 ≡ get_or free i 0
    same i h = get_or_append_left free (slot ∷ []) 0 i h

    other : (i : ℕ) → i < length free → get_or (free ++ slot ∷ []) i 0 ≡ get_or free i 0 → get_or free i 0 ≢ slot
    other i h same e =
        let at : get_or (free ++ slot ∷ []) (length free) 0 ≡ slot = get_or_push free slot 0 (length free) refl in
        let one = a.once i (length free) (omega (arith, h, length_push free slot)) (omega (arith, length_push free slot)) (same ∙ (e ∙ sym at)) in
        omega (arith, h, one)

    still : (i : ℕ) → i < length free → get_or (free ++ slot ∷ []) i 0 ≡ get_or free i 0 → (get_or (free ++ slot ∷ []) i 0 < length slots) × (get_or slots (get_or (free ++ slot ∷ []) i 0) None ≡ None)
        → (get_or free i 0 < length (set slots slot new)) × (get_or (set slots slot new) (get_or free i 0) None ≡ None)
    still i h same was = (
      omega (arith, was.0, same, length-set slots slot new),
      get_or-set_other slots slot (get_or free i 0) new None (other i h same) ∙ (ap (λ k. get_or slots k None) (sym same) ∙ was.1),
    )

pub free_given : (slots before : List (Option Place)) (free : List ℕ) (slot : ℕ) → length slots ≡ length before → ((k : ℕ) → get_or before k None ≡ None → get_or slots k None ≡ None) → AreFree before free → slot < length slots → is_some (get_or before slot None) ≡ true → AreFree (set slots slot None) (free ++ slot ∷ [])
free_given slots before free slot all none a inside used = record {
  empty = λ i h. emptied i h (cases_eq i (length free));
  once = λ i j h k e. single i j h k e (cases_eq i (length free)) (cases_eq j (length free));
}
  where
    last : get_or (free ++ slot ∷ []) (length free) 0 ≡ slot
    last = get_or_push free slot 0 (length free) refl

    same : (i : ℕ) → i < length free → get_or (free ++ slot ∷ []) i 0 ≡ get_or free i 0
    same i h = get_or_append_left free (slot ∷ []) 0 i h

    earlier : (i : ℕ) → i < length (free ++ slot ∷ []) → i ≢ length free → i < length free
    earlier i h ne = omega (arith, h, ne, length_push free slot)

    other : (i : ℕ) → i < length free → get_or free i 0 ≢ slot
    other i h e =
        let here : is_some (get_or before (get_or free i 0) None) ≡ false = ap is_some ((a.empty i h).1) in
        let there = subst (λ x. is_some (get_or before x None) ≡ false) e here in
        cc

    emptied : (i : ℕ) → i < length (free ++ slot ∷ []) → (i ≡ length free) ⊎ (i ≡ length free → ⊥)
        → (get_or (free ++ slot ∷ []) i 0 < length (set slots slot None)) × (get_or (set slots slot None) (get_or (free ++ slot ∷ []) i 0) None ≡ None)
    emptied i h (inl e) =
        let l : length (set slots slot None) ≡ length slots = length-set slots slot None in
        let at : get_or (free ++ slot ∷ []) i 0 ≡ slot = ap (λ x. get_or (free ++ slot ∷ []) x 0) e ∙ last in
        subst (λ x. (x < length (set slots slot None)) × (get_or (set slots slot None) x None ≡ None)) (sym at)
        (omega (arith, inside, l), get_or-set_same slots slot None None inside)
    emptied i h (inr ne) =
        let l : length (set slots slot None) ≡ length slots = length-set slots slot None in
        let less = earlier i h ne in
        let was = a.empty i less in
        subst (λ x. (x < length (set slots slot None)) × (get_or (set slots slot None) x None ≡ None)) (sym (same i less))
        (omega (arith, was.0, all, l), get_or-set_other slots slot (get_or free i 0) None None (other i less) ∙ none (get_or free i 0) was.1)

    single : (i j : ℕ) → i < length (free ++ slot ∷ []) → j < length (free ++ slot ∷ []) → get_or (free ++ slot ∷ []) i 0 ≡ get_or (free ++ slot ∷ []) j 0 → (i ≡ length free) ⊎ (i ≡ length free → ⊥) → (j ≡ length free) ⊎ (j ≡ length free → ⊥) → i ≡ j
    single i j h k e (inl f) (inl g) = f ∙ sym g
    single i j h k e (inl f) (inr g) =
        let less = earlier j k g in
        absurd (other j less (sym (same j less) ∙ (sym e ∙ (ap (λ x. get_or (free ++ slot ∷ []) x 0) f ∙ last))))
    single i j h k e (inr g) (inl f) =
        let less = earlier i h g in
        absurd (other i less (sym (same i less) ∙ (e ∙ (ap (λ x. get_or (free ++ slot ∷ []) x 0) f ∙ last))))
    single i j h k e (inr f) (inr g) =
        let li = earlier i h f in
        let lj = earlier j k g in
        a.once i j li lj (sym (same i li) ∙ (e ∙ same j lj))
