-- Lists of whose members all pass a test, or none.
use Rattle.std.proofs.Common.{◌≡◌, Bool, true, false, cond, ◌||◌, List, [], ◌∷◌, map, filter, find, Some, None, refl, ap, ◌∙◌}
use Rattle.std.specs.List.{All, list_any}
use Rattle.std.proofs.lemmas.List.Elements.{All-head, All-tail}

module _ {X : Type 0} where
  pub find_none : (test : X → Bool) (xs : List X) → All (λ x. test x ≡ false) xs → find test xs ≡ None
  find_none test [] all = refl
  find_none test (x ∷ xs) all =
      ap (λ b. cond b (Some x) (find test xs)) (All-head (λ x. test x ≡ false) x xs all) ∙ find_none test xs (All-tail (λ x. test x ≡ false) x xs all)

  pub filter_same : (test : X → Bool) (xs : List X) → All (λ x. test x ≡ true) xs → filter test xs ≡ xs
  filter_same test [] all = refl
  filter_same test (x ∷ xs) all =
      ap (λ b. cond b (x ∷ filter test xs) (filter test xs)) (All-head (λ x. test x ≡ true) x xs all)
      ∙ ap (λ ys. x ∷ ys) (filter_same test xs (All-tail (λ x. test x ≡ true) x xs all))

  -- a change of what passes a test, if nothing does
  pub map_none : (test : X → Bool) (change : X → X) (xs : List X) → find test xs ≡ None → map (λ x. cond (test x) (change x) x) xs ≡ xs
  map_none test change [] none = refl
  map_none test change (x ∷ xs) none = choose (map_none test change xs) (test x) none
    where
      choose : (find test xs ≡ None → map (λ y. cond (test y) (change y) y) xs ≡ xs) → (b : Bool) → cond b (Some x) (find test xs) ≡ None → cond b (change x) x ∷ map (λ y. cond (test y) (change y) y) xs ≡ x ∷ xs
      choose rest true none = absurd cc
      choose rest false none = ap (λ ys. x ∷ ys) (rest none)

  -- what is found is there
  pub any_from_find : (test other : X → Bool) (xs : List X) (x : X) → find test xs ≡ Some x → other x ≡ true → list_any other xs ≡ true
  any_from_find test other [] x found passes = absurd cc
  any_from_find test other (y ∷ xs) x found passes = choose (any_from_find test other xs x) (test y) found
    where
      or_true : (b : Bool) → (b || true) ≡ true
      or_true true = refl
      or_true false = refl

      choose : (find test xs ≡ Some x → other x ≡ true → list_any other xs ≡ true) → (b : Bool) → cond b (Some y) (find test xs) ≡ Some x → (other y || list_any other xs) ≡ true
      choose rest true found = let same : y ≡ x = cc in ap (λ b. b || list_any other xs) (ap other same ∙ passes)
      choose rest false found = ap (λ b. other y || b) (rest found passes) ∙ or_true (other y)
