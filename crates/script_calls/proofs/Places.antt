-- A loop that changes each element of a list in place.
use Rattle.std.proofs.Common.{◌≡◌, ℕ, ◌+◌, ◌<◌, zero, suc, List, [], ◌∷◌, ◌++◌, map, length, get_or, set, take, drop, refl, ◌∙◌, ap, arith}
use Rattle.std.proofs.lemmas.List.{get_or_default}
use Rattle.std.proofs.lemmas.List.Edits.{map_over_more}

-- one element more is changed
pub map_in_place_more : {X : Type 0} (f : X → X) (xs ys : List X) (i : ℕ) (default changed : X) →
    i < length xs → length ys ≡ length xs → ys ≡ map f (take i xs) ++ drop i xs → changed ≡ f (get_or ys i default) →
    set ys i changed ≡ map f (take (i + 1) xs) ++ drop (i + 1) xs
map_in_place_more f xs ys i default changed within same_length done here =
    ap (λ y. set ys i y) here
    ∙ map_over_more f xs ys i (get_or ys i default) within done (get_or_default ys i default (get_or ys i default) (omega arith))

-- the element that comes next is as it was
still_in : {X : Type 0} (f : X → X) (xs : List X) (i : ℕ) (default : X) → i < length xs → get_or (map f (take i xs) ++ drop i xs) i default ≡ get_or xs i default
still_in f [] i default h = absurd (omega (arith, h))
still_in f (x ∷ xs) zero default h = refl
still_in f (x ∷ xs) (suc i) default h = still_in f xs i default (omega (arith, h))

pub still : {X : Type 0} (f : X → X) (xs ys : List X) (i : ℕ) (default : X) → i < length xs → ys ≡ map f (take i xs) ++ drop i xs → get_or ys i default ≡ get_or xs i default
still f xs ys i default h done = ap (λ l. get_or l i default) done ∙ still_in f xs i default h
