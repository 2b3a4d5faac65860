-- A loop that changes each element of a list in place.
use Rattle.std.proofs.Common.{◌≡◌, ℕ, ◌+◌, ◌<◌, List, ◌++◌, map, length, get_or, set, take, drop, ◌∙◌, ap, arith}
use Rattle.std.proofs.lemmas.List.{get_or_default}
use Rattle.std.proofs.lemmas.List.Edits.{map_over_more}

-- one element more is changed
pub map_in_place_more : {X : Type 0} (f : X → X) (xs ys : List X) (i : ℕ) (default changed : X) →
    i < length xs → length ys ≡ length xs → ys ≡ map f (take i xs) ++ drop i xs → changed ≡ f (get_or ys i default) →
    set ys i changed ≡ map f (take (i + 1) xs) ++ drop (i + 1) xs
map_in_place_more f xs ys i default changed within same_length done here =
    ap (λ y. set ys i y) here
    ∙ map_over_more f xs ys i (get_or ys i default) within done (get_or_default ys i default (get_or ys i default) (omega arith))
