-- Beginnings of lists. A history that was seen is a beginning of what it grew to.
use Rattle.std.proofs.Common.{◌≡◌, ℕ, zero, suc, ◌≤◌, List, [], ◌∷◌, ◌++◌, length, Some, slice_get, refl, ap, sym, ◌∙◌, arith, append_assoc, append-nil, length-append}
use mathlib.Core.List.{IsPrefix}

-- a list begins with itself
pub prefix_self : {A : Type 0} (xs : List A) → IsPrefix xs xs
prefix_self xs = ([], append-nil xs)

-- what begins a beginning begins the whole
pub prefix_trans : {A : Type 0} (xs ys zs : List A) → IsPrefix xs ys → IsPrefix ys zs → IsPrefix xs zs
prefix_trans xs ys zs begins goes_on =
    let first = begins.0 in let then = goes_on.0 in
    (first ++ then, sym (append_assoc xs first then) ∙ ap (λ l. l ++ then) begins.1 ∙ goes_on.1)

-- of two beginnings of one list, the one that is not longer begins the other
pub prefix_shorter : {A : Type 0} (xs ys zs : List A) → IsPrefix xs zs → IsPrefix ys zs → length xs ≤ length ys → IsPrefix xs ys
prefix_shorter [] ys zs one other fits = (ys, refl)
prefix_shorter (x ∷ xs) [] zs one other fits = absurd (omega arith)
prefix_shorter (x ∷ xs) (y ∷ ys) [] one other fits = absurd (cc (one.1))
prefix_shorter (x ∷ xs) (y ∷ ys) (z ∷ zs) one other fits =
    let tails : IsPrefix xs ys = prefix_shorter xs ys zs (one.0, cc (one.1)) (other.0, cc (other.1)) (omega arith) in
    let same : x ≡ y = cc (one.1, other.1) in
    (tails.0, cc (same, tails.1))

-- a beginning as long as the whole is the whole
pub prefix_whole : {A : Type 0} (xs ys : List A) → IsPrefix xs ys → length ys ≤ length xs → xs ≡ ys
prefix_whole [] [] begins fits = refl
prefix_whole [] (y ∷ ys) begins fits = absurd (omega arith)
prefix_whole (x ∷ xs) [] begins fits = absurd (cc (begins.1))
prefix_whole (x ∷ xs) (y ∷ ys) begins fits = cc (begins.1, prefix_whole xs ys (begins.0, cc (begins.1)) (omega arith))

-- a beginning is no longer than the whole
pub prefix_length : {A : Type 0} (xs ys : List A) → IsPrefix xs ys → length xs ≤ length ys
prefix_length xs ys begins = omega (arith, length-append xs begins.0, ap length begins.1)

-- what stands in a beginning stands in the whole, at the same place
pub prefix_get : {A : Type 0} (xs ys : List A) (k : ℕ) (x : A) → IsPrefix xs ys → slice_get xs k ≡ Some x → slice_get ys k ≡ Some x
prefix_get [] ys k x begins there = absurd cc
prefix_get (y ∷ xs) [] k x begins there = absurd (cc (begins.1))
prefix_get (y ∷ xs) (z ∷ ys) zero x begins there = cc (begins.1, there)
prefix_get (y ∷ xs) (z ∷ ys) (suc k) x begins there = prefix_get xs ys k x (begins.0, cc (begins.1)) there
