-- What is found in a list, also in one whose numbers rise, and what maps that agree make of it.
use Rattle.std.proofs.Common.{◌≡◌, ℕ, ◌<◌, Bool, true, false, cond, List, [], ◌∷◌, Option, Some, None, is_some, map, find, refl, ap, sym, ◌∙◌, subst, arith}
use Rattle.std.specs.List.{All}
use Rattle.std.proofs.lemmas.List.Elements.{All-nil, All-cons, All-head, All-tail, All-weaker}

-- Each element. --

-- what follows of each from two facts of each
pub all_both : {X : Type 0} (P Q R : X → Type 0) → ((x : X) → P x → Q x → R x) → (xs : List X) → All P xs → All Q xs → All R xs
all_both P Q R both [] ps qs = All-nil R
all_both P Q R both (x ∷ xs) ps qs = All-cons R x xs (both x (All-head P x xs ps) (All-head Q x xs qs)) (all_both P Q R both xs (All-tail P x xs ps) (All-tail Q x xs qs))

-- what holds behind a map
pub all_unmap : {X Y : Type 0} (P : Y → Type 0) (f : X → Y) (xs : List X) → All P (map f xs) → All (λ x. P (f x)) xs
all_unmap P f [] all = All-nil (λ x. P (f x))
all_unmap P f (x ∷ xs) all = All-cons (λ y. P (f y)) x xs (All-head P (f x) (map f xs) all) (all_unmap P f xs (All-tail P (f x) (map f xs) all))

-- two maps that agree on each
pub map_agree : {X Y : Type 0} (f g : X → Y) (xs : List X) → All (λ x. f x ≡ g x) xs → map f xs ≡ map g xs
map_agree f g [] all = refl
map_agree f g (x ∷ xs) all =
    ap (λ y. y ∷ map f xs) (All-head (λ y. f y ≡ g y) x xs all) ∙ ap (λ l. g x ∷ l) (map_agree f g xs (All-tail (λ y. f y ≡ g y) x xs all))

-- What is found. --

-- what is true of each is true of what is found
pub found_is : {X : Type 0} (P : X → Type 0) (p : X → Bool) (xs : List X) (x : X) → All P xs → find p xs ≡ Some x → P x
found_is P p [] x all is = absurd (cc (is))
found_is {X} P p (y ∷ ys) x all is = by_test (p y) is (λ rest. found_is P p ys x (All-tail P y ys all) rest)
  where
    by_test : (b : Bool) → cond {A = Option X} b (Some y) (find p ys) ≡ Some x → (find p ys ≡ Some x → P x) → P x
    by_test true here ih =
        let same : y ≡ x = cc (here) in
        subst P same (All-head P y ys all)
    by_test false here ih = ih here

-- what there is, if there is something
pub some_there : {X : Type 0} (o : Option X) → is_some o ≡ true → (x : X) × (o ≡ Some x)
some_there None is = absurd (cc (is))
some_there (Some x) is = (x, refl)

-- what is found passes
pub found_passes : {X : Type 0} (p : X → Bool) (xs : List X) (x : X) → find p xs ≡ Some x → p x ≡ true
found_passes p [] x is = absurd (cc (is))
found_passes {X} p (y ∷ ys) x is = by_test (p y) refl is (λ rest. found_passes p ys x rest)
  where
    by_test : (b : Bool) → p y ≡ b → cond {A = Option X} b (Some y) (find p ys) ≡ Some x → (find p ys ≡ Some x → p x ≡ true) → p x ≡ true
    by_test true passes here ih =
        let same : y ≡ x = cc (here) in
        ap p (sym same) ∙ passes
    by_test false fails here ih = ih here

-- tests that agree find the same
pub find_agree : {X : Type 0} (p q : X → Bool) → ((x : X) → p x ≡ q x) → (xs : List X) → find p xs ≡ find q xs
find_agree p q same [] = refl
find_agree {X} p q same (x ∷ xs) =
    ap (λ b. cond {A = Option X} b (Some x) (find p xs)) (same x) ∙ ap (λ o. cond {A = Option X} (q x) (Some x) o) (find_agree p q same xs)

-- If numbers rise. --

-- the numbers rise, all of them above this one
abbrev pub Rises : {X : Type 0} → (X → ℕ) → ℕ → List X → Type 0
Rises num below [] = Unit {0}
Rises num below (x ∷ xs) = (below < num x) × Rises num (num x) xs

-- all are above
pub all_above : {X : Type 0} (num : X → ℕ) (below : ℕ) (xs : List X) → Rises num below xs → All (λ x. below < num x) xs
all_above num below [] rises = All-nil (λ x. below < num x)
all_above num below (x ∷ xs) rises =
    All-cons (λ y. below < num y) x xs rises.0
    (All-weaker (λ y. num x < num y) (λ y. below < num y) (λ y more. omega (arith, more, rises.0)) xs (all_above num (num x) xs rises.1))

-- no other has the number of what is found
pub only_one : {X : Type 0} (num : X → ℕ) (p : X → Bool) (below : ℕ) (xs : List X) (x : X) → Rises num below xs → find p xs ≡ Some x → All (λ y. num y ≡ num x → y ≡ x) xs
only_one num p below [] x rises is = absurd (cc (is))
only_one {X} num p below (y ∷ ys) x rises is = by_test (p y) is (λ rest. only_one num p (num y) ys x rises.1 rest)
  where
    Only : X → Type 0
    Only z = num z ≡ num x → z ≡ x

    later : All (λ z. num y < num z) ys
    later = all_above num (num y) ys rises.1

    by_test : (b : Bool) → cond {A = Option X} b (Some y) (find p ys) ≡ Some x → (find p ys ≡ Some x → All Only ys) → All Only (y ∷ ys)
    by_test true here ih =
        let same : y ≡ x = cc (here) in
        let number : num y ≡ num x = ap num same in
        All-cons Only y ys (λ equal. same) (All-weaker (λ z. num y < num z) Only (λ z more equal. absurd (omega (arith, more, equal, number))) ys later)
    by_test false here ih =
        let above : num y < num x = found_is (λ z. num y < num z) p ys x later here in
        All-cons Only y ys (λ equal. absurd (omega (arith, above, equal))) (ih here)
