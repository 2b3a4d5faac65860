-- Laws on lists that several layers cite: a test, a search or a count behind a map, and what a push adds.
use Rattle.std.proofs.Common.{◌≡◌, ℕ, ◌+◌, Bool, true, false, ◌||◌, List, [], ◌∷◌, Option, Some, map, filter, find, count_by, refl, ap, sym, ◌∙◌, cond}
use Rattle.std.specs.List.{list_any}
use Rattle.std.specs.Option.{option_map}
use Rattle.std.proofs.lemmas.List.Sums.{sum_by-cons}

-- a test of some element, behind a map
pub list_any-map : {X Y : Type 0} (p : Y → Bool) (f : X → Y) (xs : List X) → list_any p (map f xs) ≡ list_any (λ x. p (f x)) xs
list_any-map p f [] = refl
list_any-map p f (x ∷ xs) = ap (λ b. p (f x) || b) (list_any-map p f xs)

-- a filter behind a map
pub filter-map : {X Y : Type 0} (p : Y → Bool) (f : X → Y) (xs : List X) → filter p (map f xs) ≡ map f (filter (λ x. p (f x)) xs)
filter-map p f [] = refl
filter-map {X} {Y} p f (x ∷ xs) = step (p (f x)) (filter-map p f xs)
  where
    step : (b : Bool) → filter p (map f xs) ≡ map f (filter (λ y. p (f y)) xs) →
        cond {A = List Y} b (f x ∷ filter p (map f xs)) (filter p (map f xs)) ≡ map f (cond {A = List X} b (x ∷ filter (λ y. p (f y)) xs) (filter (λ y. p (f y)) xs))
    step true ih = ap (λ l. f x ∷ l) ih
    step false ih = ih

-- a search behind a map
pub find-map : {X Y : Type 0} (p : Y → Bool) (f : X → Y) (xs : List X) → find p (map f xs) ≡ option_map f (find (λ x. p (f x)) xs)
find-map p f [] = refl
find-map {X} {Y} p f (x ∷ xs) = step (p (f x)) (find-map p f xs)
  where
    step : (b : Bool) → find p (map f xs) ≡ option_map f (find (λ y. p (f y)) xs) →
        cond {A = Option Y} b (Some (f x)) (find p (map f xs)) ≡ option_map f (cond {A = Option X} b (Some x) (find (λ y. p (f y)) xs))
    step true ih = refl
    step false ih = ih

-- two maps that agree
pub map_same : {X Y : Type 0} (f g : X → Y) → ((x : X) → f x ≡ g x) → (xs : List X) → map f xs ≡ map g xs
map_same f g same [] = refl
map_same f g same (x ∷ xs) = ap (λ y. y ∷ map f xs) (same x) ∙ ap (λ l. g x ∷ l) (map_same f g same xs)

-- what a filter that passes everything leaves
pub filter_all : {X : Type 0} (p : X → Bool) → ((x : X) → p x ≡ true) → (xs : List X) → filter p xs ≡ xs
filter_all p passes [] = refl
filter_all {X} p passes (x ∷ xs) =
    ap (λ b. cond {A = List X} b (x ∷ filter p xs) (filter p xs)) (passes x) ∙ ap (λ l. x ∷ l) (filter_all p passes xs)

-- a count behind a map
pub count_by-map : {X Y : Type 0} (p : Y → Bool) (f : X → Y) (xs : List X) → count_by p (map f xs) ≡ count_by (λ x. p (f x)) xs
count_by-map p f [] = refl
count_by-map p f (x ∷ xs) =
    sum_by-cons (λ y. cond {A = ℕ} (p y) 1 0) (f x) (map f xs)
    ∙ ap (λ n. cond {A = ℕ} (p (f x)) 1 0 + n) (count_by-map p f xs)
    ∙ sym (sum_by-cons (λ y. cond {A = ℕ} (p (f y)) 1 0) x xs)
