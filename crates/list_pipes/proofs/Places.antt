-- Loops over lists: each element changed in place, and what is left of a list that makes up the whole; and the first element of a list.
use Rattle.std.proofs.Common.{◌≡◌, ℕ, ◌+◌, ◌<◌, zero, suc, eqb, List, [], ◌∷◌, ◌++◌, map, length, get_or, set, take, drop, Some, None, refl, sym, ◌∙◌, ap, append_assoc, arith}
use Rattle.std.specs.Prelude.{slice_get}
use Rattle.std.specs.List.{flat_map, sum_by, count_by}
use Rattle.std.proofs.lemmas.List.{get_or_default, drop_more, map_more}
use Rattle.std.proofs.lemmas.List.Edits.{map_over_more}
use Rattle.std.proofs.lemmas.List.Sums.{sum_by-cons, length-filter}
use Rattle.bus_words.specs.Bus.{Item, Subscription, route}
use Rattle.bus_words.specs.Pipes.{oldest}

-- Each element is changed in place. --

-- one element more is changed
pub map_in_place_more : {X : Type 0} (f : X → X) (xs ys : List X) (i : ℕ) (default changed : X) →
    i < length xs → length ys ≡ length xs → ys ≡ map f (take i xs) ++ drop i xs → changed ≡ f (get_or ys i default) →
    set ys i changed ≡ map f (take (i + 1) xs) ++ drop (i + 1) xs
map_in_place_more f xs ys i default changed within same_length done here =
    ap (λ y. set ys i y) here
    ∙ map_over_more f xs ys i (get_or ys i default) within done (get_or_default ys i default (get_or ys i default) (omega arith))

-- the element that comes next is as it was
still_in : {X : Type 0} (f : X → X) (xs : List X) (i : ℕ) (default : X) → i < length xs → get_or (map f (take i xs) ++ drop i xs) i default ≡ get_or xs i default
still_in f [] i default h = absurd (omega (arith, h))
still_in f (x ∷ xs) zero default h = refl
still_in f (x ∷ xs) (suc i) default h = still_in f xs i default (omega (arith, h))

pub still : {X : Type 0} (f : X → X) (xs ys : List X) (i : ℕ) (default : X) → i < length xs → ys ≡ map f (take i xs) ++ drop i xs → get_or ys i default ≡ get_or xs i default
still f xs ys i default h done = ap (λ l. get_or l i default) done ∙ still_in f xs i default h

-- one element more was read, and went last
pub mapped_more : {X : Type 0} (f : X → ℕ) (xs : List X) (i : ℕ) (x : X) (n : ℕ) (before got more : List ℕ) →
    i < length xs → x ≡ get_or xs i x → n ≡ f x → more ≡ got ++ n ∷ [] → got ≡ before ++ map f (take i xs) → more ≡ before ++ map f (take (i + 1) xs)
mapped_more f xs i x n before got more within is read pushed at =
    pushed
    ∙ (ap (λ l. l ++ n ∷ []) at
    ∙ (append_assoc before (map f (take i xs)) (n ∷ [])
    ∙ ap (λ l. before ++ l)
    (ap (λ k. map f (take i xs) ++ k ∷ []) (read ∙ ap f is) ∙ sym (map_more f xs i x within))))

-- What is left makes up the whole. --

-- the element that comes next, and those behind it
next_of : {X : Type 0} (xs : List X) (i : ℕ) (x : X) → i < length xs → x ≡ get_or xs i x → drop i xs ≡ x ∷ drop (i + 1) xs
next_of xs i x within is = drop_more xs i x within ∙ ap (λ y. y ∷ drop (i + 1) xs) (sym is)

-- one element's numbers more went last
pub left_more : {X : Type 0} (f : X → List ℕ) (xs : List X) (i : ℕ) (x : X) (gone more whole : List ℕ) →
    i < length xs → x ≡ get_or xs i x → more ≡ gone ++ f x → gone ++ flat_map f (drop i xs) ≡ whole → more ++ flat_map f (drop (i + 1) xs) ≡ whole
left_more f xs i x gone more whole within is pushed at =
    ap (λ l. l ++ flat_map f (drop (i + 1) xs)) pushed
    ∙ (append_assoc gone (f x) (flat_map f (drop (i + 1) xs)) ∙ (sym (ap (λ l. gone ++ flat_map f l) (next_of xs i x within is)) ∙ at))

-- the same if the element was copied
pub left_more_copied : {X : Type 0} (f : X → List ℕ) (xs : List X) (i : ℕ) (d : X) (gone more whole : List ℕ) →
    i < length xs → more ≡ gone ++ f (get_or xs i d) → gone ++ flat_map f (drop i xs) ≡ whole → more ++ flat_map f (drop (i + 1) xs) ≡ whole
left_more_copied f xs i d gone more whole within pushed at =
    left_more f xs i (get_or xs i d) gone more whole within (get_or_default xs i d (get_or xs i d) within) pushed at

-- one element's count more was added
pub sum_left_more : {X : Type 0} (f : X → ℕ) (xs : List X) (i : ℕ) (x : X) (sum one whole : ℕ) →
    i < length xs → x ≡ get_or xs i x → one ≡ f x → sum + sum_by f (drop i xs) ≡ whole → sum + one + sum_by f (drop (i + 1) xs) ≡ whole
sum_left_more f xs i x sum one whole within is counted at =
    omega (arith, at, counted, ap (sum_by f) (next_of xs i x within is), sum_by-cons f x (drop (i + 1) xs))

-- The oldest item. --

-- the first one
pub first_oldest : (items : List Item) → slice_get items 0 ≡ oldest items
first_oldest [] = refl
first_oldest (item ∷ items) = refl

-- there is none
pub none_oldest : (items : List Item) → length items ≡ 0 → oldest items ≡ None
none_oldest [] none = refl
none_oldest (item ∷ items) none = absurd (omega (arith, none))

-- there is one
pub some_oldest : (items : List Item) (item : Item) → 0 < length items → item ≡ get_or items 0 item → oldest items ≡ Some item
some_oldest [] item some is = absurd (omega (arith, some))
some_oldest (first ∷ items) item some is = ap (λ (i : Item). Some i) (sym is)

-- Routes. --

-- an id has as many subscriptions as are counted
pub route_count : (subs : List Subscription) (id : ℕ) → length (route subs id) ≡ count_by (λ sub. eqb sub.id id) subs
route_count subs id = length-filter (λ (sub : Subscription). eqb sub.id id) subs
