-- Finding, filtering and testing the items of a list.
use Rattle.std.proofs.Common.{◌≡◌, ℕ, ◌==◌, ◌&&◌, ◌||◌, not, Bool, true, false, cond, true≢false, eq-eqb, List, [], ◌∷◌, ◌++◌, map, filter, Option, Some, None, refl, ap, sym, ◌∙◌, arith}
use Rattle.std.proofs.lemmas.Bool.Decides.{nat_tests}
use Rattle.std.specs.Prelude.{find}
use Rattle.std.specs.List.{list_any}
use Rattle.std.specs.Option.{option_map, is_some}

-- Tests. --

pub neither : (a b : Bool) → (a || b) ≡ false → (a ≡ false) × (b ≡ false)
neither a b none = elim a as (λ a. (a || b) ≡ false → (a ≡ false) × (b ≡ false)) [ true ↦ λ is. absurd (true≢false is) | false ↦ λ is. (refl, is) ] none

pub not_false : (a : Bool) → not a ≡ false → a ≡ true
not_false a is = elim a as (λ a. not a ≡ false → a ≡ true) [ true ↦ λ is. refl | false ↦ λ is. absurd (true≢false is) ] is

pub not_true : (a : Bool) → not a ≡ true → a ≡ false
not_true a is = elim a as (λ a. not a ≡ true → a ≡ false) [ true ↦ λ is. sym is | false ↦ λ is. refl ] is

pub both : (a b : Bool) → (a && b) ≡ true → (a ≡ true) × (b ≡ true)
both a b is = elim a as (λ a. (a && b) ≡ true → (a ≡ true) × (b ≡ true)) [ true ↦ λ is. (refl, is) | false ↦ λ is. absurd (true≢false (sym is)) ] is

pub same-sym : (a b : ℕ) → (a == b) ≡ (b == a)
same-sym a b = grind (arith, nat_tests)

pub same-self : (a : ℕ) → (a == a) ≡ true
same-self a = eq-eqb a a refl

-- Lists. --

-- each item has the property
abbrev pub Each : {X : Type 0} → (X → Type 0) → List X → Type 0
Each P [] = Unit {0}
Each P (x ∷ xs) = P x × Each P xs

pub Each-push : {X : Type 0} (P : X → Type 0) (xs : List X) (x : X) → Each P xs → P x → Each P (xs ++ x ∷ [])
Each-push P [] x each one = (one, tt)
Each-push P (y ∷ xs) x each one = (each.0, Each-push P xs x each.1 one)

pub Each-filter : {X : Type 0} (P : X → Type 0) (test : X → Bool) (xs : List X) → Each P xs → Each P (filter test xs)
Each-filter P test [] each = tt
Each-filter {X} P test (x ∷ xs) each =
    elim (test x) as (λ b. Each P (cond {A = List X} b (x ∷ filter test xs) (filter test xs))) [
      | true ↦ (each.0, Each-filter P test xs each.1)
      | false ↦ Each-filter P test xs each.1
    ]

pub Each-drop : {X : Type 0} (P Q : X → Type 0) (xs : List X) → ((x : X) → P x → Q x) → Each P xs → Each Q xs
Each-drop P Q [] gives each = tt
Each-drop P Q (x ∷ xs) gives each = (gives x each.0, Each-drop P Q xs gives each.1)

pub Each-append : {X : Type 0} (P : X → Type 0) (xs ys : List X) → Each P xs → Each P ys → Each P (xs ++ ys)
Each-append P [] ys first second = second
Each-append P (x ∷ xs) ys first second = (first.0, Each-append P xs ys first.1 second)

pub Each-front : {X : Type 0} (P : X → Type 0) (xs ys : List X) → Each P (xs ++ ys) → Each P xs
Each-front P [] ys each = tt
Each-front P (x ∷ xs) ys each = (each.0, Each-front P xs ys each.1)

pub Each-back : {X : Type 0} (P : X → Type 0) (xs ys : List X) → Each P (xs ++ ys) → Each P ys
Each-back P [] ys each = each
Each-back P (x ∷ xs) ys each = Each-back P xs ys each.1

-- the same change of each item
pub map-each : {X Y : Type 0} (P : X → Type 0) (f g : X → Y) (xs : List X) → ((x : X) → P x → f x ≡ g x) → Each P xs → map f xs ≡ map g xs
map-each P f g [] same each = refl
map-each P f g (x ∷ xs) same each = ap (λ y. y ∷ map f xs) (same x each.0) ∙ ap (λ ys. g x ∷ ys) (map-each P f g xs same each.1)

pub filter-map : {X Y : Type 0} (test : Y → Bool) (f : X → Y) (xs : List X) → filter test (map f xs) ≡ map f (filter (λ x. test (f x)) xs)
filter-map test f [] = refl
filter-map {X} {Y} test f (x ∷ xs) =
    elim (test (f x)) as (λ b. cond {A = List Y} b (f x ∷ filter test (map f xs)) (filter test (map f xs)) ≡ map f (cond {A = List X} b (x ∷ filter (λ y. test (f y)) xs) (filter (λ y. test (f y)) xs))) [
      | true ↦ ap (λ ys. f x ∷ ys) (filter-map test f xs)
      | false ↦ filter-map test f xs
    ]

pub filter-push : {X : Type 0} (test : X → Bool) (xs : List X) (x : X) → filter test (xs ++ x ∷ []) ≡ filter test xs ++ cond {A = List X} (test x) (x ∷ []) []
filter-push test [] x = elim (test x) as (λ b. cond b (x ∷ []) [] ≡ cond b (x ∷ []) []) [ true ↦ refl | false ↦ refl ]
filter-push {X} test (y ∷ xs) x =
    elim (test y) as (λ b. cond {A = List X} b (y ∷ filter test (xs ++ x ∷ [])) (filter test (xs ++ x ∷ [])) ≡ cond {A = List X} b (y ∷ filter test xs) (filter test xs) ++ cond {A = List X} (test x) (x ∷ []) []) [
      | true ↦ ap (λ ys. y ∷ ys) (filter-push test xs x)
      | false ↦ filter-push test xs x
    ]

-- two filters change places, if the second asks of what passes the first as much as another does
pub filters : {X : Type 0} (first second other : X → Bool) → ((x : X) → first x ≡ true → second x ≡ other x) → (xs : List X) →
    filter first (filter second xs) ≡ filter other (filter first xs)
filters first second other same [] = refl
filters {X} first second other same (x ∷ xs) =
    let rest = filters first second other same xs in
    elim (first x) as (λ b. first x ≡ b → filter first (cond {A = List X} (second x) (x ∷ filter second xs) (filter second xs)) ≡ filter other (cond {A = List X} b (x ∷ filter first xs) (filter first xs))) [
      | true ↦ λ is.
          elim (second x) as (λ c. second x ≡ c → filter first (cond {A = List X} c (x ∷ filter second xs) (filter second xs)) ≡ cond {A = List X} (other x) (x ∷ filter other (filter first xs)) (filter other (filter first xs))) [
            | true ↦ λ passes.
                ap (λ b. cond {A = List X} b (x ∷ filter first (filter second xs)) (filter first (filter second xs))) is
                ∙ ap (λ ys. x ∷ ys) rest
                ∙ ap (λ b. cond {A = List X} b (x ∷ filter other (filter first xs)) (filter other (filter first xs))) (sym passes ∙ same x is)
            | false ↦ λ fails.
                rest ∙ ap (λ b. cond {A = List X} b (x ∷ filter other (filter first xs)) (filter other (filter first xs))) (sym fails ∙ same x is)
          ] refl
      | false ↦ λ is.
          elim (second x) as (λ c. filter first (cond {A = List X} c (x ∷ filter second xs) (filter second xs)) ≡ filter other (filter first xs)) [
            | true ↦ ap (λ b. cond {A = List X} b (x ∷ filter first (filter second xs)) (filter first (filter second xs))) is ∙ rest
            | false ↦ rest
          ]
    ] refl

pub filter-all : {X : Type 0} (xs : List X) → filter (λ x. true) xs ≡ xs
filter-all [] = refl
filter-all (x ∷ xs) = ap (λ ys. x ∷ ys) (filter-all xs)

pub filter-none : {X : Type 0} (xs : List X) → filter (λ x. false) xs ≡ []
filter-none [] = refl
filter-none (x ∷ xs) = filter-none xs

-- nothing passes if no item does
pub filter-any : {X : Type 0} (test : X → Bool) (xs : List X) → list_any test xs ≡ false → filter test xs ≡ []
filter-any test [] none = refl
filter-any {X} test (x ∷ xs) none =
    elim (test x) as (λ b. (b || list_any test xs) ≡ false → cond {A = List X} b (x ∷ filter test xs) (filter test xs) ≡ []) [
      | true ↦ λ is. absurd (true≢false is)
      | false ↦ λ is. filter-any test xs is
    ] none

pub any-map : {X Y : Type 0} (test : Y → Bool) (f : X → Y) (xs : List X) → list_any test (map f xs) ≡ list_any (λ x. test (f x)) xs
any-map test f [] = refl
any-map test f (x ∷ xs) = ap (λ b. test (f x) || b) (any-map test f xs)

pub any-push : {X : Type 0} (test : X → Bool) (xs : List X) (x : X) → list_any test (xs ++ x ∷ []) ≡ (list_any test xs || test x)
any-push test [] x = elim (test x) as (λ b. (b || false) ≡ b) [ true ↦ refl | false ↦ refl ]
any-push test (y ∷ xs) x = elim (test y) as (λ b. (b || list_any test (xs ++ x ∷ [])) ≡ ((b || list_any test xs) || test x)) [ true ↦ refl | false ↦ any-push test xs x ]

-- a test of what passes another
pub any-filter : {X : Type 0} (test first both : X → Bool) → ((x : X) → both x ≡ (test x && first x)) → (xs : List X) →
    list_any test (filter first xs) ≡ list_any both xs
any-filter test first both same [] = refl
any-filter {X} test first both same (x ∷ xs) =
    elim (first x) as (λ b. both x ≡ (test x && b) → list_any test (cond {A = List X} b (x ∷ filter first xs) (filter first xs)) ≡ (both x || list_any both xs)) [
      | true ↦ λ is. elim (test x) as (λ c. both x ≡ (c && true) → (c || list_any test (filter first xs)) ≡ (both x || list_any both xs)) [
        | true ↦ λ so. ap (λ c. c || list_any both xs) (sym so)
        | false ↦ λ so. any-filter test first both same xs ∙ ap (λ c. c || list_any both xs) (sym so)
      ] is
      | false ↦ λ is. any-filter test first both same xs ∙ ap (λ c. c || list_any both xs) (sym (is ∙ elim (test x) as (λ c. (c && false) ≡ false) [ true ↦ refl | false ↦ refl ]))
    ] (same x)

pub find-map : {X Y : Type 0} (test : Y → Bool) (f : X → Y) (xs : List X) → find test (map f xs) ≡ option_map f (find (λ x. test (f x)) xs)
find-map test f [] = refl
find-map {X} {Y} test f (x ∷ xs) =
    elim (test (f x)) as (λ b. cond {A = Option Y} b (Some (f x)) (find test (map f xs)) ≡ option_map f (cond {A = Option X} b (Some x) (find (λ y. test (f y)) xs))) [
      | true ↦ refl
      | false ↦ find-map test f xs
    ]

-- one item more that fails the test
pub find-push_other : {X : Type 0} (test : X → Bool) (xs : List X) (x : X) → test x ≡ false → find test (xs ++ x ∷ []) ≡ find test xs
find-push_other {X} test [] x fails = ap (λ b. cond {A = Option X} b (Some x) None) fails
find-push_other {X} test (y ∷ xs) x fails = elim (test y) as (λ b. cond {A = Option X} b (Some y) (find test (xs ++ x ∷ [])) ≡ cond {A = Option X} b (Some y) (find test xs)) [ true ↦ refl | false ↦ find-push_other test xs x fails ]

-- one item more that is the first to pass
pub find-push_here : {X : Type 0} (test : X → Bool) (xs : List X) (x : X) → find test xs ≡ None → test x ≡ true → find test (xs ++ x ∷ []) ≡ Some x
find-push_here {X} test [] x none passes = ap (λ b. cond {A = Option X} b (Some x) None) passes
find-push_here {X} test (y ∷ xs) x none passes =
    elim (test y) as (λ b. cond {A = Option X} b (Some y) (find test xs) ≡ None → cond {A = Option X} b (Some y) (find test (xs ++ x ∷ [])) ≡ Some x) [
      | true ↦ λ is. absurd (some_is_some y is)
      | false ↦ λ is. find-push_here test xs x is passes
    ] none
  where
    some_is_some : (y : X) → Some y ≡ None → ⊥
    some_is_some y is = true≢false (ap is_some is)

-- what a filter keeps that all pass who pass the test, the test finds as before
pub find-filter : {X : Type 0} (test keeps : X → Bool) → ((x : X) → test x ≡ true → keeps x ≡ true) → (xs : List X) → find test (filter keeps xs) ≡ find test xs
find-filter test keeps kept [] = refl
find-filter {X} test keeps kept (x ∷ xs) =
    elim (test x) as (λ b. test x ≡ b → find test (cond {A = List X} (keeps x) (x ∷ filter keeps xs) (filter keeps xs)) ≡ cond {A = Option X} b (Some x) (find test xs)) [
      | true ↦ λ is. ap (λ c. find test (cond {A = List X} c (x ∷ filter keeps xs) (filter keeps xs))) (kept x is) ∙ ap (λ b. cond {A = Option X} b (Some x) (find test (filter keeps xs))) is
      | false ↦ λ is. elim (keeps x) as (λ c. find test (cond {A = List X} c (x ∷ filter keeps xs) (filter keeps xs)) ≡ find test xs) [
        | true ↦ ap (λ b. cond {A = Option X} b (Some x) (find test (filter keeps xs))) is ∙ find-filter test keeps kept xs
        | false ↦ find-filter test keeps kept xs
      ]
    ] refl

-- if a filter drops all that pass the test, the test finds nothing
pub find-filter_none : {X : Type 0} (test keeps : X → Bool) → ((x : X) → test x ≡ true → keeps x ≡ false) → (xs : List X) → find test (filter keeps xs) ≡ None
find-filter_none test keeps dropped [] = refl
find-filter_none {X} test keeps dropped (x ∷ xs) =
    elim (test x) as (λ b. test x ≡ b → find test (cond {A = List X} (keeps x) (x ∷ filter keeps xs) (filter keeps xs)) ≡ None) [
      | true ↦ λ is. ap (λ c. find test (cond {A = List X} c (x ∷ filter keeps xs) (filter keeps xs))) (dropped x is) ∙ find-filter_none test keeps dropped xs
      | false ↦ λ is. elim (keeps x) as (λ c. find test (cond {A = List X} c (x ∷ filter keeps xs) (filter keeps xs)) ≡ None) [
        | true ↦ ap (λ b. cond {A = Option X} b (Some x) (find test (filter keeps xs))) is ∙ find-filter_none test keeps dropped xs
        | false ↦ find-filter_none test keeps dropped xs
      ]
    ] refl

-- nothing is found if no item passes
pub find-any : {X : Type 0} (test : X → Bool) (xs : List X) → list_any test xs ≡ false → find test xs ≡ None
find-any test [] none = refl
find-any {X} test (x ∷ xs) none =
    elim (test x) as (λ b. (b || list_any test xs) ≡ false → cond {A = Option X} b (Some x) (find test xs) ≡ None) [
      | true ↦ λ is. absurd (true≢false is)
      | false ↦ λ is. find-any test xs is
    ] none

-- no item of a part passes if none of the whole does
pub any-filter_none : {X : Type 0} (test keeps : X → Bool) (xs : List X) → list_any test xs ≡ false → list_any test (filter keeps xs) ≡ false
any-filter_none test keeps [] none = refl
any-filter_none {X} test keeps (x ∷ xs) none =
    let parts = neither (test x) (list_any test xs) none in
    elim (keeps x) as (λ b. list_any test (cond {A = List X} b (x ∷ filter keeps xs) (filter keeps xs)) ≡ false) [
      | true ↦ ap (λ b. b || list_any test (filter keeps xs)) parts.0 ∙ any-filter_none test keeps xs parts.1
      | false ↦ any-filter_none test keeps xs parts.1
    ]

-- if no item passes both tests, one that passes the first is left when those of the second leave
pub any-rest : {X : Type 0} (test leaves : X → Bool) (xs : List X) → list_any test xs ≡ true → list_any (λ x. test x && leaves x) xs ≡ false →
    list_any test (filter (λ x. not (leaves x)) xs) ≡ true
any-rest test leaves [] some none = some
any-rest {X} test leaves (x ∷ xs) some none =
    let rest = any-rest test leaves xs in
    elim (leaves x) as (λ b. ((test x && b) || list_any (λ y. test y && leaves y) xs) ≡ false → list_any test (cond {A = List X} (not b) (x ∷ filter (λ y. not (leaves y)) xs) (filter (λ y. not (leaves y)) xs)) ≡ true) [
      | true ↦ elim (test x) as (λ c. (c || list_any test xs) ≡ true → ((c && true) || list_any (λ y. test y && leaves y) xs) ≡ false → list_any test (filter (λ y. not (leaves y)) xs) ≡ true) [
        | true ↦ λ is out. absurd (true≢false out)
        | false ↦ λ is out. rest is out
      ] some
      | false ↦ elim (test x) as (λ c. (c || list_any test xs) ≡ true → ((c && false) || list_any (λ y. test y && leaves y) xs) ≡ false → (c || list_any test (filter (λ y. not (leaves y)) xs)) ≡ true) [
        | true ↦ λ is out. refl
        | false ↦ λ is out. rest is out
      ] some
    ] none

pub any-same : {X : Type 0} (test other : X → Bool) (xs : List X) → ((x : X) → test x ≡ other x) → list_any test xs ≡ list_any other xs
any-same test other [] same = refl
any-same test other (x ∷ xs) same = ap (λ b. b || list_any test xs) (same x) ∙ ap (λ b. other x || b) (any-same test other xs same)

pub any-none : {X : Type 0} (xs : List X) → list_any (λ x. false) xs ≡ false
any-none [] = refl
any-none (x ∷ xs) = any-none xs

-- what holds of an item that passes the filter
pub Each-kept : {X : Type 0} (P Q : X → Type 0) (keeps : X → Bool) (xs : List X) → ((x : X) → keeps x ≡ true → P x → Q x) → Each P xs → Each Q (filter keeps xs)
Each-kept P Q keeps [] gives each = tt
Each-kept {X} P Q keeps (x ∷ xs) gives each =
    elim (keeps x) as (λ b. keeps x ≡ b → Each Q (cond {A = List X} b (x ∷ filter keeps xs) (filter keeps xs))) [
      | true ↦ λ is. (gives x is each.0, Each-kept P Q keeps xs gives each.1)
      | false ↦ λ is. Each-kept P Q keeps xs gives each.1
    ] refl
