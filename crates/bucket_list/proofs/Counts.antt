-- How often a node stands in a list, or in all of them.
use Rattle.std.proofs.Common.{◌≡◌, ◌+◌, ◌<◌, ◌≤◌, ◌⊎◌, inl, inr, ℕ, suc, refl, true, false, cond, eqb, List, [], ◌∷◌, length, get_or, set, ap, arith}
use Rattle.std.specs.List.{IsDistinct, AllByRecursion, list_any}
use Rattle.std.proofs.lemmas.List.Sums.{sum_by-cons, sum_by-set, get_or-le-sum_by}
use Rattle.std.proofs.lemmas.Bool.{cases_lt}
use Rattle.std.proofs.lemmas.Bool.Decides.{nat_tests}
use Rattle.std.proofs.lemmas.Map.Steps.{length-le_from_distinct_below}
use Rattle.bucket_list.specs.Lists.{times_in, times}

pub times_in-cons : (node : ℕ) (nodes : List ℕ) (k : ℕ) → times_in (node ∷ nodes) k ≡ cond (eqb node k) 1 0 + times_in nodes k
times_in-cons node nodes k = sum_by-cons (λ n. cond (eqb n k) 1 0) node nodes

pub times-set : (lists : List (List ℕ)) (list : ℕ) (nodes : List ℕ) (k : ℕ) → list < length lists → times (set lists list nodes) k + times_in (get_or lists list []) k ≡ times lists k + times_in nodes k
times-set lists list nodes k h = sum_by-set (λ ns. times_in ns k) lists list nodes [] h

pub times_in-le-times : (lists : List (List ℕ)) (list k : ℕ) → list < length lists → times_in (get_or lists list []) k ≤ times lists k
times_in-le-times lists list k h = get_or-le-sum_by (λ ns. times_in ns k) lists list [] h

-- a node more at the front of one list
pub times_push : (lists : List (List ℕ)) (list node k : ℕ) → list < length lists → times (set lists list (node ∷ get_or lists list [])) k ≡ cond (eqb node k) 1 0 + times lists k
times_push lists list node k h =
    omega (arith, times-set lists list (node ∷ get_or lists list []) k h, times_in-cons node (get_or lists list []) k)

-- the front node less
pub times_pop : (lists : List (List ℕ)) (list node : ℕ) (rest : List ℕ) (k : ℕ) → list < length lists → get_or lists list [] ≡ node ∷ rest → times (set lists list rest) k + cond (eqb node k) 1 0 ≡ times lists k
times_pop lists list node rest k h e =
    omega (arith, times-set lists list rest k h, ap (λ ns. times_in ns k) e, times_in-cons node rest k)

-- a node that stands at most once in what it heads stands nowhere behind it
apart : (node : ℕ) (nodes : List ℕ) → times_in nodes node ≡ 0 → AllByRecursion (λ y. eqb node y ≡ false) nodes
apart node [] e = tt
apart node (y ∷ nodes) e =
    let c = times_in-cons y nodes node in
    (grind (arith, nat_tests), apart node nodes (grind (arith, nat_tests)))

distinct : (nodes : List ℕ) → ((k : ℕ) → times_in nodes k ≤ 1) → IsDistinct eqb nodes
unfolding IsDistinct
distinct [] once = tt
distinct (y ∷ nodes) once =
    let c = times_in-cons y nodes y in
    let o = once y in
    (apart y nodes (grind (arith, nat_tests)), distinct nodes (λ k. omega (arith, once k, times_in-cons y nodes k)))

found : (q : ℕ) (nodes : List ℕ) → list_any (eqb q) nodes ≡ true → 0 < times_in nodes q
found q [] e = absurd cc
found q (y ∷ nodes) e =
    let c = times_in-cons y nodes q in
    let ih : list_any (eqb q) nodes ≡ true → 0 < times_in nodes q = found q nodes in
    grind (arith, nat_tests)

-- distinct numbers below n are at most n
pub length_few : (nodes : List ℕ) (n : ℕ) → ((k : ℕ) → times_in nodes k ≤ 1) → ((k : ℕ) → n ≤ k → times_in nodes k ≡ 0) → length nodes ≤ n
length_few nodes n once below =
    length-le_from_distinct_below nodes n (distinct nodes once) (λ q e. within q e (found q nodes e))
  where
    within : (q : ℕ) → list_any (eqb q) nodes ≡ true → 0 < times_in nodes q → q < n
    within q e some = grind (arith, below q)

-- a node that stands in no list alone stands in none of them
pub loose_from_each : (lists : List (List ℕ)) (node : ℕ) → ((list : ℕ) → list < length lists → times_in (get_or lists list []) node ≡ 0) → times lists node ≡ 0
loose_from_each [] node none = refl
loose_from_each (nodes ∷ lists) node none =
    omega (arith, sum_by-cons (λ ns. times_in ns node) nodes lists, none 0 (omega arith), loose_from_each lists node (λ list h. none (suc list) (omega (arith, h))))

-- a node that stands once in each list at most, and in no other list than one, stands once in all of them at most
pub once_from_each : (lists : List (List ℕ)) (node : ℕ) → ((list : ℕ) → list < length lists → times_in (get_or lists list []) node ≤ 1)
    → ((list other : ℕ) → list < length lists → other < length lists → 0 < times_in (get_or lists list []) node → (other ≡ list → ⊥) → times_in (get_or lists other []) node ≡ 0)
    → times lists node ≤ 1
once_from_each [] node once alone = omega arith
once_from_each (nodes ∷ lists) node once alone =
    by_cases (cases_lt 0 (times_in nodes node))
    (once_from_each lists node (λ list h. once (suc list) (omega (arith, h)))
    (λ list other h ho some ne. alone (suc list) (suc other) (omega (arith, h)) (omega (arith, ho)) some (λ e. ne (omega (arith, e)))))
  where
    all : times (nodes ∷ lists) node ≡ times_in nodes node + times lists node
    all = sum_by-cons (λ ns. times_in ns node) nodes lists

    by_cases : (0 < times_in nodes node) ⊎ (times_in nodes node ≤ 0) → times lists node ≤ 1 → times (nodes ∷ lists) node ≤ 1
    by_cases (inl here) later =
        let none = loose_from_each lists node (λ list h. alone 0 (suc list) (omega arith) (omega (arith, h)) here (λ e. omega (arith, e))) in
        omega (arith, all, none, once 0 (omega arith))
    by_cases (inr none) later = omega (arith, all, none, later)
