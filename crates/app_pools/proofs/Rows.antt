-- The grants that are out, by rising number: where one stands, and what is left without it.
use Rattle.std.proofs.Common.{◌≡◌, ◌≢◌, ℕ, ◌+◌, ◌<◌, ◌≤◌, ◌⊎◌, inl, inr, zero, suc, Bool, true, false, not, cond, eqb, find, Option, Some, Result, Ok, Err, List, [], ◌∷◌, length, get_or, map, refl, ap, sym, subst, ◌∙◌, arith}
use Rattle.std.specs.List.{filter, remove, All}
use Rattle.std.specs.Option.{option_map, option_map_or}
use Rattle.std.proofs.lemmas.Bool.{cases_lt}
use Rattle.std.proofs.lemmas.Bool.Decides.{nat_tests}
use Rattle.std.proofs.lemmas.List.Edits.{length-remove, get_or-remove_below, get_or-remove_above}
use Rattle.std.proofs.lemmas.List.Folds.{list_any_at, list_any_none}
use Rattle.std.proofs.lemmas.List.Sums.{sum_by-cons, sum_by-remove}
use Rattle.std.specs.List.Sorted.{IsSearchInRange, IsBinarySearchResult, IsNonDecreasingBy}
use Rattle.std.specs.Ordering.{nat_cmp, ordering_index}
use Rattle.std.proofs.lemmas.Cmp.{ranked}
use Rattle.std.proofs.lemmas.List.Sorted.{IsNonDecreasingBy-from_default}
use Rattle.fsw_base.proofs.Lists.{list_any-map, filter-map, find-map, count_by-map}
use Rattle.es_pool.proofs.Keeps.{true_from_same, false_from_other}
use Rattle.fsw_base.proofs.GrantTests.{filter_all}
use Rattle.fsw_base.specs.Grants.{Grant, is_among, class_under, without, of_others, held_by, out_of}
use Rattle.app_pools.specs.Inside.{grant_of, AreRising, HasNumber}
use Rattle.app_pools.specs.declared.pool.Lent.{Lent}

-- what holds of every element but one holds of all that are left without it
pub without_one : {X : Type 0} (P : X → Type 0) (xs : List X) (i : ℕ) → i < length xs → ((k : ℕ) (d : X) → k < length xs → (k ≡ i → ⊥) → P (get_or xs k d)) → All P (remove xs i)
without_one P xs i within others k d h = by_place (cases_lt k i)
  where
    less : length (remove xs i) + 1 ≡ length xs
    less = length-remove xs i within

    by_place : (k < i) ⊎ (i ≤ k) → P (get_or (remove xs i) k d)
    by_place (inl below) = subst P (sym (get_or-remove_below xs i d k below within)) (others k d (omega (arith, below, within)) (λ e. omega (arith, below, e)))
    by_place (inr above) = subst P (sym (get_or-remove_above xs i d k above within)) (others (k + 1) d (omega (arith, less, h)) (λ e. omega (arith, above, e)))

rising_tail : (x : Lent) (lent : List Lent) → AreRising (x ∷ lent) → AreRising lent
rising_tail x lent rising i j d lt h = rising (suc i) (suc j) d (omega (arith, lt)) (omega (arith, h))

number_tail : (x : Lent) (lent : List Lent) (n i : ℕ) → HasNumber (x ∷ lent) n (suc i) → HasNumber lent n i
number_tail x lent n i h = (omega (arith, h.0), h.1)

-- the first is below one behind it
first_below : (x : Lent) (lent : List Lent) (n i : ℕ) → AreRising (x ∷ lent) → HasNumber (x ∷ lent) n (suc i) → eqb x.number n ≡ false
first_below x lent n i rising h = false_from_other x.number n (λ same. omega (arith, same, rising 0 (suc i) x (omega arith) h.0, h.1 x))

-- none behind the first has its number
later_others : (x : Lent) (lent : List Lent) (n : ℕ) → AreRising (x ∷ lent) → x.number ≡ n → All (λ grant. not (eqb grant.number n) ≡ true) lent
later_others x lent n rising e k d h = ap not (false_from_other (get_or lent k d).number n (λ same. omega (arith, same, e, rising 0 (suc k) d (omega arith) (omega (arith, h)))))

-- to take the grant of a number out is to leave it out by its number
pub remove_is : (lent : List Lent) (n i : ℕ) → AreRising lent → HasNumber lent n i → remove lent i ≡ filter (λ grant. not (eqb grant.number n)) lent
remove_is [] n i rising h = absurd (omega (arith, h.0))
remove_is (x ∷ lent) n zero rising h =
    let here : x.number ≡ n = h.1 x in
    sym (ap (λ b. cond (not b) (x ∷ filter (λ grant. not (eqb grant.number n)) lent) (filter (λ grant. not (eqb grant.number n)) lent)) (true_from_same x.number n here)
    ∙ filter_all (λ grant. not (eqb grant.number n)) lent (later_others x lent n rising here))
remove_is (x ∷ lent) n (suc i) rising h =
    ap (λ l. x ∷ l) (remove_is lent n i (rising_tail x lent rising) (number_tail x lent n i h))
    ∙ sym (ap (λ b. cond (not b) (x ∷ filter (λ grant. not (eqb grant.number n)) lent) (filter (λ grant. not (eqb grant.number n)) lent)) (first_below x lent n i rising h))

pub without_is : (lent : List Lent) (n i : ℕ) → AreRising lent → HasNumber lent n i → map grant_of (remove lent i) ≡ without n (map grant_of lent)
without_is lent n i rising h = ap (map grant_of) (remove_is lent n i rising h) ∙ sym (filter-map (λ grant. not (eqb grant.number n)) grant_of lent)

-- the grant of a number is found, and its class
found_here : (lent : List Lent) (n i : ℕ) → AreRising lent → HasNumber lent n i → (d : Lent) → find (λ grant. eqb grant.number n) lent ≡ Some (get_or lent i d)
found_here [] n i rising h d = absurd (omega (arith, h.0))
found_here (x ∷ lent) n zero rising h d = ap (λ b. cond {A = Option Lent} b (Some x) (find (λ grant. eqb grant.number n) lent)) (true_from_same x.number n (h.1 x))
found_here (x ∷ lent) n (suc i) rising h d =
    ap (λ b. cond {A = Option Lent} b (Some x) (find (λ grant. eqb grant.number n) lent)) (first_below x lent n i rising h)
    ∙ found_here lent n i (rising_tail x lent rising) (number_tail x lent n i h) d

pub class_here : (lent : List Lent) (n i : ℕ) → AreRising lent → HasNumber lent n i → (d : Lent) → class_under (map grant_of lent) n ≡ (get_or lent i d).class
class_here lent n i rising h d =
    ap (λ o. option_map_or (λ (grant : Grant). grant.class) o 0) (find-map (λ (grant : Grant). eqb grant.number n) grant_of lent ∙ ap (option_map grant_of) (found_here lent n i rising h d))

-- the grant of a number is among them
pub among_here : (lent : List Lent) (n i : ℕ) → HasNumber lent n i → is_among (map grant_of lent) n ≡ true
among_here [] n i h = absurd (omega (arith, h.0))
among_here (x ∷ lent) n i h = list_any-map (λ grant. eqb grant.number n) grant_of (x ∷ lent) ∙ list_any_at (λ grant. eqb grant.number n) (x ∷ lent) i x h.0 (true_from_same (get_or (x ∷ lent) i x).number n (h.1 x))

-- without the grant at a place one fewer is of its class
pub one_class_fewer : (lent : List Lent) (i : ℕ) (d : Lent) → i < length lent → (c : ℕ) → out_of c (map grant_of lent) ≡ cond (eqb (get_or lent i d).class c) 1 0 + out_of c (map grant_of (remove lent i))
one_class_fewer lent i d h c =
    let among = count_by-map (λ (grant : Grant). eqb grant.class c) grant_of lent in
    let left = count_by-map (λ (grant : Grant). eqb grant.class c) grant_of (remove lent i) in
    let fewer = sum_by-remove (λ (l : Lent). cond {A = ℕ} (eqb l.class c) 1 0) lent i d h in
    omega (arith, among, left, fewer)

-- no grant of a number is among them
pub among_none : (lent : List Lent) (n : ℕ) → All (λ grant. grant.number ≢ n) lent → is_among (map grant_of lent) n ≡ false
among_none lent n others = list_any-map (λ grant. eqb grant.number n) grant_of lent ∙ list_any_none (λ grant. eqb grant.number n) lent (λ k d h. false_from_other (get_or lent k d).number n (others k d h))

-- the grants of the others, and how many those of an application are beside them
pub others_are : (lent : List Lent) (app : ℕ) → of_others app (map grant_of lent) ≡ map grant_of (filter (λ grant. not (eqb grant.app app)) lent)
others_are lent app = filter-map (λ grant. not (eqb grant.app app)) grant_of lent

pub held_first : (x : Lent) (lent : List Lent) (app : ℕ) → held_by app (map grant_of (x ∷ lent)) ≡ cond (eqb x.app app) 1 0 + held_by app (map grant_of lent)
held_first x lent app = sum_by-cons (λ grant. cond (eqb grant.app app) 1 0) (grant_of x) (map grant_of lent)

pub others_and_own : (lent : List Lent) (app : ℕ) → length (filter (λ grant. not (eqb grant.app app)) lent) + held_by app (map grant_of lent) ≡ length lent
others_and_own [] app = refl
others_and_own (x ∷ lent) app = by_app (others_and_own lent app) (eqb x.app app) refl
  where
    by_app : length (filter (λ grant. not (eqb grant.app app)) lent) + held_by app (map grant_of lent) ≡ length lent → (b : Bool) → eqb x.app app ≡ b → length (filter (λ grant. not (eqb grant.app app)) (x ∷ lent)) + held_by app (map grant_of (x ∷ lent)) ≡ length (x ∷ lent)
    by_app ih true e =
        let left : length (filter (λ grant. not (eqb grant.app app)) (x ∷ lent)) ≡ length (filter (λ grant. not (eqb grant.app app)) lent) = ap (λ b. length (cond (not b) (x ∷ filter (λ grant. not (eqb grant.app app)) lent) (filter (λ grant. not (eqb grant.app app)) lent))) e in
        let one : cond {A = ℕ} (eqb x.app app) 1 0 ≡ 1 = ap (λ b. cond {A = ℕ} b 1 0) e in
        omega (arith, left, one, held_first x lent app, ih)
    by_app ih false e =
        let left : length (filter (λ grant. not (eqb grant.app app)) (x ∷ lent)) ≡ suc (length (filter (λ grant. not (eqb grant.app app)) lent)) = ap (λ b. length (cond (not b) (x ∷ filter (λ grant. not (eqb grant.app app)) lent) (filter (λ grant. not (eqb grant.app app)) lent))) e in
        let none : cond {A = ℕ} (eqb x.app app) 1 0 ≡ 0 = ap (λ b. cond {A = ℕ} b 1 0) e in
        omega (arith, left, none, held_first x lent app, ih)

-- what a search by halves finds among numbers that rise
abbrev nobody : Lent
nobody = record { number = 0; app = 1; class = 0; block = 0 }

module _ (lent : List Lent) (rising : AreRising lent) (n : ℕ) where
  comparisons_rise : IsNonDecreasingBy (λ grant. ordering_index (nat_cmp grant.number n)) lent
  comparisons_rise = IsNonDecreasingBy-from_default (λ grant. ordering_index (nat_cmp grant.number n)) lent nobody (λ i j le within.
      let numbers_rise : (get_or lent i nobody).number ≤ (get_or lent j nobody).number = grind (arith, rising i j nobody, λ (same : i ≡ j). ap (λ k. (get_or lent k nobody).number) same) in
      grind (arith, nat_tests))

  pub search_finds : (r : Result ℕ ℕ) (i : ℕ) → r ≡ Ok i → IsSearchInRange r (length lent) → IsBinarySearchResult (λ grant. nat_cmp grant.number n) lent r → HasNumber lent n i
  search_finds r i e within found = at (subst (λ x. IsSearchInRange x (length lent)) e within) (subst (IsBinarySearchResult (λ grant. nat_cmp grant.number n) lent) e found)
    where
      at : IsSearchInRange (Ok i) (length lent) → IsBinarySearchResult (λ grant. nat_cmp grant.number n) lent (Ok i) → HasNumber lent n i
      at inside equal = (inside, λ d. ranked _ n _ (sym (equal d)))

  pub search_misses : (r : Result ℕ ℕ) (i : ℕ) → r ≡ Err i → IsSearchInRange r (length lent) → IsBinarySearchResult (λ grant. nat_cmp grant.number n) lent r → All (λ grant. grant.number ≢ n) lent
  search_misses r i e within parted = at (subst (IsBinarySearchResult (λ grant. nat_cmp grant.number n) lent) e parted)
    where
      at : IsBinarySearchResult (λ grant. nat_cmp grant.number n) lent (Err i) → All (λ grant. grant.number ≢ n) lent
      at halves k d h same = by_place (cases_lt k i)
        where
          by_place : (k < i) ⊎ (i ≤ k) → ⊥
          by_place (inl below) = let less : (get_or lent k d).number < n = ranked _ n _ (sym ((halves comparisons_rise).0 k d (omega arith) below)) in omega (arith, less, same)
          by_place (inr above) = let more : n < (get_or lent k d).number = ranked _ n _ (sym ((halves comparisons_rise).1 k d above h)) in omega (arith, more, same)
