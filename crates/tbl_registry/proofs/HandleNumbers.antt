-- Handles by rising number: where one stands, what is found, changed and left without it.
use Rattle.std.proofs.Common.{◌≡◌, ◌≢◌, ℕ, ◌<◌, ◌≤◌, ◌⊎◌, inl, inr, zero, suc, Bool, true, false, not, cond, eqb, Option, Some, None, Result, Ok, Err, List, [], ◌∷◌, length, set, get_or, All, refl, ap, sym, subst, ◌∙◌, arith}
use Rattle.std.specs.List.{remove}
use Rattle.std.specs.Ordering.{nat_cmp, ordering_index}
use Rattle.std.specs.List.Sorted.{IsSearchInRange, IsBinarySearchResult, IsNonDecreasingBy}
use Rattle.std.proofs.lemmas.Bool.{cases_lt}
use Rattle.std.proofs.lemmas.Bool.Decides.{nat_tests}
use Rattle.std.proofs.lemmas.Cmp.{ranked}
use Rattle.std.proofs.lemmas.List.Elements.{All-tail}
use Rattle.std.proofs.lemmas.List.Folds.{list_any_at, list_any_none}
use Rattle.std.proofs.lemmas.List.Sorted.{IsNonDecreasingBy-from_default}
use Rattle.tbl_registry.specs.declared.rows.Handle.{Handle}
use Rattle.tbl_registry.specs.Listing.{handle_at, is_live, with_handle, without_handle}
use Rattle.tbl_registry.specs.Inside.{AreRising, HasNumber}

pub same_number : (m n : ℕ) → m ≡ n → eqb m n ≡ true
same_number m n is = grind (arith, nat_tests)

pub other_number : (m n : ℕ) → m ≢ n → eqb m n ≡ false
other_number m n ne = grind (arith, nat_tests)

rising_tail : (h : Handle) (handles : List Handle) → AreRising (h ∷ handles) → AreRising handles
rising_tail h handles rising i j d lt within = rising (suc i) (suc j) d (omega (arith, lt)) (omega (arith, within))

number_tail : (h : Handle) (handles : List Handle) (n i : ℕ) → HasNumber (h ∷ handles) n (suc i) → HasNumber handles n i
number_tail h handles n i has = (omega (arith, has.0), has.1)

-- the first is below one behind it
first_below : (h : Handle) (handles : List Handle) (n i : ℕ) → AreRising (h ∷ handles) → HasNumber (h ∷ handles) n (suc i) → eqb h.number n ≡ false
first_below h handles n i rising has = other_number h.number n (λ same. omega (arith, same, rising 0 (suc i) h (omega arith) has.0, has.1 h))

-- none behind the first has its number
pub later_others : (h : Handle) (handles : List Handle) (n : ℕ) → AreRising (h ∷ handles) → h.number ≡ n → All (λ other. other.number ≢ n) handles
later_others h handles n rising is k d within same = omega (arith, same, is, rising 0 (suc k) d (omega arith) (omega (arith, within)))

-- If there is one. --

pub found : (handles : List Handle) (n i : ℕ) (d : Handle) → AreRising handles → HasNumber handles n i → handle_at handles n ≡ Some (get_or handles i d)
found [] n i d rising has = absurd (omega (arith, has.0))
found (h ∷ handles) n zero d rising has = ap (λ b. cond {A = Option Handle} b (Some h) (handle_at handles n)) (same_number h.number n (has.1 h))
found (h ∷ handles) n (suc i) d rising has =
    ap (λ b. cond {A = Option Handle} b (Some h) (handle_at handles n)) (first_below h handles n i rising has)
    ∙ found handles n i d (rising_tail h handles rising) (number_tail h handles n i has)

pub live : (handles : List Handle) (n i : ℕ) → HasNumber handles n i → is_live handles n ≡ true
live [] n i has = absurd (omega (arith, has.0))
live (h ∷ handles) n i has = list_any_at (λ other. eqb other.number n) (h ∷ handles) i h has.0 (same_number (get_or (h ∷ handles) i h).number n (has.1 h))

-- handles of other numbers stay
others_changed : (f : Handle → Handle) (handles : List Handle) (n : ℕ) → All (λ h. h.number ≢ n) handles → with_handle f n handles ≡ handles
others_changed f [] n others = refl
others_changed f (h ∷ handles) n others =
    ap (λ b. cond {A = Handle} b (f h) h ∷ with_handle f n handles) (other_number h.number n (others 0 h (omega arith)))
    ∙ ap (λ l. h ∷ l) (others_changed f handles n (All-tail (λ (other : Handle). other.number ≢ n) h handles others))

pub others_left : (handles : List Handle) (n : ℕ) → All (λ h. h.number ≢ n) handles → without_handle n handles ≡ handles
others_left [] n others = refl
others_left (h ∷ handles) n others =
    ap (λ b. cond {A = List Handle} (not b) (h ∷ without_handle n handles) (without_handle n handles)) (other_number h.number n (others 0 h (omega arith)))
    ∙ ap (λ l. h ∷ l) (others_left handles n (All-tail (λ (other : Handle). other.number ≢ n) h handles others))

pub changed : (f : Handle → Handle) (handles : List Handle) (n i : ℕ) (d x : Handle) → AreRising handles → HasNumber handles n i → x ≡ f (get_or handles i d) → set handles i x ≡ with_handle f n handles
changed f [] n i d x rising has is = absurd (omega (arith, has.0))
changed f (h ∷ handles) n zero d x rising has is =
    ap (λ y. y ∷ handles) is
    ∙ ap (λ l. f h ∷ l) (sym (others_changed f handles n (later_others h handles n rising (has.1 h))))
    ∙ sym (ap (λ b. cond {A = Handle} b (f h) h ∷ with_handle f n handles) (same_number h.number n (has.1 h)))
changed f (h ∷ handles) n (suc i) d x rising has is =
    ap (λ l. h ∷ l) (changed f handles n i d x (rising_tail h handles rising) (number_tail h handles n i has) is)
    ∙ sym (ap (λ b. cond {A = Handle} b (f h) h ∷ with_handle f n handles) (first_below h handles n i rising has))

pub removed : (handles : List Handle) (n i : ℕ) → AreRising handles → HasNumber handles n i → remove handles i ≡ without_handle n handles
removed [] n i rising has = absurd (omega (arith, has.0))
removed (h ∷ handles) n zero rising has =
    sym (ap (λ b. cond {A = List Handle} (not b) (h ∷ without_handle n handles) (without_handle n handles)) (same_number h.number n (has.1 h))
    ∙ others_left handles n (later_others h handles n rising (has.1 h)))
removed (h ∷ handles) n (suc i) rising has =
    ap (λ l. h ∷ l) (removed handles n i (rising_tail h handles rising) (number_tail h handles n i has))
    ∙ sym (ap (λ b. cond {A = List Handle} (not b) (h ∷ without_handle n handles) (without_handle n handles)) (first_below h handles n i rising has))

-- If there is none. --

pub missed : (handles : List Handle) (n : ℕ) → All (λ h. h.number ≢ n) handles → handle_at handles n ≡ None
missed [] n others = refl
missed (h ∷ handles) n others =
    ap (λ b. cond {A = Option Handle} b (Some h) (handle_at handles n)) (other_number h.number n (others 0 h (omega arith)))
    ∙ missed handles n (All-tail (λ (other : Handle). other.number ≢ n) h handles others)

pub not_live : (handles : List Handle) (n : ℕ) → All (λ h. h.number ≢ n) handles → is_live handles n ≡ false
not_live handles n others = list_any_none (λ h. eqb h.number n) handles (λ k d within. other_number (get_or handles k d).number n (others k d within))

pub unchanged : (f : Handle → Handle) (handles : List Handle) (n : ℕ) → All (λ h. h.number ≢ n) handles → handles ≡ with_handle f n handles
unchanged f handles n others = sym (others_changed f handles n others)

-- if the one of a number was left out
pub gone : (handles : List Handle) (n : ℕ) → handle_at (without_handle n handles) n ≡ None
gone [] n = refl
gone (h ∷ handles) n = by_test (gone handles n) (eqb h.number n) refl
  where
    by_test : handle_at (without_handle n handles) n ≡ None → (b : Bool) → eqb h.number n ≡ b → handle_at (cond {A = List Handle} (not b) (h ∷ without_handle n handles) (without_handle n handles)) n ≡ None
    by_test ih true is = ih
    by_test ih false is = ap (λ b. cond {A = Option Handle} b (Some h) (handle_at (without_handle n handles) n)) is ∙ ih

-- Searching by halves. --

abbrev nobody : Handle
nobody = record { number = 0; app = 1; table = 0; key = 0; told = 0; held = None }

module _ (handles : List Handle) (rising : AreRising handles) (n : ℕ) where
  comparisons_rise : IsNonDecreasingBy (λ h. ordering_index (nat_cmp h.number n)) handles
  comparisons_rise = IsNonDecreasingBy-from_default (λ h. ordering_index (nat_cmp h.number n)) handles nobody (λ i j le within.
      let numbers_rise : (get_or handles i nobody).number ≤ (get_or handles j nobody).number = grind (arith, rising i j nobody, λ (same : i ≡ j). ap (λ k. (get_or handles k nobody).number) same) in
      grind (arith, nat_tests))

  pub search_finds : (r : Result ℕ ℕ) (i : ℕ) → r ≡ Ok i → IsSearchInRange r (length handles) → IsBinarySearchResult (λ h. nat_cmp h.number n) handles r → HasNumber handles n i
  search_finds r i e within there = at (subst (λ x. IsSearchInRange x (length handles)) e within) (subst (IsBinarySearchResult (λ h. nat_cmp h.number n) handles) e there)
    where
      at : IsSearchInRange (Ok i) (length handles) → IsBinarySearchResult (λ h. nat_cmp h.number n) handles (Ok i) → HasNumber handles n i
      at inside equal = (inside, λ d. ranked _ n _ (sym (equal d)))

  pub search_misses : (r : Result ℕ ℕ) (i : ℕ) → r ≡ Err i → IsSearchInRange r (length handles) → IsBinarySearchResult (λ h. nat_cmp h.number n) handles r → All (λ h. h.number ≢ n) handles
  search_misses r i e within parted = at (subst (IsBinarySearchResult (λ h. nat_cmp h.number n) handles) e parted)
    where
      at : IsBinarySearchResult (λ h. nat_cmp h.number n) handles (Err i) → All (λ h. h.number ≢ n) handles
      at halves k d inside same = by_place (cases_lt k i)
        where
          by_place : (k < i) ⊎ (i ≤ k) → ⊥
          by_place (inl below) = let less : (get_or handles k d).number < n = ranked _ n _ (sym ((halves comparisons_rise).0 k d (omega arith) below)) in omega (arith, less, same)
          by_place (inr above) = let more : n < (get_or handles k d).number = ranked _ n _ (sym ((halves comparisons_rise).1 k d above inside)) in omega (arith, more, same)
