-- Lists whose keys rise: where a search by halves ends, and what an edit at that place leaves.
use Rattle.std.proofs.Common.{◌≡◌, ◌≢◌, ℕ, ◌+◌, ◌-◌, ◌<◌, ◌≤◌, suc, Bool, true, false, cond, eqb, List, [], ◌∷◌, length, get_or, set, count_by, refl, sym, ap, ◌∙◌, arith, Result, Ok, Err, IfOk, IfErr, ◌⊎◌, inl, inr}
use Rattle.std.specs.List.{insert, remove}
use Rattle.std.specs.List.Sorted.{IsSearchInRange, IsBinarySearchResult, IsNonDecreasingBy}
use Rattle.std.specs.Ordering.{nat_cmp, ordering_index}
use Rattle.std.proofs.lemmas.Bool.{cases_eq}
use Rattle.std.proofs.lemmas.Bool.Decides.{nat_tests}
use Rattle.std.proofs.lemmas.Cmp.{ranked}
use Rattle.std.proofs.lemmas.List.{get_or_default, get_or-set_same, get_or-set_other, length-set}
use Rattle.std.proofs.lemmas.List.Edits.{length-insert, length-remove, get_or-insert_below, get_or-insert_at, get_or-insert_above, get_or-remove_below, get_or-remove_above}
use Rattle.std.proofs.lemmas.List.Sums.{sum_by-cons}
use Rattle.buf_desc.specs.Inside.{IsRisingBy, IsAt, IsGapFor}

module _ {X : Type 0} (key : X → ℕ) (xs : List X) (rising : IsRisingBy key xs) where
  -- the comparisons with a key rise along the list, as a search by halves asks
  comparisons_rise : (k : ℕ) → IsNonDecreasingBy (λ x. ordering_index (nat_cmp (key x) k)) xs
  comparisons_rise k i j d le within = higher (key (get_or xs i d)) (key (get_or xs j d)) (no_lower (cases_eq i j))
    where
      higher : (a b : ℕ) → a ≤ b → ordering_index (nat_cmp a k) ≤ ordering_index (nat_cmp b k)
      higher a b l = grind (arith, nat_tests)

      no_lower : (i ≡ j) ⊎ (i ≢ j) → key (get_or xs i d) ≤ key (get_or xs j d)
      no_lower (inl e) = omega (arith, ap (λ n. key (get_or xs n d)) e)
      no_lower (inr n) = let l : i < j = omega (arith, le, n) in omega (arith, rising i j d l within)

  -- it ends at the key, or at the gap for it
  pub searched : (k : ℕ) (r : Result ℕ ℕ) → IsSearchInRange r (length xs) → IsBinarySearchResult (λ x. nat_cmp (key x) k) xs r → record { found : IfOk r (IsAt key xs k); absent : IfErr r (IsGapFor key xs k) }
  searched k (Ok i) within equal = record { found = record { within = within; has_key = λ d. ranked _ k _ (sym (equal d)) }; absent = tt }
  searched k (Err i) within parted = record {
    found = tt;
    absent = record {
      within = within;
      smaller_before = λ j d l. ranked _ k _ (sym ((parted (comparisons_rise k)).0 j d (omega arith) l));
      greater_after = λ j d le l. ranked _ k _ (sym ((parted (comparisons_rise k)).1 j d le l));
    };
  }

  -- an element in the gap for its key keeps the order
  pub rising_insert : (i : ℕ) (x : X) → IsGapFor key xs (key x) i → IsRisingBy key (insert xs i x)
  rising_insert i x gap a b d l within =
      let new = insert xs i x in
      let long = length-insert xs i x gap.within in
      let key_at : List X → ℕ → ℕ = λ ys n. key (get_or ys n d) in
      let below : (n : ℕ) → n < i → key_at new n ≡ key_at xs n = λ n h. ap key (get_or-insert_below xs i x d n h gap.within) in
      let here : (n : ℕ) → n ≡ i → key_at new n ≡ key x = λ n h. ap (key_at new) h ∙ ap key (get_or-insert_at xs i x d gap.within) in
      let above : (n : ℕ) → i < n → key_at new n ≡ key_at xs (n - 1) = λ n h. ap (key_at new) {x = n} {y = n - 1 + 1} (omega (arith, h)) ∙ ap key (get_or-insert_above xs i x d (n - 1) (omega (arith, h)) gap.within) in
      grind (arith, below a, here a, above a, below b, here b, above b, rising a b d, rising a (b - 1) d, rising (a - 1) (b - 1) d, gap.smaller_before a d, gap.greater_after (b - 1) d)

  -- the order stays if one is taken out
  pub rising_remove : (i : ℕ) → i < length xs → IsRisingBy key (remove xs i)
  rising_remove i h a b d l within =
      let new = remove xs i in
      let long = length-remove xs i h in
      let key_at : List X → ℕ → ℕ = λ ys n. key (get_or ys n d) in
      let below : (n : ℕ) → n < i → key_at new n ≡ key_at xs n = λ n g. ap key (get_or-remove_below xs i d n g h) in
      let above : (n : ℕ) → i ≤ n → key_at new n ≡ key_at xs (n + 1) = λ n g. ap key (get_or-remove_above xs i d n g h) in
      grind (arith, below a, above a, below b, above b, rising a b d, rising a (b + 1) d, rising (a + 1) (b + 1) d)

  -- and if one is changed and keeps its key
  pub rising_set : (i : ℕ) (y x : X) → i < length xs → x ≡ get_or xs i x → key y ≡ key x → IsRisingBy key (set xs i y)
  rising_set i y x h read e a b d l within =
      let low = same_key a (omega (arith, l, within, length-set xs i y)) in
      let high = same_key b (omega (arith, within, length-set xs i y)) in
      omega (arith, low, high, rising a b d l (omega (arith, within, length-set xs i y)))
    where
      here : get_or xs i d ≡ x
      here = get_or_default xs i d x h ∙ sym read

      same_key : (n : ℕ) → n < length xs → key (get_or (set xs i y) n d) ≡ key (get_or xs n d)
      same_key n g = at (cases_eq n i)
        where
          at : (n ≡ i) ⊎ (n ≢ i) → key (get_or (set xs i y) n d) ≡ key (get_or xs n d)
          at (inl s) = ap (λ m. key (get_or (set xs i y) m d)) s ∙ (ap key (get_or-set_same xs i y d h) ∙ (e ∙ (ap key (sym here) ∙ ap (λ m. key (get_or xs m d)) (sym s))))
          at (inr s) = ap key (get_or-set_other xs i n y d s)

module _ {X : Type 0} (key : X → ℕ) where
  rising_rest : (x : X) (xs : List X) → IsRisingBy key (x ∷ xs) → IsRisingBy key xs
  rising_rest x xs rising i j d l within = rising (suc i) (suc j) d (omega (arith, l)) (omega (arith, within))

  -- no key above another is that one
  none_counted : (xs : List X) (k : ℕ) → ((j : ℕ) (d : X) → j < length xs → k < key (get_or xs j d)) → count_by (λ x. eqb (key x) k) xs ≡ 0
  none_counted [] k above = refl
  none_counted (x ∷ xs) k above =
      omega (arith, sum_by-cons (λ y. cond {A = ℕ} (eqb (key y) k) 1 0) x xs, ap (λ b. cond {A = ℕ} b 1 0) (other (key x) k (above 0 x (omega arith))), none_counted xs k (λ j d l. above (suc j) d (omega (arith, l))))
    where
      other : (a b : ℕ) → b < a → eqb a b ≡ false
      other a b l = grind (arith, nat_tests)

  -- if the keys rise, each is there at most once
  pub rising_once : (xs : List X) → IsRisingBy key xs → (k : ℕ) → count_by (λ x. eqb (key x) k) xs ≤ 1
  rising_once [] rising k = omega arith
  rising_once (x ∷ xs) rising k = by_case (eqb (key x) k) refl (rising_once xs (rising_rest x xs rising) k)
    where
      same : (a b : ℕ) → eqb a b ≡ true → a ≡ b
      same a b t = grind (arith, nat_tests)

      by_case : (b : Bool) → eqb (key x) k ≡ b → count_by (λ y. eqb (key y) k) xs ≤ 1 → count_by (λ y. eqb (key y) k) (x ∷ xs) ≤ 1
      by_case true e later =
          let none = none_counted xs k (λ j d l. omega (arith, same (key x) k e, rising 0 (suc j) d (omega arith) (omega (arith, l)))) in
          omega (arith, sum_by-cons (λ y. cond {A = ℕ} (eqb (key y) k) 1 0) x xs, ap (λ b. cond {A = ℕ} b 1 0) e, none)
      by_case false e later = omega (arith, sum_by-cons (λ y. cond {A = ℕ} (eqb (key y) k) 1 0) x xs, ap (λ b. cond {A = ℕ} b 1 0) e, later)
