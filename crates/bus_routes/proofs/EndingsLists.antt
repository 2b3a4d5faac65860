-- Laws on tests, searches and filters of a list, for what stays of it.
use Rattle.std.proofs.Common.{◌≡◌, ℕ, suc, ◌+◌, ◌<◌, ◌≤◌, Bool, true, false, not, cond, ◌&&◌, ◌||◌, List, [], ◌∷◌, length, filter, find, count_by, Option, Some, None, is_some, get_or, refl, ap, sym, subst, ◌∙◌, arith}
use Rattle.std.specs.List.{All, list_any}
use Rattle.std.proofs.lemmas.List.Elements.{All-nil, All-cons, All-head, All-tail, All-weaker, filter_agree}
use Rattle.std.proofs.lemmas.List.Sums.{sum_by-cons}
use Rattle.std.proofs.lemmas.List.Filters.{length-filter_both, sum_by-filter_both}

-- a conjunction, turned round
both_ways : (a b : Bool) → (a && b) ≡ (b && a)
both_ways true true = refl
both_ways true false = refl
both_ways false true = refl
both_ways false false = refl

-- a test that another one implies
pub with_implied : (a b : Bool) → (b ≡ true → a ≡ true) → (a && b) ≡ b
with_implied true b implies = refl
with_implied false true implies = implies refl
with_implied false false implies = refl

module _ {X : Type 0} where
  -- what is found passes the test
  pub found_passes : (p : X → Bool) (xs : List X) (x : X) → find p xs ≡ Some x → p x ≡ true
  found_passes p [] x found = absurd cc
  found_passes p (y ∷ xs) x found = choose (found_passes p xs x) (p y) refl found
    where
      choose : (find p xs ≡ Some x → p x ≡ true) → (b : Bool) → p y ≡ b → cond {A = Option X} b (Some y) (find p xs) ≡ Some x → p x ≡ true
      choose rest true e found = let same : y ≡ x = cc in ap p (sym same) ∙ e
      choose rest false e found = rest found

  -- what is found is as all are
  pub found_all : (p : X → Bool) (P : X → Type 0) (xs : List X) (x : X) → All P xs → find p xs ≡ Some x → P x
  found_all p P [] x all found = absurd cc
  found_all p P (y ∷ xs) x all found = choose (found_all p P xs x (All-tail P y xs all)) (p y) found
    where
      choose : (find p xs ≡ Some x → P x) → (b : Bool) → cond {A = Option X} b (Some y) (find p xs) ≡ Some x → P x
      choose rest true found = let same : y ≡ x = cc in subst P same (All-head P y xs all)
      choose rest false found = rest found

  -- what is found passes another test, so something does that passes both
  pub found_filtered : (p q : X → Bool) (xs : List X) (x : X) → find p xs ≡ Some x → q x ≡ true → list_any p (filter q xs) ≡ true
  found_filtered p q [] x found passes = absurd cc
  found_filtered p q (y ∷ xs) x found passes = choose (found_filtered p q xs x) (p y) refl found
    where
      or_true : (a : Bool) → (a || true) ≡ true
      or_true true = refl
      or_true false = refl

      keeps : (a : Bool) → list_any p (filter q xs) ≡ true → list_any p (cond {A = List X} a (y ∷ filter q xs) (filter q xs)) ≡ true
      keeps true any = ap (λ b. p y || b) any ∙ or_true (p y)
      keeps false any = any

      choose : (find p xs ≡ Some x → q x ≡ true → list_any p (filter q xs) ≡ true) → (b : Bool) → p y ≡ b → cond {A = Option X} b (Some y) (find p xs) ≡ Some x →
          list_any p (cond {A = List X} (q y) (y ∷ filter q xs) (filter q xs)) ≡ true
      choose rest true e found =
          let same : y ≡ x = cc in
          ap (λ b. list_any p (cond {A = List X} b (y ∷ filter q xs) (filter q xs))) (ap q same ∙ passes)
          ∙ ap (λ b. b || list_any p (filter q xs)) e
      choose rest false e found = keeps (q y) (rest found passes)

  -- something passes if and only if something is found
  pub any_found : (p : X → Bool) (xs : List X) → is_some (find p xs) ≡ list_any p xs
  any_found p [] = refl
  any_found p (x ∷ xs) = choose (p x) (any_found p xs)
    where
      choose : (b : Bool) → is_some (find p xs) ≡ list_any p xs → is_some (cond {A = Option X} b (Some x) (find p xs)) ≡ (b || list_any p xs)
      choose true ih = refl
      choose false ih = ih

  -- if nothing passes, each fails
  pub none_passes : (p : X → Bool) (xs : List X) → list_any p xs ≡ false → All (λ x. p x ≡ false) xs
  none_passes p [] none = All-nil (λ x. p x ≡ false)
  none_passes p (x ∷ xs) none = choose (none_passes p xs) (p x) refl none
    where
      choose : (list_any p xs ≡ false → All (λ y. p y ≡ false) xs) → (b : Bool) → p x ≡ b → (b || list_any p xs) ≡ false → All (λ y. p y ≡ false) (x ∷ xs)
      choose rest true e none = absurd cc
      choose rest false e none = All-cons (λ y. p y ≡ false) x xs e (rest none)

  -- two tests that agree at each element of a list
  pub filter_alike : (p q : X → Bool) (xs : List X) → All (λ x. p x ≡ q x) xs → filter p xs ≡ filter q xs
  filter_alike p q [] all = refl
  filter_alike p q (x ∷ xs) all =
      ap (λ b. cond {A = List X} b (x ∷ filter p xs) (filter p xs)) (All-head (λ y. p y ≡ q y) x xs all)
      ∙ ap (λ l. cond {A = List X} (q x) (x ∷ l) l) (filter_alike p q xs (All-tail (λ y. p y ≡ q y) x xs all))

  -- a filter that all pass
  pub filter_whole : (p : X → Bool) (xs : List X) → All (λ x. p x ≡ true) xs → filter p xs ≡ xs
  filter_whole p [] all = refl
  filter_whole p (x ∷ xs) all =
      ap (λ b. cond {A = List X} b (x ∷ filter p xs) (filter p xs)) (All-head (λ y. p y ≡ true) x xs all)
      ∙ ap (λ l. x ∷ l) (filter_whole p xs (All-tail (λ y. p y ≡ true) x xs all))

  -- a filter that none pass
  pub filter_empty : (p : X → Bool) (xs : List X) → All (λ x. p x ≡ false) xs → filter p xs ≡ []
  filter_empty p [] all = refl
  filter_empty p (x ∷ xs) all =
      ap (λ b. cond {A = List X} b (x ∷ filter p xs) (filter p xs)) (All-head (λ y. p y ≡ false) x xs all)
      ∙ filter_empty p xs (All-tail (λ y. p y ≡ false) x xs all)

  -- one filter behind another
  pub filter_twice : (p q : X → Bool) (xs : List X) → filter p (filter q xs) ≡ filter (λ x. q x && p x) xs
  filter_twice p q [] = refl
  filter_twice p q (x ∷ xs) = choose (q x) (filter_twice p q xs)
    where
      choose : (b : Bool) → filter p (filter q xs) ≡ filter (λ y. q y && p y) xs →
          filter p (cond {A = List X} b (x ∷ filter q xs) (filter q xs)) ≡ cond {A = List X} (b && p x) (x ∷ filter (λ y. q y && p y) xs) (filter (λ y. q y && p y) xs)
      choose true ih = ap (λ l. cond {A = List X} (p x) (x ∷ l) l) ih
      choose false ih = ih

  -- the order of two filters is of no effect
  pub filters_commute : (p q : X → Bool) (xs : List X) → filter p (filter q xs) ≡ filter q (filter p xs)
  filters_commute p q xs = filter_twice p q xs ∙ filter_agree (λ x. q x && p x) (λ x. p x && q x) (λ x. both_ways (q x) (p x)) xs ∙ sym (filter_twice q p xs)

  -- a filter takes nothing away that another one, behind it, keeps
  pub filter_within : (p q : X → Bool) (xs : List X) → All (λ x. p x ≡ true → q x ≡ true) xs → filter p (filter q xs) ≡ filter p xs
  filter_within p q xs all = filter_twice p q xs ∙ filter_alike (λ x. q x && p x) p xs (λ k d within. with_implied (q (get_or xs k d)) (p (get_or xs k d)) (all k d within))

  -- a filter lowers each count, or leaves it
  pub count_filtered : (p q : X → Bool) (xs : List X) → count_by p (filter q xs) ≤ count_by p xs
  count_filtered p q xs = omega (arith, sum_by-filter_both q (λ x. not (q x)) (λ x. refl) (λ x. cond {A = ℕ} (p x) 1 0) xs)

  -- a list is shorter without what was found
  pub filter_shorter : (p q : X → Bool) (xs : List X) (x : X) → find p xs ≡ Some x → q x ≡ false → length (filter q xs) < length xs
  filter_shorter p q [] x found fails = absurd cc
  filter_shorter p q (y ∷ xs) x found fails = choose (filter_shorter p q xs x) (p y) found
    where
      long : length (filter q xs) ≤ length xs
      long = omega (arith, length-filter_both q (λ z. not (q z)) (λ z. refl) xs)

      by_test : (b : Bool) → length (filter q xs) < length xs → length (cond {A = List X} b (y ∷ filter q xs) (filter q xs)) < suc (length xs)
      by_test true less = omega (arith, less)
      by_test false less = omega (arith, less)

      choose : (find p xs ≡ Some x → q x ≡ false → length (filter q xs) < length xs) → (b : Bool) → cond {A = Option X} b (Some y) (find p xs) ≡ Some x →
          length (cond {A = List X} (q y) (y ∷ filter q xs) (filter q xs)) < suc (length xs)
      choose rest true found =
          let same : y ≡ x = cc in
          let leaves : q y ≡ false = ap q same ∙ fails in
          subst (λ b. length (cond {A = List X} b (y ∷ filter q xs) (filter q xs)) < suc (length xs)) (sym leaves) (omega (arith, long))
      choose rest false found = by_test (q y) (rest found fails)

  -- an answer is not there and missing at once
  pub not_none : (o : Option X) → is_some o ≡ true → o ≡ None → ⊥
  not_none None there is = cc (there)
  not_none (Some x) there is = cc (is)

  -- if nothing is found, each fails
  pub not_found : (p : X → Bool) (xs : List X) → find p xs ≡ None → All (λ x. p x ≡ false) xs
  not_found p xs none = none_passes p xs (sym (any_found p xs) ∙ ap is_some none)

  -- if none is counted, each fails
  pub none_counted : (p : X → Bool) (xs : List X) → count_by p xs ≡ 0 → All (λ x. p x ≡ false) xs
  none_counted p [] none = All-nil (λ x. p x ≡ false)
  none_counted p (x ∷ xs) none = choose (none_counted p xs) (p x) refl (sym (sum_by-cons (λ y. cond {A = ℕ} (p y) 1 0) x xs) ∙ none)
    where
      choose : (count_by p xs ≡ 0 → All (λ y. p y ≡ false) xs) → (b : Bool) → p x ≡ b → cond {A = ℕ} b 1 0 + count_by p xs ≡ 0 → All (λ y. p y ≡ false) (x ∷ xs)
      choose rest true e none = absurd (omega (arith, none))
      choose rest false e none = All-cons (λ y. p y ≡ false) x xs e (rest (omega (arith, none)))

  -- what is found is the only one that passes, if at most one does
  pub found_only : (p : X → Bool) (xs : List X) (x : X) → find p xs ≡ Some x → count_by p xs ≤ 1 → All (λ y. p y ≡ true → y ≡ x) xs
  found_only p [] x found few = absurd cc
  found_only p (y ∷ xs) x found few = choose (found_only p xs x) (p y) refl found (omega (arith, few, sum_by-cons (λ z. cond {A = ℕ} (p z) 1 0) y xs))
    where
      Only : X → Type 0
      Only z = p z ≡ true → z ≡ x

      choose : (find p xs ≡ Some x → count_by p xs ≤ 1 → All Only xs) → (b : Bool) → p y ≡ b → cond {A = Option X} b (Some y) (find p xs) ≡ Some x →
          cond {A = ℕ} (p y) 1 0 + count_by p xs ≤ 1 → All Only (y ∷ xs)
      choose rest true e found few =
          let same : y ≡ x = cc in
          let one : cond {A = ℕ} (p y) 1 0 ≡ 1 = ap (λ b. cond {A = ℕ} b 1 0) e in
          All-cons Only y xs (λ _. same)
          (All-weaker (λ z. p z ≡ false) Only (λ z fails passes. absurd (cc (sym fails ∙ passes))) xs (none_counted p xs (omega (arith, one, few))))
      choose rest false e found few = All-cons Only y xs (λ passes. absurd (cc (sym e ∙ passes))) (rest found (omega (arith, few)))

  -- a search in what a filter leaves, if the filter keeps all that pass
  pub find_within : (p q : X → Bool) → ((x : X) → p x ≡ true → q x ≡ true) → (xs : List X) → find p (filter q xs) ≡ find p xs
  find_within p q keeps [] = refl
  find_within p q keeps (x ∷ xs) = choose (p x) (q x) refl refl (find_within p q keeps xs)
    where
      choose : (a b : Bool) → p x ≡ a → q x ≡ b → find p (filter q xs) ≡ find p xs → find p (cond {A = List X} b (x ∷ filter q xs) (filter q xs)) ≡ cond {A = Option X} a (Some x) (find p xs)
      choose true true e f ih = ap (λ c. cond {A = Option X} c (Some x) (find p (filter q xs))) e
      choose true false e f ih = absurd (cc (sym f ∙ keeps x e))
      choose false true e f ih = ap (λ c. cond {A = Option X} c (Some x) (find p (filter q xs))) e ∙ ih
      choose false false e f ih = ih

  -- if each fails, no one passes
  pub none_any : (p : X → Bool) (xs : List X) → All (λ x. p x ≡ false) xs → list_any p xs ≡ false
  none_any p [] all = refl
  none_any p (x ∷ xs) all =
      ap (λ b. b || list_any p xs) (All-head (λ y. p y ≡ false) x xs all)
      ∙ none_any p xs (All-tail (λ y. p y ≡ false) x xs all)

  -- what is found passes, so something does
  pub found_any : (p q : X → Bool) (xs : List X) (x : X) → find p xs ≡ Some x → q x ≡ true → list_any q xs ≡ true
  found_any p q [] x found passes = absurd cc
  found_any p q (y ∷ xs) x found passes = choose (found_any p q xs x) (p y) found
    where
      or_true : (a : Bool) → (a || true) ≡ true
      or_true true = refl
      or_true false = refl

      choose : (find p xs ≡ Some x → q x ≡ true → list_any q xs ≡ true) → (b : Bool) → cond {A = Option X} b (Some y) (find p xs) ≡ Some x → (q y || list_any q xs) ≡ true
      choose rest true found = let same : y ≡ x = cc in ap (λ b. b || list_any q xs) (ap q same ∙ passes)
      choose rest false found = ap (λ b. q y || b) (rest found passes) ∙ or_true (q y)
