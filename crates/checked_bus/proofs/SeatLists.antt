-- Lists of seats: one is taken out, forgotten, or put back.
use Rattle.std.proofs.Common.{◌≡◌, ℕ, zero, suc, ◌+◌, ◌<◌, ◌≤◌, Bool, true, false, not, cond, eqb, ltb, List, [], ◌∷◌, ◌++◌, length, take, drop, get_or, filter, find, slice_get, Some, None, refl, ap, sym, ◌∙◌, subst, arith}
use Rattle.std.specs.List.{All, insert, remove, position, position_or_len, before_first, after_first}
use Rattle.std.specs.Option.{option_map_or}
use Rattle.std.proofs.lemmas.Bool.{eqb-true, eq-eqb}
use Rattle.std.proofs.lemmas.Bool.Decides.{nat_tests}
use Rattle.std.proofs.lemmas.List.Elements.{All-append, All-take, All-drop, All-cons}
use Rattle.std.proofs.lemmas.List.Folds.{find_at}

module _ {X : Type 0} (p : X → Bool) where
  -- by its place
  pub found_there : (xs : List X) (i : ℕ) → position p xs ≡ Some i → find p xs ≡ slice_get xs i
  found_there xs i is = by_test (ltb (position_or_len p xs) (length xs)) refl
    where
      by_test : (b : Bool) → ltb (position_or_len p xs) (length xs) ≡ b → find p xs ≡ slice_get xs i
      by_test true e =
          let at : position_or_len p xs ≡ i = cc (is, e) in
          find_at p xs ∙ ap (slice_get xs) at
      by_test false e = absurd (cc (is, e))

  pub place_within : (xs : List X) (i : ℕ) → position p xs ≡ Some i → i < length xs
  place_within xs i is = by_test (ltb (position_or_len p xs) (length xs)) refl
    where
      by_test : (b : Bool) → ltb (position_or_len p xs) (length xs) ≡ b → i < length xs
      by_test true e =
          let at : position_or_len p xs ≡ i = cc (is, e) in
          let below : position_or_len p xs < length xs = grind (arith, nat_tests) in
          omega (arith, below, at)
      by_test false e = absurd (cc (is, e))

  pub first_there : (xs : List X) → option_map_or p (slice_get xs 0) false ≡ true → position p xs ≡ Some 0
  first_there [] never = absurd (cc (never))
  first_there (x ∷ xs) is =
      let Place : Bool → ℕ = λ b. cond (not b) (1 + position_or_len p xs) 0 in
      let At : Bool → Type 0 = λ b. cond (ltb (Place b) (length (x ∷ xs))) (Some (Place b)) None ≡ Some 0 in
      let within : ltb 0 (suc (length xs)) ≡ true = grind (arith, nat_tests) in
      subst At (sym is) (ap (λ b. cond b (Some 0) None) within)

  past_none : (xs : List X) (i : ℕ) → length xs ≤ i → slice_get xs i ≡ None
  past_none [] zero at = refl
  past_none [] (suc i) at = refl
  past_none (x ∷ xs) zero at = absurd (omega (arith, at))
  past_none (x ∷ xs) (suc i) at = past_none xs i (omega (arith, at))

  pub not_found : (xs : List X) → position p xs ≡ None → find p xs ≡ None
  not_found xs is = by_test (ltb (position_or_len p xs) (length xs)) refl
    where
      by_test : (b : Bool) → ltb (position_or_len p xs) (length xs) ≡ b → find p xs ≡ None
      by_test true e = absurd (cc (is, e))
      by_test false e =
          let above : length xs ≤ position_or_len p xs = grind (arith, nat_tests) in
          find_at p xs ∙ past_none xs (position_or_len p xs) above

module _ {X : Type 0} (number : X → ℕ) where
  abbrev has : ℕ → X → Bool
  has n x = eqb (number x) n

  -- the elements of other numbers
  abbrev left : ℕ → List X → List X
  left n xs = filter (λ x. not (has n x)) xs

  pub left_none : (n : ℕ) (xs : List X) → find (has n) (left n xs) ≡ None
  left_none n [] = refl
  left_none n (x ∷ xs) = by_test (left_none n xs) (has n x) refl
    where
      by_test : find (has n) (left n xs) ≡ None → (b : Bool) → has n x ≡ b → find (has n) (cond (not b) (x ∷ left n xs) (left n xs)) ≡ None
      by_test rest true e = rest
      by_test rest false e = ap (λ t. cond t (Some x) (find (has n) (left n xs))) e ∙ rest

  pub left_other : (n m : ℕ) (xs : List X) → (n ≡ m → ⊥) → find (has m) (left n xs) ≡ find (has m) xs
  left_other n m [] apart = refl
  left_other n m (x ∷ xs) apart = by_test (left_other n m xs apart) (has n x) refl
    where
      off : has n x ≡ true → has m x ≡ false
      off e = by_other (has m x) refl
        where
          by_other : (b : Bool) → has m x ≡ b → b ≡ false
          by_other true f = absurd (apart (sym (eqb-true (number x) n e) ∙ eqb-true (number x) m f))
          by_other false f = refl

      by_test : find (has m) (left n xs) ≡ find (has m) xs → (b : Bool) → has n x ≡ b → find (has m) (cond (not b) (x ∷ left n xs) (left n xs)) ≡ cond (has m x) (Some x) (find (has m) xs)
      by_test rest true e = rest ∙ sym (ap (λ t. cond t (Some x) (find (has m) xs)) (off e))
      by_test rest false e = ap (cond (has m x) (Some x)) rest

  -- the first of a number, taken out before
  pub left_removed : (n : ℕ) (xs : List X) (i : ℕ) (x : X) → slice_get xs i ≡ Some x → has n x ≡ true → left n (remove xs i) ≡ left n xs
  left_removed n [] zero x at is = absurd (cc (at))
  left_removed n [] (suc i) x at is = absurd (cc (at))
  left_removed n (y ∷ xs) zero x at is =
      let same : y ≡ x = cc (at) in
      sym (ap (λ b. cond (not b) (y ∷ left n xs) (left n xs)) (ap (has n) same ∙ is))
  left_removed n (y ∷ xs) (suc i) x at is = ap (λ rest. cond (not (has n y)) (y ∷ rest) rest) (left_removed n xs i x at is)

  -- one alone
  pub alone : (n : ℕ) (xs : List X) (x : X) → length xs ≡ 1 → find (has n) xs ≡ Some x → xs ≡ x ∷ []
  alone n [] x one at = absurd (omega (arith, one))
  alone n (y ∷ []) x one at = by_test (has n y) refl
    where
      by_test : (b : Bool) → has n y ≡ b → y ∷ [] ≡ x ∷ []
      by_test true e = let same : Some y ≡ Some x = sym (ap (λ b. cond b (Some y) None) e) ∙ at in cc (same)
      by_test false e = let never : None ≡ Some x = sym (ap (λ b. cond b (Some y) None) e) ∙ at in absurd (cc (never))
  alone n (y ∷ (z ∷ xs)) x one at = absurd (omega (arith, one))

  -- none of any number
  pub nothing_there : (xs : List X) → ((n : ℕ) → find (has n) xs ≡ None) → xs ≡ []
  nothing_there [] none = refl
  nothing_there (x ∷ xs) none =
      let never : Some x ≡ None = sym (ap (λ b. cond b (Some x) (find (has (number x)) xs)) (eq-eqb (number x) (number x) refl)) ∙ none (number x) in
      absurd (cc (never))

module _ {X : Type 0} where
  -- what is taken out, and put back at its place
  pub put_back : (xs : List X) (i : ℕ) (x : X) → slice_get xs i ≡ Some x → insert (remove xs i) i x ≡ xs
  put_back [] zero x at = absurd (cc (at))
  put_back [] (suc i) x at = absurd (cc (at))
  put_back (y ∷ xs) zero x at = let same : y ≡ x = cc (at) in ap (λ z. z ∷ xs) (sym same)
  put_back (y ∷ xs) (suc i) x at = ap (λ rest. y ∷ rest) (put_back xs i x at)

  pub All-removed : (P : X → Type 0) (xs : List X) (i : ℕ) → All P xs → All P (remove xs i)
  All-removed P xs i all = All-append P (take i xs) (drop (suc i) xs) (All-take P i xs all) (All-drop P (suc i) xs all)

  pub All-inserted : (P : X → Type 0) (xs : List X) (i : ℕ) (x : X) → P x → All P xs → All P (insert xs i x)
  All-inserted P xs i x one all = All-append P (take i xs) (x ∷ drop i xs) (All-take P i xs all) (All-cons P x (drop i xs) one (All-drop P i xs all))

  pub first_gone : (p : X → Bool) (x : X) → p x ≡ true → before_first p (x ∷ []) ++ after_first p (x ∷ []) ≡ []
  first_gone p x e =
      let Gone : Bool → Type 0 = λ b. take (cond (not b) 1 0) (x ∷ []) ++ drop (cond (not b) 1 0 + 1) (x ∷ []) ≡ [] in
      subst Gone (sym e) refl

  pub get_there : (xs : List X) (i : ℕ) (d : X) → i < length xs → slice_get xs i ≡ Some (get_or xs i d)
  get_there [] i d within = absurd (omega (arith, within))
  get_there (x ∷ xs) zero d within = refl
  get_there (x ∷ xs) (suc i) d within = get_there xs i d (omega (arith, within))
