-- Places with a slab behind them: reading one, filling a free one, and freeing one.
use Rattle.std.proofs.Common.{◌≡◌, ◌≢◌, ℕ, zero, suc, All, ◌+◌, ◌<◌, ◌≤◌, Bool, true, false, cond, eqb, List, [], ◌∷◌, length, replicate, set, get_or, Option, Some, None, is_some, count_by, refl, ap, sym, ◌∙◌, arith}
use Rattle.std.specs.Option.{option_map_or}
use Rattle.std.proofs.lemmas.Bool.Decides.{nat_tests}
use Rattle.std.proofs.lemmas.List.{length-set, length-map, get_or-map, get_or-set_same, get_or-set_other, same_lists}
use Rattle.std.proofs.lemmas.List.Sums.{sum_by-set, sum_by-cons, count_by-le-length}
use Rattle.slab.specs.Slab.{Slab, get, slab_len, Updates}
use Rattle.tbl_registry.specs.Listing.{Table}
use Rattle.tbl_registry.specs.Inside.{lies_at, shelf_of, IsShelf, table_in}

pub some_is : {X : Type 0} (x y : X) → Some x ≡ Some y → x ≡ y
some_is x y is = ap (λ o. option_map_or (λ z. z) o x) is

is_same : (m n : ℕ) → eqb m n ≡ true → m ≡ n
is_same m n is = grind (arith, nat_tests)

is_other : (m n : ℕ) → eqb m n ≡ false → m ≡ n → ⊥
is_other m n is same = grind (arith, nat_tests)

-- beyond the end there is nothing
beyond : {X : Type 0} (xs : List X) (i : ℕ) (d : X) → length xs ≤ i → get_or xs i d ≡ d
beyond [] i d le = refl
beyond (x ∷ xs) zero d le = absurd (omega (arith, le))
beyond (x ∷ xs) (suc i) d le = beyond xs i d (omega (arith, le))

-- what a place has is what lies in the slab if it says
pub reads : (slab : Slab Table) (at : List (Option ℕ)) (i : ℕ) → table_in (shelf_of slab at) i ≡ lies_at slab (get_or at i None)
reads slab [] i = refl
reads slab (o ∷ at) zero = refl
reads slab (o ∷ at) (suc i) = reads slab at i

-- a place that has no table has no slab's key
pub free_there : (slab : Slab Table) (at : List (Option ℕ)) (i : ℕ) → IsShelf slab at → table_in (shelf_of slab at) i ≡ None → get_or at i None ≡ None
free_there slab at i shelf free = by_key (get_or at i None) refl
  where
    by_key : (o : Option ℕ) → get_or at i None ≡ o → o ≡ None
    by_key None is = refl
    by_key (Some k) is =
        let nothing : get slab k ≡ None = ap (lies_at slab) (sym is) ∙ sym (reads slab at i) ∙ free in
        let no : true ≡ false = sym (shelf.there i k is) ∙ ap is_some nothing in
        absurd (cc (no))

one_if : Option ℕ → ℕ
one_if o = cond (is_some o) 1 0

-- a place that has none leaves room
pub fewer : (at : List (Option ℕ)) (i : ℕ) → i < length at → get_or at i None ≡ None → count_by is_some at < length at
fewer at i within none =
    let changed = sum_by-set (λ o. cond (is_some o) 1 0) at i (Some 0) None within in
    let here : cond {A = ℕ} (is_some (get_or at i None)) 1 0 ≡ 0 = ap (λ (o : Option ℕ). cond {A = ℕ} (is_some o) 1 0) none in
    omega (arith, changed, here, count_by-le-length is_some (set at i (Some 0)), length-set at i (Some 0))

-- one place is changed, and what lies in the slab for every other place stays
module _ (slab slab' : Slab Table) (at : List (Option ℕ)) (key : ℕ) (o : Option ℕ) (x : Option Table) (within : key < length at)
    (here : lies_at slab' o ≡ x) (elsewhere : (i : ℕ) → i ≢ key → lies_at slab' (get_or at i None) ≡ lies_at slab (get_or at i None)) where
  pub changed_shelf : shelf_of slab' (set at key o) ≡ set (shelf_of slab at) key x
  changed_shelf = same_lists (shelf_of slab' (set at key o)) (set (shelf_of slab at) key x) lengths each
    where
      lengths : length (shelf_of slab' (set at key o)) ≡ length (set (shelf_of slab at) key x)
      lengths = omega (arith, length-map (set at key o) (lies_at slab'), length-set at key o, length-set (shelf_of slab at) key x, length-map at (lies_at slab))

      each : (i : ℕ) (d : Option Table) → i < length (shelf_of slab' (set at key o)) → get_or (shelf_of slab' (set at key o)) i d ≡ get_or (set (shelf_of slab at) key x) i d
      each i d inside =
          let short : i < length (set at key o) = omega (arith, inside, length-map (set at key o) (lies_at slab')) in
          get_or-map (lies_at slab') (set at key o) i None d short ∙ by_test short (eqb i key) refl
        where
          by_test : i < length (set at key o) → (b : Bool) → eqb i key ≡ b → lies_at slab' (get_or (set at key o) i None) ≡ get_or (set (shelf_of slab at) key x) i d
          by_test short true is =
              let same = is_same i key is in
              ap (λ j. lies_at slab' (get_or (set at key o) j None)) same
              ∙ ap (lies_at slab') (get_or-set_same at key o None within)
              ∙ here
              ∙ sym (get_or-set_same (shelf_of slab at) key x d (omega (arith, within, length-map at (lies_at slab))))
              ∙ ap (λ j. get_or (set (shelf_of slab at) key x) j d) (sym same)
          by_test short false is =
              let other : i ≢ key = is_other i key is in
              ap (lies_at slab') (get_or-set_other at key i o None other)
              ∙ elsewhere i other
              ∙ sym (get_or-map (lies_at slab) at i None d (omega (arith, short, length-set at key o)))
              ∙ sym (get_or-set_other (shelf_of slab at) key i x d other)

-- a table is put into a free place
module _ (slab slab' : Slab Table) (at : List (Option ℕ)) (key k : ℕ) (t : Table) (shelf : IsShelf slab at) (within : key < length at) (free : get_or at key None ≡ None)
    (vacant : get slab k ≡ None) (updates : Updates slab slab' k (Some t)) (len : slab_len slab' ≡ slab_len slab + 1) (capacity : slab'.capacity ≡ slab.capacity) where
  -- no place had the slab's key
  unused : (i j : ℕ) → get_or at i None ≡ Some j → j ≢ k
  unused i j is same =
      let no : true ≡ false = sym (shelf.there i j is) ∙ ap (λ n. is_some (get slab n)) same ∙ ap is_some vacant in
      absurd (cc (no))

  stays : (i : ℕ) → lies_at slab' (get_or at i None) ≡ lies_at slab (get_or at i None)
  stays i = by_key (get_or at i None) refl
    where
      by_key : (o : Option ℕ) → get_or at i None ≡ o → lies_at slab' o ≡ lies_at slab o
      by_key None is = refl
      by_key (Some j) is = updates.others j (unused i j is)

  pub put_shelf : shelf_of slab' (set at key (Some k)) ≡ set (shelf_of slab at) key (Some t)
  put_shelf = changed_shelf slab slab' at key (Some k) (Some t) within updates.changed (λ i other. stays i)

  -- the place of a slab's key, before or now
  moved : (i j : ℕ) → get_or (set at key (Some k)) i None ≡ Some j → (b : Bool) → eqb i key ≡ b → cond {A = Type 0} b (j ≡ k) (get_or at i None ≡ Some j)
  moved i j is true same = some_is j k (sym is ∙ ap (λ n. get_or (set at key (Some k)) n None) (is_same i key same) ∙ get_or-set_same at key (Some k) None within)
  moved i j is false other = sym (get_or-set_other at key i (Some k) None (is_other i key other)) ∙ is

  pub put_kept : IsShelf slab' (set at key (Some k))
  put_kept = record {
    there = λ i j is. there_at i j is (eqb i key) refl;
    apart = λ i i' j is is'. apart_at i i' j is is' (eqb i key) refl (eqb i' key) refl;
    counted =
        let changed = sum_by-set (λ o. cond (is_some o) 1 0) at key (Some k) None within in
        let here : cond {A = ℕ} (is_some (get_or at key None)) 1 0 ≡ 0 = ap (λ (o : Option ℕ). cond {A = ℕ} (is_some o) 1 0) free in
        omega (arith, changed, here, shelf.counted, len);
    room = omega (arith, shelf.room, capacity, length-set at key (Some k));
  }
    where
      there_at : (i j : ℕ) → get_or (set at key (Some k)) i None ≡ Some j → (b : Bool) → eqb i key ≡ b → is_some (get slab' j) ≡ true
      there_at i j is true same = ap (λ n. is_some (get slab' n)) (moved i j is true same) ∙ ap is_some updates.changed
      there_at i j is false other =
          let before = moved i j is false other in
          ap is_some (updates.others j (unused i j before)) ∙ shelf.there i j before

      apart_at : (i i' j : ℕ) → get_or (set at key (Some k)) i None ≡ Some j → get_or (set at key (Some k)) i' None ≡ Some j → (b : Bool) → eqb i key ≡ b → (b' : Bool) → eqb i' key ≡ b' → i ≡ i'
      apart_at i i' j is is' true same true same' = is_same i key same ∙ sym (is_same i' key same')
      apart_at i i' j is is' true same false other = absurd (unused i' j (moved i' j is' false other) (moved i j is true same))
      apart_at i i' j is is' false other true same = absurd (unused i j (moved i j is false other) (moved i' j is' true same))
      apart_at i i' j is is' false other false other' = shelf.apart i i' j (moved i j is false other) (moved i' j is' false other')

-- a place is freed
module _ (slab slab' : Slab Table) (at : List (Option ℕ)) (key k : ℕ) (shelf : IsShelf slab at) (within : key < length at) (has : get_or at key None ≡ Some k)
    (updates : Updates slab slab' k None) (len : slab_len slab' + 1 ≡ slab_len slab) (capacity : slab'.capacity ≡ slab.capacity) where
  others : (i j : ℕ) → i ≢ key → get_or at i None ≡ Some j → j ≢ k
  others i j other is same = other (shelf.apart i key k (is ∙ ap Some same) has)

  left : (i : ℕ) → i ≢ key → lies_at slab' (get_or at i None) ≡ lies_at slab (get_or at i None)
  left i other = by_key (get_or at i None) refl
    where
      by_key : (o : Option ℕ) → get_or at i None ≡ o → lies_at slab' o ≡ lies_at slab o
      by_key None is = refl
      by_key (Some j) is = updates.others j (others i j other is)

  pub cleared_shelf : shelf_of slab' (set at key None) ≡ set (shelf_of slab at) key None
  cleared_shelf = changed_shelf slab slab' at key None None within refl left

  -- a place that still has a slab's key is another one
  still : (i j : ℕ) → get_or (set at key None) i None ≡ Some j → (i ≢ key) × (get_or at i None ≡ Some j)
  still i j is = by_test (eqb i key) refl
    where
      by_test : (b : Bool) → eqb i key ≡ b → (i ≢ key) × (get_or at i None ≡ Some j)
      by_test true same =
          let no : ◌≡◌ {A = Option ℕ} None (Some j) = sym (ap (λ n. get_or (set at key None) n None) (is_same i key same) ∙ get_or-set_same at key None None within) ∙ is in
          absurd (cc (no))
      by_test false other = (is_other i key other, sym (get_or-set_other at key i None None (is_other i key other)) ∙ is)

  pub cleared_kept : IsShelf slab' (set at key None)
  cleared_kept = record {
    there = λ i j is. let before = still i j is in ap is_some (updates.others j (others i j before.0 before.1)) ∙ shelf.there i j before.1;
    apart = λ i i' j is is'. shelf.apart i i' j (still i j is).1 (still i' j is').1;
    counted =
        let changed = sum_by-set (λ o. cond (is_some o) 1 0) at key None None within in
        let here : cond {A = ℕ} (is_some (get_or at key None)) 1 0 ≡ 1 = ap (λ (o : Option ℕ). cond {A = ℕ} (is_some o) 1 0) has in
        omega (arith, changed, here, shelf.counted, len);
    room = omega (arith, shelf.room, capacity, length-set at key None);
  }

-- a place that was free already
pub same_shelf : (slab : Slab Table) (at : List (Option ℕ)) (key : ℕ) → key < length at → get_or at key None ≡ None → shelf_of slab at ≡ set (shelf_of slab at) key None
same_shelf slab at key within none =
    sym (ap (λ x. set (shelf_of slab at) key x) (sym (reads slab at key ∙ ap (lies_at slab) none))
    ∙ set-own (shelf_of slab at) key)
  where
    set-own : (xs : List (Option Table)) (i : ℕ) → set xs i (get_or xs i None) ≡ xs
    set-own [] i = refl
    set-own (x ∷ xs) zero = refl
    set-own (x ∷ xs) (suc i) = ap (λ l. x ∷ l) (set-own xs i)

-- free places alone
pub none_shelf : (slab : Slab Table) (places : ℕ) → shelf_of slab (replicate places None) ≡ replicate places None
none_shelf slab zero = refl
none_shelf slab (suc n) = ap (λ l. None ∷ l) (none_shelf slab n)

-- if a place is free, a search doesn't miss it
pub all_taken : (xs : List (Option Table)) → count_by is_some xs < length xs → ((i : ℕ) → i < length xs → is_some (get_or xs i None) ≡ true) → ⊥
all_taken [] less taken = omega (arith, less)
all_taken (x ∷ xs) less taken = all_taken xs (omega (arith, less, first)) (λ i within. taken (suc i) (omega (arith, within)))
  where
    first : count_by is_some (x ∷ xs) ≡ 1 + count_by is_some xs
    first = sum_by-cons (λ (o : Option Table). cond (is_some o) 1 0) x xs ∙ ap (λ b. cond {A = ℕ} b 1 0 + count_by is_some xs) (taken 0 (omega arith))

-- so if there are fewer tables than places, not all places have a slab's key
pub not_all : (slab : Slab Table) (at : List (Option ℕ)) → IsShelf slab at → count_by is_some (shelf_of slab at) < length (shelf_of slab at) → All (λ o. is_some o ≡ true) at → ⊥
not_all slab at shelf less taken = all_taken (shelf_of slab at) less (λ i within. ap is_some (reads slab at i) ∙ by_key i (get_or at i None) refl (taken i None (omega (arith, within, length-map at (lies_at slab)))))
  where
    by_key : (i : ℕ) (o : Option ℕ) → get_or at i None ≡ o → is_some o ≡ true → is_some (lies_at slab o) ≡ true
    by_key i None is some = absurd (cc (some))
    by_key i (Some k) is some = shelf.there i k is
