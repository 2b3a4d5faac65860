-- Tables in their places: which stand there, and what a place that is filled or freed does to them.
use Rattle.std.proofs.Common.{◌≡◌, ◌≢◌, ℕ, ◌+◌, ◌<◌, zero, suc, Bool, true, false, not, cond, eqb, Option, Some, None, is_some, count_by, List, [], ◌∷◌, ◌++◌, length, set, get_or, filter, All, refl, ap, sym, ◌∙◌, arith, append_assoc}
use Rattle.std.specs.List.{AllPairs}
use Rattle.std.specs.Option.{option_map_or, option_to_list}
use Rattle.std.proofs.lemmas.Bool.Decides.{nat_tests}
use Rattle.std.proofs.lemmas.List.{get_or-set_same, get_or-set_other}
use Rattle.std.proofs.lemmas.List.Elements.{All-weaker, All-push, All-filter, All-head, All-tail, All-nil, All-cons}
use Rattle.std.proofs.lemmas.List.Sums.{sum_by-set}
use Rattle.tbl_registry.specs.Listing.{Table, table_at, without_table}
use Rattle.tbl_registry.specs.Inside.{table_in, tables_in, IsFiled}
use Rattle.tbl_registry.proofs.HandleNumbers.{same_number, other_number}

is_same : (m n : ℕ) → eqb m n ≡ true → m ≡ n
is_same m n is = grind (arith, nat_tests)

is_other : (m n : ℕ) → eqb m n ≡ false → m ≢ n
is_other m n is same = grind (arith, nat_tests)

some_is : {X : Type 0} (x y : X) → Some x ≡ Some y → x ≡ y
some_is x y is = ap (λ o. option_map_or (λ z. z) o x) is

-- Which stand there. --

-- as many tables as places named
pub many : (shelf : List (Option Table)) (keys : List ℕ) → All (IsFiled shelf) keys → length (tables_in shelf keys) ≡ length keys
many shelf [] filed = refl
many shelf (key ∷ keys) filed =
    let here = All-head (IsFiled shelf) key keys filed in
    omega (arith, ap (λ o. length (option_to_list o ++ tables_in shelf keys)) here.there, many shelf keys (All-tail (IsFiled shelf) key keys filed))

-- what is found by a key stands in that place
pub found_in : (shelf : List (Option Table)) (keys : List ℕ) (key : ℕ) (t : Table) → All (IsFiled shelf) keys → table_at (tables_in shelf keys) key ≡ Some t → table_in shelf key ≡ Some t
found_in shelf [] key t filed is = absurd (cc (is))
found_in shelf (k ∷ keys) key t filed is =
    let here = All-head (IsFiled shelf) k keys filed in
    by_test here (λ rest. found_in shelf keys key t (All-tail (IsFiled shelf) k keys filed) rest) (eqb here.t.key key) refl
    (sym (ap (λ o. table_at (option_to_list o ++ tables_in shelf keys) key) here.there) ∙ is)
  where
    by_test : (here : IsFiled shelf k) → (table_at (tables_in shelf keys) key ≡ Some t → table_in shelf key ≡ Some t) → (b : Bool) → eqb here.t.key key ≡ b → cond {A = Option Table} b (Some here.t) (table_at (tables_in shelf keys) key) ≡ Some t → table_in shelf key ≡ Some t
    by_test here ih true same first = ap (table_in shelf) (sym (is_same here.t.key key same) ∙ here.known) ∙ here.there ∙ first
    by_test here ih false other rest = ih rest

-- a place without a table has none by its key
pub none_in : (shelf : List (Option Table)) (keys : List ℕ) (key : ℕ) → All (IsFiled shelf) keys → table_in shelf key ≡ None → table_at (tables_in shelf keys) key ≡ None
none_in shelf keys key filed none = by_found (table_at (tables_in shelf keys) key) refl
  where
    by_found : (o : Option Table) → table_at (tables_in shelf keys) key ≡ o → o ≡ None
    by_found None is = refl
    by_found (Some t) is =
        let never : ◌≡◌ {A = Option Table} None (Some t) = sym none ∙ found_in shelf keys key t filed is in
        absurd (cc (never))

-- what is found by a key lies within the places
pub within_in : (shelf : List (Option Table)) (key : ℕ) (t : Table) → table_in shelf key ≡ Some t → key < length shelf
within_in [] key t is = absurd (cc (is))
within_in (o ∷ shelf) zero t is = omega arith
within_in (o ∷ shelf) (suc key) t is = omega (arith, within_in shelf key t is)

-- none of these places is this one
abbrev pub IsApart : List ℕ → ℕ → Type 0
IsApart keys key = All (λ k. k ≢ key) keys

pub free_apart : (shelf : List (Option Table)) (keys : List ℕ) (key : ℕ) → All (IsFiled shelf) keys → table_in shelf key ≡ None → IsApart keys key
free_apart shelf keys key filed none = All-weaker (IsFiled shelf) (λ k. k ≢ key) (λ k here same. differs k here same) keys filed
  where
    differs : (k : ℕ) → IsFiled shelf k → k ≡ key → ⊥
    differs k here same =
        let never : ◌≡◌ {A = Option Table} None (Some here.t) = sym none ∙ ap (table_in shelf) (sym same) ∙ here.there in
        cc (never)

-- A place changes. --

elsewhere : (shelf : List (Option Table)) (key k : ℕ) (o : Option Table) → k ≢ key → table_in (set shelf key o) k ≡ table_in shelf k
elsewhere shelf key k o other = get_or-set_other shelf key k o None other

-- other places keep their tables
pub apart_in : (shelf : List (Option Table)) (keys : List ℕ) (key : ℕ) (o : Option Table) → IsApart keys key → tables_in (set shelf key o) keys ≡ tables_in shelf keys
apart_in shelf [] key o apart = refl
apart_in shelf (k ∷ keys) key o apart =
    ap (λ x. option_to_list x ++ tables_in (set shelf key o) keys) (elsewhere shelf key k o (All-head (λ n. n ≢ key) k keys apart))
    ∙ ap (λ l. option_to_list (table_in shelf k) ++ l) (apart_in shelf keys key o (All-tail (λ n. n ≢ key) k keys apart))

filed_one : (shelf : List (Option Table)) (key k : ℕ) (o : Option Table) → k ≢ key → IsFiled shelf k → IsFiled (set shelf key o) k
filed_one shelf key k o other here = record { t = here.t; there = elsewhere shelf key k o other ∙ here.there; known = here.known }

pub filed_apart : (shelf : List (Option Table)) (keys : List ℕ) (key : ℕ) (o : Option Table) → IsApart keys key → All (IsFiled shelf) keys → All (IsFiled (set shelf key o)) keys
filed_apart shelf keys key o apart filed = λ i d within. filed_one shelf key (get_or keys i d) o (apart i d within) (filed i d within)

-- one more place is named
pub push_in : (shelf : List (Option Table)) (keys : List ℕ) (key : ℕ) → tables_in shelf (keys ++ key ∷ []) ≡ tables_in shelf keys ++ (option_to_list (table_in shelf key) ++ [])
push_in shelf [] key = refl
push_in shelf (k ∷ keys) key =
    ap (λ l. option_to_list (table_in shelf k) ++ l) (push_in shelf keys key)
    ∙ sym (append_assoc (option_to_list (table_in shelf k)) (tables_in shelf keys) (option_to_list (table_in shelf key) ++ []))

-- a table is put into a free place
module _ (shelf : List (Option Table)) (keys : List ℕ) (key : ℕ) (t : Table) (filed : All (IsFiled shelf) keys) (within : key < length shelf) (free : table_in shelf key ≡ None) (known : t.key ≡ key) where
  apart : IsApart keys key
  apart = free_apart shelf keys key filed free

  now : table_in (set shelf key (Some t)) key ≡ Some t
  now = get_or-set_same shelf key (Some t) None within

  pub put_in : tables_in (set shelf key (Some t)) (keys ++ key ∷ []) ≡ tables_in shelf keys ++ t ∷ []
  put_in =
      push_in (set shelf key (Some t)) keys key
      ∙ ap (λ l. l ++ (option_to_list (table_in (set shelf key (Some t)) key) ++ [])) (apart_in shelf keys key (Some t) apart)
      ∙ ap (λ o. tables_in shelf keys ++ (option_to_list o ++ [])) now

  pub put_filed : All (IsFiled (set shelf key (Some t))) (keys ++ key ∷ [])
  put_filed = All-push (IsFiled (set shelf key (Some t))) keys key (filed_apart shelf keys key (Some t) apart filed) (record { t = t; there = now; known = known })

  pub put_counted : count_by is_some (set shelf key (Some t)) ≡ count_by is_some shelf + 1
  put_counted =
      let changed = sum_by-set (λ (o : Option Table). cond (is_some o) 1 0) shelf key (Some t) None within in
      let here : cond {A = ℕ} (is_some (table_in shelf key)) 1 0 ≡ 0 = ap (λ (o : Option Table). cond {A = ℕ} (is_some o) 1 0) free in
      omega (arith, changed, here)

-- the place of a table is freed, and named no more
abbrev pub without_key : ℕ → List ℕ → List ℕ
without_key key keys = filter (λ k. not (eqb k key)) keys

pub left_apart : (keys : List ℕ) (key : ℕ) → IsApart (without_key key keys) key
left_apart [] key = All-nil (λ k. k ≢ key)
left_apart (k ∷ keys) key = by_test (left_apart keys key) (eqb k key) refl
  where
    by_test : IsApart (without_key key keys) key → (b : Bool) → eqb k key ≡ b → IsApart (cond {A = List ℕ} (not b) (k ∷ without_key key keys) (without_key key keys)) key
    by_test ih true is = ih
    by_test ih false is = All-cons (λ n. n ≢ key) k (without_key key keys) (is_other k key is) ih

left_in : (shelf : List (Option Table)) (keys : List ℕ) (key : ℕ) → All (IsFiled shelf) keys → tables_in shelf (without_key key keys) ≡ without_table key (tables_in shelf keys)
left_in shelf [] key filed = refl
left_in shelf (k ∷ keys) key filed =
    by_test (All-head (IsFiled shelf) k keys filed) (left_in shelf keys key (All-tail (IsFiled shelf) k keys filed)) (eqb k key) refl
  where
    by_test : IsFiled shelf k → tables_in shelf (without_key key keys) ≡ without_table key (tables_in shelf keys) → (b : Bool) → eqb k key ≡ b →
        tables_in shelf (cond {A = List ℕ} (not b) (k ∷ without_key key keys) (without_key key keys)) ≡ without_table key (option_to_list (table_in shelf k) ++ tables_in shelf keys)
    by_test here ih true is =
        ih
        ∙ sym (ap (λ o. without_table key (option_to_list o ++ tables_in shelf keys)) here.there
        ∙ ap (λ b. cond {A = List Table} (not b) (here.t ∷ without_table key (tables_in shelf keys)) (without_table key (tables_in shelf keys))) (same_number here.t.key key (here.known ∙ is_same k key is)))
    by_test here ih false is =
        ap (λ o. option_to_list o ++ tables_in shelf (without_key key keys)) here.there
        ∙ ap (λ l. here.t ∷ l) ih
        ∙ sym (ap (λ o. without_table key (option_to_list o ++ tables_in shelf keys)) here.there
        ∙ ap (λ b. cond {A = List Table} (not b) (here.t ∷ without_table key (tables_in shelf keys)) (without_table key (tables_in shelf keys))) (other_number here.t.key key (λ same. is_other k key is (sym here.known ∙ same))))

-- if no other table has the key, one fewer is left
none_out : (tables : List Table) (key : ℕ) → All (λ t. t.key ≢ key) tables → without_table key tables ≡ tables
none_out [] key others = refl
none_out (t ∷ tables) key others =
    ap (λ b. cond {A = List Table} (not b) (t ∷ without_table key tables) (without_table key tables)) (other_number t.key key (All-head (λ (other : Table). other.key ≢ key) t tables others))
    ∙ ap (λ l. t ∷ l) (none_out tables key (All-tail (λ (other : Table). other.key ≢ key) t tables others))

pub one_out : (tables : List Table) (key : ℕ) (t : Table) → AllPairs (λ earlier later. earlier.key ≢ later.key) tables → table_at tables key ≡ Some t → length (without_table key tables) + 1 ≡ length tables
one_out [] key t apart is = absurd (cc (is))
one_out (first ∷ tables) key t apart is =
    by_test (λ rest. one_out tables key t (λ i j d lt inside. apart (suc i) (suc j) d (omega (arith, lt)) (omega (arith, inside))) rest) (eqb first.key key) refl is
  where
    by_test : (table_at tables key ≡ Some t → length (without_table key tables) + 1 ≡ length tables) → (b : Bool) → eqb first.key key ≡ b → cond {A = Option Table} b (Some first) (table_at tables key) ≡ Some t →
        length (cond {A = List Table} (not b) (first ∷ without_table key tables) (without_table key tables)) + 1 ≡ length (first ∷ tables)
    by_test ih true same here =
        omega (arith, ap length (none_out tables key (λ k d inside other. apart 0 (suc k) d (omega arith) (omega (arith, inside)) (is_same first.key key same ∙ sym other))))
    by_test ih false other rest = omega (arith, ih rest)

module _ (shelf : List (Option Table)) (keys : List ℕ) (key : ℕ) (t : Table) (filed : All (IsFiled shelf) keys) (there : table_at (tables_in shelf keys) key ≡ Some t) where
  stood : table_in shelf key ≡ Some t
  stood = found_in shelf keys key t filed there

  pub stood_within : key < length shelf
  stood_within = within_in shelf key t stood

  pub freed_in : tables_in (set shelf key None) (without_key key keys) ≡ without_table key (tables_in shelf keys)
  freed_in = apart_in shelf (without_key key keys) key None (left_apart keys key) ∙ left_in shelf keys key filed

  pub freed_filed : All (IsFiled (set shelf key None)) (without_key key keys)
  freed_filed = filed_apart shelf (without_key key keys) key None (left_apart keys key) (All-filter (λ k. not (eqb k key)) (IsFiled shelf) keys filed)

  pub freed_counted : AllPairs (λ earlier later. earlier.key ≢ later.key) (tables_in shelf keys) → length keys ≡ count_by is_some shelf → length (without_key key keys) ≡ count_by is_some (set shelf key None)
  freed_counted apart counted =
      let changed = sum_by-set (λ (o : Option Table). cond (is_some o) 1 0) shelf key None None stood_within in
      let here : cond {A = ℕ} (is_some (table_in shelf key)) 1 0 ≡ 1 = ap (λ (o : Option Table). cond {A = ℕ} (is_some o) 1 0) stood in
      let left = many (set shelf key None) (without_key key keys) freed_filed in
      omega (arith, changed, here, left, ap length freed_in, one_out (tables_in shelf keys) key t apart there, many shelf keys filed, counted)
