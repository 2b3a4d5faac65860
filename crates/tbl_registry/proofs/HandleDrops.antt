-- A handle that is dropped: which tables still have one, and which table leaves.
use Rattle.std.proofs.Common.{◌≡◌, ◌≢◌, ℕ, ◌+◌, ◌<◌, ◌≤◌, ◌⊎◌, inl, inr, ◌||◌, zero, suc, Bool, true, false, not, cond, eqb, Option, Some, None, List, [], ◌∷◌, ◌++◌, length, get_or, filter, find, All, refl, ap, sym, subst, ◌∙◌, arith}
use Rattle.std.specs.List.{AllPairs}
use Rattle.std.specs.Option.{option_map, option_map_or}
use Rattle.std.proofs.lemmas.Bool.{cases_lt}
use Rattle.std.proofs.lemmas.Bool.Decides.{nat_tests}
use Rattle.std.proofs.lemmas.List.Elements.{All-nil, All-cons, All-head, All-tail, All-weaker, All-push}
use Rattle.std.proofs.lemmas.List.Folds.{list_any-append}
use Rattle.tbl_registry.specs.declared.rows.Handle.{Handle}
use Rattle.tbl_registry.specs.Listing.{Table, Listing, IsTied, handle_at, is_live, has_handle, table_under, table_at, number_at, made_handle, without_handle, without_table}
use Rattle.tbl_registry.specs.Inside.{AreRising}
use Rattle.tbl_registry.specs.Listed.{AllHaveHandles, key_under, without_handle_of, HandlesGoOn}
use Rattle.tbl_registry.proofs.HandleNumbers.{same_number, other_number, later_others, others_left}

is_same : (m n : ℕ) → eqb m n ≡ true → m ≡ n
is_same m n is = grind (arith, nat_tests)

is_other : (m n : ℕ) → eqb m n ≡ false → m ≢ n
is_other m n is same = grind (arith, nat_tests)

some_is : {X : Type 0} (x y : X) → Some x ≡ Some y → x ≡ y
some_is x y is = ap (λ o. option_map_or (λ z. z) o x) is

-- another table has a handle if and only if it had one
others_keep : (handles : List Handle) (n table : ℕ) → AreRising handles → is_live handles n ≡ true → table ≢ table_under handles n → has_handle (without_handle n handles) table ≡ has_handle handles table
others_keep [] n table rising live other = refl
others_keep (h ∷ handles) n table rising live other =
    by_test (eqb h.number n) refl live other (λ rest apart. others_keep handles n table (λ i j d lt within. rising (suc i) (suc j) d (omega (arith, lt)) (omega (arith, within))) rest apart)
  where
    by_test : (b : Bool) → eqb h.number n ≡ b → (b || is_live handles n) ≡ true → table ≢ option_map_or (λ k. k.table) (cond {A = Option Handle} b (Some h) (handle_at handles n)) 0 →
        (is_live handles n ≡ true → table ≢ table_under handles n → has_handle (without_handle n handles) table ≡ has_handle handles table) →
        has_handle (cond {A = List Handle} (not b) (h ∷ without_handle n handles) (without_handle n handles)) table ≡ has_handle (h ∷ handles) table
    by_test true is live other ih =
        ap (λ l. has_handle l table) (others_left handles n (later_others h handles n rising (is_same h.number n is)))
        ∙ sym (ap (λ b. b || has_handle handles table) (other_number h.table table (λ same. other (sym same))))
    by_test false is live other ih = ap (λ b. eqb h.table table || b) (ih live other)

-- a handle that is live is found
found_live : (handles : List Handle) (n : ℕ) → is_live handles n ≡ true → handle_at handles n ≡ None → ⊥
found_live [] n live none = cc (live)
found_live (h ∷ handles) n live none = by_test (eqb h.number n) live none (λ rest no_one. found_live handles n rest no_one)
  where
    by_test : (b : Bool) → (b || is_live handles n) ≡ true → cond {A = Option Handle} b (Some h) (handle_at handles n) ≡ None → (is_live handles n ≡ true → handle_at handles n ≡ None → ⊥) → ⊥
    by_test true live none ih = cc (none)
    by_test false live none ih = ih live none

-- what holds of all holds of the one found
pub found_holds : (P : Handle → Type 0) (handles : List Handle) (n : ℕ) (h : Handle) → All P handles → handle_at handles n ≡ Some h → P h
found_holds P [] n h all is = absurd (cc (is))
found_holds P (k ∷ handles) n h all is = by_test (eqb k.number n) is (λ rest. found_holds P handles n h (All-tail P k handles all) rest)
  where
    by_test : (b : Bool) → cond {A = Option Handle} b (Some k) (handle_at handles n) ≡ Some h → (handle_at handles n ≡ Some h → P h) → P h
    by_test true is ih = subst P (some_is k h is) (All-head P k handles all)
    by_test false is ih = ih is

-- where a table stands
pub record Stands (tables : List Table) (key : ℕ) (t : Table) : Type 0 where
  pub place : ℕ
  pub within : place < length tables
  pub here : (d : Table) → get_or tables place d ≡ t
  pub known : t.key ≡ key

stands : (tables : List Table) (key : ℕ) (t : Table) → table_at tables key ≡ Some t → Stands tables key t
stands [] key t is = absurd (cc (is))
stands (first ∷ tables) key t is = by_test (eqb first.key key) refl is (λ rest. stands tables key t rest)
  where
    by_test : (b : Bool) → eqb first.key key ≡ b → cond {A = Option Table} b (Some first) (table_at tables key) ≡ Some t → (table_at tables key ≡ Some t → Stands tables key t) → Stands (first ∷ tables) key t
    by_test true same is ih = record { place = 0; within = omega arith; here = λ d. some_is first t is; known = sym (ap (λ (u : Table). u.key) (some_is first t is)) ∙ is_same first.key key same }
    by_test false other is ih =
        let there = ih is in
        record { place = suc there.place; within = omega (arith, there.within); here = there.here; known = there.known }

-- numbers rise, so the table that stands at a place is the one found by its number
found_number : (tables : List Table) (i m : ℕ) (d : Table) → AllPairs (λ earlier later. earlier.number < later.number) tables → i < length tables → (get_or tables i d).number ≡ m → find (λ t. eqb t.number m) tables ≡ Some (get_or tables i d)
found_number [] i m d rising within is = absurd (omega (arith, within))
found_number (t ∷ tables) zero m d rising within is = ap (λ b. cond {A = Option Table} b (Some t) (find (λ u. eqb u.number m) tables)) (same_number t.number m is)
found_number (t ∷ tables) (suc i) m d rising within is =
    ap (λ b. cond {A = Option Table} b (Some t) (find (λ u. eqb u.number m) tables)) (other_number t.number m (λ same. omega (arith, same, is, rising 0 (suc i) d (omega arith) within)))
    ∙ found_number tables i m d (λ a b e lt inside. rising (suc a) (suc b) e (omega (arith, lt)) (omega (arith, inside))) (omega (arith, within)) is

-- so the table of a handle is found by its number and by its key alike
pub either_way : (tables : List Table) (key number : ℕ) → AllPairs (λ earlier later. earlier.number < later.number) tables → number_at tables key ≡ Some number → find (λ t. eqb t.number number) tables ≡ table_at tables key
either_way tables key number rising there = by_found (table_at tables key) refl there
  where
    by_found : (o : Option Table) → table_at tables key ≡ o → option_map (λ (t : Table). t.number) o ≡ Some number → find (λ t. eqb t.number number) tables ≡ table_at tables key
    by_found None is never = absurd (cc (never))
    by_found (Some t) is numbered =
        let at = stands tables key t is in
        found_number tables at.place number t rising at.within (ap (λ (u : Table). u.number) (at.here t) ∙ some_is t.number number numbered)
        ∙ ap Some (at.here t)
        ∙ sym is

-- two tables are one if a relation that no two have holds of both
one_place : (R : Table → Table → Type 0) (tables : List Table) (i j : ℕ) (d : Table) → AllPairs (λ earlier later. R earlier later → ⊥) tables → i < length tables → j < length tables → R (get_or tables i d) (get_or tables j d) → R (get_or tables j d) (get_or tables i d) → i ≡ j
one_place R tables i j d apart inside within one other = by_order (cases_lt i j)
  where
    by_order : (i < j) ⊎ (j ≤ i) → i ≡ j
    by_order (inl less) = absurd (apart i j d less within one)
    by_order (inr more) = by_rest (cases_lt j i)
      where
        by_rest : (j < i) ⊎ (i ≤ j) → i ≡ j
        by_rest (inl less) = absurd (apart j i d less inside other)
        by_rest (inr le) = omega (arith, more, le)

filter_alike : {X : Type 0} (p q : X → Bool) (xs : List X) → All (λ x. p x ≡ q x) xs → filter p xs ≡ filter q xs
filter_alike p q [] all = refl
filter_alike {X} p q (x ∷ xs) all =
    ap (λ b. cond {A = List X} b (x ∷ filter p xs) (filter p xs)) (all 0 x (omega arith))
    ∙ ap (λ l. cond {A = List X} (q x) (x ∷ l) l) (filter_alike p q xs (All-tail (λ y. p y ≡ q y) x xs all))

filter_whole : {X : Type 0} (p : X → Bool) (xs : List X) → All (λ x. p x ≡ true) xs → filter p xs ≡ xs
filter_whole p [] all = refl
filter_whole {X} p (x ∷ xs) all =
    ap (λ b. cond {A = List X} b (x ∷ filter p xs) (filter p xs)) (all 0 x (omega arith))
    ∙ ap (λ l. x ∷ l) (filter_whole p xs (All-tail (λ y. p y ≡ true) x xs all))

module _ (l : Listing) (n : ℕ) (tied : IsTied l) (have : AllHaveHandles l) (live : is_live l.handles n ≡ true) where
  abbrev left : List Handle
  left = without_handle n l.handles

  abbrev table : ℕ
  table = table_under l.handles n

  abbrev key : ℕ
  key = key_under l.handles n

  -- the handle's table is there under its key
  its_table : number_at l.tables key ≡ Some table
  its_table = by_found (handle_at l.handles n) refl
    where
      by_found : (o : Option Handle) → handle_at l.handles n ≡ o → number_at l.tables (option_map_or (λ (h : Handle). h.key) o 0) ≡ Some (option_map_or (λ (h : Handle). h.table) o 0)
      by_found None none = absurd (found_live l.handles n live none)
      by_found (Some h) is = found_holds (λ (k : Handle). number_at l.tables k.key ≡ Some k.table) l.handles n h tied.tables_there is

  keeps : (t : Table) → t.number ≢ table → has_handle l.handles t.number ≡ true → has_handle left t.number ≡ true
  keeps t other has = others_keep l.handles n t.number tied.handles_rise live other ∙ has

  stay : has_handle left table ≡ true → filter (λ t. has_handle left t.number) l.tables ≡ l.tables
  stay some = filter_whole (λ (t : Table). has_handle left t.number) l.tables (λ i d within. by_test (get_or l.tables i d) (have i d within) (eqb (get_or l.tables i d).number table) refl)
    where
      by_test : (t : Table) → has_handle l.handles t.number ≡ true → (b : Bool) → eqb t.number table ≡ b → has_handle left t.number ≡ true
      by_test t has true is = ap (has_handle left) (is_same t.number table is) ∙ some
      by_test t has false is = keeps t (is_other t.number table is) has

  -- of the tables, the one with the key is the one with the number
  by_key : (i : ℕ) (d : Table) → i < length l.tables → (get_or l.tables i d).key ≡ key → (get_or l.tables i d).number ≡ table
  by_key i d within same = by_found (table_at l.tables key) refl its_table
    where
      by_found : (o : Option Table) → table_at l.tables key ≡ o → option_map (λ (t : Table). t.number) o ≡ Some table → (get_or l.tables i d).number ≡ table
      by_found None is never = absurd (cc (never))
      by_found (Some u) is numbered =
          let there = stands l.tables key u is in
          let known : (get_or l.tables there.place d).key ≡ key = ap (λ (t : Table). t.key) (there.here d) ∙ there.known in
          let place : i ≡ there.place = one_place (λ (earlier later : Table). earlier.key ≡ later.key) l.tables i there.place d tied.keys_apart within there.within (same ∙ sym known) (known ∙ sym same) in
          ap (λ k. (get_or l.tables k d).number) place ∙ ap (λ (t : Table). t.number) (there.here d) ∙ some_is u.number table numbered

  by_number : (i : ℕ) (d : Table) → i < length l.tables → (get_or l.tables i d).number ≡ table → (get_or l.tables i d).key ≡ key
  by_number i d within same = by_found (table_at l.tables key) refl its_table
    where
      by_found : (o : Option Table) → table_at l.tables key ≡ o → option_map (λ (t : Table). t.number) o ≡ Some table → (get_or l.tables i d).key ≡ key
      by_found None is never = absurd (cc (never))
      by_found (Some u) is numbered =
          let there = stands l.tables key u is in
          let its : (get_or l.tables there.place d).number ≡ table = ap (λ (t : Table). t.number) (there.here d) ∙ some_is u.number table numbered in
          let apart : AllPairs (λ (earlier later : Table). earlier.number ≡ later.number → ⊥) l.tables = λ a b e lt inside equal. omega (arith, equal, tied.tables_rise a b e lt inside) in
          let place : i ≡ there.place = one_place (λ (earlier later : Table). earlier.number ≡ later.number) l.tables i there.place d apart within there.within (same ∙ sym its) (its ∙ sym same) in
          ap (λ k. (get_or l.tables k d).key) place ∙ ap (λ (t : Table). t.key) (there.here d) ∙ there.known

  go : has_handle left table ≡ false → filter (λ t. has_handle left t.number) l.tables ≡ without_table key l.tables
  go none = filter_alike (λ (t : Table). has_handle left t.number) (λ t. not (eqb t.key key)) l.tables (λ i d within. by_test i d within (eqb (get_or l.tables i d).key key) refl)
    where
      by_test : (i : ℕ) (d : Table) → i < length l.tables → (b : Bool) → eqb (get_or l.tables i d).key key ≡ b → has_handle left (get_or l.tables i d).number ≡ not (eqb (get_or l.tables i d).key key)
      by_test i d within true is = ap (has_handle left) (by_key i d within (is_same (get_or l.tables i d).key key is)) ∙ none ∙ sym (ap not is)
      by_test i d within false is =
          keeps (get_or l.tables i d) (λ same. is_other (get_or l.tables i d).key key is (by_number i d within same)) (have i d within)
          ∙ sym (ap not is)

  pub drop_leaves : without_handle_of l n ≡ record l { handles = left; tables = cond {A = List Table} (has_handle left table) l.tables (without_table key l.tables) }
  drop_leaves = by_last (has_handle left table) refl
    where
      by_last : (b : Bool) → has_handle left table ≡ b → without_handle_of l n ≡ record l { handles = left; tables = cond {A = List Table} b l.tables (without_table key l.tables) }
      by_last true is = ap (λ ts. let after : Listing = record l { handles = left; tables = ts } in after) (stay is)
      by_last false is = ap (λ ts. let after : Listing = record l { handles = left; tables = ts } in after) (go is)

-- Each table has a handle. --

or_first : (b c : Bool) → b ≡ true → (b || c) ≡ true
or_first true c is = refl
or_first false c is = absurd (cc (is))

still_has : (handles : List Handle) (h : Handle) (table : ℕ) → has_handle handles table ≡ true → has_handle (handles ++ h ∷ []) table ≡ true
still_has handles h table has = list_any-append (λ k. eqb k.table table) handles (h ∷ []) ∙ or_first (has_handle handles table) (has_handle (h ∷ []) table) has

now_has : (handles : List Handle) (h : Handle) → has_handle (handles ++ h ∷ []) h.table ≡ true
now_has handles h = list_any-append (λ k. eqb k.table h.table) handles (h ∷ []) ∙ ap (λ b. has_handle handles h.table || (b || false)) (same_number h.table h.table refl) ∙ or_true (has_handle handles h.table)
  where
    or_true : (b : Bool) → (b || true) ≡ true
    or_true true = refl
    or_true false = refl

all_pass : {X : Type 0} (p : X → Bool) (xs : List X) → All (λ x. p x ≡ true) (filter p xs)
all_pass p [] = All-nil (λ x. p x ≡ true)
all_pass {X} p (x ∷ xs) = by_test (p x) refl (all_pass p xs)
  where
    by_test : (b : Bool) → p x ≡ b → All (λ y. p y ≡ true) (filter p xs) → All (λ y. p y ≡ true) (cond {A = List X} b (x ∷ filter p xs) (filter p xs))
    by_test true is ih = All-cons (λ y. p y ≡ true) x (filter p xs) is ih
    by_test false is ih = ih

pub handles_go_on : HandlesGoOn
handles_go_on = record {
  added = λ l app table key have. All-weaker (λ (t : Table). has_handle l.handles t.number ≡ true) (λ t. has_handle (l.handles ++ made_handle (l.made + 1) app table key ∷ []) t.number ≡ true) (λ t has. still_has l.handles (made_handle (l.made + 1) app table key) t.number has) l.tables have;
  opened = λ old new app name size option rules adds have.
      let h : Handle = made_handle (old.made + 1) app (old.made + 1) adds.key in
      let t : Table = record { number = old.made + 1; key = adds.key; name = name; owner = app; size = size; option = option; rules = rules } in
      let handles_now : new.handles ≡ old.handles ++ h ∷ [] = ap (λ (l : Listing). l.handles) adds.others in
      subst (λ hs. All (λ u. has_handle hs u.number ≡ true) new.tables) (sym handles_now)
      (subst (All (λ u. has_handle (old.handles ++ h ∷ []) u.number ≡ true)) (sym adds.tables)
      (All-push (λ u. has_handle (old.handles ++ h ∷ []) u.number ≡ true) old.tables t
      (All-weaker (λ (u : Table). has_handle old.handles u.number ≡ true) (λ u. has_handle (old.handles ++ h ∷ []) u.number ≡ true) (λ u has. still_has old.handles h u.number has) old.tables have)
      (now_has old.handles h)));
  left = λ l number. all_pass (λ (t : Table). has_handle (without_handle number l.handles) t.number) l.tables;
}
