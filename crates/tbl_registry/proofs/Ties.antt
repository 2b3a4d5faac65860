-- What is always so stays so: as a table or a handle is added, changed or dropped.
use Rattle.std.proofs.Common.{◌≡◌, ◌≢◌, ℕ, ◌+◌, ◌<◌, ◌≤◌, Bool, true, false, not, cond, eqb, Option, Some, None, List, [], ◌∷◌, ◌++◌, length, get_or, map, filter, All, refl, ap, sym, ◌∙◌, arith}
use Rattle.std.specs.Option.{option_map, option_map_or, option_or}
use Rattle.std.proofs.lemmas.Bool.Decides.{nat_tests}
use Rattle.std.proofs.lemmas.List.{length_push, length-map, get_or-map}
use Rattle.std.proofs.lemmas.List.Elements.{All-weaker, All-push, All-filter, All-nil, All-cons}
use Rattle.std.proofs.lemmas.List.Folds.{find-append, list_any_at}
use Rattle.std.proofs.lemmas.List.Kept.{AllPairs-filter}
use Rattle.std.proofs.lemmas.List.Quantifiers.{all_pairs_push}
use Rattle.std.proofs.lemmas.List.Sums.{length-filter, count_by-le-length}
use Rattle.tbl_registry.specs.declared.rows.Handle.{Handle}
use Rattle.tbl_registry.specs.Listing.{Table, Listing, IsTied, table_at, number_at, has_handle, with_new_handle, made_handle, with_handle, without_handle, without_table}
use Rattle.tbl_registry.proofs.HandleNumbers.{same_number, other_number}

is_same : (m n : ℕ) → eqb m n ≡ true → m ≡ n
is_same m n is = grind (arith, nat_tests)

is_other : (m n : ℕ) → eqb m n ≡ false → m ≢ n
is_other m n is same = grind (arith, nat_tests)

-- Finding tables. --

-- a table that isn't found has no table's key
pub none_has : (tables : List Table) (key : ℕ) → table_at tables key ≡ None → All (λ t. t.key ≢ key) tables
none_has [] key none = All-nil (λ (t : Table). t.key ≢ key)
none_has (t ∷ tables) key none = by_test (λ rest. none_has tables key rest) (eqb t.key key) refl none
  where
    by_test : (table_at tables key ≡ None → All (λ other. other.key ≢ key) tables) → (b : Bool) → eqb t.key key ≡ b → cond {A = Option Table} b (Some t) (table_at tables key) ≡ None → All (λ other. other.key ≢ key) (t ∷ tables)
    by_test ih true is never = absurd (cc (never))
    by_test ih false is rest = All-cons (λ (other : Table). other.key ≢ key) t tables (is_other t.key key is) (ih rest)

-- what is found stays so behind one more
found_still : (tables : List Table) (key number : ℕ) (t : Table) → number_at tables key ≡ Some number → number_at (tables ++ t ∷ []) key ≡ Some number
found_still tables key number t is =
    ap (option_map (λ (other : Table). other.number)) (find-append (λ (other : Table). eqb other.key key) tables (t ∷ [])) ∙ by_found (table_at tables key) is
  where
    by_found : (o : Option Table) → option_map (λ (other : Table). other.number) o ≡ Some number → option_map (λ (other : Table). other.number) (option_or o (table_at (t ∷ []) key)) ≡ Some number
    by_found None never = absurd (cc (never))
    by_found (Some other) here = here

-- and a new one is found by its own key
found_new : (tables : List Table) (t : Table) → table_at tables t.key ≡ None → number_at (tables ++ t ∷ []) t.key ≡ Some t.number
found_new tables t none =
    ap (option_map (λ (other : Table). other.number)) (find-append (λ (other : Table). eqb other.key t.key) tables (t ∷ []))
    ∙ ap (λ o. option_map (λ (other : Table). other.number) (option_or o (table_at (t ∷ []) t.key))) none
    ∙ ap (λ b. option_map (λ (other : Table). other.number) (cond {A = Option Table} b (Some t) None)) (same_number t.key t.key refl)

-- and another one is found as before if one is taken out
found_apart : (tables : List Table) (key other : ℕ) → other ≢ key → table_at (without_table key tables) other ≡ table_at tables other
found_apart [] key other apart = refl
found_apart (t ∷ tables) key other apart = by_test (found_apart tables key other apart) (eqb t.key key) refl
  where
    by_test : table_at (without_table key tables) other ≡ table_at tables other → (b : Bool) → eqb t.key key ≡ b → table_at (cond {A = List Table} (not b) (t ∷ without_table key tables) (without_table key tables)) other ≡ table_at (t ∷ tables) other
    by_test ih true is =
        ih
        ∙ sym (ap (λ b. cond {A = Option Table} b (Some t) (table_at tables other)) (other_number t.key other (λ same. apart (sym same ∙ is_same t.key key is))))
    by_test ih false is = ap (λ o. cond {A = Option Table} (eqb t.key other) (Some t) o) ih

-- Adding. --

pub tied_handle : (l : Listing) (app table key : ℕ) → IsTied l → number_at l.tables key ≡ Some table → length l.handles < l.handle_room → IsTied (with_new_handle l app table key)
tied_handle l app table key tied there room = record {
  tables_rise = tied.tables_rise;
  handles_rise = all_pairs_push (λ (earlier later : Handle). earlier.number < later.number) l.handles new tied.handles_rise (λ k d within. omega (arith, tied.handles_made k d within));
  tables_made = All-weaker (λ (t : Table). t.number ≤ l.made) (λ t. t.number ≤ l.made + 1) (λ t le. omega (arith, le)) l.tables tied.tables_made;
  handles_made = All-push (λ (h : Handle). h.number ≤ l.made + 1) l.handles new (All-weaker (λ (h : Handle). h.number ≤ l.made) (λ h. h.number ≤ l.made + 1) (λ h le. omega (arith, le)) l.handles tied.handles_made) (omega arith);
  tables_there = All-push (λ (h : Handle). number_at l.tables h.key ≡ Some h.table) l.handles new tied.tables_there there;
  keys = tied.keys;
  keys_apart = tied.keys_apart;
  tables_few = tied.tables_few;
  handles_few = omega (arith, room, length_push l.handles new);
}
  where
    new : Handle
    new = made_handle (l.made + 1) app table key

pub tied_table : (l : Listing) (t : Table) (app : ℕ) → IsTied l → t.number ≡ l.made + 1 → t.key < l.table_room → table_at l.tables t.key ≡ None → length l.tables < l.table_room → length l.handles < l.handle_room →
    IsTied (record (with_new_handle l app (l.made + 1) t.key) { tables = l.tables ++ t ∷ [] })
tied_table l t app tied number within free few room = record {
  tables_rise = all_pairs_push (λ (earlier later : Table). earlier.number < later.number) l.tables t tied.tables_rise (λ k d inside. omega (arith, tied.tables_made k d inside, number));
  handles_rise = all_pairs_push (λ (earlier later : Handle). earlier.number < later.number) l.handles new tied.handles_rise (λ k d inside. omega (arith, tied.handles_made k d inside));
  tables_made = All-push (λ (other : Table). other.number ≤ l.made + 1) l.tables t (All-weaker (λ (other : Table). other.number ≤ l.made) (λ other. other.number ≤ l.made + 1) (λ other le. omega (arith, le)) l.tables tied.tables_made) (omega (arith, number));
  handles_made = All-push (λ (h : Handle). h.number ≤ l.made + 1) l.handles new (All-weaker (λ (h : Handle). h.number ≤ l.made) (λ h. h.number ≤ l.made + 1) (λ h le. omega (arith, le)) l.handles tied.handles_made) (omega arith);
  tables_there = All-push (λ (h : Handle). number_at (l.tables ++ t ∷ []) h.key ≡ Some h.table) l.handles new
      (All-weaker (λ (h : Handle). number_at l.tables h.key ≡ Some h.table) (λ h. number_at (l.tables ++ t ∷ []) h.key ≡ Some h.table) (λ h is. found_still l.tables h.key h.table t is) l.handles tied.tables_there)
      (found_new l.tables t free ∙ ap Some number);
  keys = All-push (λ (other : Table). other.key < l.table_room) l.tables t tied.keys within;
  keys_apart = all_pairs_push (λ (earlier later : Table). earlier.key ≢ later.key) l.tables t tied.keys_apart (none_has l.tables t.key free);
  tables_few = omega (arith, few, length_push l.tables t);
  handles_few = omega (arith, room, length_push l.handles new);
}
  where
    new : Handle
    new = made_handle (l.made + 1) app (l.made + 1) t.key

-- Taking out. --

filter_few : {X : Type 0} (p : X → Bool) (xs : List X) (n : ℕ) → length xs ≤ n → length (filter p xs) ≤ n
filter_few p xs n le = omega (arith, le, length-filter p xs, count_by-le-length p xs)

pub tied_dropped : (l : Listing) (number : ℕ) → IsTied l → IsTied (record l { handles = without_handle number l.handles })
tied_dropped l number tied = record {
  tables_rise = tied.tables_rise;
  handles_rise = AllPairs-filter (λ (earlier later : Handle). earlier.number < later.number) (λ h. not (eqb h.number number)) l.handles tied.handles_rise;
  tables_made = tied.tables_made;
  handles_made = All-filter (λ (h : Handle). not (eqb h.number number)) (λ h. h.number ≤ l.made) l.handles tied.handles_made;
  tables_there = All-filter (λ (h : Handle). not (eqb h.number number)) (λ h. number_at l.tables h.key ≡ Some h.table) l.handles tied.tables_there;
  keys = tied.keys;
  keys_apart = tied.keys_apart;
  tables_few = tied.tables_few;
  handles_few = filter_few (λ (h : Handle). not (eqb h.number number)) l.handles l.handle_room tied.handles_few;
}

pub tied_removed : (l : Listing) (key number : ℕ) → IsTied l → number_at l.tables key ≡ Some number → has_handle l.handles number ≡ false → IsTied (record l { tables = without_table key l.tables })
tied_removed l key number tied there none = record {
  tables_rise = AllPairs-filter (λ (earlier later : Table). earlier.number < later.number) (λ t. not (eqb t.key key)) l.tables tied.tables_rise;
  handles_rise = tied.handles_rise;
  tables_made = All-filter (λ (t : Table). not (eqb t.key key)) (λ t. t.number ≤ l.made) l.tables tied.tables_made;
  handles_made = tied.handles_made;
  tables_there = λ k d within. ap (option_map (λ (t : Table). t.number)) (found_apart l.tables key (get_or l.handles k d).key (apart k d within)) ∙ tied.tables_there k d within;
  keys = All-filter (λ (t : Table). not (eqb t.key key)) (λ t. t.key < l.table_room) l.tables tied.keys;
  keys_apart = AllPairs-filter (λ (earlier later : Table). earlier.key ≢ later.key) (λ t. not (eqb t.key key)) l.tables tied.keys_apart;
  tables_few = filter_few (λ (t : Table). not (eqb t.key key)) l.tables l.table_room tied.tables_few;
  handles_few = tied.handles_few;
}
  where
    some_is : {X : Type 0} (x y d : X) → Some x ≡ Some y → x ≡ y
    some_is x y d is = ap (λ o. option_map_or (λ z. z) o d) is

    apart : (k : ℕ) (d : Handle) → k < length l.handles → (get_or l.handles k d).key ≢ key
    apart k d within same =
        let its : (get_or l.handles k d).table ≡ number = some_is (get_or l.handles k d).table number 0 (sym (tied.tables_there k d within) ∙ ap (number_at l.tables) same ∙ there) in
        let has : has_handle l.handles number ≡ true = list_any_at (λ h. eqb h.table number) l.handles k d within (same_number (get_or l.handles k d).table number its) in
        let no : true ≡ false = sym has ∙ none in
        absurd (cc (no))

-- Changing a handle. --

pub tied_changed : (l : Listing) (f : Handle → Handle) (number : ℕ) → ((h : Handle) → ((f h).number ≡ h.number) × ((f h).table ≡ h.table) × ((f h).key ≡ h.key)) → IsTied l → IsTied (record l { handles = with_handle f number l.handles })
tied_changed l f number same tied = record {
  tables_rise = tied.tables_rise;
  handles_rise = λ i j d lt within.
      let inside : j < length l.handles = omega (arith, within, length-map l.handles g) in
      let first : (get_or (map g l.handles) i d).number ≡ (get_or l.handles i d).number = ap (λ (h : Handle). h.number) (get_or-map g l.handles i d d (omega (arith, lt, inside))) ∙ (kept (get_or l.handles i d)).0 in
      let second : (get_or (map g l.handles) j d).number ≡ (get_or l.handles j d).number = ap (λ (h : Handle). h.number) (get_or-map g l.handles j d d inside) ∙ (kept (get_or l.handles j d)).0 in
      omega (arith, first, second, tied.handles_rise i j d lt inside);
  tables_made = tied.tables_made;
  handles_made = λ k d within.
      let inside : k < length l.handles = omega (arith, within, length-map l.handles g) in
      let its : (get_or (map g l.handles) k d).number ≡ (get_or l.handles k d).number = ap (λ (h : Handle). h.number) (get_or-map g l.handles k d d inside) ∙ (kept (get_or l.handles k d)).0 in
      omega (arith, its, tied.handles_made k d inside);
  tables_there = λ k d within.
      let inside : k < length l.handles = omega (arith, within, length-map l.handles g) in
      let read = get_or-map g l.handles k d d inside in
      ap (λ (h : Handle). number_at l.tables h.key) read
      ∙ ap (number_at l.tables) ((kept (get_or l.handles k d)).2)
      ∙ tied.tables_there k d inside
      ∙ ap Some (sym ((kept (get_or l.handles k d)).1) ∙ sym (ap (λ (h : Handle). h.table) read));
  keys = tied.keys;
  keys_apart = tied.keys_apart;
  tables_few = tied.tables_few;
  handles_few = omega (arith, tied.handles_few, length-map l.handles g);
}
  where
    g : Handle → Handle
    g h = cond {A = Handle} (eqb h.number number) (f h) h

    kept : (h : Handle) → ((g h).number ≡ h.number) × ((g h).table ≡ h.table) × ((g h).key ≡ h.key)
    kept h = by_test (eqb h.number number)
      where
        by_test : (b : Bool) → ((cond {A = Handle} b (f h) h).number ≡ h.number) × ((cond {A = Handle} b (f h) h).table ≡ h.table) × ((cond {A = Handle} b (f h) h).key ≡ h.key)
        by_test true = same h
        by_test false = (refl, refl, refl)
