-- The contents of one table changed: the state has the table changed, and the others as they were.
use Rattle.std.proofs.Common.{◌≡◌, ◌≢◌, ℕ, suc, ◌<◌, Bool, true, false, cond, eqb, Option, Some, None, List, [], ◌∷◌, map, length, get_or, set, All, refl, ap, sym, ◌∙◌, arith}
use Rattle.std.specs.List.{AllPairs}
use Rattle.std.specs.Option.{option_map_or}
use Rattle.std.proofs.lemmas.Bool.Decides.{nat_tests}
use Rattle.std.proofs.lemmas.List.{get_or-set_same, get_or-set_other}
use Rattle.tbl_words.specs.Tables as state
use Rattle.tbl_registry.specs.declared.rows.Handle.{Handle}
use Rattle.tbl_registry.specs.Listing.{Table, table_at, is_registered}
use Rattle.tbl_registry.proofs.HandleNumbers.{same_number, other_number}
use Rattle.table_blocks.specs.Contents.{Content, no_content, content_at}
use Rattle.table_core.specs.Inside.{table_in, table_with, handle_in, handle_with}
use Rattle.table_core.specs.Views.{held_by}
use Rattle.table_core.proofs.Bags.{held_view}
use Rattle.table_core.proofs.Fields.{found_all}
use Rattle.table_core.proofs.Registers.{map_all}

pub map-map : {X Y Z : Type 0} (f : Y → Z) (g : X → Y) (xs : List X) → map f (map g xs) ≡ map (λ x. f (g x)) xs
map-map f g [] = refl
map-map f g (x ∷ xs) = ap (λ l. f (g x) ∷ l) (map-map f g xs)

-- One table of those whose numbers rise and whose keys are apart. --

-- the one that its key finds has its number alone
module _ (f g : Table → state.Table) (change : state.Table → state.Table) (t : Table) (numbered : (u : Table) → (f u).number ≡ u.number)
    (here : g t ≡ change (f t)) (others : (u : Table) → u.key ≢ t.key → g u ≡ f u) where
  abbrev swapped : Table → state.Table
  swapped u = cond {A = state.Table} (eqb (f u).number t.number) (change (f u)) (f u)

  apart_same : (u : Table) → u.key ≢ t.key → u.number ≢ t.number → g u ≡ swapped u
  apart_same u key number = others u key ∙ sym (ap (λ b. cond {A = state.Table} b (change (f u)) (f u)) (other_number (f u).number t.number (λ same. number (sym (numbered u) ∙ same))))

  itself : g t ≡ swapped t
  itself = here ∙ sym (ap (λ b. cond {A = state.Table} b (change (f t)) (f t)) (same_number (f t).number t.number (numbered t)))

  -- none of these has its key or number
  none_swapped : (tables : List Table) → All (λ u. u.key ≢ t.key) tables → All (λ u. u.number ≢ t.number) tables → map g tables ≡ map swapped tables
  none_swapped tables keys numbers = map_all g swapped tables (λ k d within. apart_same (get_or tables k d) (keys k d within) (numbers k d within))

  one_swapped : (tables : List Table) → AllPairs (λ earlier later. earlier.number < later.number) tables → AllPairs (λ earlier later. earlier.key ≡ later.key → ⊥) tables →
      table_at tables t.key ≡ Some t → map g tables ≡ map swapped tables
  one_swapped [] rise apart there = refl
  one_swapped (u ∷ tables) rise apart there =
      by_test (λ rest. one_swapped tables (λ i j d lt within. rise (suc i) (suc j) d (omega (arith, lt)) (omega (arith, within))) (λ i j d lt within. apart (suc i) (suc j) d (omega (arith, lt)) (omega (arith, within))) rest)
      (eqb u.key t.key) refl there
    where
      some_is : Some u ≡ Some t → u ≡ t
      some_is same = ap (λ o. option_map_or (λ w. w) o u) same

      is_other : eqb u.key t.key ≡ false → u.key ≢ t.key
      is_other other same = grind (arith, nat_tests)

      later_keys : u ≡ t → All (λ (v : Table). v.key ≢ t.key) tables
      later_keys same k d within is = apart 0 (suc k) d (omega arith) (omega (arith, within)) (ap (λ (w : Table). w.key) same ∙ sym is)

      later_numbers : u ≡ t → All (λ (v : Table). v.number ≢ t.number) tables
      later_numbers same k d within is = omega (arith, rise 0 (suc k) d (omega arith) (omega (arith, within)), ap (λ (w : Table). w.number) same, is)

      later : All (λ (v : Table). u.number < v.number) tables
      later k d within = rise 0 (suc k) d (omega arith) (omega (arith, within))

      below : table_at tables t.key ≡ Some t → u.number ≢ t.number
      below at same = omega (arith, same, found_all (λ (v : Table). u.number < v.number) (λ v. eqb v.key t.key) tables t later at)

      by_test : (table_at tables t.key ≡ Some t → map g tables ≡ map swapped tables) → (b : Bool) → eqb u.key t.key ≡ b → cond {A = Option Table} b (Some u) (table_at tables t.key) ≡ Some t → map g (u ∷ tables) ≡ map swapped (u ∷ tables)
      by_test ih true same at =
          let is = some_is at in
          ap (λ x. x ∷ map g tables) (ap g is ∙ itself ∙ ap swapped (sym is)) ∙ ap (λ l. swapped u ∷ l) (none_swapped tables (later_keys is) (later_numbers is))
      by_test ih false other at =
          ap (λ x. x ∷ map g tables) (apart_same u (is_other other) (below at)) ∙ ap (λ l. swapped u ∷ l) (ih at)

-- The contents under a key changed. --

module _ (handles : List Handle) (contents : List (Option Content)) (tables : List Table) (t : Table) (c : Content)
    (rise : AllPairs (λ earlier later. earlier.number < later.number) tables) (apart : AllPairs (λ earlier later. earlier.key ≡ later.key → ⊥) tables) (there : table_at tables t.key ≡ Some t) (within : t.key < length contents) where
  abbrev changed : List (Option Content)
  changed = set contents t.key (Some c)

  pub now_at : content_at changed t.key ≡ c
  now_at = ap (λ o. option_map_or (λ (x : Content). x) o no_content) (get_or-set_same contents t.key (Some c) None within)

  pub still_at : (key : ℕ) → key ≢ t.key → content_at changed key ≡ content_at contents key
  still_at key other = ap (λ o. option_map_or (λ (x : Content). x) o no_content) (get_or-set_other contents t.key key (Some c) None other)

  -- the tables, if the contents say what the change does
  pub tables_changed : (change : state.Table → state.Table) → table_with (is_registered handles t) t c ≡ change (table_in handles contents t) →
      map (table_in handles changed) tables ≡ state.with_table change t.number (map (table_in handles contents) tables)
  tables_changed change does =
      one_swapped (table_in handles contents) (table_in handles changed) change t (λ u. refl)
      (ap (table_with (is_registered handles t) t) now_at ∙ does)
      (λ u other. ap (table_with (is_registered handles u) u) (still_at u.key other)) tables rise apart there
      ∙ sym (map-map (λ (u : state.Table). cond {A = state.Table} (eqb u.number t.number) (change u) u) (table_in handles contents) tables)

  -- a handle of the table, and one of another table
  handle_here : (h : Handle) → h.key ≡ t.key → handle_in changed h ≡ handle_with h c
  handle_here h is = ap (λ key. handle_with h (content_at changed key)) is ∙ ap (handle_with h) now_at

  handle_there : (h : Handle) → h.key ≢ t.key → handle_in changed h ≡ handle_in contents h
  handle_there h other = ap (handle_with h) (still_at h.key other)

  -- the handles, if those of the table are as they were
  pub handles_still : (hs : List Handle) → All (λ h. h.key ≡ t.key → handle_with h c ≡ handle_with h (content_at contents t.key)) hs → map (handle_in changed) hs ≡ map (handle_in contents) hs
  handles_still hs same = map_all (handle_in changed) (handle_in contents) hs (λ k d within. by_key (get_or hs k d) (eqb (get_or hs k d).key t.key) refl (same k d within))
    where
      is_same : (h : Handle) → eqb h.key t.key ≡ true → h.key ≡ t.key
      is_same h is = grind (arith, nat_tests)

      is_other : (h : Handle) → eqb h.key t.key ≡ false → h.key ≢ t.key
      is_other h is other = grind (arith, nat_tests)

      by_key : (h : Handle) (b : Bool) → eqb h.key t.key ≡ b → (h.key ≡ t.key → handle_with h c ≡ handle_with h (content_at contents t.key)) → handle_in changed h ≡ handle_in contents h
      by_key h true is there = handle_here h (is_same h is) ∙ there (is_same h is) ∙ ap (λ key. handle_with h (content_at contents key)) (sym (is_same h is))
      by_key h false is there = handle_there h (is_other h is)

  -- what handles were lent, if it is so for those of the table
  pub views_still : (hs : List Handle) → All (λ h. h.key ≡ t.key → held_by c h ≡ held_by (content_at contents t.key) h) hs → All (λ h. held_view changed h ≡ held_view contents h) hs
  views_still hs same k d within = by_key (get_or hs k d) (eqb (get_or hs k d).key t.key) refl (same k d within)
    where
      is_same : (h : Handle) → eqb h.key t.key ≡ true → h.key ≡ t.key
      is_same h is = grind (arith, nat_tests)

      is_other : (h : Handle) → eqb h.key t.key ≡ false → h.key ≢ t.key
      is_other h is other = grind (arith, nat_tests)

      by_key : (h : Handle) (b : Bool) → eqb h.key t.key ≡ b → (h.key ≡ t.key → held_by c h ≡ held_by (content_at contents t.key) h) → held_view changed h ≡ held_view contents h
      by_key h true is there =
          ap (λ key. held_by (content_at changed key) h) (is_same h is) ∙ ap (λ (x : Content). held_by x h) now_at ∙ there (is_same h is) ∙ ap (λ key. held_by (content_at contents key) h) (sym (is_same h is))
      by_key h false is there = ap (λ (x : Content). held_by x h) (still_at h.key (is_other h is))

  abbrev one_changed : (state.Handle → state.Handle) → state.Handle → state.Handle
  one_changed change k = cond {A = state.Handle} (eqb k.table t.number) (change k) k

  -- the handles, if those of the table are changed
  pub handles_changed : (change : state.Handle → state.Handle) (hs : List Handle) → All (λ h. h.key ≡ t.key → h.table ≡ t.number) hs → All (λ h. h.key ≢ t.key → h.table ≢ t.number) hs →
      All (λ h. h.key ≡ t.key → handle_with h c ≡ change (handle_with h (content_at contents t.key))) hs →
      map (handle_in changed) hs ≡ map (λ (k : state.Handle). cond {A = state.Handle} (eqb k.table t.number) (change k) k) (map (handle_in contents) hs)
  handles_changed change hs of others same =
      map_all (handle_in changed) (λ h. one_changed change (handle_in contents h)) hs (λ k d within. by_key (get_or hs k d) (eqb (get_or hs k d).key t.key) refl (of k d within) (others k d within) (same k d within))
      ∙ sym (map-map (one_changed change) (handle_in contents) hs)
    where
      is_same : (h : Handle) → eqb h.key t.key ≡ true → h.key ≡ t.key
      is_same h is = grind (arith, nat_tests)

      is_other : (h : Handle) → eqb h.key t.key ≡ false → h.key ≢ t.key
      is_other h is other = grind (arith, nat_tests)

      by_key : (h : Handle) (b : Bool) → eqb h.key t.key ≡ b → (h.key ≡ t.key → h.table ≡ t.number) → (h.key ≢ t.key → h.table ≢ t.number) → (h.key ≡ t.key → handle_with h c ≡ change (handle_with h (content_at contents t.key))) →
          handle_in changed h ≡ one_changed change (handle_in contents h)
      by_key h true is table other there =
          handle_here h (is_same h is) ∙ there (is_same h is) ∙ ap (λ key. change (handle_with h (content_at contents key))) (sym (is_same h is))
          ∙ sym (ap (λ b. cond {A = state.Handle} b (change (handle_in contents h)) (handle_in contents h)) (same_number h.table t.number (table (is_same h is))))
      by_key h false is table other there =
          handle_there h (is_other h is)
          ∙ sym (ap (λ b. cond {A = state.Handle} b (change (handle_in contents h)) (handle_in contents h)) (other_number h.table t.number (other (is_other h is))))
