-- What the registry keeps is kept: after a table or a handle was added, changed or taken out.
use Rattle.std.proofs.Common.{◌≡◌, ℕ, ◌+◌, ◌<◌, ◌≤◌, true, false, Option, Some, None, is_some, count_by, List, [], ◌∷◌, ◌++◌, length, set, refl, ap, sym, subst, ◌∙◌, arith}
use Rattle.std.specs.Option.{option_map, IsSomeAnd}
use Rattle.std.proofs.lemmas.List.{length-set, length_push}
use Rattle.std.proofs.lemmas.List.Sums.{count_by-le-length}
use Rattle.tbl_registry.specs.declared.rows.Handle.{Handle}
use Rattle.tbl_registry.specs.Listing.{Table, Listing, IsTied, table_at, number_at, has_handle, made_handle, with_handle, without_handle, without_table}
use Rattle.tbl_registry.specs.Inside.{table_in, tables_in, listing_of, IsKept}
use Rattle.tbl_registry.proofs.Ties.{tied_handle, tied_table, tied_dropped, tied_removed, tied_changed}
use Rattle.tbl_registry.proofs.Places.{many, none_in, found_in, put_in, put_filed, put_counted, without_key, freed_in, freed_filed, freed_counted}

module _ (shelf : List (Option Table)) (keys : List ℕ) (handles : List Handle) (made room : ℕ) (kept : IsKept shelf keys handles made room) where
  abbrev old : Listing
  old = listing_of shelf keys handles made room

  -- as many tables as places that have one
  pub counted_tables : length old.tables ≡ count_by is_some shelf
  counted_tables = many shelf keys kept.filed ∙ kept.counted

  pub few_keys : length keys ≤ length shelf
  few_keys = omega (arith, kept.counted, count_by-le-length is_some shelf)

  -- a handle more
  pub kept_handle : (app table key : ℕ) → number_at old.tables key ≡ Some table → length handles < room → IsKept shelf keys (handles ++ made_handle (made + 1) app table key ∷ []) (made + 1) room
  kept_handle app table key there few = record { filed = kept.filed; counted = kept.counted; tied = tied_handle old app table key kept.tied there few }

  -- a handle changed, and one dropped
  pub kept_changed : (f : Handle → Handle) (number : ℕ) → ((h : Handle) → ((f h).number ≡ h.number) × ((f h).table ≡ h.table) × ((f h).key ≡ h.key)) → IsKept shelf keys (with_handle f number handles) made room
  kept_changed f number same = record { filed = kept.filed; counted = kept.counted; tied = tied_changed old f number same kept.tied }

  pub kept_dropped : (number : ℕ) → IsKept shelf keys (without_handle number handles) made room
  kept_dropped number = record { filed = kept.filed; counted = kept.counted; tied = tied_dropped old number kept.tied }

  -- a table more, with its owner's handle
  module _ (t : Table) (app : ℕ) (number : t.number ≡ made + 1) (within : t.key < length shelf) (free : table_in shelf t.key ≡ None) (few : length old.tables < length shelf) (fewer : length handles < room) where
    pub added_tables : tables_in (set shelf t.key (Some t)) (keys ++ t.key ∷ []) ≡ old.tables ++ t ∷ []
    added_tables = put_in shelf keys t.key t kept.filed within free refl

    pub kept_table : IsKept (set shelf t.key (Some t)) (keys ++ t.key ∷ []) (handles ++ made_handle (made + 1) app (made + 1) t.key ∷ []) (made + 1) room
    kept_table = record {
      filed = put_filed shelf keys t.key t kept.filed within free refl;
      counted = omega (arith, length_push keys t.key, kept.counted, put_counted shelf keys t.key t kept.filed within free refl);
      tied =
          let made_listing : List Table → ℕ → Listing = λ tables n. record { tables = tables; handles = handles ++ made_handle (made + 1) app (made + 1) t.key ∷ []; made = made + 1; table_room = n; handle_room = room } in
          subst (λ l. IsTied l) (sym (ap (λ l. made_listing l (length (set shelf t.key (Some t)))) added_tables ∙ ap (made_listing (old.tables ++ t ∷ [])) (length-set shelf t.key (Some t))))
          (tied_table old t app kept.tied number within (none_in shelf keys t.key kept.filed free) few fewer);
    }

  -- a table without a handle removed
  module _ (key : ℕ) (t : Table) (there : table_at old.tables key ≡ Some t) (none : has_handle handles t.number ≡ false) where
    pub left_tables : tables_in (set shelf key None) (without_key key keys) ≡ without_table key old.tables
    left_tables = freed_in shelf keys key t kept.filed there

    pub kept_removed : IsKept (set shelf key None) (without_key key keys) handles made room
    kept_removed = record {
      filed = freed_filed shelf keys key t kept.filed there;
      counted = freed_counted shelf keys key t kept.filed there kept.tied.keys_apart kept.counted;
      tied =
          let left_listing : List Table → ℕ → Listing = λ tables n. record { tables = tables; handles = handles; made = made; table_room = n; handle_room = room } in
          subst (λ l. IsTied l) (sym (ap (λ l. left_listing l (length (set shelf key None))) left_tables ∙ ap (left_listing (without_table key old.tables)) (length-set shelf key None)))
          (tied_removed old key t.number kept.tied (ap (option_map (λ (other : Table). other.number)) there) none);
    }

  -- what stands under a key is what is found by it
  pub at_key : (key : ℕ) → is_some (table_at old.tables key) ≡ true → table_at old.tables key ≡ table_in shelf key
  at_key key there = by_found (table_at old.tables key) refl there
    where
      by_found : (o : Option Table) → table_at old.tables key ≡ o → is_some o ≡ true → table_at old.tables key ≡ table_in shelf key
      by_found None is never = absurd (cc (never))
      by_found (Some t) is some = is ∙ sym (found_in shelf keys key t kept.filed is)

  pub present : (key : ℕ) → is_some (table_at old.tables key) ≡ true → table_in shelf key ≡ None → ⊥
  present key there none =
      let never : true ≡ false = sym there ∙ ap is_some (at_key key there ∙ none) in
      cc (never)

-- the table with a key, which has no handle
pub record HasNone (tables : List Table) (handles : List Handle) (key : ℕ) : Type 0 where
  pub t : Table
  pub there : table_at tables key ≡ Some t
  pub none : has_handle handles t.number ≡ false

pub has_none : (tables : List Table) (handles : List Handle) (key : ℕ) → IsSomeAnd (number_at tables key) (λ number. has_handle handles number ≡ false) → HasNone tables handles key
has_none tables handles key none = by_found (table_at tables key) refl none
  where
    by_found : (o : Option Table) → table_at tables key ≡ o → IsSomeAnd (option_map (λ (t : Table). t.number) o) (λ number. has_handle handles number ≡ false) → HasNone tables handles key
    by_found None is never = absurd never
    by_found (Some t) is no_handle = record { t = t; there = is; none = no_handle }
