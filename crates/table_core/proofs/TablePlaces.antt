-- The blocks in which the tables lie.
use Rattle.std.proofs.Common.{◌≡◌, ℕ, ◌+◌, ◌&&◌, Bool, true, false, eqb, cond, Option, Some, None, IsSome, IfSome, List, [], ◌∷◌, map, find, get_or, count_by, All, refl, ap, sym, ◌∙◌, subst, arith}
use Rattle.std.specs.Option.{option_map, option_map_or}
use Rattle.std.proofs.lemmas.Bool.Decides.{nat_tests}
use Rattle.std.proofs.lemmas.List.Elements.{All-map}
use Rattle.fsw_base.proofs.Lists.{count_by-map, find-map}
use Rattle.tbl_words.specs.Tables as state
use Rattle.tbl_registry.specs.declared.rows.Handle.{Handle}
use Rattle.tbl_registry.specs.Listing.{Table, IsTied, table_at, number_at}
use Rattle.tbl_registry.proofs.HandleDrops.{either_way}
use Rattle.table_blocks.specs.Blocks.{IsPlaced, has_block, buffers_taken}
use Rattle.table_blocks.specs.Contents.{Content, version_at, is_open, content_at}
use Rattle.table_core.specs.declared.plain.PlainTables.TheInside.{Inside}
use Rattle.table_core.specs.Blocks.{is_version, IsInBlocks, IsKeptAt, AreTableBlocks}
use Rattle.table_core.specs.Core.{HoldsVersion, loan_of}
use Rattle.table_core.specs.Inside.{plain_of, means, table_in, handle_in, hold_of, is_this, is_other, IsFilled, Keeps}
use Rattle.table_core.proofs.Buffers.{taken_alike}
use Rattle.table_core.proofs.Fields.{found_all, count_alike, known_by, table_there, its_table}
use Rattle.table_core.proofs.OneLoan.{lends, number_of}
use Rattle.table_core.proofs.Shares.{found_by_key}

-- what is found passes
passes : (n : ℕ) (tables : List Table) (t : Table) → find (λ u. eqb u.number n) tables ≡ Some t → t.number ≡ n
passes n [] t never = absurd (cc (never))
passes n (u ∷ tables) t here = by_test (eqb u.number n) refl (passes n tables t) here
  where
    some_is : Some u ≡ Some t → u ≡ t
    some_is same = ap (λ o. option_map_or (λ w. w) o u) same

    is_same : eqb u.number n ≡ true → u.number ≡ n
    is_same same = grind (arith, nat_tests)

    by_test : (b : Bool) → eqb u.number n ≡ b → (find (λ w. eqb w.number n) tables ≡ Some t → t.number ≡ n) → cond {A = Option Table} b (Some u) (find (λ w. eqb w.number n) tables) ≡ Some t → t.number ≡ n
    by_test true same ih it = sym (ap (λ (w : Table). w.number) (some_is it)) ∙ is_same same
    by_test false other ih rest = ih rest

-- the registry's table of a number, and that of the state
record IsRow (a : Inside) (n : ℕ) (t : state.Table) : Type 0 where
  row : Table
  there : find (λ u. eqb u.number n) a.registry.tables ≡ Some row
  is : table_in a.registry.handles a.blocks.tables row ≡ t

module _ (a : Inside) (keeps : Keeps a) (tied : IsTied a.registry)
    (placed : (key : ℕ) → is_open a.blocks.tables key ≡ true → IsPlaced a.blocks.pool (content_at a.blocks.tables key))
    (own : (key other block : ℕ) → has_block a.blocks.tables key block ≡ true → has_block a.blocks.tables other block ≡ true → key ≡ other)
    (buffers : a.blocks.free + buffers_taken a.blocks.tables ≡ 4) where
  -- the registry's table of a number, and its key
  abbrev row_of : ℕ → Option Table
  row_of n = find (λ t. eqb t.number n) a.registry.tables

  abbrev key_of : ℕ → ℕ
  key_of n = option_map_or (λ t. t.key) (row_of n) 0

  found_in : (n : ℕ) → state.table_at (means a).tables n ≡ option_map (table_in a.registry.handles a.blocks.tables) (row_of n)
  found_in n = find-map (λ (t : state.Table). eqb t.number n) (table_in a.registry.handles a.blocks.tables) a.registry.tables

  row_at : (n : ℕ) (t : state.Table) → state.table_at (means a).tables n ≡ Some t → IsRow a n t
  row_at n t at = by_found (row_of n) refl (sym (found_in n) ∙ at)
    where
      by_found : (o : Option Table) → row_of n ≡ o → option_map (table_in a.registry.handles a.blocks.tables) o ≡ Some t → IsRow a n t
      by_found None there never = absurd (cc (never))
      by_found (Some u) there it = record { row = u; there = there; is = ap (λ (o : Option state.Table). option_map_or (λ w. w) o (table_in a.registry.handles a.blocks.tables u)) it }

  -- what is held of a version is so counted
  views_of : (n version : ℕ) → count_by (λ (h : Handle). eqb h.table n && is_this version h.held) a.registry.handles ≡ count_by (λ (h : state.Handle). eqb h.table n && is_version version h.hold) (means a).handles
  views_of n version =
      sym (
      count_by-map (λ (h : state.Handle). eqb h.table n && is_version version h.hold) (handle_in a.blocks.tables) a.registry.handles
      ∙ count_alike (λ (h : Handle). eqb h.table n && is_version version (handle_in a.blocks.tables h).hold) (λ (h : Handle). eqb h.table n && is_this version h.held) a.registry.handles
      (λ k d within. let h = get_or a.registry.handles k d in ap (λ b. eqb h.table n && b) (alike (content_at a.blocks.tables h.key) h.held))
      )
    where
      alike : (c : Content) (held : Option ℕ) → is_version version (option_map (hold_of c) held) ≡ is_this version held
      alike c None = refl
      alike c (Some v) = refl

  older_views_of : (n version : ℕ) → count_by (λ (h : Handle). eqb h.table n && is_other version h.held) a.registry.handles ≡ count_by (λ (h : state.Handle). eqb h.table n && state.is_other version h.hold) (means a).handles
  older_views_of n version =
      sym (
      count_by-map (λ (h : state.Handle). eqb h.table n && state.is_other version h.hold) (handle_in a.blocks.tables) a.registry.handles
      ∙ count_alike (λ (h : Handle). eqb h.table n && state.is_other version (handle_in a.blocks.tables h).hold) (λ (h : Handle). eqb h.table n && is_other version h.held) a.registry.handles
      (λ k d within. let h = get_or a.registry.handles k d in ap (λ b. eqb h.table n && b) (alike (content_at a.blocks.tables h.key) h.held))
      )
    where
      alike : (c : Content) (held : Option ℕ) → state.is_other version (option_map (hold_of c) held) ≡ is_other version held
      alike c None = refl
      alike c (Some v) = refl

  key_is : (n : ℕ) (u : Table) → row_of n ≡ Some u → u.key ≡ key_of n
  key_is n u there = sym (ap (λ (o : Option Table). option_map_or (λ (t : Table). t.key) o 0) there)

  -- a handle of a table has its key
  key_of_handle : (u : Table) → row_of u.number ≡ Some u → (h : Handle) → number_at a.registry.tables h.key ≡ Some h.table → h.table ≡ u.number → h.key ≡ u.key
  key_of_handle u there h its same =
      let of = table_there a h its in
      sym (known_by a.registry.tables h.key of.t of.there) ∙ key_is h.table of.t (number_of a tied h of) ∙ ap key_of same ∙ sym (key_is u.number u there)

  -- and what it holds has the bytes of that table's version
  abbrev HoldsBytes : Table → state.Handle → Type 0
  HoldsBytes u h = h.table ≡ u.number → IfSome h.hold (λ hold. hold.value ≡ (version_at (content_at a.blocks.tables u.key) hold.version).bytes)

  held_bytes : (u : Table) → row_of u.number ≡ Some u → All (HoldsBytes u) (means a).handles
  held_bytes u there =
      All-map (HoldsBytes u) (handle_in a.blocks.tables) a.registry.handles
      (λ k d within. let h = get_or a.registry.handles k d in λ same. by_held h.held (content_at a.blocks.tables h.key) (ap (content_at a.blocks.tables) (key_of_handle u there h (tied.tables_there k d within) same)))
    where
      by_held : (held : Option ℕ) (c : Content) → c ≡ content_at a.blocks.tables u.key → IfSome (option_map (hold_of c) held) (λ hold. hold.value ≡ (version_at (content_at a.blocks.tables u.key) hold.version).bytes)
      by_held None c is = tt
      by_held (Some v) c is = ap (λ x. (version_at x v).bytes) is

  in_blocks : (u : Table) → row_of u.number ≡ Some u → IsFilled a.registry.handles a.blocks.tables u → IsInBlocks a.blocks (means a).handles (table_in a.registry.handles a.blocks.tables u) (content_at a.blocks.tables u.key)
  in_blocks u there filled = record {
    size = filled.size;
    option = filled.option;
    version = refl;
    present = refl;
    views = filled.views ∙ views_of u.number (content_at a.blocks.tables u.key).version;
    older_views = filled.older_views ∙ older_views_of u.number (content_at a.blocks.tables u.key).version;
    held = held_bytes u there;
    staged = refl;
    placed = placed u.key filled.there;
  }

  kept : (n : ℕ) (t : state.Table) → state.table_at (means a).tables n ≡ Some t → IsKeptAt a.blocks (plain_of a) key_of n t
  kept n t at =
      let r = row_at n t at in
      let filled = found_all (IsFilled a.registry.handles a.blocks.tables) (λ u. eqb u.number n) a.registry.tables r.row keeps.filled r.there in
      let K : ℕ → Type 0 = λ key. (is_open a.blocks.tables key ≡ true) × IsInBlocks a.blocks (means a).handles t (content_at a.blocks.tables key) in
      let T : state.Table → Type 0 = λ x. IsInBlocks a.blocks (means a).handles x (content_at a.blocks.tables r.row.key) in
      subst K (key_is n r.row r.there) (filled.there, subst T r.is (in_blocks r.row (ap row_of (passes n a.registry.tables r.row r.there) ∙ r.there) filled))

  by_key : (n : ℕ) (u : Table) → row_of n ≡ Some u → table_at a.registry.tables u.key ≡ Some u
  by_key n u there = found_by_key (λ t. eqb t.number n) a.registry.tables u tied.keys_apart there

  one_each : (n m block : ℕ) (t its : state.Table) → state.table_at (means a).tables n ≡ Some t → state.table_at (means a).tables m ≡ Some its →
      has_block a.blocks.tables (key_of n) block ≡ true → has_block a.blocks.tables (key_of m) block ≡ true → n ≡ m
  one_each n m block t its at too has has_too =
      let r = row_at n t at in
      let q = row_at m its too in
      let same : r.row.key ≡ q.row.key = key_is n r.row r.there ∙ own (key_of n) (key_of m) block has has_too ∙ sym (key_is m q.row q.there) in
      let rows : Some r.row ≡ Some q.row = sym (by_key n r.row r.there) ∙ ap (table_at a.registry.tables) same ∙ by_key m q.row q.there in
      sym (passes n a.registry.tables r.row r.there)
      ∙ ap (λ (o : Option Table). option_map_or (λ (u : Table). u.number) o 0) rows
      ∙ passes m a.registry.tables q.row q.there

  none_else : (key : ℕ) → is_open a.blocks.tables key ≡ true → (number : ℕ) × ((t : state.Table) × ((state.table_at (means a).tables number ≡ Some t) × (key_of number ≡ key)))
  none_else key opened = by_row (table_at a.registry.tables key) refl (keeps.known key opened)
    where
      by_row : (o : Option Table) → table_at a.registry.tables key ≡ o → IsSome o → (number : ℕ) × ((t : state.Table) × ((state.table_at (means a).tables number ≡ Some t) × (key_of number ≡ key)))
      by_row None at never = absurd (cc (never))
      by_row (Some u) at some =
          let there : row_of u.number ≡ Some u = either_way a.registry.tables key u.number tied.tables_rise (ap (option_map (λ (t : Table). t.number)) at) ∙ at in
          (u.number, (table_in a.registry.handles a.blocks.tables u, (found_in u.number ∙ ap (option_map (table_in a.registry.handles a.blocks.tables)) there, sym (key_is u.number u there) ∙ known_by a.registry.tables key u at)))

  lent_by : (number table version : ℕ) → HoldsVersion (means a).handles number table version → loan_of (plain_of a).lent number ≡ (version_at (content_at a.blocks.tables (key_of table)) version).loan
  lent_by number table version holds =
      let its = lends a number table version holds in
      let of = its_table a tied number its.h its.here in
      let key : its.h.key ≡ key_of table =
      sym (known_by a.registry.tables its.h.key of.t of.there) ∙ key_is its.h.table of.t (number_of a tied its.h of) ∙ ap key_of its.of_table in
      its.loan ∙ ap (λ k. (version_at (content_at a.blocks.tables k) version).loan) key

  pub are_table_blocks : AreTableBlocks a.blocks (plain_of a)
  are_table_blocks = record {
    key = key_of;
    each = kept;
    own = one_each;
    others = none_else;
    lent = lent_by;
    buffers = ap (λ n. a.blocks.free + n) (taken_alike a keeps tied) ∙ buffers;
  }
