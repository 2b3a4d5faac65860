-- What a call by a handle finds of its table, and what is kept if the contents of one table change.
use Rattle.std.proofs.Common.{◌≡◌, ◌≢◌, ℕ, suc, ◌+◌, ◌≤◌, ◌&&◌, not, Bool, true, false, cond, eqb, Option, Some, None, is_some, List, [], ◌∷◌, map, length, get_or, set, count_by, All, refl, ap, sym, ◌∙◌, subst, arith}
use Rattle.std.specs.List.{AllPairs}
use Rattle.std.specs.Option.{IsSome, option_map_or}
use Rattle.std.proofs.lemmas.Bool.Decides.{nat_tests}
use Rattle.std.proofs.lemmas.List.{length-set, get_or-set_other}
use Rattle.std.proofs.lemmas.List.Elements.{All-nil, All-cons, All-head, All-tail}
use Rattle.std.proofs.lemmas.List.Sums.{sum_by-cons}
use Rattle.fsw_base.proofs.Lists.{map_same}
use Rattle.fsw_base.specs.Limits.{limits_of}
use Rattle.es_pool.specs.Account.{IsAccountOf}
use Rattle.es_pool.specs.Pool.{PoolState, made_in}
use Rattle.tbl_words.specs.declared.statuses.TblStatus.{TblStatus}
use Rattle.tbl_words.specs.declared.statuses.TblStatus.TheVariants.{ErrUnregistered}
use Rattle.tbl_words.specs.Tables as state
use Rattle.tbl_words.specs.Machine.{table_cause, refused_if}
use Rattle.tbl_registry.specs.declared.rows.Handle.{Handle}
use Rattle.tbl_registry.specs.Listing.{Table, IsTied, handle_at, table_at, is_registered}
use Rattle.table_blocks.specs.Blocks.{Stored}
use Rattle.table_blocks.specs.Contents.{Content, no_content, kept_at, content_at, is_open, is_staged, older_in}
use Rattle.table_core.specs.declared.plain.PlainTables.TheInside.{Inside}
use Rattle.table_core.specs.Inside.{means, table_in, each_below, is_this, is_other, IsRecent, IsFilled, Keeps}
use Rattle.table_core.proofs.Access.{IsOwned, access_by}
use Rattle.table_core.proofs.Fields.{table_here}

-- a call by a handle that the application owns: its table is unregistered, or what the table says
pub table_cause_by : (a : Inside) → IsTied a.registry → (app n : ℕ) (h : Handle) (t : Table) (others : state.Table → Option TblStatus) → IsOwned (handle_at a.registry.handles n) app h → table_at a.registry.tables h.key ≡ Some t →
    table_cause (means a) app n others ≡ refused_if (not (is_registered a.registry.handles t)) ErrUnregistered (others (table_in a.registry.handles a.blocks.tables t))
table_cause_by a tied app n h t others own there =
    access_by a tied app n (option_map_or (λ (u : state.Table). refused_if (not u.registered) ErrUnregistered (others u)) (state.table_of (means a) n) None)
    ∙ own.own (option_map_or (λ (u : state.Table). refused_if (not u.registered) ErrUnregistered (others u)) (state.table_of (means a) n) None)
    ∙ ap (λ o. option_map_or (λ (u : state.Table). refused_if (not u.registered) ErrUnregistered (others u)) o None) (table_here a tied n h own.found t there)

-- The account goes by what was registered alone. --

pub blocks_still : (now before : List Handle) (old new : List (Option Content)) (sizes : List ℕ) (block : ℕ) (tables : List Table) →
    state.blocks_out sizes (map (table_in now new) tables) block ≡ state.blocks_out sizes (map (table_in before old) tables) block
blocks_still now before old new sizes block [] = refl
blocks_still now before old new sizes block (t ∷ tables) =
    sum_by-cons (λ (u : state.Table). cond {A = ℕ} (eqb (state.block_size sizes u.size) block) (state.blocks_for u.option) 0) (table_in now new t) (map (table_in now new) tables)
    ∙ ap (λ n. cond {A = ℕ} (eqb (state.block_size sizes t.size) block) (state.blocks_for t.option) 0 + n) (blocks_still now before old new sizes block tables)
    ∙ sym (sum_by-cons (λ (u : state.Table). cond {A = ℕ} (eqb (state.block_size sizes u.size) block) (state.blocks_for u.option) 0) (table_in before old t) (map (table_in before old) tables))

-- What is kept. --

-- what holds of one table and goes on for the others holds of all
all_but_one : (Q P : Table → Type 0) (t : Table) → ((u : Table) → u.key ≢ t.key → Q u → P u) → P t → (tables : List Table) → AllPairs (λ earlier later. earlier.key ≡ later.key → ⊥) tables → table_at tables t.key ≡ Some t → All Q tables → All P tables
all_but_one Q P t others here [] apart there all = All-nil P
all_but_one Q P t others here (u ∷ tables) apart there all =
    by_test (λ rest. all_but_one Q P t others here tables (λ i j d lt within. apart (suc i) (suc j) d (omega (arith, lt)) (omega (arith, within))) rest (All-tail Q u tables all)) (eqb u.key t.key) refl there
  where
    some_is : Some u ≡ Some t → u ≡ t
    some_is same = ap (λ o. option_map_or (λ w. w) o u) same

    is_other_key : eqb u.key t.key ≡ false → u.key ≢ t.key
    is_other_key other same = grind (arith, nat_tests)

    later : u ≡ t → All P tables
    later same k d within =
        others (get_or tables k d) (λ is. apart 0 (suc k) d (omega arith) (omega (arith, within)) (ap (λ (w : Table). w.key) same ∙ sym is)) (All-tail Q u tables all k d within)

    by_test : (table_at tables t.key ≡ Some t → All P tables) → (b : Bool) → eqb u.key t.key ≡ b → cond {A = Option Table} b (Some u) (table_at tables t.key) ≡ Some t → All P (u ∷ tables)
    by_test ih true same at = All-cons P u tables (subst P (sym (some_is at)) here) (later (some_is at))
    by_test ih false other at = All-cons P u tables (others u (is_other_key other) (All-head Q u tables all)) (ih at)

module _ (a : Inside) (keeps : Keeps a) (tied : IsTied a.registry) (t : Table) (there : table_at a.registry.tables t.key ≡ Some t) (b : Stored) (c : Content)
    (changed : b.tables ≡ set a.blocks.tables t.key (Some c)) (pool : b.pool ≡ a.blocks.pool) (most : b.most ≡ a.blocks.most) where
  abbrev after : Inside
  after = record a { blocks = b }

  still : (key : ℕ) → key ≢ t.key → kept_at b.tables key ≡ kept_at a.blocks.tables key
  still key other = ap (λ l. kept_at l key) changed ∙ get_or-set_other a.blocks.tables t.key key (Some c) None other

  -- another table
  other_filled : (u : Table) → u.key ≢ t.key → IsFilled a.registry.handles a.blocks.tables u → IsFilled a.registry.handles b.tables u
  other_filled u other filled =
      let same : content_at b.tables u.key ≡ content_at a.blocks.tables u.key = ap (λ o. option_map_or (λ (x : Content). x) o no_content) (still u.key other) in
      record {
        there = ap is_some (still u.key other) ∙ filled.there;
        size = ap (λ (x : Content). x.size) same ∙ filled.size;
        option = ap (λ (x : Content). x.option) same ∙ filled.option;
        views = ap (λ (x : Content). x.present.views) same ∙ filled.views ∙ ap (λ (x : Content). count_by (λ (k : Handle). eqb k.table u.number && is_this x.version k.held) a.registry.handles) (sym same);
        older_views = ap (λ (x : Content). (older_in x.next).views) same ∙ filled.older_views ∙ ap (λ (x : Content). count_by (λ (k : Handle). eqb k.table u.number && is_other x.version k.held) a.registry.handles) (sym same);
        told = subst (λ (x : Content). All (λ (k : Handle). k.table ≡ u.number → k.told ≤ x.version) a.registry.handles) (sym same) filled.told;
        recent = subst (λ (x : Content). All (λ (k : Handle). k.table ≡ u.number → IsRecent x.version k.held) a.registry.handles) (sym same) filled.recent;
        unstaged = λ gone. ap (λ (x : Content). is_staged x.next) same ∙ filled.unstaged gone;
      }

  account_still : IsAccountOf b.pool (state.account_of (limits_of a.config) (means after))
  account_still =
      subst (λ (p : PoolState). IsAccountOf p (state.account_of (limits_of a.config) (record (means a) { tables = map (table_in a.registry.handles b.tables) a.registry.tables; made = each_below (made_in p.blocks) (length p.sizes); drawn = p.requests }))) (sym pool)
      (subst (λ (out : List ℕ). IsAccountOf a.blocks.pool (record (state.account_of (limits_of a.config) (means a)) { out = out }))
      (sym (map_same (state.blocks_out a.config.sizes (map (table_in a.registry.handles b.tables) a.registry.tables)) (state.blocks_out a.config.sizes (means a).tables) (λ block. blocks_still a.registry.handles a.registry.handles a.blocks.tables b.tables a.config.sizes block a.registry.tables) a.config.sizes))
      keeps.account)

  known_still : is_open a.blocks.tables t.key ≡ true → (key : ℕ) → is_open b.tables key ≡ true → IsSome (table_at a.registry.tables key)
  known_still opened key now = by_key (eqb key t.key) refl
    where
      is_same : eqb key t.key ≡ true → key ≡ t.key
      is_same same = grind (arith, nat_tests)

      other : eqb key t.key ≡ false → key ≢ t.key
      other apart same = grind (arith, nat_tests)

      by_key : (x : Bool) → eqb key t.key ≡ x → IsSome (table_at a.registry.tables key)
      by_key true same = keeps.known key (ap (is_open a.blocks.tables) (is_same same) ∙ opened)
      by_key false apart = keeps.known key (ap is_some (sym (still key (other apart))) ∙ now)

  -- what is always so goes on, if it does for the table
  pub changed_keeps : is_open a.blocks.tables t.key ≡ true → IsFilled a.registry.handles b.tables t → Keeps after
  changed_keeps opened filled = record {
    table_room = keeps.table_room;
    handle_room = keeps.handle_room;
    content_room = ap length changed ∙ length-set a.blocks.tables t.key (Some c) ∙ keeps.content_room;
    most = most ∙ keeps.most;
    pool_bytes = ap (λ (p : PoolState). p.bytes) pool ∙ keeps.pool_bytes;
    pool_sizes = ap (λ (p : PoolState). p.sizes) pool ∙ keeps.pool_sizes;
    account = account_still;
    fit = keeps.fit;
    had = keeps.had;
    owners = keeps.owners;
    filled =
        all_but_one (IsFilled a.registry.handles a.blocks.tables) (IsFilled a.registry.handles b.tables) t other_filled filled a.registry.tables tied.keys_apart there keeps.filled;
    known = known_still opened;
  }
