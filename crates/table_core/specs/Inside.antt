-- What contracts see of the core's fields, and what is always true of them.
use Rattle.std.specs.Prelude.{◌≡◌, ◌≢◌, ℕ, zero, suc, ◌+◌, ◌≤◌, ◌==◌, ◌&&◌, not, Bool, true, false, List, [], ◌∷◌, length, map, count_by, All, Option, Some, None, IsSome, IfSome}
use Rattle.std.specs.Option.{option_map, option_map_or}
use Rattle.fsw_base.specs.Limits.{limits_of}
use Rattle.es_pool.specs.Pool.{made_in}
use Rattle.es_pool.specs.Account.{IsAccountOf}
use Rattle.tbl_words.specs.declared.calls.TblState.{TblState}
use Rattle.tbl_words.specs.Tables as state
use Rattle.tbl_rules.specs.Rules.{has_misfit}
use Rattle.tbl_words.specs.Machine.{staged_number}
use Rattle.tbl_registry.specs.declared.rows.Handle.{Handle}
use Rattle.tbl_registry.specs.Listing.{Table, is_live, is_registered, table_at}
use Rattle.tbl_registry.specs.Listed.{AllHaveHandles}
use Rattle.table_blocks.specs.Contents.{Content, older_in, is_staged, version_at, is_open, content_at}
use Rattle.table_core.specs.declared.plain.PlainTables.TheInside.{Inside}
pub use Rattle.table_core.specs.Blocks.{staged_of}
use Rattle.table_core.specs.Core.{Lent, Plain}

-- What rows and contents mean. --

-- a table with these contents
abbrev pub table_with : Bool → Table → Content → state.Table
table_with registered t c = record {
  number = t.number;
  name = t.name;
  owner = t.owner;
  registered = registered;
  size = t.size;
  option = t.option;
  rules = t.rules;
  version = c.version;
  value = c.present.bytes;
  loaded = not (c.version == 0);
  staged = staged_of c.next;
}

abbrev pub table_in : List Handle → List (Option Content) → Table → state.Table
table_in handles contents t = table_with (is_registered handles t) t (content_at contents t.key)

-- the figures of a table with these contents
abbrev pub figures_in : Content → TblState
figures_in c = record {
  version = c.version;
  loaded = not (c.version == 0);
  staged = staged_number (staged_of c.next);
  holds = c.present.views + (older_in c.next).views;
}

-- a version of a table, held
abbrev pub hold_of : Content → ℕ → state.Hold
hold_of c version = record { version = version; value = (version_at c version).bytes }

-- a handle of a table with these contents
abbrev pub handle_with : Handle → Content → state.Handle
handle_with h c = record {
  number = h.number;
  app = h.app;
  table = h.table;
  marked = not (c.version == h.told);
  hold = option_map (hold_of c) h.held;
}

abbrev pub handle_in : List (Option Content) → Handle → state.Handle
handle_in contents h = handle_with h (content_at contents h.key)

-- what a handle was lent
abbrev pub lent_in : List (Option Content) → Handle → Lent
lent_in contents h =
    record {
      handle = h.number;
      loan = option_map_or (λ version. (version_at (content_at contents h.key) version).loan)
          h.held 0;
    }

-- what is told of each place below so many
abbrev pub each_below : (ℕ → ℕ) → ℕ → List ℕ
each_below f zero = []
each_below f (suc n) = f 0 ∷ each_below (λ i. f (suc i)) n

-- the state that the fields keep
abbrev pub means : Inside → state.State
means a = record {
  tables = map (table_in a.registry.handles a.blocks.tables) a.registry.tables;
  handles = map (handle_in a.blocks.tables) a.registry.handles;
  handles_made = a.registry.made;
  ended = a.ended.items;
  made = each_below (made_in a.blocks.pool.blocks) (length a.blocks.pool.sizes);
  drawn = a.blocks.pool.requests;
}

-- the core as its callers see it
abbrev pub plain_of : Inside → Plain
plain_of a =
    record {
      limits = limits_of a.config;
      state = means a;
      lent = map (lent_in a.blocks.tables) a.registry.handles;
    }

-- What is always true. --

-- whether a version is held, and is this one
abbrev pub is_this : ℕ → Option ℕ → Bool
is_this version None = false
is_this version (Some held) = held == version

-- whether a version is held, and is another one
abbrev pub is_other : ℕ → Option ℕ → Bool
is_other version None = false
is_other version (Some held) = not (held == version)

-- a version that is held is this one or the one before
abbrev pub IsRecent : ℕ → Option ℕ → Type 0
IsRecent version held = IfSome held (λ v. v ≢ version → v + 1 ≡ version)

-- Of a table: it has contents of its size and option; of each of its two versions as many views are
-- out as handles hold it; no handle was told of a version that is still to come, or holds one
-- before these two; and nothing is staged if it is unregistered.
pub record IsFilled (handles : List Handle) (contents : List (Option Content))
    (t : Table) : Type 0 where
  pub there : is_open contents t.key ≡ true
  pub size : (content_at contents t.key).size ≡ t.size
  pub option : (content_at contents t.key).option ≡ t.option
  pub views : (content_at contents t.key).present.views ≡
      count_by (λ h. h.table == t.number && is_this (content_at contents t.key).version h.held)
      handles
  pub older_views : (older_in (content_at contents t.key).next).views ≡
      count_by (λ h. h.table == t.number && is_other (content_at contents t.key).version h.held)
      handles
  pub told : All (λ h. h.table ≡ t.number → h.told ≤ (content_at contents t.key).version) handles
  pub recent : All (λ h. h.table ≡ t.number → IsRecent (content_at contents t.key).version h.held)
      handles
  pub unstaged : is_live handles t.number ≡ false →
      is_staged (content_at contents t.key).next ≡ false

pub record Keeps (a : Inside) : Type 0 where
  -- the registry and the contents have the room that the limits ask for
  pub table_room : a.registry.table_room ≡ (limits_of a.config).tables
  pub handle_room : a.registry.handle_room ≡ (limits_of a.config).handles
  pub content_room : length a.blocks.tables ≡ (limits_of a.config).tables
  pub most : a.blocks.most ≡ (limits_of a.config).tablemax
  pub pool_bytes : a.blocks.pool.bytes ≡ (limits_of a.config).tablepool
  pub pool_sizes : a.blocks.pool.sizes ≡ (limits_of a.config).sizes
  -- the blocks that are out are those of the tables
  pub account : IsAccountOf a.blocks.pool (state.account_of (limits_of a.config) (means a))
  -- each table has rules that fit its size, a handle and its contents, and there are no other
  -- contents
  pub fit : All (λ t. has_misfit t.size t.rules ≡ false) a.registry.tables
  pub had : AllHaveHandles a.registry
  -- a handle with a table's number is that table's
  pub owners : All (λ h. All (λ t. h.number ≡ t.number → h.table ≡ t.number) a.registry.tables)
      a.registry.handles
  pub filled : All (IsFilled a.registry.handles a.blocks.tables) a.registry.tables
  pub known : (key : ℕ) → is_open a.blocks.tables key ≡ true →
      IsSome (table_at a.registry.tables key)
