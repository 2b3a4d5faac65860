-- What all tables contain, as their user sees it: the pool with its account, each table by its key,
-- and the working buffers.
use Rattle.std.specs.Prelude.{◌≡◌, ◌≢◌, ℕ, ◌+◌, ◌-◌, ◌≤◌, ◌==◌, ◌&&◌, ◌||◌, not, Bool, true, false, List, length, count_by, replicate, slice_set, if◌then◌else◌, Option, Some, None}
use Rattle.std.specs.Option.{option_map_or}
use Rattle.fsw_base.specs.Blocks.{class_of}
use Rattle.es_pool.specs.Pool.{PoolState, is_out, class_at}
use Rattle.table_blocks.specs.Memory.{DrawsEach, all_given_back}
use Rattle.table_blocks.specs.Contents.{Content, is_double, is_staged, is_inactive, staged_in, older_in, blocks_of, is_open, content_at, staged_by, without_staged, with_value}

-- the pool of the tables, the bytes of the largest table, what is kept for each table by its key,
-- and how many working buffers are free
pub record Stored : Type 0 where
  pub pool : PoolState
  pub most : ℕ
  pub tables : List (Option Content)
  pub free : ℕ

-- whether a table has a working buffer: it is single buffered, and a value is staged
abbrev pub has_buffer : Option Content → Bool
has_buffer kept = option_map_or (λ c. not (is_double c) && is_staged c.next) kept false

-- how many working buffers the tables have
abbrev pub buffers_taken : List (Option Content) → ℕ
buffers_taken tables = count_by has_buffer tables

-- what is kept for one table is this
abbrev pub with_content : Stored → ℕ → Content → Stored
with_content s key c = record s { tables = slice_set s.tables key (Some c) }

-- A table was opened: its blocks were drawn, and it has zeros, version 0, no view out and nothing
-- staged.
pub record Opens (old new : Stored) (key size option : ℕ) (c : Content) : Type 0 where
  pub kept : new ≡ record (with_content old key c) { pool = new.pool }
  pub drawn : DrawsEach old.pool new.pool size (blocks_of c)
  pub same_size : c.size ≡ size
  pub same_option : c.option ≡ option
  pub version : c.version ≡ 0
  pub zeros : c.present.bytes ≡ replicate size 0
  pub no_view : c.present.views ≡ 0
  pub no_older_view : (older_in c.next).views ≡ 0
  pub not_staged : is_staged c.next ≡ false

-- a table was closed: its blocks are the pool's again
abbrev pub closed : Stored → ℕ → Stored
closed s key =
    record s {
      pool = all_given_back s.pool (blocks_of (content_at s.tables key));
      tables = slice_set s.tables key None;
    }

-- a value is staged: in the inactive block of a double-buffered table, else in a working buffer,
-- which is then taken
abbrev pub after_stage : Stored → ℕ → ℕ → List ℕ → Stored
after_stage s key offset bytes =
    if is_double (content_at s.tables key)
    then with_content s key
    (staged_by (content_at s.tables key) offset bytes (content_at s.tables key).present.whole)
    else record (with_content s key (staged_by (content_at s.tables key) offset bytes s.most))
    { free = s.free - 1 }

-- how many working buffers are free once a table gave back the one it had
abbrev pub free_after : Stored → ℕ → ℕ
free_after s key = if is_double (content_at s.tables key) then s.free else s.free + 1

-- a staged value is dropped, and its working buffer is free
abbrev pub after_abort : Stored → ℕ → ℕ → Stored
after_abort s key loan =
    record (with_content s key (without_staged (content_at s.tables key) loan))
    { free = free_after s key }

-- the staged value is the present one, and its working buffer is free
abbrev pub after_update : Stored → ℕ → ℕ → Stored
after_update s key loan =
    record (with_content s key
    (with_value (content_at s.tables key) loan
    (staged_in (content_at s.tables key).next).bytes)) { free = free_after s key }

-- Where a table lies: its blocks are out of the pool and of the smallest size that is large enough,
-- and a double-buffered table has two.
pub record IsPlaced (pool : PoolState) (c : Content) : Type 0 where
  pub first_out : is_out pool c.first ≡ true
  pub second_out : is_out pool c.second ≡ true
  pub first_class : class_of c.size pool.sizes ≡ Some (class_at pool c.first)
  pub second_class : class_of c.size pool.sizes ≡ Some (class_at pool c.second)
  pub apart : is_double c ≡ true → c.first ≢ c.second

-- whether a block of the pool is that of the table of a key
abbrev pub has_block : List (Option Content) → ℕ → ℕ → Bool
has_block tables key block =
    is_open tables key &&
    ((content_at tables key).first == block || (content_at tables key).second == block)

-- What is always true of what is kept for a table: it is no larger than a working buffer, its
-- values have its size, nothing lies beside the present version of a single-buffered table but a
-- staged value, its blocks are out of the pool and of the smallest size that is large enough, and a
-- double-buffered table has two.
pub record IsWhole (pool : PoolState) (most : ℕ) (c : Content) : Type 0 where
  pub small : c.size ≤ most
  pub present : length c.present.bytes ≡ c.size
  pub staged : is_staged c.next ≡ true → length (staged_in c.next).bytes ≡ c.size
  pub inactive : is_staged c.next ≡ false → is_inactive c.next ≡ is_double c
  pub first_out : is_out pool c.first ≡ true
  pub second_out : is_out pool c.second ≡ true
  pub first_class : class_of c.size pool.sizes ≡ Some (class_at pool c.first)
  pub second_class : class_of c.size pool.sizes ≡ Some (class_at pool c.second)
  pub apart : is_double c ≡ true → c.first ≢ c.second
