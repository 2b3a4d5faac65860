-- The blocks in which the tables lie, told by the state: each table has its own; its present value
-- lies in one of them, what is held of an older version in the other, and a staged value in the
-- other one too, or in a working buffer.
use Rattle.std.specs.Prelude.{◌≡◌, ℕ, ◌+◌, ◌==◌, ◌&&◌, Bool, true, false, List, count_by, All, Option, Some, None, IfSome}
use Rattle.es_pool.specs.Pool.{PoolState}
use Rattle.tbl_words.specs.Tables.{Table, Handle, Hold, Staged, table_at, is_other, buffers_taken}
use Rattle.table_blocks.specs.declared.next.Next.{Next}
use Rattle.table_blocks.specs.declared.next.Next.TheVariants as places
use Rattle.table_blocks.specs.Blocks.{Stored, IsPlaced, has_block}
use Rattle.table_blocks.specs.Contents.{Content, older_in, version_at, is_open, content_at}
use Rattle.table_core.specs.Core.{Plain, HoldsVersion, loan_of}

-- the staged value that lies beside a present one
abbrev pub staged_of : Next → Option Staged
staged_of places.Nothing = None
staged_of (places.Inactive version) = None
staged_of (places.Staged staged) =
    Some (record { value = staged.bytes; validated = staged.validated })

-- whether this version is what is held
abbrev pub is_version : ℕ → Option Hold → Bool
is_version version None = false
is_version version (Some hold) = hold.version == version

-- What is kept for a table is the table's: its present value, in one sealed block, of which as many
-- views are out as handles hold it; of the version in the other block as many as handles hold one
-- before; what a handle holds has the bytes of the block in which that version lies; its staged
-- value; and its blocks are out of the pool, two if it is double buffered, of the smallest size
-- that is large enough.
pub record IsInBlocks (b : Stored) (handles : List Handle) (t : Table) (c : Content) : Type 0 where
  pub size : c.size ≡ t.size
  pub option : c.option ≡ t.option
  pub version : c.version ≡ t.version
  pub present : c.present.bytes ≡ t.value
  pub views : c.present.views ≡
      count_by (λ h. h.table == t.number && is_version t.version h.hold) handles
  pub older_views : (older_in c.next).views ≡
      count_by (λ h. h.table == t.number && is_other t.version h.hold) handles
  pub held : All
      (λ h. h.table ≡ t.number →
      IfSome h.hold (λ hold. hold.value ≡ (version_at c hold.version).bytes)) handles
  pub staged : staged_of c.next ≡ t.staged
  pub placed : IsPlaced b.pool c

-- the table of a number is kept under a key
abbrev pub IsKeptAt : Stored → Plain → (ℕ → ℕ) → ℕ → Table → Type 0
IsKeptAt b core key number t =
    (is_open b.tables (key number) ≡ true) ×
    IsInBlocks b core.state.handles t (content_at b.tables (key number))

-- Each table is kept under a key, no two have a block in common, and nothing else is kept; what a
-- handle holds it was lent by the loan of the block in which that version lies; and as many of the
-- four working buffers are taken as single-buffered tables have a staged value.
pub record AreTableBlocks (b : Stored) (core : Plain) : Type 0 where
  pub key : ℕ → ℕ
  pub each : (number : ℕ) (t : Table) → table_at core.state.tables number ≡ Some t →
      IsKeptAt b core key number t
  pub own : (number other block : ℕ) (t its : Table) → table_at core.state.tables number ≡ Some t →
      table_at core.state.tables other ≡ Some its →
      has_block b.tables (key number) block ≡ true → has_block b.tables (key other) block ≡ true →
      number ≡ other
  pub others : (at : ℕ) → is_open b.tables at ≡ true → (number : ℕ) ×
      ((t : Table) × ((table_at core.state.tables number ≡ Some t) × (key number ≡ at)))
  pub lent : (number table version : ℕ) → HoldsVersion core.state.handles number table version →
      loan_of core.lent number ≡ (version_at (content_at b.tables (key table)) version).loan
  pub buffers : b.free + buffers_taken core.state.tables ≡ 4

-- a pool is that of the blocks in which the tables lie
pub record IsTablePool (core : Plain) (pool : PoolState) : Type 0 where
  pub blocks : Stored
  pub are : AreTableBlocks blocks core
  pub is : pool ≡ blocks.pool
