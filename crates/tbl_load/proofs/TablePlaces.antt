-- The blocks in which the tables of the history lie are those of the core's tables.
use Rattle.std.proofs.Common.{◌≡◌, ℕ, true, Option, Some, None, List, is_some, refl, ap, sym, ◌∙◌, subst}
use Rattle.std.specs.Option.{IsSomeAnd, option_map, option_and_then}
use Rattle.es_pool.specs.Pool.{PoolState}
use Rattle.tbl_words.specs.Holds.{hold_of}
use Rattle.tbl_words.specs.Tables.{Handle, Hold, State, handle_at}
use Rattle.table_blocks.specs.Blocks.{Stored}
use Rattle.table_core.specs.Blocks.{AreTableBlocks, IsTablePool}
use Rattle.table_core.specs.Core.{HoldsVersion, loan_of}
use Rattle.tbl_load.specs.declared.tables.TblCore.TheInside.{Inside}
use Rattle.tbl_load.specs.Bags.{lent_tables, loans_of}
use Rattle.tbl_load.specs.Core.{state_of}
use Rattle.tbl_load.specs.Inside.{core_of, Stands}
use Rattle.tbl_load.specs.Notes.{noted}
use Rattle.tbl_load.proofs.Dues.{told_each}

-- a handle that holds a version holds something
holds_some : (handles : List Handle) (n table version : ℕ) → HoldsVersion handles n table version → is_some (hold_of handles n) ≡ true
holds_some handles n table version its = by_found (handle_at handles n) its
  where
    by_hold : (o : Option Hold) → option_map (λ (hold : Hold). hold.version) o ≡ Some version → is_some o ≡ true
    by_hold None never = absurd (cc (never))
    by_hold (Some hold) is = refl

    by_found : (o : Option Handle) → IsSomeAnd o (λ (h : Handle). (h.table ≡ table) × (option_map (λ (hold : Hold). hold.version) h.hold ≡ Some version)) → is_some (option_and_then (λ (h : Handle). h.hold) o) ≡ true
    by_found None never = absurd never
    by_found (Some h) its = by_hold h.hold its.1

pub blocks_of_history : (a : Inside) → Stands a → (b : Stored) → AreTableBlocks b a.core → AreTableBlocks b (lent_tables (core_of a))
blocks_of_history a stands b told =
    let T : State → Type 0 = λ s. AreTableBlocks b (record a.core { state = s }) in
    let are = subst T stands.state told in
    record {
      key = are.key;
      each = are.each;
      own = are.own;
      others = are.others;
      lent = λ number table version holds. noted_so number table version holds ∙ are.lent number table version holds;
      buffers = are.buffers;
    }
  where
    noted_so : (number table version : ℕ) → HoldsVersion (state_of (core_of a)).handles number table version → loan_of (loans_of (core_of a)) number ≡ loan_of a.core.lent number
    noted_so number table version holds =
        let handles = (state_of (core_of a)).handles in
        let some = holds_some handles number table version holds in
        told_each (λ k. noted k a.noted.log.entries a.noted.notes) handles number some
        ∙ sym (stands.loans number (ap (λ (s : State). is_some (hold_of s.handles number)) stands.state ∙ some))

pub pool_of_history : (a : Inside) → Stands a → (pool : PoolState) → IsTablePool a.core pool → IsTablePool (lent_tables (core_of a)) pool
pool_of_history a stands pool told = record { blocks = told.blocks; are = blocks_of_history a stands told.blocks told.are; is = told.is }
