use Rattle.std.proofs.Common.{◌≡◌, ℕ, true, subst}
use Rattle.std.specs.Vec.{vec_capacity}
use Rattle.es_pool.specs.Pool.{is_out}
use Rattle.table_blocks.specs.Memory.{Memory, slot_at}
use Rattle.table_blocks.specs.declared.slot.Slot.TheVariants.{Taken}
use Rattle.table_blocks.proofs.Keeps.{taken_out}
use Rattle.table_blocks.proofs.memory.PoolMemory.recall_taken.Goals as goal

pub returns : goal.returns
returns c =
    let s = c.self.inside in
    subst (λ (m : Memory). (block key : ℕ) → slot_at m.slots block ≡ Taken key → is_out m.pool block ≡ true) c.self.view_is
    (λ block key e. taken_out s.pool s.slots.items _ (vec_capacity s.slots) block key c.self.invariant e)
