use Rattle.std.proofs.Common.{ap, sym, ◌∙◌, length}
use Rattle.std.specs.Vec.{vec_capacity}
use Rattle.es_pool.specs.Pool.{size_at}
use Rattle.table_blocks.specs.Memory.{Memory, slot_at}
use Rattle.table_blocks.proofs.Keeps.{kept_back, taken_out, on_ok}
use Rattle.table_blocks.proofs.memory.PoolMemory.give_back.Goals as goal

pub invariant_of-self : goal.invariant_of-self
invariant_of-self g c =
    let s = c.self.inside in
    let n = c.args.block in
    let own = ap (λ (m : Memory). slot_at m.slots n) c.self.view_is ∙ c.requires.own in
    let whole = c.requires.whole ∙ ap (λ (m : Memory). size_at m.pool n) (sym c.self.view_is) in
    kept_back s.pool c.put.new.self s.slots.items c.put_free.new.slots.items (length s.rest) (vec_capacity s.slots) (vec_capacity c.put_free.new.slots) n c.args.key c.args.space c.self.invariant own whole c.put_free.ensures.after c.put_free.ensures.capacity
    (on_ok c.put.result (c.put.ensures.ok.1 (taken_out s.pool s.slots.items (length s.rest) (vec_capacity s.slots) n c.args.key c.self.invariant own)) c.put.ensures.given_back)
