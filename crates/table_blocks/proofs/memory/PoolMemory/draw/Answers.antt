use Rattle.std.proofs.Common.{◌-◌, ◌<◌, length, ap, ◌∙◌, arith, refl}
use Rattle.std.specs.Vec.{vec_capacity}
use Rattle.std.proofs.lemmas.List.{length-drop, length-take-le}
use Rattle.table_blocks.proofs.Keeps.{reused, cut_off, kept_at, takes_again, takes_new}
use Rattle.table_blocks.proofs.memory.PoolMemory.draw.Goals as goal

pub invariant_of-self : goal.invariant_of-self
invariant_of-self g c =
    let s = c.self.inside in
    let h : c.in-Ok.block < length s.slots.items = omega (arith, c.if-block-len.true, c.len.ensures, s.slots.ok) in
    let done = reused s.pool c.get.new.self s.slots.items (length s.rest) (vec_capacity s.slots) c.args.size c.in-Ok.block c.args.key c.self.invariant c.in-Ok.ensures.drawn c.in-Ok.ensures.was_not_out h in
    kept_at c.get.new.self _ c.take_free-space.new.slots.items (length s.rest) (length s.rest) _ (vec_capacity c.take_free-space.new.slots) c.take_free-space.ensures.after refl c.take_free-space.ensures.capacity done.kept

pub returns-then-block-len-clause-taken : goal.returns-then-block-len-clause-taken
returns-then-block-len-clause-taken g c =
    let s = c.self.inside in
    let h : c.in-Ok.block < length s.slots.items = omega (arith, c.if-block-len.true, c.len.ensures, s.slots.ok) in
    let done = reused s.pool c.get.new.self s.slots.items (length s.rest) (vec_capacity s.slots) c.args.size c.in-Ok.block c.args.key c.self.invariant c.in-Ok.ensures.drawn c.in-Ok.ensures.was_not_out h in
    let same = ap length c.take_free-space.ensures.space in
    takes_again c.args.self.now s.pool c.get.new.self s.slots.items c.take_free-space.new.slots.items (length s.rest) (vec_capacity s.slots) c.args.key c.args.size c.in-Ok.block (length c.take_free-space.result) c.self.view_is c.self.invariant c.in-Ok.ensures.drawn h done.free c.take_free-space.ensures.after (same ∙ done.whole) (omega (arith, same, done.enough))

pub invariant_of-self-in-Ok : goal.invariant_of-self-in-Ok
invariant_of-self-in-Ok g c =
    let s = c.self.inside in
    let done = cut_off s.pool c.get.new.self s.slots.items (length s.rest) (vec_capacity s.slots) c.args.size c.in-Ok.block c.args.key c.self.invariant c.recall_whole.ensures c.in-Ok.ensures.drawn (omega (arith, c.if-block-len.false, c.len.ensures, s.slots.ok)) in
    kept_at c.get.new.self _ c.push_reserved.new.self.items _ (length c.cut-space.new.self) _ (vec_capacity c.push_reserved.new.self) c.push_reserved.ensures.items (ap length c.cut-space.ensures.after ∙ (length-drop c.size_of-whole.result s.rest ∙ ap (λ n. length s.rest - n) c.size_of-whole.ensures)) c.push_reserved.ensures.capacity done.kept

pub returns-else-block-len-clause-taken : goal.returns-else-block-len-clause-taken
returns-else-block-len-clause-taken g c =
    let s = c.self.inside in
    let done = cut_off s.pool c.get.new.self s.slots.items (length s.rest) (vec_capacity s.slots) c.args.size c.in-Ok.block c.args.key c.self.invariant c.recall_whole.ensures c.in-Ok.ensures.drawn (omega (arith, c.if-block-len.false, c.len.ensures, s.slots.ok)) in
    let cut = ap length c.cut-space.ensures.front ∙ length-take-le c.size_of-whole.result s.rest (omega (arith, c.size_of-whole.ensures, done.within)) in
    takes_new c.args.self.now s.pool c.get.new.self s.slots.items c.push_reserved.new.self.items (length s.rest) (vec_capacity s.slots) c.args.key c.args.size c.in-Ok.block (length c.cut-space.result) c.self.view_is c.self.invariant c.in-Ok.ensures.drawn done.next c.push_reserved.ensures.items (cut ∙ c.size_of-whole.ensures) (omega (arith, cut, c.size_of-whole.ensures, done.enough))
