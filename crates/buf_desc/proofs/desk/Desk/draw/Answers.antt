use Rattle.std.proofs.Common.{◌-◌, ◌<◌, length, ap, ◌∙◌, arith, refl}
use Rattle.std.specs.Vec.{vec_capacity}
use Rattle.std.proofs.lemmas.List.{length-take-le}
use Rattle.buf_desc.specs.Block.{Unsent as UnsentBlock}
use Rattle.buf_desc.proofs.Keeps.{reused, cut_off, taken_again, taken_new, kept_at, own_again, own_new}
use Rattle.buf_desc.proofs.desk.Desk.draw.Goals as goal

pub new-requires : goal.new-requires
new-requires g c =
    let s = c.self.inside in
    let done = reused s.pool c.try_draw.new.self s.slots.items s.rest (vec_capacity s.slots) c.args.size c.in-Some.desc c.args.number c.self.invariant c.in-Some.ensures.drawn c.in-Some.ensures.was_not_out (omega (arith, c.if-desc-len.true, c.len.ensures, s.slots.ok)) in
    record { within = omega (arith, done.enough, c.take_free-space.ensures.size) }

pub invariant_of-self : goal.invariant_of-self
invariant_of-self g c =
    let s = c.self.inside in
    let done = reused s.pool c.try_draw.new.self s.slots.items s.rest (vec_capacity s.slots) c.args.size c.in-Some.desc c.args.number c.self.invariant c.in-Some.ensures.drawn c.in-Some.ensures.was_not_out (omega (arith, c.if-desc-len.true, c.len.ensures, s.slots.ok)) in
    kept_at c.try_draw.new.self _ c.take_free-space.new.slots.items s.rest s.rest _ (vec_capacity c.take_free-space.new.slots) c.take_free-space.ensures.after refl c.take_free-space.ensures.capacity done.kept

pub returns-then-desc-len-clause-taken : goal.returns-then-desc-len-clause-taken
returns-then-desc-len-clause-taken g c =
    let s = c.self.inside in
    let h : c.in-Some.desc < length s.slots.items = omega (arith, c.if-desc-len.true, c.len.ensures, s.slots.ok) in
    let done = reused s.pool c.try_draw.new.self s.slots.items s.rest (vec_capacity s.slots) c.args.size c.in-Some.desc c.args.number c.self.invariant c.in-Some.ensures.drawn c.in-Some.ensures.was_not_out h in
    let space = c.take_free-space.result.now in
    taken_again c.args.self.now s.pool c.try_draw.new.self s.slots.items c.take_free-space.new.slots.items s.rest (vec_capacity s.slots) c.args.size c.in-Some.desc c.args.number c.new.result c.self.view_is c.self.invariant c.in-Some.ensures.drawn c.in-Some.ensures.was_not_out h c.take_free-space.ensures.after
    (ap (λ (b : UnsentBlock). b.desc) c.new.ensures) (ap (λ (b : UnsentBlock). b.number) c.new.ensures)
    (ap (λ (b : UnsentBlock). b.size) c.new.ensures ∙ (c.take_free-space.ensures.size ∙ done.whole))
    (ap (λ (b : UnsentBlock). length b.bytes) c.new.ensures ∙ length-take-le c.args.size space (omega (arith, done.enough, c.take_free-space.ensures.size)))

pub new-requires-in-Some : goal.new-requires-in-Some
new-requires-in-Some g c =
    let s = c.self.inside in
    let done = cut_off s.pool c.try_draw.new.self s.slots.items s.rest (vec_capacity s.slots) c.args.size c.in-Some.desc c.args.number c.self.invariant c.recall_whole.ensures c.in-Some.ensures.drawn (omega (arith, c.if-desc-len.false, c.len.ensures, s.slots.ok)) in
    record { within = omega (arith, done.enough, c.cut-space.ensures.size, c.size_of-whole.ensures) }

pub invariant_of-self-in-Some : goal.invariant_of-self-in-Some
invariant_of-self-in-Some g c =
    let s = c.self.inside in
    let done = cut_off s.pool c.try_draw.new.self s.slots.items s.rest (vec_capacity s.slots) c.args.size c.in-Some.desc c.args.number c.self.invariant c.recall_whole.ensures c.in-Some.ensures.drawn (omega (arith, c.if-desc-len.false, c.len.ensures, s.slots.ok)) in
    kept_at c.try_draw.new.self _ c.push_reserved.new.self.items _ c.cut-space.new.self _ (vec_capacity c.push_reserved.new.self) c.push_reserved.ensures.items (c.cut-space.ensures.after ∙ ap (λ n. s.rest - n) c.size_of-whole.ensures) c.push_reserved.ensures.capacity done.kept

pub returns-else-desc-len-clause-taken : goal.returns-else-desc-len-clause-taken
returns-else-desc-len-clause-taken g c =
    let s = c.self.inside in
    let done = cut_off s.pool c.try_draw.new.self s.slots.items s.rest (vec_capacity s.slots) c.args.size c.in-Some.desc c.args.number c.self.invariant c.recall_whole.ensures c.in-Some.ensures.drawn (omega (arith, c.if-desc-len.false, c.len.ensures, s.slots.ok)) in
    let space = c.cut-space.result.now in
    taken_new c.args.self.now s.pool c.try_draw.new.self s.slots.items c.push_reserved.new.self.items c.args.size c.in-Some.desc c.args.number c.new-in-Some.result c.self.view_is c.in-Some.ensures.drawn done.next c.push_reserved.ensures.items
    (ap (λ (b : UnsentBlock). b.desc) c.new-in-Some.ensures) (ap (λ (b : UnsentBlock). b.number) c.new-in-Some.ensures)
    (ap (λ (b : UnsentBlock). b.size) c.new-in-Some.ensures ∙ (c.cut-space.ensures.size ∙ c.size_of-whole.ensures))
    (ap (λ (b : UnsentBlock). length b.bytes) c.new-in-Some.ensures ∙ length-take-le c.args.size space (omega (arith, done.enough, c.cut-space.ensures.size, c.size_of-whole.ensures)))

pub returns-then-desc-len-clause-own : goal.returns-then-desc-len-clause-own
returns-then-desc-len-clause-own g c =
    let s = c.self.inside in
    let h : c.in-Some.desc < length s.slots.items = omega (arith, c.if-desc-len.true, c.len.ensures, s.slots.ok) in
    let done = reused s.pool c.try_draw.new.self s.slots.items s.rest (vec_capacity s.slots) c.args.size c.in-Some.desc c.args.number c.self.invariant c.in-Some.ensures.drawn c.in-Some.ensures.was_not_out h in
    own_again c.try_draw.new.self s.slots.items c.take_free-space.new.slots.items c.in-Some.desc c.args.number c.args.size c.new.result h c.take_free-space.ensures.after
    (ap (λ (b : UnsentBlock). b.desc) c.new.ensures) (ap (λ (b : UnsentBlock). b.number) c.new.ensures)
    (ap (λ (b : UnsentBlock). b.size) c.new.ensures ∙ (c.take_free-space.ensures.size ∙ done.whole))
    (ap (λ (b : UnsentBlock). length b.bytes) c.new.ensures ∙ length-take-le c.args.size c.take_free-space.result.now (omega (arith, done.enough, c.take_free-space.ensures.size)))

pub returns-else-desc-len-clause-own : goal.returns-else-desc-len-clause-own
returns-else-desc-len-clause-own g c =
    let s = c.self.inside in
    let done = cut_off s.pool c.try_draw.new.self s.slots.items s.rest (vec_capacity s.slots) c.args.size c.in-Some.desc c.args.number c.self.invariant c.recall_whole.ensures c.in-Some.ensures.drawn (omega (arith, c.if-desc-len.false, c.len.ensures, s.slots.ok)) in
    own_new c.try_draw.new.self s.slots.items c.push_reserved.new.self.items c.in-Some.desc c.args.number c.args.size c.new-in-Some.result done.next c.push_reserved.ensures.items
    (ap (λ (b : UnsentBlock). b.desc) c.new-in-Some.ensures) (ap (λ (b : UnsentBlock). b.number) c.new-in-Some.ensures)
    (ap (λ (b : UnsentBlock). b.size) c.new-in-Some.ensures ∙ (c.cut-space.ensures.size ∙ c.size_of-whole.ensures))
    (ap (λ (b : UnsentBlock). length b.bytes) c.new-in-Some.ensures ∙ length-take-le c.args.size c.cut-space.result.now (omega (arith, done.enough, c.cut-space.ensures.size, c.size_of-whole.ensures)))
