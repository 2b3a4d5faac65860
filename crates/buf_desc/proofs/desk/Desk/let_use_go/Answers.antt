use Rattle.std.proofs.Common.{set, sym, ap, ◌∙◌}
use Rattle.std.specs.Vec.{vec_capacity}
use Rattle.es_pool.specs.Pool.{PoolState, given_back}
use Rattle.buf_desc.specs.Desk.{Buffers, after_use}
use Rattle.buf_desc.specs.Slots.{slot_at, is_sealed}
use Rattle.buf_desc.specs.declared.slot.Slot.TheVariants.{Free}
use Rattle.buf_desc.proofs.Keeps.{kept_reopened, reopened_out, all_whole}
use Rattle.buf_desc.proofs.Uses.{opened, use_kept, use_ended}
use Rattle.buf_desc.proofs.desk.Desk.let_use_go.Goals as goal

pub invariant_of-self : goal.invariant_of-self
invariant_of-self g c =
    let s = c.self.inside in
    let sealed = ap (λ (b : Buffers). is_sealed (slot_at b.slots c.args.desc)) c.self.view_is ∙ c.requires.sealed in
    let out = reopened_out s.pool s.slots.items s.rest (vec_capacity s.slots) c.args.desc c.self.invariant sealed in
    let free = opened s.slots.items c.let_use_go.new.slots.items c.reopen.new.slots.items c.args.desc _ sealed c.let_use_go.ensures.after c.reopen.ensures.after in
    kept_reopened s.pool c.take_back.new.self s.slots.items c.reopen.new.slots.items s.rest (vec_capacity s.slots) (vec_capacity c.reopen.new.slots) c.args.desc c.self.invariant sealed free (c.reopen.ensures.capacity ∙ c.let_use_go.ensures.capacity)
    c.take_back.ensures.given_back

pub returns-then-let_use_go-clause-after : goal.returns-then-let_use_go-clause-after
returns-then-let_use_go-clause-after g c =
    let s = c.self.inside in
    let d = c.args.desc in
    let sealed = ap (λ (b : Buffers). is_sealed (slot_at b.slots d)) c.self.view_is ∙ c.requires.sealed in
    let out = reopened_out s.pool s.slots.items s.rest (vec_capacity s.slots) d c.self.invariant sealed in
    let free = opened s.slots.items c.let_use_go.new.slots.items c.reopen.new.slots.items d _ sealed c.let_use_go.ensures.after c.reopen.ensures.after in
    let whole = all_whole s.pool s.slots.items s.rest (vec_capacity s.slots) c.self.invariant d sealed in
    let pool = c.take_back.ensures.given_back in
    ap (λ (p : PoolState). record { pool = p; slots = c.reopen.new.slots.items }) pool
    ∙ (ap (λ l. record { pool = given_back s.pool d; slots = l }) (free ∙ ap (λ n. set s.slots.items d (Free n)) whole)
    ∙ (use_ended s.pool s.slots.items d sealed (sym c.let_use_go.ensures.last ∙ c.if-let_use_go.true)
    ∙ ap (λ (b : Buffers). after_use b d) c.self.view_is))

pub returns-else-let_use_go-clause-after : goal.returns-else-let_use_go-clause-after
returns-else-let_use_go-clause-after g c =
    let s = c.self.inside in
    let d = c.args.desc in
    let sealed = ap (λ (b : Buffers). is_sealed (slot_at b.slots d)) c.self.view_is ∙ c.requires.sealed in
    ap (λ l. record { pool = s.pool; slots = l }) c.let_use_go.ensures.after
    ∙ (use_kept s.pool s.slots.items d sealed (sym c.let_use_go.ensures.last ∙ c.if-let_use_go.false)
    ∙ ap (λ (b : Buffers). after_use b d) c.self.view_is)
