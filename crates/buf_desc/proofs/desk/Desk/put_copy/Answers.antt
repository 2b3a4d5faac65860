use Rattle.std.proofs.Common.{◌≡◌, ℕ, Option, IfSome, true, false, length, ap, sym, subst, ◌∙◌, arith}
use Rattle.std.specs.Option.{option_map_or}
use Rattle.std.specs.Vec.{vec_capacity}
use Rattle.ccsds_msg.specs.Message.{with_count}
use Rattle.es_pool.specs.Pool.{DrawsFor, is_out, size_at}
use Rattle.buf_desc.specs.Block.{Sealed as SealedBlock}
use Rattle.buf_desc.specs.Desk.{Buffers, placed}
use Rattle.buf_desc.specs.Slots.{slot_at, sealed_in}
use Rattle.buf_desc.specs.declared.slot.Slot.TheVariants.{Sealed}
use Rattle.buf_desc.proofs.Keeps.{kept_at}
use Rattle.buf_desc.proofs.Copies.{drawn, placed_lifted, placed_here}
use Rattle.buf_desc.proofs.desk.Desk.put_copy.Goals as goal

pub sealed_copy-sent-requires-clause-within : goal.sealed_copy-sent-requires-clause-within
sealed_copy-sent-requires-clause-within g c =
    let s = c.self.inside in
    let size = length c.args.bytes.now in
    let draws = subst (λ (r : Option ℕ). IfSome r (DrawsFor s.pool c.try_draw.new.self size)) c.surely_some-desc.ensures c.try_draw.ensures.drawn in
    let was = subst (λ (r : Option ℕ). IfSome r (λ block. is_out s.pool block ≡ false)) c.surely_some-desc.ensures c.try_draw.ensures.was_not_out in
    let out = subst (λ (r : Option ℕ). IfSome r (λ block. is_out c.try_draw.new.self block ≡ true)) c.surely_some-desc.ensures c.try_draw.ensures.is_out in
    let done = drawn s.pool c.try_draw.new.self s.slots.items s.rest (vec_capacity s.slots) size c.surely_some-desc.result c.self.invariant c.recall_whole.ensures draws was out in
    omega (arith, done.enough, c.memory_of-space.ensures.size)

pub invariant_of-self : goal.invariant_of-self
invariant_of-self g c =
    let s = c.self.inside in
    let n = c.surely_some-desc.result in
    let sent = c.sealed_copy-sent.result in
    let size = length c.args.bytes.now in
    let draws = subst (λ (r : Option ℕ). IfSome r (DrawsFor s.pool c.try_draw.new.self size)) c.surely_some-desc.ensures c.try_draw.ensures.drawn in
    let was = subst (λ (r : Option ℕ). IfSome r (λ block. is_out s.pool block ≡ false)) c.surely_some-desc.ensures c.try_draw.ensures.was_not_out in
    let out = subst (λ (r : Option ℕ). IfSome r (λ block. is_out c.try_draw.new.self block ≡ true)) c.surely_some-desc.ensures c.try_draw.ensures.is_out in
    let done = drawn s.pool c.try_draw.new.self s.slots.items s.rest (vec_capacity s.slots) size n c.self.invariant c.recall_whole.ensures draws was out in
    let whole = ap (λ (b : SealedBlock). b.size) c.sealed_copy-sent.ensures ∙ c.memory_of-space.ensures.size in
    let after = c.place_sealed.ensures.after ∙ placed_lifted s.slots.items c.memory_of-space.new.slots.items n (Sealed sent) c.memory_of-space.ensures.lifted in
    kept_at c.try_draw.new.self (placed s.slots.items n (Sealed sent)) c.place_sealed.new.slots.items _ c.memory_of-space.new.rest (vec_capacity s.slots) (vec_capacity c.place_sealed.new.slots) after c.memory_of-space.ensures.left (c.place_sealed.ensures.capacity ∙ c.memory_of-space.ensures.capacity)
    (done.kept sent whole)

pub returns-clause-sealed : goal.returns-clause-sealed
returns-clause-sealed g c =
    let s = c.self.inside in
    let n = c.surely_some-desc.result in
    let sent = c.sealed_copy-sent.result in
    let bytes = c.args.bytes.now in
    let size = length bytes in
    let draws = subst (λ (r : Option ℕ). IfSome r (DrawsFor s.pool c.try_draw.new.self size)) c.surely_some-desc.ensures c.try_draw.ensures.drawn in
    let was = subst (λ (r : Option ℕ). IfSome r (λ block. is_out s.pool block ≡ false)) c.surely_some-desc.ensures c.try_draw.ensures.was_not_out in
    let out = subst (λ (r : Option ℕ). IfSome r (λ block. is_out c.try_draw.new.self block ≡ true)) c.surely_some-desc.ensures c.try_draw.ensures.is_out in
    let done = drawn s.pool c.try_draw.new.self s.slots.items s.rest (vec_capacity s.slots) size n c.self.invariant c.recall_whole.ensures draws was out in
    let after = c.place_sealed.ensures.after ∙ placed_lifted s.slots.items c.memory_of-space.new.slots.items n (Sealed sent) c.memory_of-space.ensures.lifted in
    let here = ap (λ l. slot_at l n) after ∙ placed_here s.slots.items n (Sealed sent) done.next in
    let seal : ℕ → ℕ → SealedBlock = λ whole loan. record { number = c.args.number; asked = size; size = whole; bytes = option_map_or (with_count bytes) c.args.count bytes; uses = 0; loan = loan; views = 0 } in
    let whole = size_at c.try_draw.new.self n in
    let loan = (sealed_in (slot_at c.place_sealed.new.slots.items n)).loan in
    let is : sent ≡ seal whole loan = c.sealed_copy-sent.ensures ∙ (ap (λ w. seal w sent.loan) c.memory_of-space.ensures.size ∙ ap (seal whole) (sym (ap (λ z. (sealed_in z).loan) here))) in
    after ∙ (ap (λ z. placed s.slots.items n (Sealed z)) is ∙ ap (λ (b : Buffers). placed b.slots n (Sealed (seal whole loan))) c.self.view_is)
