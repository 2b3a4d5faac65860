use Rattle.std.proofs.Common.{ap, sym, subst, ◌∙◌, refl}
use Rattle.std.specs.Vec.{vec_capacity}
use Rattle.table_blocks.specs.Contents.{is_open, content_at, is_double, is_staged, staged_in, with_value}
use Rattle.table_blocks.specs.Blocks.{Stored}
use Rattle.table_blocks.specs.Inside.{IsStore}
use Rattle.table_blocks.proofs.Store.{store_double, store_freed, beside_idle}
use Rattle.table_blocks.proofs.blocks.TableBlocks.update.Goals as goal

pub invariant_of-self : goal.invariant_of-self
invariant_of-self c =
    let s = c.self.inside in
    let key = c.args.key in
    let old = s.tables.items in
    let here = content_at old key in
    let room = vec_capacity s.work in
    let there = ap (λ (x : Stored). is_open x.tables key) c.self.view_is ∙ c.requires.open in
    let double = sym (c.is_double.ensures ∙ ap is_double c.table_at.ensures) ∙ c.if-is_double.true in
    subst (λ l. IsStore s.memory s.most l s.work.items room) (sym c.exchange.ensures.after)
    (store_double s.memory s.most key old s.work.items room c.self.invariant there (with_value here (content_at c.exchange.new.tables.items key).present.loan ((staged_in here.next).bytes)) double (record { size = refl; option = refl; first = refl; second = refl; whole = refl }))

pub invariant_of-self-2 : goal.invariant_of-self-2
invariant_of-self-2 c =
    let s = c.self.inside in
    let key = c.args.key in
    let old = s.tables.items in
    let here = content_at old key in
    let room = vec_capacity s.work in
    let there = ap (λ (x : Stored). is_open x.tables key) c.self.view_is ∙ c.requires.open in
    let single = sym (c.is_double.ensures ∙ ap is_double c.table_at.ensures) ∙ c.if-is_double.false in
    let staged = ap (λ (x : Stored). is_staged (content_at x.tables key).next) c.self.view_is ∙ c.requires.staged in
    let buffer = c.copy_over-buffer.result in
    subst (λ l. IsStore s.memory s.most l c.push_reserved.new.self.items (vec_capacity c.push_reserved.new.self)) (sym c.copy_over-buffer.ensures.after)
    (store_freed s.memory s.most key old s.work.items room c.self.invariant there (with_value here (content_at c.copy_over-buffer.new.tables.items key).present.loan ((staged_in here.next).bytes)) c.push_reserved.new.self.items buffer (vec_capacity c.push_reserved.new.self) single staged (record { size = refl; option = refl; first = refl; second = refl; whole = refl }) (beside_idle here here.present) c.copy_over-buffer.ensures.buffer c.push_reserved.ensures.items c.push_reserved.ensures.capacity)
