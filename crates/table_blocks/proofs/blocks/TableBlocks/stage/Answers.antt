use Rattle.std.proofs.Common.{◌≡◌, ap, sym, subst, ◌∙◌, ◌++◌, arith, refl, length, Some}
use Rattle.std.specs.Vec.{vec_capacity}
use Rattle.std.specs.Option.{option_to_list}
use Rattle.std.proofs.lemmas.List.Elements.{All-pop}
use Rattle.table_blocks.specs.Contents.{is_open, content_at, is_double, is_staged, staged_by}
use Rattle.table_blocks.specs.Blocks.{Stored}
use Rattle.table_blocks.specs.Inside.{IsStore}
use Rattle.table_blocks.proofs.Store.{held_here, store_double, store_taken}
use Rattle.table_blocks.proofs.blocks.TableBlocks.stage.Goals as goal

pub invariant_of-self : goal.invariant_of-self
invariant_of-self c =
    let s = c.self.inside in
    let key = c.args.key in
    let old = s.tables.items in
    let here = content_at old key in
    let room = vec_capacity s.work in
    let there = ap (λ (x : Stored). is_open x.tables key) c.self.view_is ∙ c.requires.open in
    let double = sym (c.is_double.ensures ∙ ap is_double c.table_at.ensures) ∙ c.if-is_double.true in
    subst (λ l. IsStore s.memory s.most l s.work.items room) (sym c.stage_inactive.ensures.after)
    (store_double s.memory s.most key old s.work.items room c.self.invariant there (staged_by here c.args.offset c.args.bytes.now here.present.whole) double (record { size = refl; option = refl; first = refl; second = refl; whole = refl }))

pub stage_in-requires-clause-room : goal.stage_in-requires-clause-room
stage_in-requires-clause-room c =
    let s = c.self.inside in
    let key = c.args.key in
    let old = s.tables.items in
    let here = content_at old key in
    let room = vec_capacity s.work in
    let there = ap (λ (x : Stored). is_open x.tables key) c.self.view_is ∙ c.requires.open in
    let buffer = c.unwrap-buffer.result in
    let popped = c.pop.ensures.items ∙ ap (λ o. c.pop.new.self.items ++ option_to_list o) c.unwrap-buffer.ensures in
    omega (arith, (held_here s.memory s.most key old s.work.items room c.self.invariant there).small, (All-pop (λ bytes. length bytes ≡ s.most) s.work.items c.pop.new.self.items (Some buffer) popped c.self.invariant.whole).1)

pub invariant_of-self-2 : goal.invariant_of-self-2
invariant_of-self-2 c =
    let s = c.self.inside in
    let key = c.args.key in
    let old = s.tables.items in
    let here = content_at old key in
    let room = vec_capacity s.work in
    let there = ap (λ (x : Stored). is_open x.tables key) c.self.view_is ∙ c.requires.open in
    let single = sym (c.is_double.ensures ∙ ap is_double c.table_at.ensures) ∙ c.if-is_double.false in
    let idle = ap (λ (x : Stored). is_staged (content_at x.tables key).next) c.self.view_is ∙ c.requires.not_staged in
    let buffer = c.unwrap-buffer.result in
    let popped = c.pop.ensures.items ∙ ap (λ o. c.pop.new.self.items ++ option_to_list o) c.unwrap-buffer.ensures in
    subst (λ l. IsStore s.memory s.most l c.pop.new.self.items (vec_capacity c.pop.new.self)) (sym c.stage_in.ensures.after)
    (store_taken s.memory s.most key old s.work.items room c.self.invariant there (staged_by here c.args.offset c.args.bytes.now (length buffer)) c.pop.new.self.items buffer (vec_capacity c.pop.new.self) single idle (record { size = refl; option = refl; first = refl; second = refl; whole = refl }) refl refl popped c.pop.ensures.capacity)
