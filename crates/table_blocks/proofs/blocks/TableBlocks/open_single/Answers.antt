use Rattle.std.proofs.Common.{ap, sym, subst, ◌∙◌, ◌<◌, ◌≤◌, arith, refl, length, set, Some}
use Rattle.std.specs.Vec.{vec_capacity}
use Rattle.table_blocks.specs.Contents.{is_open}
use Rattle.table_blocks.specs.Blocks.{Stored}
use Rattle.table_blocks.specs.Inside.{IsStore}
use Rattle.table_blocks.proofs.Store.{held_taken}
use Rattle.table_blocks.proofs.TableOpenings.{single_of, held_single, store_opened}
use Rattle.table_blocks.proofs.blocks.TableBlocks.open_single.Goals as goal

pub invariant_of-self : goal.invariant_of-self
invariant_of-self g c =
    let s = c.self.inside in
    let key = c.args.key in
    let old = s.tables.items in
    let new = c.draw.new.self in
    let taken = c.in-Ok.ensures.taken in
    let whole = length c.in-Ok.space in
    let loan = c.single-table.result.present.loan in
    let h : key < length old = omega (arith, c.requires.key, ap (λ (x : Stored). length x.tables) c.self.view_is) in
    let small : c.args.size ≤ s.most = omega (arith, c.requires.small, ap (λ (x : Stored). x.most) c.self.view_is) in
    let none = ap (λ (x : Stored). is_open x.tables key) c.self.view_is ∙ c.requires.new in
    subst (λ l. IsStore new s.most l s.work.items (vec_capacity s.work)) (sym (c.put_table.ensures.after ∙ ap (λ x. set old key (Some x)) c.single-table.ensures))
    (store_opened s.memory new s.most key old s.work.items (vec_capacity s.work) (single_of c.args.size c.args.option c.in-Ok.block loan whole) c.self.invariant h none refl
    (λ i d. held_taken s.memory new s.most i key c.args.size c.in-Ok.block whole d taken)
    (held_single s.memory new s.most key c.args.size c.args.option c.in-Ok.block whole loan taken small c.requires.single))
