use Rattle.std.proofs.Common.{◌≤◌, ap, sym, subst, ◌∙◌}
use Rattle.std.specs.Vec.{vec_capacity}
use Rattle.table_blocks.specs.Contents.{is_open, content_at, version_at}
use Rattle.table_blocks.specs.Blocks.{Stored}
use Rattle.table_blocks.specs.Inside.{IsStore}
use Rattle.table_blocks.proofs.Store.{store_back}
use Rattle.table_blocks.proofs.blocks.TableBlocks.give_back.Goals as goal

pub invariant_of-self : goal.invariant_of-self
invariant_of-self c =
    let s = c.self.inside in
    let key = c.args.key in
    let old = s.tables.items in
    let here = content_at old key in
    let room = vec_capacity s.work in
    let there = ap (λ (x : Stored). is_open x.tables key) c.self.view_is ∙ c.requires.open in
    let some = subst (λ (x : Stored). 1 ≤ (version_at (content_at x.tables key) c.args.version).views) (sym c.self.view_is) c.requires.some in
    subst (λ l. IsStore s.memory s.most l s.work.items room) (sym c.return_view.ensures.after)
    (store_back s.memory s.most key old s.work.items room c.self.invariant there c.args.version some)
