use Rattle.std.proofs.Common.{ap, subst, ◌∙◌}
use Rattle.std.specs.Vec.{vec_capacity}
use Rattle.table_blocks.specs.Contents.{is_open, content_at}
use Rattle.table_blocks.specs.Blocks.{Stored, IsWhole}
use Rattle.table_blocks.proofs.Store.{held_here}
use Rattle.table_blocks.proofs.TableOpenings.{whole_here}
use Rattle.table_blocks.proofs.blocks.TableBlocks.recall_table.Goals as goal

pub returns : goal.returns
returns c =
    let s = c.self.inside in
    let key = c.args.key in
    let here = content_at s.tables.items key in
    let there = ap (λ (x : Stored). is_open x.tables key) c.self.view_is ∙ c.requires in
    let held = held_here s.memory s.most key s.tables.items s.work.items (vec_capacity s.work) c.self.invariant there in
    subst (λ (x : Stored). IsWhole x.pool x.most (content_at x.tables key)) c.self.view_is
    (whole_here s.memory s.most key here c.table_at.result.now c.table_at.ensures held c.recall_taken.ensures c.recall.ensures.present c.recall.ensures.staged c.recall.ensures.inactive)
