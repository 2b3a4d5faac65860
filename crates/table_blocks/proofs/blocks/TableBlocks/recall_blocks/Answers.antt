use Rattle.std.proofs.Common.{◌≡◌, ℕ, true, subst}
use Rattle.std.specs.Vec.{vec_capacity}
use Rattle.table_blocks.specs.Contents.{is_open, content_at}
use Rattle.table_blocks.specs.Blocks.{Stored, IsPlaced, has_block}
use Rattle.table_blocks.proofs.Places.{placed, own_blocks}
use Rattle.table_blocks.proofs.blocks.TableBlocks.recall_blocks.Goals as goal

pub returns-clause-placed : goal.returns-clause-placed
returns-clause-placed c =
    let s = c.self.inside in
    subst (λ (x : Stored). (key : ℕ) → is_open x.tables key ≡ true → IsPlaced x.pool (content_at x.tables key)) c.self.view_is
    (placed s.memory s.most s.tables.items s.work.items (vec_capacity s.work) c.self.invariant c.recall_taken.ensures)

pub returns-clause-own : goal.returns-clause-own
returns-clause-own c =
    let s = c.self.inside in
    subst (λ (x : Stored). (key other block : ℕ) → has_block x.tables key block ≡ true → has_block x.tables other block ≡ true → key ≡ other) c.self.view_is
    (own_blocks s.memory s.most s.tables.items s.work.items (vec_capacity s.work) c.self.invariant)
