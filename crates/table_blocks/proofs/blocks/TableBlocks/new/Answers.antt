-- No table is open, and all four working buffers are there.
use Rattle.std.proofs.Common.{ap, ◌∙◌, arith}
use Rattle.table_blocks.specs.Contents.{kept_at}
use Rattle.table_blocks.specs.Blocks.{buffers_taken}
use Rattle.table_blocks.proofs.NewStores.{none_kept, none_taken}
use Rattle.table_blocks.proofs.blocks.TableBlocks.new.Goals as goal

pub invariant_of-result : goal.invariant_of-result
invariant_of-result c = record {
  held = λ key content is. absurd (let none = ap (λ tables. kept_at tables key) c.in_ok-rows.ensures ∙ none_kept c.args.tables key in cc);
  buffers = omega (arith, c.in_ok-buffers.ensures.four, ap buffers_taken c.in_ok-rows.ensures, none_taken c.args.tables);
  room = omega (arith, c.in_ok-buffers.ensures.room);
  whole = c.in_ok-buffers.ensures.whole;
}
