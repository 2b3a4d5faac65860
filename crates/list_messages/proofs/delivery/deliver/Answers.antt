-- One subscription further.
use Rattle.std.proofs.Common.{◌∙◌}
use Rattle.list_messages.proofs.Deliveries.{pipes_more, reached_more, joined_more, gone_more, misses_more}
use Rattle.list_messages.proofs.delivery.deliver.Goals as goal

pub loop-sub-preserved : goal.loop-sub-preserved
loop-sub-preserved c =
    let sending = c.args.sending.now in
    let subs = c.args.subs.now in
    let i = c.loop-sub.sub-index in
    let sub = c.sub-item.result in
    let is = c.sub-item.is in
    let pipes = c.loop-sub.pipes.items in
    let at = c.loop-sub.invariant in
    let made = c.in_ok-offer.ensures in
    record {
      pipes = pipes_more sending subs i sub pipes _ c.loop-sub-test.true is made.pipes _ at.pipes;
      number = made.number ∙ at.number;
      reached = reached_more sending subs i sub pipes _ c.loop-sub-test.true is made.pipes _ _ _ made.reached at.reached;
      misses = misses_more sending subs i sub pipes _ c.loop-sub-test.true is made.pipes _ _ _ made.misses at.misses;
      gone = gone_more sending subs i sub pipes _ c.loop-sub-test.true is made.pipes _ _ _ made.gone at.gone;
      joined = joined_more sending subs i sub pipes _ c.loop-sub-test.true is made.pipes _ _ _ made.joined at.joined;
    }
