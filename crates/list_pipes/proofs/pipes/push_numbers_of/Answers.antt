-- One pipe further.
use Rattle.std.proofs.Common.{cond, eqb, []}
use Rattle.bus_words.specs.Bus.{Pipe}
use Rattle.list_pipes.specs.Leaving.{numbers_on}
use Rattle.list_pipes.proofs.Places.{left_more}
use Rattle.list_pipes.proofs.pipes.push_numbers_of.Goals as goal

pub loop-pipe-preserved : goal.loop-pipe-preserved
loop-pipe-preserved c =
    left_more (λ (p : Pipe). cond (eqb p.owner c.args.app) (numbers_on p) []) c.args.pipes.now c.loop-pipe.pipe-index c.pipe-item.result _ _ _ c.loop-pipe-test.true c.pipe-item.is c.in_ok-push_numbers_of.ensures c.loop-pipe.invariant
