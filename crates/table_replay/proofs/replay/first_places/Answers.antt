use Rattle.std.proofs.Common.{arith}
use Rattle.table_replay.proofs.replay.first_places.Goals as goal

pub returns : goal.returns
returns c = λ app one few. c.loop-number.invariant.there app one (omega (arith, few))
