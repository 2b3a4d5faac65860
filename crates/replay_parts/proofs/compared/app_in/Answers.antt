use Rattle.std.proofs.Common.{arith}
use Rattle.replay_parts.proofs.Heads.{none_more}
use Rattle.replay_parts.proofs.compared.app_in.Goals as goal

pub loop-number-preserved : goal.loop-number-preserved
loop-number-preserved c = none_more c.args.text.now c.loop-number.number c.is_app.result c.loop-number.invariant c.is_app.ensures c.if-is_app.false

pub returns-clause-none : goal.returns-clause-none
returns-clause-none c = λ none app one few. c.loop-number.invariant app one (omega (arith, few))
