use Rattle.app_run.proofs.TurnConditions.{first}
use Rattle.app_run.proofs.runner.Runner.new.Goals as goal

pub returns-clause-may_turn : goal.returns-clause-may_turn
returns-clause-may_turn c = λ caller are. first c.args.script.now _ caller are
