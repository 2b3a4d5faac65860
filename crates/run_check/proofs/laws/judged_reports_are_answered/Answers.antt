use Rattle.run_check.proofs.Judgements.{judged_is_answered}
use Rattle.run_check.proofs.laws.judged_reports_are_answered.Goals as goal

pub returns : goal.returns
returns c = judged_is_answered
