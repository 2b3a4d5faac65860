use Rattle.std.proofs.Common.{rules}
use Rattle.table_replay.proofs.Stepping.{steps_nobodys, steps_whole}
use Rattle.table_replay.proofs.replay.TableReplay.step.Goals as goal

pub returns-then-have_all_ended : goal.returns-then-have_all_ended
returns-then-have_all_ended c = λ history at. steps_whole history c.args.self.now c.args.text.now at (search rules)

pub returns-in_ok-wrong_line-in-None : goal.returns-in_ok-wrong_line-in-None
returns-in_ok-wrong_line-in-None c = λ history at.
    steps_nobodys history c.args.self.now c.args.self.now c.args.text.now c.args.text.now c.in_ok-wrong_line-in-None.field-0 at (search rules) (c.in-None.ensures.none (search rules)) (search rules)
