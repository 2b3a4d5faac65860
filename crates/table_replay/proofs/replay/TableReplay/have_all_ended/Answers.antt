use Rattle.std.proofs.Common.{◌≡◌, rules, length, arith, sym}
use Rattle.table_replay.proofs.Stopping.{each_ended, ended_more, one_not_ended}
use Rattle.table_replay.proofs.replay.TableReplay.have_all_ended.Goals as goal

pub loop-number-preserved : goal.loop-number-preserved
loop-number-preserved c = ended_more c.args.self.now.state c.loop-number.number c.loop-number.invariant (search rules)

pub returns-then-not-has_ended : goal.returns-then-not-has_ended
returns-then-not-has_ended c =
    let same : length c.self.inside.script.now.apps ≡ length c.args.self.now.script.apps = search rules in
    sym (one_not_ended c.args.self.now.state (length c.args.self.now.script.apps) c.loop-number.number (omega arith) (omega (arith, same)) (search rules))

pub returns : goal.returns
returns c =
    let same : length c.self.inside.script.now.apps ≡ length c.args.self.now.script.apps = search rules in
    sym (each_ended c.args.self.now.state (length c.args.self.now.script.apps) (λ app one few. c.loop-number.invariant app one (omega (arith, few, same))))
