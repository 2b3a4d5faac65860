use Rattle.app_run.specs.Runners.{histories_of}
use Rattle.host_report.specs.Parts.{both_shown}
use Rattle.host_serve.specs.Serve.{made_through}
use Rattle.host_serve.proofs.PlanEnds.{both-run, ends-plan}
use Rattle.host_serve.proofs.bridging.serve_in.Goals as goal

pub returns-in-Ok-clause-end : goal.returns-in-Ok-clause-end
returns-in-Ok-clause-end g c =
    let plan = c.args.plan.now in
    let one = c.in-Ok.bridged.one in
    let two = c.in-Ok.bridged.two in
    let left = c.in-Ok.ensures in
    ends-plan c.tell_both.result plan (histories_of one.bus one.tables) (histories_of two.bus two.tables) (both_shown one two)
    (made_through c.args.sink.now c.args.audit.now) (made_through c.tell_both.new.sink c.tell_both.new.audit)
    left.bridged (both-run plan one two left.one left.two) c.tell_both.ensures.end
