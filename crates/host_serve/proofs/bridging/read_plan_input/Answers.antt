use Rattle.std.proofs.Common.{refl}
use Rattle.host_serve.specs.Serve.{NoRoom, SourceFailed, TooLong, fed_through, made_through}
use Rattle.host_serve.proofs.PlanEnds.{plan-end, plan-read}
use Rattle.host_serve.proofs.bridging.read_plan_input.Goals as goal

pub returns-in_default-clause-end : goal.returns-in_default-clause-end
returns-in_default-clause-end g c = λ audit. NoRoom tt refl refl

pub returns-in-Whole-clause-plan : goal.returns-in-Whole-clause-plan
returns-in-Whole-clause-plan g c =
    plan-read c.plan_of.result c.in-Whole.text.items _ _ _ c.deref.ensures.value c.in-Whole.ensures.bytes c.plan_of.ensures.plan

pub returns-in-Whole-clause-end : goal.returns-in-Whole-clause-end
returns-in-Whole-clause-end g c =
    plan-end c.plan_of.result c.in-Whole.text.items _ (fed_through c.args.source.now) (fed_through c.read_all.new.source)
    (made_through c.args.sink.now) (made_through c.plan_of.new.sink) c.deref.ensures.value c.in-Whole.ensures.bytes c.plan_of.ensures.end

pub returns-in-TooLarge-clause-end : goal.returns-in-TooLarge-clause-end
returns-in-TooLarge-clause-end g c = λ audit. TooLong c.in-TooLarge.ensures.bytes (c.refuse.ensures.end audit)

pub returns-in-Fault-clause-end : goal.returns-in-Fault-clause-end
returns-in-Fault-clause-end g c = λ audit. SourceFailed refl c.in-Fault.ensures.cause.1 c.in-Fault.ensures.bytes refl
