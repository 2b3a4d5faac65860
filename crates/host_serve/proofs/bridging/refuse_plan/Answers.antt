use Rattle.std.proofs.Common.{sym, subst}
use Rattle.host_serve.specs.Serve.{EndsNoPlan, made_through}
use Rattle.host_serve.proofs.PlanEnds.{missing-ends}
use Rattle.host_serve.proofs.bridging.refuse_plan.Goals as goal

pub returns-in-MissingPart-clause-end : goal.returns-in-MissingPart-clause-end
returns-in-MissingPart-clause-end g c = λ audit.
    let old = made_through c.args.sink.now audit in
    let new = made_through c.tell_missing.new.sink audit in
    subst (λ fault. EndsNoPlan c.tell_missing.result fault old new) (sym c.in-MissingPart.is) (missing-ends c.tell_missing.result old new (c.tell_missing.ensures.end audit))
