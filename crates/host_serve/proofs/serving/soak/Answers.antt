use Rattle.std.proofs.Common.{subst}
use Rattle.host_serve.specs.Serve.{EndsScript, Rotating, made_through}
use Rattle.host_report.specs.declared.reporting.Part.TheVariants.{Ending}
use Rattle.host_serve.proofs.serving.soak.Goals as goal

pub returns-clause-end : goal.returns-clause-end
returns-clause-end g c =
    let old = made_through c.args.sink.now c.args.audit.now in
    let new = made_through c.rotate_script.new.sink c.rotate_script.new.audit in
    subst (λ script. EndsScript c.rotate_script.result Rotating Ending script old new) c.in-Some.ensures.script c.rotate_script.ensures.end
