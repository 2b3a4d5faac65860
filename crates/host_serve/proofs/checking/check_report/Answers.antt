use Rattle.std.proofs.Common.{◌≡◌, Ok, subst}
use Rattle.app_script.specs.Grammar.{grammar}
use Rattle.host_serve.specs.Serve.{EndsChecked, made_through}
use Rattle.host_serve.proofs.Ends.{none-checked}
use Rattle.host_serve.proofs.checking.check_report.Goals as goal

pub returns-in-Some-Ok-clause-end : goal.returns-in-Some-Ok-clause-end
returns-in-Some-Ok-clause-end g c = λ audit.
    let read : Ok c.in-Some-Ok.script ≡ grammar c.args.text.now = cc (c.in-Some-Ok.field-0-is, c.in-Some-Ok.ensures.script) in
    subst (λ found. EndsChecked c.judge.result found c.args.report.now (made_through c.args.sink.now audit) (made_through c.judge.new.sink audit)) read (c.judge.ensures.end audit)

pub returns-in-None-clause-end : goal.returns-in-None-clause-end
returns-in-None-clause-end g c = λ audit. none-checked c.refusal.result _ c.args.report.now (made_through c.args.sink.now audit)
