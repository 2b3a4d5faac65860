use Rattle.std.proofs.Common.{ap, refl, arith}
use Rattle.app_script.specs.Script.{Application}
use Rattle.app_script.proofs.PartLemmas.{keeps_call}
use Rattle.app_script.proofs.reading.Reading.call.Goals as goal

pub invariant_of-self-2 : goal.invariant_of-self-2
invariant_of-self-2 c =
    keeps_call c.self.inside _ c.args.line c.charge-charge.result c.self.invariant (ap (λ (x : Application). x.lines) c.in_ok-push.ensures.ok) c.charge-charge.ensures refl (omega arith) refl (omega (arith, c.self.invariant.charged)) refl refl
