use Rattle.std.proofs.lemmas.Result.{err_from_is_err_and}
use Rattle.checked_bus.proofs.Apps.{apps-acts}
use Rattle.checked_bus.proofs.Reasons.{handed_on, none_handed}
use Rattle.checked_bus.proofs.Kept.{kept-bags}
use Rattle.checked_bus.proofs.boxed.SbBox.create_pipe.Goals as goal

pub invariant_of-self : goal.invariant_of-self
invariant_of-self c =
    kept-bags c.self.inside.core c.create_pipe.new.self c.self.inside.bags.items c.self.invariant (apps-acts _ _ _ _ _ c.create_pipe.ensures.does) c.create_pipe.ensures.bags

pub returns-in_err-caller-clause-unasked : goal.returns-in_err-caller-clause-unasked
returns-in_err-caller-clause-unasked c =
    let p = err_from_is_err_and c.from_residual.result c.from_residual.ensures.1 in
    rw (p.1, p.2) (handed_on c.caller_for.result c.in_err-caller.field-0.0 _ c.caller_for.ensures.why c.in_err-caller.was)

pub returns-clause-unasked : goal.returns-clause-unasked
returns-clause-unasked c = none_handed c.caller_for.result c.in_ok-caller.caller _ c.caller_for.ensures.why c.in_ok-caller.was
