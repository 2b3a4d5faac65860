use Rattle.std.proofs.lemmas.Result.{err_from_is_err_and}
use Rattle.checked_bus.proofs.Apps.{apps-acts}
use Rattle.checked_bus.proofs.Reasons.{handed_on, none_handed}
use Rattle.checked_bus.proofs.Kept.{kept-bags}
use Rattle.checked_bus.proofs.boxed.SbBox.pool_put.Goals as goal

pub invariant_of-self : goal.invariant_of-self
invariant_of-self g c =
    kept-bags c.self.inside.core c.pool_put.new.self c.self.inside.bags.items c.self.invariant (apps-acts _ _ _ _ _ c.pool_put.ensures.does) c.pool_put.ensures.bags

pub returns-in_err-caller-clause-unasked : goal.returns-in_err-caller-clause-unasked
returns-in_err-caller-clause-unasked g c =
    let p = err_from_is_err_and c.from_residual.result c.from_residual.ensures.1 in
    rw (p.1, p.2) (handed_on c.active_caller.result c.in_err-caller.field-0.0 _ (c.active_caller.ensures.put c.args.pool c.args.grant) c.in_err-caller.was)

pub returns-clause-unasked : goal.returns-clause-unasked
returns-clause-unasked g c = none_handed c.active_caller.result c.in_ok-caller.caller _ (c.active_caller.ensures.put c.args.pool c.args.grant) c.in_ok-caller.was
