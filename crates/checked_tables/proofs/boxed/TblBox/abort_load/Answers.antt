use Rattle.std.proofs.Common.{refl}
use Rattle.std.proofs.lemmas.Result.{err_from_is_err_and}
use Rattle.checked_tables.proofs.Reasons.{handed_on, none_handed}
use Rattle.checked_tables.proofs.Kept.{kept-bags}
use Rattle.checked_tables.proofs.boxed.TblBox.abort_load.Goals as goal

pub invariant_of-self : goal.invariant_of-self
invariant_of-self c = kept-bags c.self.inside.core c.abort_load.new.self c.self.inside.bags.items _ _ _ refl c.self.invariant c.abort_load.ensures

pub returns-in_err-caller-clause-unasked : goal.returns-in_err-caller-clause-unasked
returns-in_err-caller-clause-unasked c =
    let p = err_from_is_err_and c.from_residual.result c.from_residual.ensures.1 in
    rw (p.1, p.2) (handed_on c.asks.result c.in_err-caller.field-0.0 _ c.asks.ensures.why c.in_err-caller.was)

pub returns-clause-unasked : goal.returns-clause-unasked
returns-clause-unasked c = none_handed c.asks.result c.in_ok-caller.caller _ c.asks.ensures.why c.in_ok-caller.was
