use Rattle.std.proofs.lemmas.Result.{err_from_is_err_and}
use Rattle.checked_tables.proofs.Reasons.{handed_on, none_handed}
use Rattle.checked_tables.proofs.boxed.TblBox.status.Goals as goal

pub returns-in_err-caller-clause-unasked : goal.returns-in_err-caller-clause-unasked
returns-in_err-caller-clause-unasked c =
    let p = err_from_is_err_and c.from_residual.result c.from_residual.ensures.1 in
    rw (p.1, p.2) (handed_on c.asks.result c.in_err-caller.field-0.0 _ c.asks.ensures.why c.in_err-caller.was)

pub returns-clause-unasked : goal.returns-clause-unasked
returns-clause-unasked c = none_handed c.asks.result c.in_ok-caller.caller _ c.asks.ensures.why c.in_ok-caller.was
