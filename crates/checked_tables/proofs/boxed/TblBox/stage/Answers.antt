use Rattle.std.proofs.Common.{Bool, None, refl, ap, ◌∙◌}
use Rattle.std.proofs.lemmas.Result.{err_from_is_err_and}
use Rattle.tbl_words.specs.Machine.{may_call}
use Rattle.checked_tables.specs.Asked.{is_application}
use Rattle.checked_tables.proofs.Reasons.{handed_on, none_handed, chain}
use Rattle.checked_tables.proofs.Kept.{kept-bags}
use Rattle.checked_tables.proofs.boxed.TblBox.stage.Goals as goal

pub invariant_of-self : goal.invariant_of-self
invariant_of-self c = kept-bags c.self.inside.core c.stage.new.self c.self.inside.bags.items _ _ _ refl c.self.invariant c.stage.ensures

pub returns-in_err-caller-clause-unasked : goal.returns-in_err-caller-clause-unasked
returns-in_err-caller-clause-unasked c =
    let p = err_from_is_err_and c.from_residual.result c.from_residual.ensures.1 in
    rw (p.1, p.2) (handed_on c.asks.result c.in_err-caller.field-0.0 _ (c.asks.ensures.why ∙ ap (λ (within : Bool). chain (is_application c.args.self.now.core c.args.app) within (may_call c.args.self.now.core.state c.args.app) None) c.is_range.ensures) c.in_err-caller.was)

pub returns-clause-unasked : goal.returns-clause-unasked
returns-clause-unasked c = none_handed c.asks.result c.in_ok-caller.caller _ (c.asks.ensures.why ∙ ap (λ (within : Bool). chain (is_application c.args.self.now.core c.args.app) within (may_call c.args.self.now.core.state c.args.app) None) c.is_range.ensures) c.in_ok-caller.was
