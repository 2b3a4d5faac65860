use Rattle.std.proofs.Common.{Bool, None, refl, ap, ◌∙◌, ◌≡◌, ℕ, subst}
use Rattle.std.proofs.lemmas.Result.{err_from_is_err_and}
use Rattle.tbl_words.specs.Machine.{may_call}
use Rattle.checked_tables.specs.Asked.{is_application}
use Rattle.tbl_words.specs.declared.history.Call.TheVariants.{Load}
use Rattle.table_core.specs.Core.{HasNextVersion, answer_behind_last}
use Rattle.table_core.specs.Answers.{done}
use Rattle.checked_tables.specs.Box.{Boxed}
use Rattle.checked_tables.proofs.Reasons.{handed_on, none_handed, chain}
use Rattle.checked_tables.proofs.Kept.{kept-version}
use Rattle.checked_tables.proofs.boxed.TblBox.load.Goals as goal

pub invariant_of-self : goal.invariant_of-self
invariant_of-self c = kept-version c.self.inside.core c.load.new.self c.self.inside.bags.items _ _ c.args.handle _ refl c.self.invariant c.load.ensures.does c.load.ensures.spent

pub returns-in_err-caller-clause-unasked : goal.returns-in_err-caller-clause-unasked
returns-in_err-caller-clause-unasked c =
    let p = err_from_is_err_and c.from_residual.result c.from_residual.ensures.1 in
    rw (p.1, p.2) (handed_on c.asks.result c.in_err-caller.field-0.0 _ (c.asks.ensures.why ∙ ap (λ (within : Bool). chain (is_application c.args.self.now.core c.args.app) within (may_call c.args.self.now.core.state c.args.app) None) c.is_range.ensures) c.in_err-caller.was)

pub returns-clause-unasked : goal.returns-clause-unasked
returns-clause-unasked c = none_handed c.asks.result c.in_ok-caller.caller _ (c.asks.ensures.why ∙ ap (λ (within : Bool). chain (is_application c.args.self.now.core c.args.app) within (may_call c.args.self.now.core.state c.args.app) None) c.is_range.ensures) c.in_ok-caller.was

pub returns-clause-behind_last : goal.returns-clause-behind_last
returns-clause-behind_last c =
    subst (λ (box : Boxed). (HasNextVersion box.core.state c.args.handle → ⊥) → done c.load.result ≡ answer_behind_last box.core c.args.app (Load c.args.handle c.args.offset c.args.bytes.now)) c.self.view_is
    (λ none. c.load.ensures.behind_last none ∙ ap (λ (who : ℕ). answer_behind_last c.self.inside.core who (Load c.args.handle c.args.offset c.args.bytes.now)) c.in_ok-caller.ensures.value)
