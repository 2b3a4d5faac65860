use Rattle.std.proofs.Common.{◌∙◌}
use Rattle.std.proofs.lemmas.Result.{err_from_is_err_and}
use Rattle.checked_bus.specs.Asked.{is_application}
use Rattle.checked_bus.proofs.Reasons.{handed_on, none_handed, asked-transmit, asked-release, asked-put, asked-register, may-transmit, may-release, may-put, may-register}
use Rattle.checked_bus.proofs.boxed.SbBox.active_caller.Goals as goal

pub returns-in_err-caller-clause-why : goal.returns-in_err-caller-clause-why
returns-in_err-caller-clause-why c =
    let p = err_from_is_err_and c.from_residual.result c.from_residual.ensures.1 in
    rw (p.1, p.2) (handed_on c.caller_for.result c.in_err-caller.field-0.0 _ c.caller_for.ensures.why c.in_err-caller.was)

pub returns-clause-why : goal.returns-clause-why
returns-clause-why c = none_handed c.caller_for.result c.in_ok-caller.caller _ c.caller_for.ensures.why c.in_ok-caller.was

pub returns-in_err-caller-clause-transmit : goal.returns-in_err-caller-clause-transmit
returns-in_err-caller-clause-transmit c =
    let p = err_from_is_err_and c.from_residual.result c.from_residual.ensures.1 in
    let core = c.args.self.now.core in
    let a = is_application core c.args.app in
    rw (p.1, p.2) (λ buf bytes inc. handed_on c.caller_for.result c.in_err-caller.field-0.0 _ c.caller_for.ensures.why c.in_err-caller.was ∙ asked-transmit core c.args.app a buf bytes inc)

pub returns-clause-transmit : goal.returns-clause-transmit
returns-clause-transmit c =
    let core = c.args.self.now.core in
    let a = is_application core c.args.app in
    λ buf bytes inc. none_handed c.caller_for.result c.in_ok-caller.caller _ c.caller_for.ensures.why c.in_ok-caller.was ∙ asked-transmit core c.args.app a buf bytes inc

pub returns-in_err-caller-clause-release : goal.returns-in_err-caller-clause-release
returns-in_err-caller-clause-release c =
    let p = err_from_is_err_and c.from_residual.result c.from_residual.ensures.1 in
    let core = c.args.self.now.core in
    let a = is_application core c.args.app in
    rw (p.1, p.2) (λ buf. handed_on c.caller_for.result c.in_err-caller.field-0.0 _ c.caller_for.ensures.why c.in_err-caller.was ∙ asked-release core c.args.app a buf)

pub returns-clause-release : goal.returns-clause-release
returns-clause-release c =
    let core = c.args.self.now.core in
    let a = is_application core c.args.app in
    λ buf. none_handed c.caller_for.result c.in_ok-caller.caller _ c.caller_for.ensures.why c.in_ok-caller.was ∙ asked-release core c.args.app a buf

pub returns-in_err-caller-clause-put : goal.returns-in_err-caller-clause-put
returns-in_err-caller-clause-put c =
    let p = err_from_is_err_and c.from_residual.result c.from_residual.ensures.1 in
    let core = c.args.self.now.core in
    let a = is_application core c.args.app in
    rw (p.1, p.2) (λ pool grant. handed_on c.caller_for.result c.in_err-caller.field-0.0 _ c.caller_for.ensures.why c.in_err-caller.was ∙ asked-put core c.args.app a pool grant)

pub returns-clause-put : goal.returns-clause-put
returns-clause-put c =
    let core = c.args.self.now.core in
    let a = is_application core c.args.app in
    λ pool grant. none_handed c.caller_for.result c.in_ok-caller.caller _ c.caller_for.ensures.why c.in_ok-caller.was ∙ asked-put core c.args.app a pool grant

pub returns-in_err-caller-clause-register : goal.returns-in_err-caller-clause-register
returns-in_err-caller-clause-register c =
    let p = err_from_is_err_and c.from_residual.result c.from_residual.ensures.1 in
    let core = c.args.self.now.core in
    let a = is_application core c.args.app in
    rw (p.1, p.2) (λ filters. handed_on c.caller_for.result c.in_err-caller.field-0.0 _ c.caller_for.ensures.why c.in_err-caller.was ∙ asked-register core c.args.app a filters)

pub returns-clause-register : goal.returns-clause-register
returns-clause-register c =
    let core = c.args.self.now.core in
    let a = is_application core c.args.app in
    λ filters. none_handed c.caller_for.result c.in_ok-caller.caller _ c.caller_for.ensures.why c.in_ok-caller.was ∙ asked-register core c.args.app a filters

pub returns-clause-may_transmit : goal.returns-clause-may_transmit
returns-clause-may_transmit c = λ buf bytes inc. may-transmit c.args.self.now.core c.in_ok-caller.caller buf bytes inc c.in_ok-caller.ensures.may

pub returns-clause-may_release : goal.returns-clause-may_release
returns-clause-may_release c = λ buf. may-release c.args.self.now.core c.in_ok-caller.caller buf c.in_ok-caller.ensures.may

pub returns-clause-may_put : goal.returns-clause-may_put
returns-clause-may_put c = λ pool grant. may-put c.args.self.now.core c.in_ok-caller.caller pool grant c.in_ok-caller.ensures.may

pub returns-clause-may_register : goal.returns-clause-may_register
returns-clause-may_register c = λ filters. may-register c.args.self.now.core c.in_ok-caller.caller filters c.in_ok-caller.ensures.may
