use Rattle.std.proofs.Common.{IsSome, sym, subst, ap, ◌∙◌}
use Rattle.std.specs.Option.{option_map}
use Rattle.app_run.proofs.MessageReceipts.{is-message, newest-known, shown-one, none-shown}
use Rattle.app_run.proofs.receipts.last_receipt.Goals as goal

pub unwrap-number-requires : goal.unwrap-number-requires
unwrap-number-requires g c =
    let seen = sym (ap (option_map (λ bytes. bytes.now)) c.in-Some.is) ∙ c.last.ensures in
    subst (λ o. IsSome o) (sym c.newest_number.ensures)
    (newest-known (g.C.Calls.caller c.args.calls.now) c.args.pipe c.requires.bag c.args.receipts.now.receipts c.in-Some.message.now c.requires.remember seen)

pub of_message-requires : goal.of_message-requires
of_message-requires g c =
    is-message (g.C.Calls.caller c.args.calls.now) c.args.pipe c.requires.bag c.in-Some.message.now
    (sym (ap (option_map (λ bytes. bytes.now)) c.in-Some.is) ∙ c.last.ensures)

pub returns-in_default : goal.returns-in_default
returns-in_default g c =
    none-shown (g.C.Calls.caller c.args.calls.now) c.args.pipe c.requires.bag
    (sym (ap (option_map (λ bytes. bytes.now)) c.in_default.is) ∙ c.last.ensures)

pub returns : goal.returns
returns g c =
    let seen = sym (ap (option_map (λ bytes. bytes.now)) c.in-Some.is) ∙ c.last.ensures in
    c.of_message.ensures
    ∙ shown-one (g.C.Calls.caller c.args.calls.now) c.args.pipe c.requires.bag c.args.receipts.now.receipts c.in-Some.message.now c.requires.remember seen
    c.unwrap-number.result (sym c.newest_number.ensures ∙ c.unwrap-number.ensures)
