use Rattle.std.proofs.Common.{◌++◌, ◌∷◌, [], sym, ap, ◌∙◌, append-nil}
use Rattle.std.specs.Option.{option_map}
use Rattle.app_run.proofs.MessageReceipts.{is-message, taken-one, taken-none}
use Rattle.app_run.proofs.receipts.take_receipt.Goals as goal

pub of_message-requires : goal.of_message-requires
of_message-requires g c =
    is-message (g.C.Calls.caller c.args.calls.now) c.args.pipe c.requires.bag c.in-Some.message.now
    (sym (ap (option_map (λ bytes. bytes.now)) c.in-Some.is) ∙ c.last.ensures)

pub returns-in-Some-clause-receipts : goal.returns-in-Some-clause-receipts
returns-in-Some-clause-receipts g c =
    let seen = sym (ap (option_map (λ bytes. bytes.now)) c.in-Some.is) ∙ c.last.ensures in
    c.push.ensures.receipts
    ∙ ap (λ r. c.args.receipts.now.receipts ++ r ∷ []) c.of_message.ensures
    ∙ ap (λ rs. c.args.receipts.now.receipts ++ rs)
    (taken-one (g.C.Calls.caller c.args.calls.now) c.args.pipe c.requires.bag c.args.number c.in-Some.message.now seen)

pub returns-in_default-clause-receipts : goal.returns-in_default-clause-receipts
returns-in_default-clause-receipts g c =
    sym (append-nil c.args.receipts.now.receipts)
    ∙ ap (λ rs. c.args.receipts.now.receipts ++ rs)
    (taken-none (g.C.Calls.caller c.args.calls.now) c.args.pipe c.requires.bag c.args.number
    (sym (ap (option_map (λ bytes. bytes.now)) c.in_default.is) ∙ c.last.ensures))
