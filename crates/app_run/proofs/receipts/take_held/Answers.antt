use Rattle.std.proofs.Common.{◌++◌, ◌∷◌, [], sym, ap, ◌∙◌, append-nil}
use Rattle.std.specs.Option.{option_map}
use Rattle.app_run.proofs.VersionReceipts.{few-held, held-one, held-none}
use Rattle.app_run.proofs.receipts.take_held.Goals as goal

pub held_receipt-requires : goal.held_receipt-requires
held_receipt-requires g c =
    few-held (g.C.Calls.caller c.args.calls.now) c.args.handle c.requires.bag c.in-Some.bytes.now c.requires.small
    (sym (ap (option_map (λ bytes. bytes.now)) c.in-Some.is) ∙ c.held.ensures)

pub returns-in-Some-clause-receipts : goal.returns-in-Some-clause-receipts
returns-in-Some-clause-receipts g c =
    let seen = sym (ap (option_map (λ bytes. bytes.now)) c.in-Some.is) ∙ c.held.ensures in
    c.push.ensures.receipts
    ∙ ap (λ r. c.args.receipts.now.receipts ++ r ∷ []) c.held_receipt.ensures
    ∙ ap (λ rs. c.args.receipts.now.receipts ++ rs)
    (held-one (g.C.Calls.caller c.args.calls.now) c.args.handle c.requires.bag c.args.version c.in-Some.bytes.now seen)

pub returns-in_default-clause-receipts : goal.returns-in_default-clause-receipts
returns-in_default-clause-receipts g c =
    sym (append-nil c.args.receipts.now.receipts)
    ∙ ap (λ rs. c.args.receipts.now.receipts ++ rs)
    (held-none (g.C.Calls.caller c.args.calls.now) c.args.handle c.requires.bag c.args.version
    (sym (ap (option_map (λ bytes. bytes.now)) c.in_default.is) ∙ c.held.ensures))
