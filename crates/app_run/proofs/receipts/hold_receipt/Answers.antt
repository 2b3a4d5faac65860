use Rattle.std.proofs.Common.{IsSome, sym, subst, ap, ◌∙◌}
use Rattle.std.specs.Option.{option_map}
use Rattle.app_run.proofs.VersionReceipts.{few-held, version-known, shown-hold, none-held}
use Rattle.app_run.proofs.receipts.hold_receipt.Goals as goal

pub unwrap-version-requires : goal.unwrap-version-requires
unwrap-version-requires g c =
    let seen = sym (ap (option_map (λ bytes. bytes.now)) c.in-Some.is) ∙ c.held.ensures in
    subst (λ o. IsSome o) (sym c.newest_version.ensures)
    (version-known (g.C.Calls.caller c.args.calls.now) c.args.handle c.requires.bag c.args.receipts.now.receipts c.in-Some.bytes.now c.requires.remember seen)

pub held_receipt-requires : goal.held_receipt-requires
held_receipt-requires g c =
    few-held (g.C.Calls.caller c.args.calls.now) c.args.handle c.requires.bag c.in-Some.bytes.now c.requires.small
    (sym (ap (option_map (λ bytes. bytes.now)) c.in-Some.is) ∙ c.held.ensures)

pub returns-in_default : goal.returns-in_default
returns-in_default g c =
    none-held (g.C.Calls.caller c.args.calls.now) c.args.handle c.requires.bag
    (sym (ap (option_map (λ bytes. bytes.now)) c.in_default.is) ∙ c.held.ensures)

pub returns : goal.returns
returns g c =
    let seen = sym (ap (option_map (λ bytes. bytes.now)) c.in-Some.is) ∙ c.held.ensures in
    c.held_receipt.ensures
    ∙ shown-hold (g.C.Calls.caller c.args.calls.now) c.args.handle c.requires.bag c.args.receipts.now.receipts c.in-Some.bytes.now c.requires.remember seen
    c.unwrap-version.result (sym c.newest_version.ensures ∙ c.unwrap-version.ensures)
