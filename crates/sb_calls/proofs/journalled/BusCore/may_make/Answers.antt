use Rattle.std.proofs.Common.{◌≤◌, length, ap, ◌∙◌, arith}
use Rattle.bus_words.specs.Entries.{call_of}
use Rattle.bus_words.specs.Log.{Log, left_of}
use Rattle.journal_store.specs.Budgets.{allowance_of}
use Rattle.sb_calls.specs.Core.{Core, apps_of}
use Rattle.sb_calls.proofs.EntryLemma.{apps_are}
use Rattle.sb_calls.proofs.PermitTests.{permitted}
use Rattle.sb_calls.proofs.journalled.BusCore.may_make.Goals as goal

pub is_open-lets-requires : goal.is_open-lets-requires
is_open-lets-requires c =
    let a = c.self.inside in
    omega (arith, c.get.ensures.value, c.apps.ensures, c.if-get-apps.false, ap (λ (o : Core). apps_of o) c.self.view_is, apps_are a c.self.invariant)

pub returns : goal.returns
returns c =
    let a = c.self.inside in
    let known : c.args.app ≤ length a.noted.log.budgets =
    omega (arith, c.get.ensures.value, c.apps.ensures, c.if-get-apps.false, ap (λ (o : Core). apps_of o) c.self.view_is) in
    permitted a c.args.self.now c.args.app (call_of c.args.call.now) c.is_open-lets.result c.is_permitted.result c.left-left.result c.self.view_is c.self.invariant known
    c.is_open-lets.ensures (c.left-left.ensures ∙ ap (λ (l : Log). allowance_of (left_of l) c.args.app) c.journal.ensures) c.is_permitted.ensures
