use Rattle.std.proofs.Common.{◌≤◌, length, ap, ◌∙◌, arith}
use Rattle.journal_store.specs.Budgets.{allowance_of}
use Rattle.tbl_words.specs.Entries.{call_of}
use Rattle.tbl_words.specs.Log.{Log, left_of}
use Rattle.tbl_load.specs.Core.{Core, apps_of}
use Rattle.tbl_load.proofs.PermitTests.{permitted}
use Rattle.tbl_load.proofs.tables.TblCore.may_make.Goals as goal

pub returns : goal.returns
returns c =
    let a = c.self.inside in
    let known : c.args.app ≤ length a.noted.log.budgets =
    omega (arith, c.get.ensures.value, c.apps.ensures, c.if-get-apps.false, ap (λ (o : Core). apps_of o) c.self.view_is) in
    permitted a c.args.self.now c.args.app (call_of c.args.call.now) c.is_open-lets.result c.is_permitted.result c.left-left.result c.self.view_is c.self.invariant known
    c.is_open-lets.ensures (c.left-left.ensures ∙ ap (λ (l : Log). allowance_of (left_of l) c.args.app) c.journal.ensures.journal) c.is_permitted.ensures
