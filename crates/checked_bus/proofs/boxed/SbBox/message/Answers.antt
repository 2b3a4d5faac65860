use Rattle.std.proofs.Common.{ℕ, List, Some, ap, sym, ◌∙◌}
use Rattle.std.specs.Option.{option_map}
use Rattle.lend_block.specs.Loan.{LentBytes}
use Rattle.checked_bus.specs.Box.{Boxed, last_message}
use Rattle.checked_bus.proofs.Kept.{placed, own-bag}
use Rattle.checked_bus.proofs.Shown.{bytes_due}
use Rattle.checked_bus.proofs.boxed.SbBox.message.Goals as goal

pub returns-in-Some-clause-known : goal.returns-in-Some-clause-known
returns-in-Some-clause-known c =
    let core = c.self.inside.core in
    let here = placed core c.self.inside.bags.items c.args.self.now c.args.app c.in-Ok.caller c.get.result c.self.invariant c.self.view_is c.get.ensures.value c.get.ensures.first c.in-Ok.ensures.value c.in-Ok.ensures.known in
    let own = own-bag here c.index-bag.result.now c.index-bag.ensures in
    λ known. ap (λ (bytes : List ℕ). Some bytes) c.bytes.ensures.bytes
    ∙ ap (option_map (λ (view : LentBytes). view.bytes)) (sym (ap (option_map (λ v. v.now)) c.in-Some.is) ∙ c.view_of.ensures ∙ own.views.seen c.args.pipe)
    ∙ bytes_due core c.in-Ok.caller c.args.pipe
    ∙ ap (λ (who : ℕ). last_message core who c.args.pipe) c.in-Ok.ensures.value
    ∙ ap (λ (box : Boxed). last_message box.core c.args.app c.args.pipe) c.self.view_is
