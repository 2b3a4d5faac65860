use Rattle.std.proofs.Common.{◌-◌, ◌≤◌, ℕ, List, Some, ap, sym, subst, ◌∙◌}
use Rattle.std.specs.Option.{option_map}
use Rattle.lend_block.specs.Loan.{LentBytes}
use Rattle.checked_tables.specs.Box.{Boxed, apps_in, held_value}
use Rattle.checked_tables.proofs.Kept.{placed, own-bag}
use Rattle.checked_tables.proofs.Shown.{bytes_due}
use Rattle.checked_tables.proofs.boxed.TblBox.held.Goals as goal

pub returns-in-Some-clause-known : goal.returns-in-Some-clause-known
returns-in-Some-clause-known c =
    let core = c.self.inside.core in
    let bags = c.self.inside.bags.items in
    let known : c.in-Ok.caller ≤ apps_in core = subst (λ (box : Boxed). c.in-Ok.caller ≤ apps_in box.core) (sym c.self.view_is) c.in-Ok.ensures.known in
    let here = placed core bags c.args.app c.in-Ok.caller c.get.result c.self.invariant c.get.ensures.value c.get.ensures.first c.in-Ok.ensures.value known in
    let own = own-bag core bags c.args.app c.in-Ok.caller (c.get.result - 1) c.self.invariant here c.index-bag.result.now c.index-bag.ensures in
    λ served. ap (λ (bytes : List ℕ). Some bytes) c.bytes.ensures.bytes
    ∙ ap (option_map (λ (view : LentBytes). view.bytes)) (sym (ap (option_map (λ v. v.now)) c.in-Some.is) ∙ c.view_of.ensures ∙ own.seen c.args.handle)
    ∙ bytes_due core c.in-Ok.caller c.args.handle
    ∙ ap (λ (who : ℕ). held_value core who c.args.handle) c.in-Ok.ensures.value
    ∙ ap (λ (box : Boxed). held_value box.core c.args.app c.args.handle) c.self.view_is
