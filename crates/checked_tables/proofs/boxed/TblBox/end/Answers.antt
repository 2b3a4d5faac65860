use Rattle.std.proofs.Common.{◌-◌, ◌∙◌, set, ap, subst, ◌≤◌, sym, []}
use Rattle.std.proofs.lemmas.Result.{err_from_is_err_and}
use Rattle.table_blocks.specs.Held.{HeldViews}
use Rattle.checked_tables.specs.Box.{Boxed, apps_in, KeepsOtherBags, bag_of}
use Rattle.checked_tables.proofs.Reasons.{handed_on, none_handed}
use Rattle.checked_tables.proofs.Kept.{placed, own-bag, kept-own, others-stay, bag-is, old-bag}
use Rattle.checked_tables.proofs.boxed.TblBox.end.Goals as goal

pub end-requires-clause-bag : goal.end-requires-clause-bag
end-requires-clause-bag g c =
    let core = c.self.inside.core in
    let bags = c.self.inside.bags.items in
    let known : c.in_ok-caller.caller ≤ apps_in core = subst (λ (box : Boxed). c.in_ok-caller.caller ≤ apps_in box.core) (sym c.self.view_is) c.in_ok-caller.ensures.known in
    let here = placed core bags c.args.app c.in_ok-caller.caller c.get.result c.self.invariant c.get.ensures.value c.get.ensures.first c.in_ok-caller.ensures.value known in
    own-bag core bags c.args.app c.in_ok-caller.caller (c.get.result - 1) c.self.invariant here c.index_mut-bag.result.now c.index_mut-bag.ensures.value

pub invariant_of-self : goal.invariant_of-self
invariant_of-self g c =
    let core = c.self.inside.core in
    let bags = c.self.inside.bags.items in
    let known : c.in_ok-caller.caller ≤ apps_in core = subst (λ (box : Boxed). c.in_ok-caller.caller ≤ apps_in box.core) (sym c.self.view_is) c.in_ok-caller.ensures.known in
    let here = placed core bags c.args.app c.in_ok-caller.caller c.get.result c.self.invariant c.get.ensures.value c.get.ensures.first c.in_ok-caller.ensures.value known in
    kept-own core bags c.args.app c.in_ok-caller.caller (c.get.result - 1) c.self.invariant here c.end.new.self c.end.new.held _ _ c.end.ensures.does c.end.ensures.bag

pub returns-clause-others : goal.returns-clause-others
returns-clause-others g c =
    let core = c.self.inside.core in
    let bags = c.self.inside.bags.items in
    let known : c.in_ok-caller.caller ≤ apps_in core = subst (λ (box : Boxed). c.in_ok-caller.caller ≤ apps_in box.core) (sym c.self.view_is) c.in_ok-caller.ensures.known in
    let here = placed core bags c.args.app c.in_ok-caller.caller c.get.result c.self.invariant c.get.ensures.value c.get.ensures.first c.in_ok-caller.ensures.value known in
    let new = c.end.new.self in
    subst (λ (old : Boxed). KeepsOtherBags old (record { core = new; bags = set bags (c.get.result - 1) c.end.new.held }) c.args.app) c.self.view_is
    (others-stay core bags c.args.app c.in_ok-caller.caller (c.get.result - 1) c.self.invariant here new c.end.new.held)

pub returns-clause-empty : goal.returns-clause-empty
returns-clause-empty g c =
    let core = c.self.inside.core in
    let bags = c.self.inside.bags.items in
    let known : c.in_ok-caller.caller ≤ apps_in core = subst (λ (box : Boxed). c.in_ok-caller.caller ≤ apps_in box.core) (sym c.self.view_is) c.in_ok-caller.ensures.known in
    let here = placed core bags c.args.app c.in_ok-caller.caller c.get.result c.self.invariant c.get.ensures.value c.get.ensures.first c.in_ok-caller.ensures.value known in
    let now = bag-is core bags c.args.app c.in_ok-caller.caller (c.get.result - 1) c.self.invariant here c.end.new.self c.end.new.held in
    let before = ap (λ (box : Boxed). bag_of box c.args.app) (sym c.self.view_is) ∙ old-bag core bags c.args.app c.in_ok-caller.caller (c.get.result - 1) c.self.invariant here c.index_mut-bag.result.now c.index_mut-bag.ensures.value in
    now ∙ c.end.ensures.empty ∙ ap (λ (bag : HeldViews). record bag { views = [] }) (sym before)

pub returns-in_err-caller-clause-unasked : goal.returns-in_err-caller-clause-unasked
returns-in_err-caller-clause-unasked g c =
    let p = err_from_is_err_and c.from_residual.result c.from_residual.ensures.1 in
    rw (p.1, p.2) (handed_on c.asks.result c.in_err-caller.field-0.0 _ c.asks.ensures.why c.in_err-caller.was)

pub returns-clause-unasked : goal.returns-clause-unasked
returns-clause-unasked g c = none_handed c.asks.result c.in_ok-caller.caller _ c.asks.ensures.why c.in_ok-caller.was
