use Rattle.std.proofs.Common.{◌-◌, set, subst, ◌≤◌, sym, ap, ◌∙◌}
use Rattle.std.proofs.lemmas.Result.{err_from_is_err_and}
use Rattle.table_blocks.specs.Held.{HeldViews, held_at}
use Rattle.checked_tables.specs.Box.{Boxed, apps_in, KeepsOtherBags, bag_of}
use Rattle.checked_tables.proofs.Reasons.{handed_on, none_handed, on_err}
use Rattle.checked_tables.proofs.Kept.{placed, own-bag, kept-own, others-stay, bag-is, old-bag}
use Rattle.checked_tables.proofs.boxed.TblBox.get_address.Goals as goal

pub get_address-requires-clause-bag : goal.get_address-requires-clause-bag
get_address-requires-clause-bag c =
    let core = c.self.inside.core in
    let bags = c.self.inside.bags.items in
    let known : c.in_ok-caller.caller ≤ apps_in core = subst (λ (box : Boxed). c.in_ok-caller.caller ≤ apps_in box.core) (sym c.self.view_is) c.in_ok-caller.ensures.known in
    let here = placed core bags c.args.app c.in_ok-caller.caller c.get.result c.self.invariant c.get.ensures.value c.get.ensures.first c.in_ok-caller.ensures.value known in
    own-bag core bags c.args.app c.in_ok-caller.caller (c.get.result - 1) c.self.invariant here c.index_mut-bag.result.now c.index_mut-bag.ensures.value

pub invariant_of-self : goal.invariant_of-self
invariant_of-self c =
    let core = c.self.inside.core in
    let bags = c.self.inside.bags.items in
    let known : c.in_ok-caller.caller ≤ apps_in core = subst (λ (box : Boxed). c.in_ok-caller.caller ≤ apps_in box.core) (sym c.self.view_is) c.in_ok-caller.ensures.known in
    let here = placed core bags c.args.app c.in_ok-caller.caller c.get.result c.self.invariant c.get.ensures.value c.get.ensures.first c.in_ok-caller.ensures.value known in
    kept-own core bags c.args.app c.in_ok-caller.caller (c.get.result - 1) c.self.invariant here c.get_address.new.self c.get_address.new.held _ _ c.get_address.ensures.does c.get_address.ensures.bag

pub returns-clause-others : goal.returns-clause-others
returns-clause-others c =
    let core = c.self.inside.core in
    let bags = c.self.inside.bags.items in
    let known : c.in_ok-caller.caller ≤ apps_in core = subst (λ (box : Boxed). c.in_ok-caller.caller ≤ apps_in box.core) (sym c.self.view_is) c.in_ok-caller.ensures.known in
    let here = placed core bags c.args.app c.in_ok-caller.caller c.get.result c.self.invariant c.get.ensures.value c.get.ensures.first c.in_ok-caller.ensures.value known in
    let new = c.get_address.new.self in
    subst (λ (old : Boxed). KeepsOtherBags old (record { core = new; bags = set bags (c.get.result - 1) c.get_address.new.held }) c.args.app) c.self.view_is
    (others-stay core bags c.args.app c.in_ok-caller.caller (c.get.result - 1) c.self.invariant here new c.get_address.new.held)

pub returns-in_err-caller-clause-unasked : goal.returns-in_err-caller-clause-unasked
returns-in_err-caller-clause-unasked c =
    let p = err_from_is_err_and c.from_residual.result c.from_residual.ensures.1 in
    rw (p.1, p.2) (handed_on c.asks.result c.in_err-caller.field-0.0 _ c.asks.ensures.why c.in_err-caller.was)

pub returns-clause-unasked : goal.returns-clause-unasked
returns-clause-unasked c = none_handed c.asks.result c.in_ok-caller.caller _ c.asks.ensures.why c.in_ok-caller.was

pub returns-clause-own : goal.returns-clause-own
returns-clause-own c =
    let core = c.self.inside.core in
    let bags = c.self.inside.bags.items in
    let known : c.in_ok-caller.caller ≤ apps_in core = subst (λ (box : Boxed). c.in_ok-caller.caller ≤ apps_in box.core) (sym c.self.view_is) c.in_ok-caller.ensures.known in
    let here = placed core bags c.args.app c.in_ok-caller.caller c.get.result c.self.invariant c.get.ensures.value c.get.ensures.first c.in_ok-caller.ensures.value known in
    let now = bag-is core bags c.args.app c.in_ok-caller.caller (c.get.result - 1) c.self.invariant here c.get_address.new.self c.get_address.new.held in
    let before = ap (λ (box : Boxed). bag_of box c.args.app) (sym c.self.view_is) ∙ old-bag core bags c.args.app c.in_ok-caller.caller (c.get.result - 1) c.self.invariant here c.index_mut-bag.result.now c.index_mut-bag.ensures.value in
    λ other apart. ap (λ (bag : HeldViews). held_at bag other) now ∙ c.get_address.ensures.others other apart ∙ ap (λ (bag : HeldViews). held_at bag other) (sym before)

pub returns-clause-bag_refused : goal.returns-clause-bag_refused
returns-clause-bag_refused c =
    let core = c.self.inside.core in
    let bags = c.self.inside.bags.items in
    let known : c.in_ok-caller.caller ≤ apps_in core = subst (λ (box : Boxed). c.in_ok-caller.caller ≤ apps_in box.core) (sym c.self.view_is) c.in_ok-caller.ensures.known in
    let here = placed core bags c.args.app c.in_ok-caller.caller c.get.result c.self.invariant c.get.ensures.value c.get.ensures.first c.in_ok-caller.ensures.value known in
    let now = bag-is core bags c.args.app c.in_ok-caller.caller (c.get.result - 1) c.self.invariant here c.get_address.new.self c.get_address.new.held in
    let before = ap (λ (box : Boxed). bag_of box c.args.app) (sym c.self.view_is) ∙ old-bag core bags c.args.app c.in_ok-caller.caller (c.get.result - 1) c.self.invariant here c.index_mut-bag.result.now c.index_mut-bag.ensures.value in
    on_err c.get_address.result (λ same. now ∙ same ∙ sym before) c.get_address.ensures.unchanged
