use Rattle.std.proofs.Common.{Some, IfOk, IsSome, ap, sym, ◌∙◌, subst}
use Rattle.std.specs.Option.{option_map}
use Rattle.lend_block.specs.Loan.{LentBytes}
use Rattle.bus_core.specs.Bags.{HasBag}
use Rattle.checked_bus.specs.Box.{last_message}
use Rattle.checked_bus.proofs.LentSeats.{own_views, after_views, seen}
use Rattle.checked_bus.proofs.Receipts.{last_there, seen_last, view_there, last_seen, length_shown}
use Rattle.checked_bus.proofs.lent_bag.LentBag.receive.Goals as goal

pub receive_lending-requires-clause-views : goal.receive_lending-requires-clause-views
receive_lending-requires-clause-views g c =
    own_views c.args.core.now c.args.app c.self.inside.held c.self.inside.seats.items c.self.inside.room c.self.invariant.0 (subst (HasBag c.args.core.now c.args.app) (sym c.self.view_is) c.requires.bag)

pub surely_some-view-requires : goal.surely_some-view-requires
surely_some-view-requires g c =
    let old = c.args.core.now in
    let new = c.receive_lending.new.self in
    let has = after_views old new c.args.app c.self.inside.held c.receive_lending.new.held c.self.inside.seats.items c.self.inside.room c.self.invariant.0 c.receive_lending.ensures.buffers c.receive_lending.ensures.bag
    (subst (HasBag old c.args.app) (sym c.self.view_is) c.requires.bag) in
    view_there c.view_of.result (last_message new c.args.app c.args.pipe)
    (ap (option_map (λ (view : LentBytes). view.bytes)) c.view_of.ensures ∙ seen_last new c.args.app c.args.pipe (seen c.receive_lending.new.held c.self.inside.seats.items c.self.inside.room) has)
    (subst (λ r. IfOk r (λ number. IsSome (last_message new c.args.app c.args.pipe))) c.in_ok-number.was (last_there old new c.args.app c.args.pipe c.receive_lending.result c.receive_lending.ensures.does))

pub of-requires : goal.of-requires
of-requires g c =
    let old = c.args.core.now in
    let new = c.receive_lending.new.self in
    let has = after_views old new c.args.app c.self.inside.held c.receive_lending.new.held c.self.inside.seats.items c.self.inside.room c.self.invariant.0 c.receive_lending.ensures.buffers c.receive_lending.ensures.bag
    (subst (HasBag old c.args.app) (sym c.self.view_is) c.requires.bag) in
    last_seen c.view_of.result c.surely_some-view.result (last_message new c.args.app c.args.pipe) c.surely_some-view.ensures
    (ap (option_map (λ (view : LentBytes). view.bytes)) c.view_of.ensures ∙ seen_last new c.args.app c.args.pipe (seen c.receive_lending.new.held c.self.inside.seats.items c.self.inside.room) has)
    ∙ ap Some (sym c.bytes.ensures.bytes)

pub returns-clause-shown : goal.returns-clause-shown
returns-clause-shown g c =
    let old = c.args.core.now in
    let new = c.receive_lending.new.self in
    let has = after_views old new c.args.app c.self.inside.held c.receive_lending.new.held c.self.inside.seats.items c.self.inside.room c.self.invariant.0 c.receive_lending.ensures.buffers c.receive_lending.ensures.bag
    (subst (HasBag old c.args.app) (sym c.self.view_is) c.requires.bag) in
    length_shown c.of.result.len _ (last_message new c.args.app c.args.pipe) c.of.ensures.length
    (last_seen c.view_of.result c.surely_some-view.result (last_message new c.args.app c.args.pipe) c.surely_some-view.ensures
    (ap (option_map (λ (view : LentBytes). view.bytes)) c.view_of.ensures ∙ seen_last new c.args.app c.args.pipe (seen c.receive_lending.new.held c.self.inside.seats.items c.self.inside.room) has)
    ∙ ap Some (sym c.bytes.ensures.bytes))

pub returns-clause-bag : goal.returns-clause-bag
returns-clause-bag g c =
    after_views c.args.core.now c.receive_lending.new.self c.args.app c.self.inside.held c.receive_lending.new.held c.self.inside.seats.items c.self.inside.room c.self.invariant.0 c.receive_lending.ensures.buffers c.receive_lending.ensures.bag
    (subst (HasBag c.args.core.now c.args.app) (sym c.self.view_is) c.requires.bag)

pub returns-in_err-number-clause-bag : goal.returns-in_err-number-clause-bag
returns-in_err-number-clause-bag g c =
    after_views c.args.core.now c.receive_lending.new.self c.args.app c.self.inside.held c.receive_lending.new.held c.self.inside.seats.items c.self.inside.room c.self.invariant.0 c.receive_lending.ensures.buffers c.receive_lending.ensures.bag
    (subst (HasBag c.args.core.now c.args.app) (sym c.self.view_is) c.requires.bag)
