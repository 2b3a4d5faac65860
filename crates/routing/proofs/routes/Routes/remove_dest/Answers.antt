use Rattle.std.proofs.Common.{◌∙◌, length, ap, arith}
use Rattle.std.specs.Vec.{vec_capacity}
use Rattle.routing.specs.Dests.{dests_in, has_sub, without}
use Rattle.routing.specs.Routing.{with_dests}
use Rattle.routing.proofs.Numbers.{route_inside, list_there, dests_there, dests_after, numbered_dests}
use Rattle.routing.proofs.routes.Routes.remove_dest.Goals as goal

pub remove-requires-clause-list : goal.remove-requires-clause-list
remove-requires-clause-list g c =
    let s = c.self.inside in
    let v = c.args.self.now in
    let h = route_inside s.numbers s.ids.items (vec_capacity s.ids) s.counted.items s.dests s.msgids s.limit c.self.invariant.0 s.starts c.args.self.now c.self.view_is c.args.route c.requires.route in
    let there = list_there s.numbers s.ids.items (vec_capacity s.ids) s.counted.items s.dests s.msgids s.limit c.self.invariant.0 s.starts c.args.self.now c.self.view_is c.args.route c.requires.route in
    there

pub remove-requires-clause-there : goal.remove-requires-clause-there
remove-requires-clause-there g c =
    let s = c.self.inside in
    ap (has_sub c.args.sub) (dests_there s.numbers s.ids.items (vec_capacity s.ids) s.counted.items s.dests s.msgids s.limit c.self.invariant.0 s.starts c.args.self.now c.self.view_is c.args.route) ∙ c.requires.there

pub invariant_of-self : goal.invariant_of-self
invariant_of-self g c =
    let s = c.self.inside in
    let v = c.args.self.now in
    let h = route_inside s.numbers s.ids.items (vec_capacity s.ids) s.counted.items s.dests s.msgids s.limit c.self.invariant.0 s.starts c.args.self.now c.self.view_is c.args.route c.requires.route in
    let there = list_there s.numbers s.ids.items (vec_capacity s.ids) s.counted.items s.dests s.msgids s.limit c.self.invariant.0 s.starts c.args.self.now c.self.view_is c.args.route c.requires.route in
    (numbered_dests s.numbers s.ids.items (vec_capacity s.ids) s.counted.items s.dests s.msgids s.limit c.self.invariant.0 c.args.route (without c.args.sub (dests_in s.dests c.args.route)) c.remove.new.self h c.remove.ensures.after, c.self.invariant.1)

pub returns-clause-after : goal.returns-clause-after
returns-clause-after g c =
    let s = c.self.inside in
    let v = c.args.self.now in
    dests_after s.numbers s.ids.items (vec_capacity s.ids) s.counted.items s.dests s.msgids s.limit c.self.invariant.0 s.starts c.args.self.now c.self.view_is c.remove.new.self c.args.route (without c.args.sub (dests_in s.dests c.args.route)) c.requires.route c.remove.ensures.after
    ∙ ap (λ ds. with_dests v c.args.route (without c.args.sub ds)) (dests_there s.numbers s.ids.items (vec_capacity s.ids) s.counted.items s.dests s.msgids s.limit c.self.invariant.0 s.starts c.args.self.now c.self.view_is c.args.route)

pub returns-clause-cost : goal.returns-clause-cost
returns-clause-cost g c =
    let s = c.self.inside in
    omega (arith, c.remove.ensures.cost, ap (λ ds. length ds) (dests_there s.numbers s.ids.items (vec_capacity s.ids) s.counted.items s.dests s.msgids s.limit c.self.invariant.0 s.starts c.args.self.now c.self.view_is c.args.route))
