use Rattle.std.proofs.Common.{◌∙◌, length, ap}
use Rattle.std.specs.Vec.{vec_capacity}
use Rattle.routing.proofs.Numbers.{route_inside, list_there, dests_there}
use Rattle.routing.proofs.routes.Routes.dests_of.Goals as goal

pub len-requires : goal.len-requires
len-requires c =
    let s = c.self.inside in
    let v = c.args.self.now in
    let h = route_inside s.numbers s.ids.items (vec_capacity s.ids) s.counted.items s.dests s.msgids s.limit c.self.invariant.0 s.starts c.args.self.now c.self.view_is c.args.route c.requires in
    let there = list_there s.numbers s.ids.items (vec_capacity s.ids) s.counted.items s.dests s.msgids s.limit c.self.invariant.0 s.starts c.args.self.now c.self.view_is c.args.route c.requires in
    there

pub returns : goal.returns
returns c =
    let s = c.self.inside in
    c.len.ensures ∙ ap (λ ds. length ds) (dests_there s.numbers s.ids.items (vec_capacity s.ids) s.counted.items s.dests s.msgids s.limit c.self.invariant.0 s.starts c.args.self.now c.self.view_is c.args.route)
