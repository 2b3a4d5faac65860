use Rattle.std.proofs.Common.{◌∙◌, ap, arith}
use Rattle.std.proofs.lemmas.List.{get_or_read}
use Rattle.std.specs.Vec.{vec_capacity}
use Rattle.routing.specs.Routing.{Route}
use Rattle.routing.proofs.Numbers.{route_inside, list_there, route_there}
use Rattle.routing.proofs.routes.Routes.id_of.Goals as goal

pub index-requires : goal.index-requires
index-requires c =
    let s = c.self.inside in
    let v = c.args.self.now in
    let h = route_inside s.numbers s.ids.items (vec_capacity s.ids) s.counted.items s.dests s.msgids s.limit c.self.invariant.0 s.starts c.args.self.now c.self.view_is c.args.route c.requires in
    let there = list_there s.numbers s.ids.items (vec_capacity s.ids) s.counted.items s.dests s.msgids s.limit c.self.invariant.0 s.starts c.args.self.now c.self.view_is c.args.route c.requires in
    omega (arith, h, s.ids.ok)

pub returns : goal.returns
returns c =
    let s = c.self.inside in
    let v = c.args.self.now in
    let h = route_inside s.numbers s.ids.items (vec_capacity s.ids) s.counted.items s.dests s.msgids s.limit c.self.invariant.0 s.starts c.args.self.now c.self.view_is c.args.route c.requires in
    let there = list_there s.numbers s.ids.items (vec_capacity s.ids) s.counted.items s.dests s.msgids s.limit c.self.invariant.0 s.starts c.args.self.now c.self.view_is c.args.route c.requires in
    get_or_read s.ids.items c.args.route c.index.result.now h c.index.ensures 0 ∙ ap (λ (r : Route). r.id) (route_there s.numbers s.ids.items (vec_capacity s.ids) s.counted.items s.dests s.msgids s.limit c.self.invariant.0 s.starts c.args.self.now c.self.view_is c.args.route c.requires)
