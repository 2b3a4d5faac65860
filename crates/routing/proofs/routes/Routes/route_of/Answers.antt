use Rattle.std.proofs.Common.{◌∙◌}
use Rattle.std.specs.Vec.{vec_capacity}
use Rattle.routing.proofs.Numbers.{number_there}
use Rattle.routing.proofs.routes.Routes.route_of.Goals as goal

pub returns : goal.returns
returns c =
    let s = c.self.inside in
    c.get.ensures ∙ number_there s.numbers s.ids.items (vec_capacity s.ids) s.counted.items s.dests s.msgids s.limit c.self.invariant.0 s.starts c.args.self.now c.self.view_is c.args.id
