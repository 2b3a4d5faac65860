use Rattle.std.proofs.Common.{◌∙◌}
use Rattle.std.specs.Vec.{vec_capacity}
use Rattle.routing.proofs.Numbers.{dests_there, holds_inside}
use Rattle.routing.proofs.routes.Routes.next.Goals as goal

pub returns-clause-behind : goal.returns-clause-behind
returns-clause-behind g c = λ route before behind sub e.
    let s = c.self.inside in
    let here = dests_there s.numbers s.ids.items (vec_capacity s.ids) s.counted.items s.dests s.msgids s.limit c.self.invariant.0 s.starts c.args.self.now c.self.view_is route ∙ e in
    c.next.ensures.behind route before behind sub (holds_inside s.numbers s.ids.items (vec_capacity s.ids) s.counted.items s.dests s.msgids s.limit c.self.invariant.0 s.starts c.args.self.now c.self.view_is route before behind (c.args.node, sub) here) here
