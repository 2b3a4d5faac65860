use Rattle.std.proofs.Common.{length, ap, arith}
use Rattle.std.specs.Vec.{vec_capacity}
use Rattle.routing.proofs.Numbers.{long}
use Rattle.routing.proofs.routes.Routes.len.Goals as goal

pub returns : goal.returns
returns c =
    let s = c.self.inside in
    omega (arith, c.len.ensures, s.ids.ok, long s.numbers s.ids.items (vec_capacity s.ids) s.counted.items s.dests s.msgids s.limit c.self.invariant.0, ap (λ v. length v.routes) c.self.view_is)
