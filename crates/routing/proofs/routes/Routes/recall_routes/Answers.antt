use Rattle.std.proofs.Common.{◌≤◌, eqb, length, count_by, ap, subst, arith}
use Rattle.std.specs.Vec.{vec_capacity}
use Rattle.routing.specs.Routing.{Routing}
use Rattle.routing.proofs.Numbers.{long, fewer_counts, fewer_lists, dests_there, dests_few, routes_once}
use Rattle.routing.proofs.routes.Routes.recall_routes.Goals as goal

pub returns-clause-once : goal.returns-clause-once
returns-clause-once c = λ id.
    let s = c.self.inside in
    let a = c.self.invariant.0 in
    let seen = routes_once s.ids.items s.counted.items s.dests.lists id (fewer_counts s.numbers s.ids.items (vec_capacity s.ids) s.counted.items s.dests s.msgids s.limit a) (fewer_lists s.numbers s.ids.items (vec_capacity s.ids) s.counted.items s.dests s.msgids s.limit a) in
    let P : Routing → Type 0 = λ r. count_by (λ route. eqb route.id id) r.routes ≤ 1 in
    subst P c.self.view_is (omega (arith, seen, a.once id))

pub returns-clause-fit : goal.returns-clause-fit
returns-clause-fit c =
    let s = c.self.inside in
    let a = c.self.invariant.0 in
    omega (arith, a.room, long s.numbers s.ids.items (vec_capacity s.ids) s.counted.items s.dests s.msgids s.limit a, ap (λ (r : Routing). length r.routes) c.self.view_is, ap (λ (r : Routing). r.msgids) c.self.view_is)

pub returns-clause-few : goal.returns-clause-few
returns-clause-few c = λ route.
    let s = c.self.inside in
    let a = c.self.invariant.0 in
    let there = dests_there s.numbers s.ids.items (vec_capacity s.ids) s.counted.items s.dests s.msgids s.limit a s.starts c.args.self.now c.self.view_is route in
    let few = dests_few s.numbers s.ids.items (vec_capacity s.ids) s.counted.items s.dests s.msgids s.limit a c.recall_limit.ensures route in
    omega (arith, few, ap (λ l. length l) there, ap (λ (r : Routing). r.dests) c.self.view_is)
