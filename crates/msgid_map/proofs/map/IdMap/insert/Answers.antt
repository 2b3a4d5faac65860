use Rattle.std.proofs.Common.{◌≡◌, ◌+◌, ◌<◌, ◌∙◌, length, get_or, refl, ap, arith}
use Rattle.std.specs.FinMap as map
use Rattle.msgid_map.specs.Map.{IdRoutes}
use Rattle.msgid_map.proofs.Tables.{place_of_none, routes_from-set, one_more, few_routes}
use Rattle.msgid_map.proofs.map.IdMap.insert.Goals as goal

pub overflow_add-route : goal.overflow_add-route
overflow_add-route c =
    let s = c.self.inside in
    let inside : c.args.id < length s.places.items = omega (arith, c.requires.last, c.self.invariant) in
    let none : get_or s.places.items c.args.id 0 ≡ 0 = place_of_none s.places.items c.args.id (ap (λ (v : IdRoutes). map.get v.routes c.args.id) c.self.view_is ∙ c.requires.fresh) in
    omega (arith, few_routes s.places.items c.args.id inside none, c.self.invariant, c.requires.next, ap (λ (v : IdRoutes). v.count) c.self.view_is)

pub overflow_cast-route : goal.overflow_cast-route
overflow_cast-route c =
    let s = c.self.inside in
    let inside : c.args.id < length s.places.items = omega (arith, c.requires.last, c.self.invariant) in
    let none : get_or s.places.items c.args.id 0 ≡ 0 = place_of_none s.places.items c.args.id (ap (λ (v : IdRoutes). map.get v.routes c.args.id) c.self.view_is ∙ c.requires.fresh) in
    omega (arith, few_routes s.places.items c.args.id inside none, c.self.invariant, c.requires.next, ap (λ (v : IdRoutes). v.count) c.self.view_is)

pub returns-clause-routes : goal.returns-clause-routes
returns-clause-routes c =
    let s = c.self.inside in
    let inside : c.args.id < length s.places.items = omega (arith, c.requires.last, c.self.invariant) in
    routes_from-set s.places.items c.args.id c.args.route (c.args.route + 1) inside refl
    ∙ ap (λ (v : IdRoutes). map.insert v.routes c.args.id c.args.route) c.self.view_is

pub returns-clause-count : goal.returns-clause-count
returns-clause-count c =
    let s = c.self.inside in
    let inside : c.args.id < length s.places.items = omega (arith, c.requires.last, c.self.invariant) in
    let none : get_or s.places.items c.args.id 0 ≡ 0 = place_of_none s.places.items c.args.id (ap (λ (v : IdRoutes). map.get v.routes c.args.id) c.self.view_is ∙ c.requires.fresh) in
    one_more s.places.items c.args.id (c.args.route + 1) inside none (omega arith)
    ∙ ap (λ (v : IdRoutes). v.count + 1) c.self.view_is
