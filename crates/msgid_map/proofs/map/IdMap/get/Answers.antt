use Rattle.std.proofs.Common.{◌∙◌, sym, ap}
use Rattle.std.specs.FinMap as map
use Rattle.msgid_map.specs.Inside.{route_at}
use Rattle.msgid_map.specs.Map.{IdRoutes}
use Rattle.msgid_map.proofs.Tables.{place_read, place_past, route_of}
use Rattle.msgid_map.proofs.map.IdMap.get.Goals as goal

pub returns-in-Some : goal.returns-in-Some
returns-in-Some c =
    let s = c.self.inside in
    let place = place_read s.places.items c.deref.result.now c.args.id c.in-Some.place.now c.deref.ensures.value c.in-Some.ensures.lookup.0 c.in-Some.ensures.lookup.1 in
    c.route_at.ensures
    ∙ ap route_at place
    ∙ sym (route_of s.places.items c.args.id)
    ∙ ap (λ (v : IdRoutes). map.get v.routes c.args.id) c.self.view_is

pub returns-in-None : goal.returns-in-None
returns-in-None c =
    let s = c.self.inside in
    place_past s.places.items c.deref.result.now c.args.id c.deref.ensures.value c.in-None.ensures.lookup.0
    ∙ ap (λ (v : IdRoutes). map.get v.routes c.args.id) c.self.view_is
