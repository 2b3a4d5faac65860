use Rattle.std.proofs.Common.{ap, ◌∙◌}
use Rattle.std.specs.FinMap as map
use Rattle.msgid_map.specs.Inside.{ids_with_route}
use Rattle.msgid_map.specs.Map.{IdRoutes}
use Rattle.msgid_map.proofs.Tables.{routes_from-made, none-made}
use Rattle.msgid_map.proofs.map.IdMap.new.Goals as goal

pub returns : goal.returns
returns c =
    let places = c.resize.new.self.items in
    ap (λ routes. let made : IdRoutes = record { routes = routes; count = ids_with_route places; room = c.args.room } in made)
    (routes_from-made c.new-places.result.items places 8192 _ c.new-places.ensures.items c.in_ok-resize.ensures.items)
    ∙ ap (λ count. let made : IdRoutes = record { routes = map.empty; count = count; room = c.args.room } in made)
    (none-made c.new-places.result.items places 8192 _ c.new-places.ensures.items c.in_ok-resize.ensures.items)
