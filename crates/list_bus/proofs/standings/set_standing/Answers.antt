use Rattle.std.proofs.Common.{◌-◌, map, set, ap, ◌∙◌}
use Rattle.std.proofs.lemmas.List.{map-set}
use Rattle.list_bus.specs.Standings.{standing_in}
use Rattle.list_bus.proofs.standings.set_standing.Goals as goal

pub returns-then-place-len : goal.returns-then-place-len
returns-then-place-len c =
    let standings = c.args.standings.now.items in
    map-set standing_in standings (c.get.result - 1) c.args.standing ∙ ap (λ n. set (map standing_in standings) (n - 1) (standing_in c.args.standing)) c.get.ensures.value
