use Rattle.std.proofs.Common.{ap, ◌∙◌}
use Rattle.std.specs.Option.{option_map}
use Rattle.bus_words.specs.Pipes.{oldest_on}
use Rattle.bus_routes.specs.Tables.{Tables}
use Rattle.bus_routes.specs.Inside.{item_in}
use Rattle.bus_routes.proofs.Readers.{oldest_there}
use Rattle.bus_routes.proofs.tables.BusTables.oldest.Goals as goal

pub returns : goal.returns
returns c =
    c.item_row.ensures
    ∙ ap (option_map item_in) c.oldest.ensures
    ∙ oldest_there c.self.inside.pipes.live c.args.number
    ∙ ap (λ (t : Tables). oldest_on t.pipes c.args.number) c.self.view_is
