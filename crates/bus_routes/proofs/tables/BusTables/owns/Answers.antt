use Rattle.std.proofs.Common.{ap, ◌∙◌}
use Rattle.bus_words.specs.Pipes.{owns}
use Rattle.bus_routes.specs.Tables.{Tables}
use Rattle.bus_routes.proofs.Readers.{owns_there}
use Rattle.bus_routes.proofs.tables.BusTables.owns.Goals as goal

pub returns : goal.returns
returns c =
    c.owns.ensures
    ∙ owns_there c.self.inside.pipes.live c.args.app c.args.number
    ∙ ap (λ (t : Tables). owns t.pipes c.args.app c.args.number) c.self.view_is
