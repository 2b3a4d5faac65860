use Rattle.std.proofs.Common.{ℕ, List, ap, ◌∙◌}
use Rattle.std.specs.Option.{option_map}
use Rattle.bus_words.specs.Pipes.{pipe_at}
use Rattle.bus_routes.specs.Rows.{Row}
use Rattle.bus_routes.specs.Tables.{Tables}
use Rattle.bus_routes.proofs.Readers.{name_there}
use Rattle.bus_routes.proofs.tables.BusTables.name.Goals as goal

pub returns : goal.returns
returns c =
    c.name.ensures
    ∙ name_there c.self.inside.pipes.live c.args.number
    ∙ ap (λ (t : Tables). option_map {U = List ℕ} (λ (row : Row). row.name) (pipe_at t.pipes c.args.number)) c.self.view_is
