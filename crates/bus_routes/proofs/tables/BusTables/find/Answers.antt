use Rattle.std.proofs.Common.{ℕ, find, ap, ◌∙◌}
use Rattle.std.specs.Option.{option_map}
use Rattle.std.specs.Str.{bytes_eq}
use Rattle.bus_routes.specs.Rows.{Row}
use Rattle.bus_routes.specs.Tables.{Tables}
use Rattle.bus_routes.proofs.Readers.{find_there}
use Rattle.bus_routes.proofs.tables.BusTables.find.Goals as goal

pub returns : goal.returns
returns c =
    c.find.ensures
    ∙ find_there c.self.inside.pipes.live c.args.name.now
    ∙ ap (λ (t : Tables). option_map {U = ℕ} (λ (row : Row). row.number) (find (λ (row : Row). bytes_eq row.name c.args.name.now) t.pipes)) c.self.view_is
