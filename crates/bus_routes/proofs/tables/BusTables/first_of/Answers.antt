use Rattle.std.proofs.Common.{ℕ, eqb, find, ap, ◌∙◌}
use Rattle.std.specs.Option.{option_map}
use Rattle.bus_routes.specs.Rows.{Row}
use Rattle.bus_routes.specs.Tables.{Tables}
use Rattle.bus_routes.proofs.Readers.{first_there}
use Rattle.bus_routes.proofs.tables.BusTables.first_of.Goals as goal

pub returns : goal.returns
returns c =
    c.first_of.ensures
    ∙ first_there c.self.inside.pipes.live c.args.app
    ∙ ap (λ (t : Tables). option_map {U = ℕ} (λ (row : Row). row.number) (find (λ (row : Row). eqb row.owner c.args.app) t.pipes)) c.self.view_is
