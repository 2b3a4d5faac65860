use Rattle.std.proofs.Common.{ℕ, length, ap, ◌∙◌}
use Rattle.std.specs.Option.{option_map}
use Rattle.bus_words.specs.Pipes.{pipe_at}
use Rattle.bus_routes.specs.Rows.{Row}
use Rattle.bus_routes.specs.Tables.{Tables}
use Rattle.bus_routes.proofs.Readers.{waiting_there}
use Rattle.bus_routes.proofs.tables.BusTables.waiting_count.Goals as goal

pub returns : goal.returns
returns c =
    c.waiting_count.ensures
    ∙ waiting_there c.self.inside.pipes.live c.args.number
    ∙ ap (λ (t : Tables). option_map {U = ℕ} (λ (row : Row). length row.queue) (pipe_at t.pipes c.args.number)) c.self.view_is
