use Rattle.std.proofs.Common.{ap, sym, ◌∙◌}
use Rattle.std.specs.Option.{option_map}
use Rattle.bus_routes.specs.Rows.{last_row_item}
use Rattle.bus_routes.specs.Tables.{Tables}
use Rattle.bus_routes.specs.Inside.{item_in}
use Rattle.bus_routes.proofs.Readers.{last_owned, last_foreign}
use Rattle.bus_routes.proofs.tables.BusTables.last.Goals as goal

pub returns-then-not-owns : goal.returns-then-not-owns
returns-then-not-owns c =
    last_foreign c.self.inside.pipes.live c.args.app c.args.number (sym c.owns.ensures ∙ c.if-not-owns.true)
    ∙ ap (λ (t : Tables). last_row_item t.pipes c.args.app c.args.number) c.self.view_is

pub returns : goal.returns
returns c =
    c.item_row.ensures
    ∙ ap (option_map item_in) c.last.ensures
    ∙ last_owned c.self.inside.pipes.live c.args.app c.args.number (sym c.owns.ensures ∙ c.if-not-owns.false)
    ∙ ap (λ (t : Tables). last_row_item t.pipes c.args.app c.args.number) c.self.view_is
