use Rattle.std.proofs.Common.{length, ap, sym, ◌∙◌}
use Rattle.std.proofs.lemmas.List.{length-map}
use Rattle.bus_routes.specs.Tables.{Tables}
use Rattle.bus_routes.specs.Inside.{sub_in}
use Rattle.bus_routes.proofs.tables.BusTables.subscriptions_len.Goals as goal

pub returns : goal.returns
returns c = c.len.ensures ∙ sym (length-map c.self.inside.subs.live sub_in) ∙ ap (λ (t : Tables). length t.subscriptions) c.self.view_is
