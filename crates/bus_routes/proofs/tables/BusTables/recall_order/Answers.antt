use Rattle.std.proofs.Common.{subst}
use Rattle.bus_words.specs.Pipes.{IsRising}
use Rattle.bus_routes.specs.Tables.{Tables}
use Rattle.bus_words.proofs.PipeItems.{IsRising-map}
use Rattle.bus_routes.specs.Inside.{item_in}
use Rattle.bus_routes.proofs.tables.BusTables.recall_order.Goals as goal

pub returns : goal.returns
returns c =
    let P : Tables → Type 0 = λ t. IsRising 0 t.pipes in
    subst P c.self.view_is (IsRising-map item_in 0 c.self.inside.pipes.live c.recall_order.ensures.order)
