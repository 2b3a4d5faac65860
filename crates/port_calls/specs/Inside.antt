-- What the two ports behind an application's calls always are.
use Rattle.std.specs.Prelude.{◌≡◌}
use Rattle.atomic_table.specs.Seated.{TableId}
use Rattle.bus_service.specs.Ports.{PortView}
use Rattle.tbl_service.specs.Ports.{PortView as TablesPortView}

-- The two ports are of these two locks, which the services at hand have, and of one application.
pub record AreOfOne (bus_lock tables_lock : TableId) (p : PortView) (b : TableId)
    (q : TablesPortView) (t : TableId) : Type 0 where
  pub bus : b ≡ bus_lock
  pub tables : t ≡ tables_lock
  pub bus_port : p.lock ≡ b
  pub tables_port : q.lock ≡ t
  pub app : q.app ≡ p.app
