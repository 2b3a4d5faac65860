-- What an application's calls through its two ports see.
use Rattle.std.specs.Prelude.{false}
use Rattle.bus_service.specs.Ports.{PortView}
use Rattle.tbl_service.specs.Ports.{PortView as TablesPortView}
use Rattle.app_calls.specs.Callers.{Caller}

-- Who calls through these two ports: their application; both services as the ports have seen them,
-- with its bags in the ports. Who calls owns the ports, so no names of references tell them apart.
-- Others call the services too.
abbrev pub caller_of : PortView → TablesPortView → Caller
caller_of port tables_port = record {
  app = port.app;
  core = port.seen;
  bag = port.bag;
  tables = tables_port.seen;
  held = tables_port.bag;
  names = record { bus = 0; bag = 0; tables = 0; held = 0 };
  alone = false;
}
