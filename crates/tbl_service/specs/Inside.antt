-- What contracts see of a port.
use Rattle.tbl_words.specs.declared.history.Entry.{Entry}
use Rattle.table_blocks.specs.Held.{HeldViews}
use Rattle.tbl_load.specs.Core.{Core}
use Rattle.core_port.specs.Ports as ports
use Rattle.tbl_service.specs.Ports.{PortView}

-- a port with what its application holds
abbrev pub with_bag : ports.PortView Core Entry → HeldViews → PortView
with_bag port bag =
    record {
      lock = port.lock;
      app = port.app;
      seen = port.seen;
      mine = port.mine;
      bag = bag;
    }
