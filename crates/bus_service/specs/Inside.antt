-- What contracts see of a port, and which calls its permits let its application make.
use Rattle.std.specs.Prelude.{Bool, false}
use Rattle.lend_block.specs.Loan.{LentBytes}
use Rattle.buf_desc.specs.Held.{Holding}
use Rattle.bus_words.specs.declared.history.Call.{Call}
use Rattle.bus_words.specs.declared.history.Call.TheVariants.{Look, End}
use Rattle.bus_words.specs.declared.history.Entry.{Entry}
use Rattle.sb_calls.specs.Core.{Core}
use Rattle.core_port.specs.Ports as ports
use Rattle.bus_service.specs.Ports.{PortView}
use Rattle.bus_service.specs.declared.permits.Permits.{Permits}

-- a port with what its application holds
abbrev pub with_bag : ports.PortView Core Entry → Holding LentBytes → PortView
with_bag port bag =
    record {
      lock = port.lock;
      app = port.app;
      seen = port.seen;
      mine = port.mine;
      bag = bag;
    }

-- whether these permits let an application make this call, so far as it brings no bytes; they tell
-- of no look
abbrev pub lets : Permits → Call → Bool
lets permits (Look pipe) = false
lets permits End = permits.last
lets permits call = permits.any
