-- What a port has once a buffer of its bag was written.
use Rattle.std.specs.Prelude.{ℕ, List}
use Rattle.buf_desc.specs.Held.{with_bytes_at}
use Rattle.bus_service.specs.Ports.{PortView}

-- the port, with bytes written over those of its buffer of this number
abbrev pub with_buffer : PortView → ℕ → List ℕ → PortView
with_buffer port number w = record port { bag = with_bytes_at port.bag number w }
