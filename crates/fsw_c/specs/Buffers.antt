-- A buffer that C has, to write it in place, and what of it a call leaves.
use Rattle.std.specs.Prelude.{◌≡◌, ℕ, List, [], Option, Some, None}
use Rattle.std.specs.Option.{option_map_or}
use Rattle.checked_bus.specs.Box.{bag_of}
use Rattle.checked_bus.specs.Lent.{Lent, written, StaysOut, IsGivenOut}
use Rattle.fsw_core.specs.declared.Core.{Core}
use Rattle.fsw_c.specs.declared.buffer.FswBuffer.{FswBuffer}
use Rattle.fsw_c.specs.Lent.{one_of}

-- the buffer that C has
abbrev pub buffer_of : FswBuffer → Lent
buffer_of buffer = one_of (record { number = buffer.number; bytes = buffer.lent.bytes })

-- what was written of the bytes that the application asked for
abbrev pub written_in : Option Core → ℕ → Lent → List ℕ
written_in old app buffer = option_map_or (λ (o : Core). written (bag_of o.bus app) buffer) old []

-- C keeps the buffer, with what was written there of the bytes that the application asked for
abbrev pub StaysWith : Option Core → ℕ → Lent → Lent → Type 0
StaysWith None app buffer now = now ≡ buffer
StaysWith (Some o) app buffer now = StaysOut (bag_of o.bus app) buffer now

-- C has a new buffer of the application's: the bytes that were asked for are zeros
abbrev pub GivesOut : Option Core → ℕ → ℕ → Lent → Type 0
GivesOut new app asked buffer =
    (n : Core) → new ≡ Some n → IsGivenOut (bag_of n.bus app) asked buffer.number buffer
