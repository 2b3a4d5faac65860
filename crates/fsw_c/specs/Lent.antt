-- A block that C writes in place.
use Rattle.std.specs.Prelude.{ℕ, ◌^◌, List, Option, Some, None, is_some, if◌then◌else◌}
use base.Fml.{Fml, ftrue, fsep, flt}
use base.Fraction.{full_share}
use denote.Array.{Array}
use denote.Builtin.{u8}
use denote.RawPtr.{Ptr, lies_at}
use Rattle.checked_bus.specs.Lent.{Lent}

-- the memory at this place, if there is a block: these bytes, as many as the length says
abbrev pub maybe_lies : Ptr → ℕ → Option (List ℕ) → Fml
maybe_lies at len None = ftrue
maybe_lies at len (Some bytes) =
    fsep (lies_at (Array u8 len) full_share at bytes) (flt len (2 ^ 63))

-- the buffer; if there is none, its number is 0
abbrev pub one_of : Lent → Lent
one_of buffer = record buffer { number = if is_some buffer.bytes then buffer.number else 0 }
