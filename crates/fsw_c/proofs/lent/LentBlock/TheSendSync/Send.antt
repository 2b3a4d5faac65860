-- A block that C has may go to another thread, and its memory may be written there.
use Rattle.std.specs.Prelude.{ℕ, List, Option, Some, None}
use base.Shift.{Keyless}
use denote.Builtin.{u8}
use denote.Array.{Array}
use denote.RawPtr.{Ptr}
use denote.Struct.Struct.{exits_of}
use denote.Struct.Owning.{shape, fields, to}
use denote.Param.Send.{IsSend, AllSend, owning_send, struct_send, array_send, sendable}
use Rattle.std_alloc.proofs.SendSync.{quiet, lies}
use Rattle.fsw_c.specs.Lent.{maybe_lies}
use Rattle.fsw_c.specs.contracts.lent.LentBlock.{the_row, the_type}

-- what it owns names no thread
owned : (p : Ptr) (n : ℕ) (bytes : Option (List ℕ)) → Keyless (maybe_lies p n bytes)
owned p n None = tt
owned p n (Some bytes) = (lies (Array u8 n) (array_send u8 n (search sendable)) p bytes, tt)

pub send : IsSend the_row
send =
    let all : AllSend (fields the_type) = search sendable in
    owning_send the_type all (λ d. owned d.at d.len d.bytes)
    (λ k. quiet (to the_type) (exits_of k (fields the_type)) ((struct_send (shape the_type) all).leaving k))
