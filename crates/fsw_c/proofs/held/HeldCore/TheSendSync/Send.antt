-- A handle may go to another thread: the core behind it may, and its memory may be freed there.
use Rattle.std.specs.Prelude.{Option, Some, None}
use mir.Raw.{raw}
use base.Shift.{Keyless}
use denote.Memory.{lone}
use denote.RawPtr.{Ptr}
use denote.Struct.Struct.{exits_of}
use denote.Struct.Owning.{shape, fields, to}
use denote.Param.Send.{IsSend, AllSend, owning_send, struct_send, sendable}
use Rattle.std.proofs.Crossing as heap
use Rattle.std.specs.Global.{Global}
use Rattle.std_alloc.proofs.SendSync.{quiet, lies}
use Rattle.std_heap.proofs.Global.TheSendSync as handle
use Rattle.fsw_core.specs.contracts.Core as Core
use Rattle.fsw_core.proofs.Core.TheSendSync.{the_send as core}
use Rattle.fsw_c.specs.Owned.{maybe_owns}
use Rattle.fsw_c.specs.contracts.held.HeldCore.{the_row, the_type}

-- what it owns names no thread
owned : (alloc : Global) (p : Ptr) (held : Option Core.the_row.Denot) → Keyless (maybe_owns alloc p held)
owned alloc p None = tt
owned alloc p (Some x) = (lies Core.the_row core p x, heap.frees.frees alloc (raw (lone Core.the_row.mir)) p)

pub send : IsSend the_row
send =
    let all : AllSend (fields the_type) = (search sendable, (handle.the_field_send, tt)) in
    owning_send the_type all (λ d. owned d.alloc d.at d.value)
    (λ k. quiet (to the_type) (exits_of k (fields the_type)) ((struct_send (shape the_type) all).leaving k))
