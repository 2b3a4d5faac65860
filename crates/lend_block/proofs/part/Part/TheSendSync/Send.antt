use mathlib.Core.List.{[], ◌∷◌}
use denote.Builtin.{RawPtr, u8}
use denote.Param.Send.{IsSend, owning_send, struct_send, sendable}
use denote.Ref.{NamedLft}
use denote.Struct.Field.{shr_ref_field}
use denote.Struct.Owning.{shape, fields, to}
use denote.Struct.Struct.{exits_of}
use Rattle.std.specs.contracts.marker.PhantomData as marker
use Rattle.std_alloc.proofs.SendSync.{quiet}
use Rattle.lend_block.proofs.Threads.{readable_anywhere}
use Rattle.lend_block.specs.contracts.part.Part.{the_row, the_type}

pub send : (r : NamedLft) → IsSend (the_row r)
send r =
    let O = the_type r in
    let pointer : IsSend RawPtr = search sendable in
    let mark : IsSend (marker.the_field (shr_ref_field r u8 tt).row).row = search sendable in
    owning_send O (pointer, (mark, tt)) (λ p. ((λ e c. tt), readable_anywhere r.lft p.ptr p.bytes (p.loan ∷ [])))
    (λ k. quiet (to O) (exits_of k (fields O)) ((struct_send (shape O) (pointer, (mark, tt))).leaving k))
