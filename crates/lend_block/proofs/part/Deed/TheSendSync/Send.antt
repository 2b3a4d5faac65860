use mir.Syntax.{named}
use denote.Builtin.{RawPtr, u8}
use denote.Param.Send.{IsSend, owning_send, struct_send, mut_slice_send, sendable}
use denote.Ref.{NamedLft}
use denote.Slice.{mut_slice_vals}
use denote.Struct.Field.{shr_ref_field}
use denote.Struct.Owning.{shape, fields, to}
use denote.Struct.Struct.{exits_of}
use Rattle.std.specs.contracts.marker.PhantomData as marker
use Rattle.std_alloc.proofs.SendSync.{quiet}
use Rattle.lend_block.specs.contracts.part.Deed.{the_row, the_type}

pub send : (r : NamedLft) → IsSend (the_row r)
send r =
    let O = the_type r in
    let pointer : IsSend RawPtr = search sendable in
    let mark : IsSend (marker.the_field (shr_ref_field r u8 tt).row).row = search sendable in
    let byte : IsSend u8 = search sendable in
    owning_send O (pointer, (mark, tt)) (λ d. (mut_slice_send (named 0) r.lft u8 byte).owned d.block (mut_slice_vals d.block))
    (λ k. quiet (to O) (exits_of k (fields O)) ((struct_send (shape O) (pointer, (mark, tt))).leaving k))
