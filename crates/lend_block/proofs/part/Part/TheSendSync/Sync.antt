use mathlib.Core.List.{[], ◌∷◌}
use denote.Builtin.{RawPtr, u8}
use denote.Param.Send.{IsSync, struct_sync, sendable}
use denote.Ref.{NamedLft}
use denote.Struct.Field.{shr_ref_field}
use denote.Struct.Owning.{shape, to}
use Rattle.std.specs.contracts.marker.PhantomData as marker
use Rattle.lend_block.proofs.Threads.{readable_anywhere}
use Rattle.lend_block.specs.contracts.part.Part.{the_row, the_type}

pub sync : (r : NamedLft) → IsSync (the_row r)
sync r =
    let O = the_type r in
    let pointer : IsSync RawPtr = search sendable in
    let mark : IsSync (marker.the_field (shr_ref_field r u8 tt).row).row = search sendable in
    record { shared = λ p b o κ. ((struct_sync (shape O) (pointer, (mark, tt))).shared (to O p) b o κ, ((λ q. tt), readable_anywhere r.lft p.ptr p.bytes (p.loan ∷ []))) }
