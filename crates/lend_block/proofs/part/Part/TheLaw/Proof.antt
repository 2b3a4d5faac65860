-- A `&` to a part holds a share of its token, and the bytes to read.
use denote.Builtin.{u8}
use denote.Param.Shared.{copy_shared}
use denote.Ref.{NamedLft, ShrRef}
use denote.Struct.Field.{RawPtr-field}
use denote.Struct.Laws.{RawPtr-copy, field_copy}
use denote.Struct.Lending.{of_Lends}
use Rattle.left_right.proofs.PartSteps.{lent_laws, Lends-part}
use Rattle.std.specs.contracts.marker.PhantomData as marker
use Rattle.lend_block.proofs.Borrows.{readable_laws}
use Rattle.lend_block.proofs.part.Part.TheLaw.Statement.{statement}
use Rattle.lend_block.specs.Inside.{readable}
use Rattle.lend_block.specs.contracts.part.Part as part

pub shares : (r : NamedLft) → statement r
shares r =
    let byte_ref = ShrRef r.mir r.lft u8 in
    of_Lends (part.struct r) (part.the_codes (marker.the_row byte_ref).coded) (part.the_heap r.lft) (part.the_lent r.lft)
    (λ p _. lent_laws (readable r.lft p.ptr p.bytes) (readable_laws r.lft p.ptr p.bytes) p.loan)
    (copy_shared RawPtr-field RawPtr-copy, (copy_shared (marker.the_field byte_ref) (field_copy (marker.the_type byte_ref) tt), tt))
    (λ M 𝓤 𝓛 p _. Lends-part (readable r.lft p.ptr p.bytes) (readable_laws r.lft p.ptr p.bytes) 𝓛 p.loan p.count (part.the_row r).lives)
