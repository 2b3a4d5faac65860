-- The bytes of the housekeeping packet, and how its parts come to their places.
use Rattle.std.proofs.Common.{◌≡◌, ℕ, List, [], ◌∷◌, ◌++◌, length, take, drop, refl, sym, ap, ◌∙◌, append_assoc, append-nil, arith}
use Rattle.std.proofs.lemmas.Grind.{common_steps}
use Rattle.std.proofs.lemmas.List.{take_at, drop_at, drop_all, drop-drop}
use borrow.Rule.Slice.PartMut.{put_mid}
use Rattle.ccsds_msg.specs.Message.{header_bytes, header_of, message_id, fault, IsMessage}
use Rattle.housekeeping.specs.declared.in_use.InUse.{InUse}
use Rattle.housekeeping.specs.Counters.{Counts}
use Rattle.housekeeping.specs.Packet.{housekeeping_id, counts_told, housekeeping_packet}
use Rattle.housekeeping.specs.Inside.{counts_in}

-- of eleven numbers the first ten are the packet's counts that they stand for, in its order
pub counts_told-counts_in : (numbers : List ℕ) → length numbers ≡ 11 → counts_told (counts_in numbers) ≡ take 10 numbers
counts_told-counts_in (a ∷ b ∷ c ∷ d ∷ e ∷ f ∷ g ∷ h ∷ i ∷ j ∷ k ∷ []) eleven = refl
counts_told-counts_in numbers eleven = absurd (omega arith)

-- a part written right behind a front
placed : (front rest part : List ℕ) (at size : ℕ) → length front ≡ at →
    put_mid at size (front ++ rest) part ≡ front ++ part ++ drop size rest
placed front rest part at size ends =
    rw (take_at front rest at ends, drop_at front rest at ends) (sym (append_assoc front part (drop size rest)))

-- the packet's parts, written one after the other into 64 bytes
pub parts_placed : (header rest counts uses zeros : List ℕ) → length header ≡ 6 → length rest ≡ 58 → length counts ≡ 40 → length uses ≡ 16 →
    put_mid 62 2 (put_mid 46 16 (put_mid 6 40 (header ++ rest) counts) uses) zeros ≡ header ++ counts ++ uses ++ zeros
parts_placed header rest counts uses zeros six others forty sixteen =
    let behind_counts : length (header ++ counts) ≡ 46 = grind (arith, common_steps) in
    let behind_uses : length (header ++ counts ++ uses) ≡ 62 = grind (arith, common_steps) in
    let none_left : drop 2 (drop 16 (drop 40 rest)) ≡ [] = drop-drop 2 16 (drop 40 rest) ∙ drop-drop 18 40 rest ∙ drop_all 58 rest (omega arith) in
    ap (λ (bytes : List ℕ). put_mid 62 2 (put_mid 46 16 bytes uses) zeros) (placed header rest counts 6 40 six)
    ∙ ap (λ (bytes : List ℕ). put_mid 62 2 bytes zeros) (placed (header ++ counts) (drop 40 rest) uses 46 16 behind_counts)
    ∙ placed (header ++ counts ++ uses) (drop 16 (drop 40 rest)) zeros 62 2 behind_uses
    ∙ ap (λ (left : List ℕ). header ++ counts ++ uses ++ zeros ++ left) none_left
    ∙ append-nil (header ++ counts ++ uses ++ zeros)

-- the packet has 64 bytes
pub length-housekeeping_packet : (counts : Counts) (now : InUse) → length (housekeeping_packet counts now) ≡ 64
unfolding housekeeping_packet header_bytes
length-housekeeping_packet counts now = refl

-- the packet is a message
pub IsMessage-housekeeping_packet : (counts : Counts) (now : InUse) → IsMessage (housekeeping_packet counts now)
unfolding housekeeping_packet header_bytes fault
IsMessage-housekeeping_packet counts now = refl

-- the packet's header
pub header_of-housekeeping_packet : (counts : Counts) (now : InUse) →
    header_of (housekeeping_packet counts now) ≡ record { id = housekeeping_id; flags = 3; count = 0; size = 64 }
unfolding housekeeping_packet header_bytes
header_of-housekeeping_packet counts now = refl

-- the packet's message id
pub message_id-housekeeping_packet : (counts : Counts) (now : InUse) → message_id (housekeeping_packet counts now) ≡ housekeeping_id
message_id-housekeeping_packet counts now = ap (λ header. header.id) (header_of-housekeeping_packet counts now)
