-- Laws of messages, for the crates that change and compare them.
use Rattle.std.proofs.Common.{◌≡◌, ℕ, ◌+◌, ◌<◌, ◌≤◌, List, ◌++◌, length, take, drop, slice_index, Option, Some, None, is_ok, is_none, IsTrue, refl, sym, ap, ◌∙◌, arith}
use Rattle.std.proofs.lemmas.Grind.{common_steps}
use Rattle.ccsds_msg.specs.declared.packet.Header.{Header}
use Rattle.ccsds_msg.specs.declared.packet.MsgFault.{MsgFault}
use Rattle.ccsds_msg.specs.Message.{message_id, message_flags, message_count, message_size, header_of, header_or_fault, fault, front_fault, with_count, header_bytes, is_valid_id, IsMessage}

-- a new count leaves the number of bytes
pub length-with_count : (bytes : List ℕ) (count : ℕ) → 4 ≤ length bytes → length (with_count bytes count) ≡ length bytes
unfolding with_count
length-with_count bytes count header = grind (arith, common_steps)

-- a new count leaves the message id
pub message_id-with_count : (bytes : List ℕ) (count : ℕ) → 4 ≤ length bytes → message_id (with_count bytes count) ≡ message_id bytes
unfolding with_count
message_id-with_count bytes count header = grind (arith, common_steps)

-- a new count leaves the size
pub message_size-with_count : (bytes : List ℕ) (count : ℕ) → 6 ≤ length bytes → message_size (with_count bytes count) ≡ message_size bytes
unfolding with_count
message_size-with_count bytes count header = grind (arith, common_steps)

-- a new count is read back
pub message_count-with_count : (bytes : List ℕ) (count : ℕ) → 6 ≤ length bytes → count < 16384 → message_count (with_count bytes count) ≡ count
unfolding with_count
message_count-with_count bytes count header small = grind (arith, common_steps)

-- a new count leaves the sequence flags
pub message_flags-with_count : (bytes : List ℕ) (count : ℕ) → 6 ≤ length bytes → count < 16384 → message_flags (with_count bytes count) ≡ message_flags bytes
unfolding with_count
message_flags-with_count bytes count header small = grind (arith, common_steps)

-- a new count leaves all bytes after the header
pub drop-with_count : (bytes : List ℕ) (count : ℕ) → 6 ≤ length bytes → drop 6 (with_count bytes count) ≡ drop 6 bytes
unfolding with_count
drop-with_count bytes count header = grind (arith, common_steps)

-- the last of two new counts stands
pub with_count-with_count : (bytes : List ℕ) (first last : ℕ) → 6 ≤ length bytes → first < 16384 → with_count (with_count bytes first) last ≡ with_count bytes last
unfolding with_count
with_count-with_count bytes first last header small = grind (arith, common_steps)

-- a new count changes no fault
pub fault-with_count : (bytes : List ℕ) (count : ℕ) → 6 ≤ length bytes → fault (with_count bytes count) ≡ fault bytes
unfolding fault
fault-with_count bytes count header =
    rw (length-with_count bytes count (omega arith), message_size-with_count bytes count header, message_id-with_count bytes count (omega arith)) refl

-- a new count changes no fault of a front
pub front_fault-with_count : (bytes : List ℕ) (count : ℕ) → 6 ≤ length bytes → front_fault (with_count bytes count) ≡ front_fault bytes
unfolding front_fault
front_fault-with_count bytes count header =
    rw (length-with_count bytes count (omega arith), message_size-with_count bytes count header, message_id-with_count bytes count (omega arith)) refl

-- a header has 6 bytes
pub length-header_bytes : (id count size : ℕ) → length (header_bytes id count size) ≡ 6
unfolding header_bytes
length-header_bytes id count size = grind (arith, common_steps)

-- a written id is read back
pub message_id-header_bytes : (id count size : ℕ) (rest : List ℕ) → id < 65536 → message_id (header_bytes id count size ++ rest) ≡ id
unfolding header_bytes
message_id-header_bytes id count size rest small = grind (arith, common_steps)

-- written flags are 3
pub message_flags-header_bytes : (id count size : ℕ) (rest : List ℕ) → count < 16384 → message_flags (header_bytes id count size ++ rest) ≡ 3
unfolding header_bytes
message_flags-header_bytes id count size rest small = grind (arith, common_steps)

-- a written count is read back
pub message_count-header_bytes : (id count size : ℕ) (rest : List ℕ) → count < 16384 → message_count (header_bytes id count size ++ rest) ≡ count
unfolding header_bytes
message_count-header_bytes id count size rest small = grind (arith, common_steps)

-- a written size is read back
pub message_size-header_bytes : (id count size : ℕ) (rest : List ℕ) → 7 ≤ size → size ≤ 65542 → message_size (header_bytes id count size ++ rest) ≡ size
unfolding header_bytes
message_size-header_bytes id count size rest least most = grind (arith, common_steps)

-- a message has at least 7 bytes
pub IsMessage-length : (bytes : List ℕ) → IsMessage bytes → 7 ≤ length bytes
unfolding fault
IsMessage-length bytes message = grind arith

-- a message has as many bytes as its header says
pub IsMessage-size : (bytes : List ℕ) → IsMessage bytes → message_size bytes ≡ length bytes
unfolding fault
IsMessage-size bytes message = grind arith

-- a message has a valid id
pub IsMessage-id : (bytes : List ℕ) → IsMessage bytes → IsTrue (is_valid_id (message_id bytes))
unfolding fault
IsMessage-id bytes message = grind arith

-- a valid id is 1 to 0x1FFF
pub is_valid_id-range : (id : ℕ) → IsTrue (is_valid_id id) → (1 ≤ id) × (id ≤ 0x1FFF)
is_valid_id-range id valid = grind arith

-- bytes with a valid id and a size that is their number are a message
pub IsMessage-of : (bytes : List ℕ) → 7 ≤ length bytes → message_size bytes ≡ length bytes → IsTrue (is_valid_id (message_id bytes)) → IsMessage bytes
unfolding fault
IsMessage-of bytes least size valid = grind arith

-- a written header with a valid id makes a message of the bytes after it
pub IsMessage-header_bytes : (id count size : ℕ) (rest : List ℕ) → IsTrue (is_valid_id id) → 7 ≤ size → size ≤ 65542 → length rest + 6 ≡ size → IsMessage (header_bytes id count size ++ rest)
IsMessage-header_bytes id count size rest valid least most fits =
    let ids : id < 65536 = grind arith in
    let whole : length (header_bytes id count size ++ rest) ≡ size = grind (arith, common_steps, length-header_bytes) in
    let said = message_size-header_bytes id count size rest least most in
    let known = message_id-header_bytes id count size rest ids in
    IsMessage-of (header_bytes id count size ++ rest) (omega (arith, whole)) (said ∙ sym whole) (rw known valid)

-- no message has more than 65542 bytes
pub length-message : (bytes : List ℕ) → ((i : ℕ) → slice_index bytes i < 256) → IsMessage bytes → length bytes ≤ 65542
length-message bytes small message =
    let size = IsMessage-size bytes message in
    let high = small 4 in
    let low = small 5 in
    grind (arith, common_steps)

-- bytes that begin with a message have at least 7 bytes
pub front-length : (bytes : List ℕ) → front_fault bytes ≡ None → 7 ≤ length bytes
unfolding front_fault
front-length bytes sound = grind arith

-- bytes that begin with a message have at least as many bytes as its header says
pub front-size : (bytes : List ℕ) → front_fault bytes ≡ None → message_size bytes ≤ length bytes
unfolding front_fault
front-size bytes sound = grind arith

-- bytes that begin with a message have a valid id
pub front-id : (bytes : List ℕ) → front_fault bytes ≡ None → IsTrue (is_valid_id (message_id bytes))
unfolding front_fault
front-id bytes sound = grind arith

-- the fields of a header do not depend on what follows it
pub header_of-take : (n : ℕ) (bytes : List ℕ) → 6 ≤ n → header_of (take n bytes) ≡ header_of bytes
header_of-take n bytes header = grind (arith, common_steps)

-- the front of bytes that begin with a message is that message
pub IsMessage-front : (bytes : List ℕ) → front_fault bytes ≡ None → IsMessage (take (message_size bytes) bytes)
IsMessage-front bytes sound =
    let least = front-length bytes sound in
    let most = front-size bytes sound in
    let header : 6 ≤ message_size bytes = omega arith in
    let whole : length (take (message_size bytes) bytes) ≡ message_size bytes = grind (arith, common_steps) in
    let said : message_size (take (message_size bytes) bytes) ≡ message_size bytes = ap (λ h. h.size) (header_of-take (message_size bytes) bytes header) in
    let known : message_id (take (message_size bytes) bytes) ≡ message_id bytes = ap (λ h. h.id) (header_of-take (message_size bytes) bytes header) in
    IsMessage-of (take (message_size bytes) bytes) (omega (arith, whole)) (said ∙ sym whole) (rw known (front-id bytes sound))

-- a reader answers Ok if and only if there is no fault
pub is_ok-header_or_fault : (why : Option MsgFault) (header : Header) → is_ok (header_or_fault why header) ≡ is_none why
is_ok-header_or_fault None header = refl
is_ok-header_or_fault (Some fault) header = refl

-- a new count leaves the other fields of the header
pub header_of-with_count : (bytes : List ℕ) (count : ℕ) → 6 ≤ length bytes → count < 16384 → header_of (with_count bytes count) ≡ record (header_of bytes) { count = count }
header_of-with_count bytes count header small =
    rw (message_id-with_count bytes count (omega arith), message_flags-with_count bytes count header small, message_count-with_count bytes count header small, message_size-with_count bytes count header) refl

-- a message with a new count is a message
pub IsMessage-with_count : (bytes : List ℕ) (count : ℕ) → IsMessage bytes → IsMessage (with_count bytes count)
IsMessage-with_count bytes count message =
    let least = IsMessage-length bytes message in
    fault-with_count bytes count (omega arith) ∙ message
