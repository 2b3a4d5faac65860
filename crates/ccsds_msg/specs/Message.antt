-- Space packets of CCSDS 133.0-B-2, section 4.1, as whole lists of bytes. Numbers are big-endian.
use Rattle.std.specs.Prelude.{◌≡◌, ℕ, ◌+◌, ◌-◌, ◌*◌, ◌/◌, ◌%◌, ◌==◌, ◌&&◌, nat_lt, nat_le, if◌then◌else◌, Bool, List, ◌++◌, length, take, drop, slice_index, slice_set, Option, Some, None, Result, Ok, Err}
use Rattle.byteorder.specs.Endian.{big_number, big_bytes}
use Rattle.ccsds_msg.specs.declared.packet.Header.{Header}
use Rattle.ccsds_msg.specs.declared.packet.MsgFault.{MsgFault}
use Rattle.ccsds_msg.specs.declared.packet.MsgFault.TheVariants.{Short, Length, BadId}

-- 4.1.3.2 and 4.1.3.3: the first 16 bits, which are the version number (3 bits), the packet type
-- (1), the secondary header flag (1) and the application process identifier (11)
abbrev pub message_id : List ℕ → ℕ
message_id bytes = big_number 2 bytes

-- 4.1.3.3.2: the packet type, the fourth bit of the id: 1 is a command, 0 is telemetry
abbrev pub packet_type : List ℕ → ℕ
packet_type bytes = message_id bytes / 4096 % 2

-- 4.1.3.3.3: the secondary header flag, the fifth bit of the id
abbrev pub secondary_header_flag : List ℕ → ℕ
secondary_header_flag bytes = message_id bytes / 2048 % 2

-- 4.1.3.4: the next 16 bits, which are the sequence flags (2 bits) and the sequence count (14)
abbrev pub sequence_control : List ℕ → ℕ
sequence_control bytes = big_number 2 (drop 2 bytes)

-- 4.1.3.4.2: the sequence flags
abbrev pub message_flags : List ℕ → ℕ
message_flags bytes = sequence_control bytes / 16384 % 4

-- 4.1.3.4.3: the sequence count
abbrev pub message_count : List ℕ → ℕ
message_count bytes = sequence_control bytes % 16384

-- 4.1.3.5: the packet data length, which is the number of bytes after the header, less one
abbrev pub data_length : List ℕ → ℕ
data_length bytes = big_number 2 (drop 4 bytes)

-- the size of the whole packet: its 6 bytes of header and the bytes after it
abbrev pub message_size : List ℕ → ℕ
message_size bytes = data_length bytes + 7

-- the four fields that a reader of the header answers
abbrev pub header_of : List ℕ → Header
header_of bytes =
    record {
      id = message_id bytes;
      flags = message_flags bytes;
      count = message_count bytes;
      size = message_size bytes;
    }

-- a valid message id is 1 to 0x1FFF, so that the version number is 0
abbrev pub is_valid_id : ℕ → Bool
is_valid_id id = nat_le 1 id && nat_le id 0x1FFF

-- the fault of an id, if it has one
abbrev pub id_fault : ℕ → Option MsgFault
id_fault id = if is_valid_id id then None else Some (BadId id)

-- why bytes are no message, if they are none: the first of too short, another size than the header
-- says, and an id that is not valid
unfoldable pub fault : List ℕ → Option MsgFault
fault bytes =
    if nat_lt (length bytes) 7 then Some Short
    else if message_size bytes == length bytes then id_fault (message_id bytes)
    else Some (Length (message_size bytes) (length bytes))

-- why bytes do not begin with a message: the same, but bytes past the size that the header says do
-- no harm
unfoldable pub front_fault : List ℕ → Option MsgFault
front_fault bytes =
    if nat_lt (length bytes) 7 then Some Short
    else if nat_le (message_size bytes) (length bytes) then id_fault (message_id bytes)
    else Some (Length (message_size bytes) (length bytes))

-- bytes that are a message
abbrev pub IsMessage : List ℕ → Type 0
IsMessage bytes = fault bytes ≡ None

-- what a reader answers: the fault if there is one, else the header
abbrev pub header_or_fault : Option MsgFault → Header → Result Header MsgFault
header_or_fault None header = Ok header
header_or_fault (Some why) header = Err why

-- the message with its 14 count bits replaced
unfoldable pub with_count : List ℕ → ℕ → List ℕ
with_count bytes count =
    take 2 bytes ++ big_bytes 2 (message_flags bytes * 16384 + count) ++ drop 4 bytes

-- the 6 bytes of a header with sequence flags 3, a packet that is not cut into segments, of a
-- message of `size` bytes
unfoldable pub header_bytes : ℕ → ℕ → ℕ → List ℕ
header_bytes id count size =
    big_bytes 2 id ++ big_bytes 2 (3 * 16384 + count) ++ big_bytes 2 (size - 7)

-- a command with a secondary header, and so with a function code
abbrev pub has_function_code : List ℕ → Bool
has_function_code bytes =
    nat_le 7 (length bytes) && (packet_type bytes == 1 && secondary_header_flag bytes == 1)

-- the function code: the low 7 bits of the byte behind the header, if there is one
abbrev pub function_code_of : List ℕ → Option ℕ
function_code_of bytes = if has_function_code bytes then Some (slice_index bytes 6 % 128) else None

-- the message with these 7 bits replaced
abbrev pub with_function_code : List ℕ → ℕ → List ℕ
with_function_code bytes code = slice_set bytes 6 (slice_index bytes 6 / 128 * 128 + code)
