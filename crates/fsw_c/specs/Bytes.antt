-- The statuses of the calls on bytes, and what they show of bytes.
use Rattle.std.specs.Prelude.{◌≡◌, ℕ, ◌&&◌, nat_le, nat_lt, List, length, Option, Some, None, if◌then◌else◌}
use Rattle.ccsds_msg.specs.declared.packet.Header.{Header}
use Rattle.ccsds_msg.specs.Message.{is_valid_id, has_function_code}
use Rattle.tbl_file.specs.declared.image.ImageFault.{ImageFault}
use Rattle.tbl_file.specs.declared.image.ImageFault.TheVariants.{TooLarge, Short, NotCfe, BadName, Empty, Size}
use Rattle.tbl_file.specs.Image.{bytes_at, image_fault, name_in, table_in, offset_in}
use Rattle.fsw_c.specs.declared.bytes.FswHeader.{FswHeader}
use Rattle.fsw_c.specs.declared.bytes.FswImage.{FswImage}

-- an argument is out of its range
abbrev pub bad_argument : ℕ
bad_argument = 3388997635

-- the packet is no command with a secondary header
abbrev pub wrong_type : ℕ
wrong_type = 3388997645

-- reading a header needs 6 bytes
abbrev pub read_code : List ℕ → ℕ
read_code bytes = if nat_lt (length bytes) 6 then bad_argument else 0

-- writing one needs the bytes of a message, a message id and a sequence count
abbrev pub write_code : ℕ → ℕ → List ℕ → ℕ
write_code id count bytes =
    if nat_le 7 (length bytes) && nat_le (length bytes) 65542 && is_valid_id id
    && nat_lt count 16384
    then 0 else bad_argument

-- setting a sequence count needs 6 bytes and a sequence count
abbrev pub count_code : ℕ → List ℕ → ℕ
count_code count bytes = if nat_le 6 (length bytes) && nat_lt count 16384 then 0 else bad_argument

-- reading a function code needs 7 bytes of a command with a secondary header
abbrev pub code_read_code : List ℕ → ℕ
code_read_code bytes =
    if nat_lt (length bytes) 7 then bad_argument
    else (if has_function_code bytes then 0 else wrong_type)

-- setting one needs a code of at most 127 too
abbrev pub code_set_code : ℕ → List ℕ → ℕ
code_set_code code bytes =
    if nat_le 7 (length bytes) && nat_le code 127
    then (if has_function_code bytes then 0 else wrong_type) else bad_argument

-- the number of what is wrong with an image
abbrev pub fault_code : ImageFault → ℕ
fault_code TooLarge = 3422552092
fault_code Short = 3422552093
fault_code (NotCfe number) = 3422552086
fault_code BadName = 3422552094
fault_code Empty = 3422552092
fault_code (Size said given) = 3422552092

-- the number of what is wrong with a file, if something is
abbrev pub code_of_fault : Option ImageFault → ℕ
code_of_fault None = 0
code_of_fault (Some fault) = fault_code fault

-- reading an image needs one, in a file of less than 2^32 bytes
abbrev pub image_code : List ℕ → ℕ
image_code file =
    if nat_lt 4294967295 (length file) then fault_code TooLarge
    else code_of_fault (image_fault file)

-- the header's fields
abbrev pub header_in : FswHeader → Header
header_in header = record {
  id = header.id;
  flags = header.flags;
  count = header.count;
  size = header.size;
}

-- the offset is the image's, and what is shown of it is as long as in the file
pub record ShowsImage (file : List ℕ) (shown : FswImage) : Type 0 where
  pub description : shown.description.len ≡ length (bytes_at 32 32 file)
  pub name : shown.name.len ≡ length (name_in file)
  pub bytes : shown.bytes.len ≡ length (table_in file)
  pub offset : shown.offset ≡ offset_in file
