-- Table image files: cFE's file header (CFE_FS_Header), the header of a table file behind it
-- (CFE_TBL_File_Hdr), and the table's bytes. Every number has four bytes, the highest first.
use Rattle.std.specs.Prelude.{◌≡◌, ℕ, ◌-◌, ◌≤◌, ◌==◌, ◌&&◌, not, nat_le, nat_lt, Bool, List, [], ◌∷◌, ◌++◌, length, take, drop, replicate, Option, Some, None, IsTrue, if◌then◌else◌}
use Rattle.std.specs.List.{list_all, flat_map, before_first}
use Rattle.byteorder.specs.Endian.{big_number, big_bytes}
use Rattle.tbl_file.specs.declared.image.Image.{Image}
use Rattle.tbl_file.specs.declared.image.ImageFault.{ImageFault}
use Rattle.tbl_file.specs.declared.image.ImageFault.TheVariants.{Short, NotCfe, BadName, Empty, Size}

-- the number that begins at a place
abbrev pub number_at : ℕ → List ℕ → ℕ
number_at place file = big_number 4 (drop place file)

-- so many bytes from a place on
abbrev pub bytes_at : ℕ → ℕ → List ℕ → List ℕ
bytes_at place size file = take size (drop place file)

-- ContentType, the first field: `cFE1` in ASCII
abbrev pub content_id : ℕ
content_id = 0x63464531

-- TableName: what stands in its field before the first zero byte
abbrev pub name_in : List ℕ → List ℕ
name_in file = before_first (λ byte. byte == 0) (bytes_at 76 40 file)

-- a name that a zero byte can end in its field of 40: 1 to 39 visible bytes
unfoldable pub is_table_name : List ℕ → Bool
is_table_name name =
    nat_le 1 (length name) && nat_le (length name) 39 &&
    list_all (λ byte. nat_le 0x21 byte && nat_le byte 0x7e) name

-- SubType, 8 for a table in cFE
abbrev pub sub_in : List ℕ → ℕ
sub_in file = number_at 4 file

-- Offset: if in the table its bytes are loaded
abbrev pub offset_in : List ℕ → ℕ
offset_in file = number_at 68 file

-- the table's bytes, behind both headers
abbrev pub table_in : List ℕ → List ℕ
table_in file = drop 116 file

-- NumBytes: how many bytes the header says that the table has
abbrev pub size_said : List ℕ → ℕ
size_said file = number_at 72 file

-- each field of the image is what stands in its place; what follows the zero byte in the name's
-- field is free
pub record HasFields (file : List ℕ) (image : Image) : Type 0 where
  pub sub : image.sub ≡ number_at 4 file
  pub length_told : image.length ≡ number_at 8 file
  pub spacecraft : image.spacecraft ≡ number_at 12 file
  pub processor : image.processor ≡ number_at 16 file
  pub application : image.application ≡ number_at 20 file
  pub seconds : image.seconds ≡ number_at 24 file
  pub subseconds : image.subseconds ≡ number_at 28 file
  pub description : image.description.now ≡ bytes_at 32 32 file
  pub reserved : image.reserved ≡ number_at 64 file
  pub offset : image.offset ≡ number_at 68 file
  pub name : image.name.now ≡ name_in file
  pub bytes : image.bytes.now ≡ drop 116 file

-- The file is this image: it is a file of cFE with these fields, its name is one, and its table's
-- bytes are all that follow the headers, one at least.
pub record IsImage (file : List ℕ) (image : Image) : Type 0 where
  pub content : number_at 0 file ≡ content_id
  pub fields : HasFields file image
  pub named : IsTrue (is_table_name image.name.now)
  pub some : 1 ≤ length image.bytes.now
  pub size : size_said file ≡ length image.bytes.now

-- why a file is no image, if it is none: it is shorter than its headers, its first field is another
-- one, its name is none or doesn't end, its table has no bytes, or another number of them than
-- follow the headers; the first of these
unfoldable pub image_fault : List ℕ → Option ImageFault
image_fault file =
    if nat_lt (length file) 116 then Some Short
    else if not (number_at 0 file == content_id) then Some (NotCfe (number_at 0 file))
    else if not (is_table_name (name_in file)) then Some BadName
    else if size_said file == 0 then Some Empty
    else if size_said file == length file - 116 then None
    else Some (Size (size_said file) (length file - 116))

-- the numbers of the file header
abbrev pub file_numbers : Image → List ℕ
file_numbers image =
    content_id ∷ image.sub ∷ image.length ∷ image.spacecraft ∷ image.processor ∷ image.application ∷
    image.seconds ∷ image.subseconds ∷ []

-- and of the table's header
abbrev pub table_numbers : Image → List ℕ
table_numbers image = image.reserved ∷ image.offset ∷ length image.bytes.now ∷ []

-- the name's field: the name, and zeros behind it
abbrev pub name_field : List ℕ → List ℕ
name_field name = name ++ replicate (40 - length name) 0

-- the file of an image, whose name's field ends with zeros
unfoldable pub image_file : Image → List ℕ
image_file image =
    flat_map (big_bytes 4) (file_numbers image) ++ image.description.now ++
    flat_map (big_bytes 4) (table_numbers image)
    ++ name_field image.name.now ++ image.bytes.now
