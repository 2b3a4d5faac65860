-- The lines on table images, and the file of an image, as bytes.
use Rattle.std.specs.Prelude.{ℕ, List, [], ◌∷◌, ◌++◌, length, replicate, sum, codes, decimal}
use Rattle.std.specs.List.{flat_map}
use Rattle.byteorder.specs.Endian.{big_bytes}
use Rattle.tbl_file.specs.Image.{content_id, name_field}
use Rattle.tbl_file.specs.FaultNames.{image_fault_name}
use Rattle.tbl_file.specs.declared.image.ImageFault.{ImageFault}

-- the line on an image with this name, offset, bytes and sub
abbrev pub image_text : List ℕ → ℕ → List ℕ → ℕ → List ℕ
image_text name offset bytes sub =
    codes "name=" ++ name ++ codes " offset=" ++ decimal offset ++ codes " size=" ++
    decimal (length bytes) ++ codes " sum=" ++ decimal (sum bytes) ++ codes " sub=" ++ decimal sub
    ++ codes "\n"

-- the line that says why there is no image: the fault's name, without its numbers
abbrev pub image_fault_text : ImageFault → List ℕ
image_fault_text fault = codes "image:" ++ image_fault_name fault ++ codes "\n"

-- The image file of a table's bytes, with this name, offset and sub: the header says that it has 64
-- bytes, as cFE's does, and all else in it is zero.
abbrev pub packed_file : List ℕ → ℕ → ℕ → List ℕ → List ℕ
packed_file name offset sub bytes =
    flat_map (big_bytes 4) (content_id ∷ sub ∷ 64 ∷ 0 ∷ 0 ∷ 0 ∷ 0 ∷ 0 ∷ []) ++ replicate 32 0 ++
    flat_map (big_bytes 4) (0 ∷ offset ∷ length bytes ∷ []) ++ name_field name ++ bytes
