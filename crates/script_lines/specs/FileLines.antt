-- The line of a table file, which is read as the two call lines that load a table image.
use Rattle.std.specs.Prelude.{ℕ, ◌||◌, nat_lt, List, Option, Some, None, Result, Ok, Err, codes, if◌then◌else◌}
use Rattle.fsw_base.specs.declared.script_faults.FaultKind.{FaultKind}
use Rattle.fsw_base.specs.declared.script_faults.FaultKind.TheVariants.{BadImage}
use Rattle.tbl_file.specs.Image.{image_fault, name_in, offset_in, table_in}
use Rattle.script_lines.specs.declared.line.Line.{Line}
use Rattle.script_lines.specs.declared.line.Line.TheVariants as lines
use Rattle.script_words.specs.Readings.{◌>>=◌}
use Rattle.script_words.specs.Text.{is_same}
use Rattle.script_words.specs.Counts.{Word, two}
use Rattle.script_words.specs.Numbers.{hex_bytes, table_of}
use Rattle.script_words.specs.declared.content.Content.TheVariants.{Hex}
use Rattle.script_lines.specs.BusLines.{hex_word}

-- The two call lines of an image with this name, offset and bytes: `tshare tN NAME`, then
-- `tstage tN OFFSET BYTES`.
abbrev pub image_calls : ℕ → List ℕ → ℕ → List ℕ → Line × Line
image_calls handle name offset bytes =
    (lines.TableShare handle name, lines.Stage handle offset (Hex bytes))

-- these two, if a script can spell the name, which a hyphen alone isn't, and the offset
unfoldable pub spelled_image : ℕ → List ℕ → ℕ → List ℕ → Result (Line × Line) FaultKind
spelled_image handle name offset bytes =
    if is_same name (codes "-") || nat_lt 65536 offset then Err BadImage
    else Ok (image_calls handle name offset bytes)

-- the two call lines of a file, if it is a table image
unfoldable pub file_calls : ℕ → List ℕ → Result (Line × Line) FaultKind
file_calls handle file =
    elim (image_fault file) [
      | Some fault ↦ Err BadImage
      | None ↦ spelled_image handle (name_in file) (offset_in file) (table_in file)
    ]

-- tfile tN HEX
unfoldable pub tfile_of : List Word → Result (Line × Line) FaultKind
tfile_of words = do
  w ← two words
  handle ← table_of w.0
  hex ← hex_word w.1
  file_calls handle (hex_bytes w.1)
