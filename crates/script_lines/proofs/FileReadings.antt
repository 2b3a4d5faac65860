-- Both call lines of a table file are lines that a script can have.
use Rattle.std.proofs.Common.{◌≡◌, ℕ, ◌-◌, ◌≤◌, Bool, true, false, cond, not, ◌&&◌, ◌||◌, nat_le, nat_lt, List, length, drop, Option, Some, None, Result, Ok, Err, refl, sym, ap, ◌∙◌, arith, codes}
use Rattle.std.specs.List.{list_all}
use Rattle.std.proofs.lemmas.Bool.{leb-true, le-leb, ltb-false}
use Rattle.std.proofs.lemmas.List.{length-drop}
use Rattle.fsw_base.specs.declared.script_faults.FaultKind.{FaultKind}
use Rattle.fsw_base.specs.declared.script_faults.FaultKind.TheVariants.{BadImage}
use Rattle.tbl_file.specs.Image.{image_fault, is_table_name, name_in, offset_in, table_in}
use Rattle.tbl_file.specs.declared.image.ImageFault.{ImageFault}
use Rattle.tbl_file.proofs.ImageLemmas.{named_file}
use Rattle.script_words.specs.Text.{is_same}
use Rattle.script_words.specs.Counts.{Word, two}
use Rattle.script_words.specs.Numbers.{hex_bytes, table_of}
use Rattle.script_lines.specs.declared.line.Line.{Line}
use Rattle.script_lines.specs.BusLines.{hex_word}
use Rattle.script_lines.specs.FileLines.{image_calls, spelled_image, file_calls, tfile_of}
use Rattle.script_lines.specs.Ranges.{is_visible, is_name, is_spelled, is_readable}
use Rattle.script_lines.proofs.Booleans.{and_first, and_second, both}
use Rattle.script_lines.proofs.ReadingLaws.{Holds, then, any, given}
use Rattle.script_lines.proofs.ReadTexts.{all_drop}
use Rattle.script_lines.proofs.ReadWords.{table_in as handle_in, hex_word_in}

-- a script can have both
abbrev pub AreReadable : Line × Line → Type 0
AreReadable calls = (is_readable calls.0 ≡ true) × (is_readable calls.1 ≡ true)

-- the name of an image is one of a script, but for a hyphen alone
name_read : (name : List ℕ) → is_table_name name ≡ true → is_same name (codes "-") ≡ false → is_name name ≡ true
unfolding is_table_name
name_read name named other =
    let sizes = and_first (nat_le 1 (length name) && nat_le (length name) 39) (list_all is_visible name) named in
    let few = leb-true (length name) 39 (and_second (nat_le 1 (length name)) (nat_le (length name) 39) sizes) in
    both (both (le-leb (length name) 64 (omega (arith, few))) (and_second (nat_le 1 (length name) && nat_le (length name) 39) (list_all is_visible name) named)) (ap not other)

-- the table's bytes are spelled, if those of the file are
table_read : (file : List ℕ) → is_spelled file ≡ true → 1 ≤ length (drop 116 file) → is_spelled (drop 116 file) ≡ true
table_read file spelled some =
    let sizes = and_first (nat_le 1 (length file) && nat_le (length file) 256) (list_all (λ byte. nat_le byte 255) file) spelled in
    let few = leb-true (length file) 256 (and_second (nat_le 1 (length file)) (nat_le (length file) 256) sizes) in
    let bytes = and_second (nat_le 1 (length file) && nat_le (length file) 256) (list_all (λ byte. nat_le byte 255) file) spelled in
    both (both (le-leb 1 (length (drop 116 file)) some) (le-leb (length (drop 116 file)) 256 (omega (arith, few, length-drop 116 file)))) (all_drop (λ byte. nat_le byte 255) 116 file bytes)

-- a word of bytes in hexadecimal has at most 256
pub hex_short : (word : Word) → hex_word word ≡ Ok tt → length (hex_bytes word) ≤ 256
hex_short word e =
    let spelled = given (λ ok. is_spelled (hex_bytes word) ≡ true) (hex_word word) tt (hex_word_in word) e in
    let sizes = and_first (nat_le 1 (length (hex_bytes word)) && nat_le (length (hex_bytes word)) 256) (list_all (λ byte. nat_le byte 255) (hex_bytes word)) spelled in
    leb-true (length (hex_bytes word)) 256 (and_second (nat_le 1 (length (hex_bytes word))) (nat_le (length (hex_bytes word)) 256) sizes)

image_read : (handle : ℕ) (name : List ℕ) (offset : ℕ) (bytes : List ℕ) → nat_lt handle 64 ≡ true → is_table_name name ≡ true → is_spelled bytes ≡ true → Holds AreReadable (spelled_image handle name offset bytes)
unfolding spelled_image is_readable
image_read handle name offset bytes register named spelled = decide (is_same name (codes "-")) (nat_lt 65536 offset) refl refl
  where
    decide : (hyphen past : Bool) → is_same name (codes "-") ≡ hyphen → nat_lt 65536 offset ≡ past → Holds AreReadable (cond (hyphen || past) (Err BadImage) (Ok (image_calls handle name offset bytes)))
    decide true past is_hyphen is_past = tt
    decide false true is_hyphen is_past = tt
    decide false false is_hyphen is_past =
        (both register (name_read name named is_hyphen), both (both register (le-leb offset 65536 (ltb-false 65536 offset is_past))) spelled)

file_read : (handle : ℕ) (file : List ℕ) → nat_lt handle 64 ≡ true → is_spelled file ≡ true → Holds AreReadable (file_calls handle file)
unfolding file_calls
file_read handle file register spelled = decide (image_fault file) refl
  where
    decide : (fault : Option ImageFault) → image_fault file ≡ fault → Holds AreReadable (elim fault [ Some other ↦ Err BadImage | None ↦ spelled_image handle (name_in file) (offset_in file) (table_in file) ])
    decide (Some fault) found = tt
    decide None found =
        let is = named_file file found in
        image_read handle (name_in file) (offset_in file) (table_in file) register is.0 (table_read file spelled is.1)

pub files_readable : (words : List Word) → Holds AreReadable (tfile_of words)
unfolding tfile_of
files_readable words = any _ (two words) _ (λ w. then _ _ (table_of w.0) _ (handle_in w.0) (λ handle register. then _ _ (hex_word w.1) _ (hex_word_in w.1) (λ hex spelled. file_read handle (hex_bytes w.1) register spelled)))

pub readable_share : (words : List Word) (calls : Line × Line) → tfile_of words ≡ Ok calls → is_readable calls.0 ≡ true
readable_share words calls e = (given AreReadable (tfile_of words) calls (files_readable words) e).0

pub readable_stage : (words : List Word) (calls : Line × Line) → tfile_of words ≡ Ok calls → is_readable calls.1 ≡ true
readable_stage words calls e = (given AreReadable (tfile_of words) calls (files_readable words) e).1
