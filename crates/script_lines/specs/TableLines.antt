-- The lines of tables.
use Rattle.std.specs.Prelude.{ℕ, ◌==◌, ◌&&◌, nat_le, List, Option, Some, None, Result, Ok, Err, codes, if◌then◌else◌}
use Rattle.std.specs.List.{starts_with}
use Rattle.fsw_base.specs.declared.script_faults.FaultKind.{FaultKind}
use Rattle.fsw_base.specs.declared.script_faults.FaultKind.TheVariants.{OutOfRange}
use Rattle.tbl_rules.specs.declared.rules.Rule.{Rule}
use Rattle.script_lines.specs.declared.line.Line.{Line}
use Rattle.script_lines.specs.declared.line.Line.TheVariants as lines
use Rattle.script_words.specs.declared.content.Content.{Content}
use Rattle.script_lines.specs.declared.table_lines.TableWord.{TableWord}
use Rattle.script_lines.specs.declared.table_lines.TableWord.TheVariants.{Register, Share, Unregister, Stage, Validate, Update, Abort, Load, GetAddress, ReleaseAddress, Status}
use Rattle.script_words.specs.Readings.{◌>>=◌}
use Rattle.script_words.specs.Text.{is_same}
use Rattle.script_words.specs.Counts.{Word, one, two, three, next_two, few}
use Rattle.script_words.specs.Lists.{each}
use Rattle.script_words.specs.Numbers.{number_of, within, parts_of, numbers_3, table_of, pipe_of}
use Rattle.script_words.specs.Content.{name_of, filling_of, content_of}

-- the one handle of a line that names nothing else
unfoldable pub table_alone : List Word → Result ℕ FaultKind
table_alone words = one words >>= table_of

-- a list element `O:LO:HI`
unfoldable pub triple_word : Word → Result (ℕ × ℕ × ℕ) FaultKind
triple_word word = numbers_3 (parts_of word)

-- a place of two bytes, and the least and the greatest value of one byte
unfoldable pub rule_of : ℕ × ℕ × ℕ → Result Rule FaultKind
rule_of triple =
    if nat_le triple.0 65535 && nat_le triple.1 255 && nat_le triple.2 255
    then Ok (record { offset = triple.0; low = triple.1; high = triple.2 })
    else Err OutOfRange

-- the register, the name, the size, the options, and at most eight rules
unfoldable pub table_words : List Word →
    Result ((Word × Word) × (Word × Word × List Word)) FaultKind
table_words words = do
  front ← next_two words
  others ← next_two front.2
  count ← few 8 others.2
  Ok ((front.0, front.1), others)

unfoldable pub described : ℕ → Word → (ℕ × ℕ) → List (ℕ × ℕ × ℕ) → Result Line FaultKind
described handle word figures triples = do
  name ← name_of word
  size ← within 0 1000000 figures.0
  option ← within 0 7 figures.1
  rules ← each rule_of triples
  Ok (lines.TableRegister handle name size option rules)

-- treg tN NAME SIZE OPT [O:LO:HI, up to 8 words]
unfoldable pub treg_of : List Word → Result Line FaultKind
treg_of words = do
  w ← table_words words
  handle ← table_of w.0.0
  size ← number_of w.1.0
  option ← number_of w.1.1
  triples ← each triple_word w.1.2
  described handle w.0.1 (size, option) triples

-- tshare tN NAME
unfoldable pub tshare_of : List Word → Result Line FaultKind
tshare_of words = do
  w ← two words
  handle ← table_of w.0
  name ← name_of w.1
  Ok (lines.TableShare handle name)

unfoldable pub placed : ℕ → ℕ → Word → Option (ℕ × ℕ) → Result (ℕ × ℕ × Content) FaultKind
placed handle place word filling = do
  offset ← within 0 65536 place
  content ← content_of word filling
  Ok (handle, offset, content)

-- tN OFFSET CONTENT, of tstage and tload
unfoldable pub load_of : List Word → Result (ℕ × ℕ × Content) FaultKind
load_of words = do
  w ← three words
  handle ← table_of w.0
  place ← number_of w.1
  filling ← filling_of w.2
  placed handle place w.2 filling

-- the line with this first word, from the words behind it
unfoldable pub table_line_of : TableWord → List Word → Result Line FaultKind
table_line_of Register words = treg_of words
table_line_of Share words = tshare_of words
table_line_of Unregister words = table_alone words >>= λ handle. Ok (lines.TableUnregister handle)
table_line_of Stage words = load_of words >>= λ load. Ok (lines.Stage load.0 load.1 load.2)
table_line_of Validate words = table_alone words >>= λ handle. Ok (lines.Validate handle)
table_line_of Update words = table_alone words >>= λ handle. Ok (lines.Update handle)
table_line_of Abort words = table_alone words >>= λ handle. Ok (lines.Abort handle)
table_line_of Load words = load_of words >>= λ load. Ok (lines.Load load.0 load.1 load.2)
table_line_of GetAddress words = table_alone words >>= λ handle. Ok (lines.GetAddress handle)
table_line_of ReleaseAddress words =
    table_alone words >>= λ handle. Ok (lines.ReleaseAddress handle)
table_line_of Status words = table_alone words >>= λ handle. Ok (lines.Status handle)

-- the first words of these lines
unfoldable pub table_word : Word → Option TableWord
table_word word =
    if is_same word (codes "treg") then Some Register
    else (if is_same word (codes "tshare") then Some Share
    else (if is_same word (codes "tunreg") then Some Unregister
    else (if is_same word (codes "tstage") then Some Stage
    else (if is_same word (codes "tval") then Some Validate
    else (if is_same word (codes "tupd") then Some Update
    else (if is_same word (codes "tabort") then Some Abort
    else (if is_same word (codes "tload") then Some Load
    else (if is_same word (codes "tget") then Some GetAddress
    else (if is_same word (codes "trel") then Some ReleaseAddress
    else (if is_same word (codes "tstat") then Some Status
    else None))))))))))

-- what a show line names: a pipe or a table
unfoldable pub shown : Word → Result Line FaultKind
shown word =
    if starts_with (λ a b. a == b) word (codes "p")
    then (pipe_of word >>= λ pipe. Ok (lines.ShowPipe pipe))
    else (table_of word >>= λ handle. Ok (lines.ShowTable handle))

-- show pN, show tN
unfoldable pub show_of : List Word → Result Line FaultKind
show_of words = one words >>= shown
