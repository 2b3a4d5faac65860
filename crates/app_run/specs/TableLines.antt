-- What a line of the tables needs, and what follows from its answer.
use Rattle.std.specs.Prelude.{◌≡◌, ℕ, length, sum_by, List, Option, Some, None}
use Rattle.tbl_words.specs.declared.calls.TblAnswer.{TblAnswer}
use Rattle.tbl_words.specs.declared.calls.TblAnswer.TheVariants.{Address}
use Rattle.tbl_words.specs.declared.history.Call.{Call}
use Rattle.script_words.specs.Content.{content_len}
use Rattle.script_lines.specs.declared.line.Line.{Line}
use Rattle.script_lines.specs.declared.line.Line.TheVariants.{TableRegister, TableShare, Stage, Load}
use Rattle.app_calls.specs.Callers.{Caller}
use Rattle.app_calls.specs.TableCallers.{MayCallTables, TablesAnswer}

-- the application may make the tables' call of its line, if the line makes one
abbrev pub MayRunAtTables : Caller → Option Call → Type 0
MayRunAtTables caller None = Unit {0}
MayRunAtTables caller (Some call) = MayCallTables caller call

-- the line's call was so answered; if it makes none, nothing changed
abbrev pub IsRunAtTables : Caller → Caller → Option Call → Option TblAnswer → Type 0
IsRunAtTables old new None None = new ≡ old
IsRunAtTables old new None (Some answer) = ⊥
IsRunAtTables old new (Some call) None = ⊥
IsRunAtTables old new (Some call) (Some answer) = TablesAnswer old new call answer

-- the bytes that the tables' call of a line brings
unfoldable pub table_line_bytes : Line → ℕ
table_line_bytes (TableRegister handle name size option rules) = length name
table_line_bytes (TableShare handle name) = length name
table_line_bytes (Stage handle offset content) = content_len content
table_line_bytes (Load handle offset content) = content_len content
table_line_bytes line = 0

-- the bytes that the tables' calls of these lines bring
abbrev pub table_bytes_due : List Line → ℕ
table_bytes_due lines = sum_by table_line_bytes lines

-- how many receipts an answer makes at most
abbrev pub most_table_receipts : TblAnswer → ℕ
most_table_receipts (Address told version) = 1
most_table_receipts answer = 0
