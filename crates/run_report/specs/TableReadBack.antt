-- What the lines of a report on the tables tell: each entry's application and answer.
use Rattle.std.specs.Prelude.{◌≡◌, ◌^◌, ◌<◌, ◌&&◌, nat_lt, Bool, true, false, List, map, IsTrue}
use Rattle.std.specs.List.{list_all}
use Rattle.tbl_words.specs.declared.calls.TblAnswer.{TblAnswer}
use Rattle.tbl_words.specs.declared.calls.TblAnswer.TheVariants.{Done, Number, Duplicate, Address, State, Refused}
use Rattle.tbl_words.specs.declared.calls.TblState.{TblState}
use Rattle.tbl_words.specs.declared.history.Call.{Call}
use Rattle.tbl_words.specs.declared.history.Call.TheVariants.{Register, Share, Unregister, Stage, Validate, Update, Abort, Load, GetAddress, ReleaseAddress, Status, End}
use Rattle.tbl_words.specs.declared.history.Entry.{Entry}
use Rattle.tbl_words.specs.declared.statuses.TblStatus.{TblStatus}
use Rattle.tbl_words.specs.declared.statuses.TblStatus.TheVariants.{Validation}
use Rattle.run_report.specs.ReadBack.{is_visible}

-- whether a call's name is a word, or empty
abbrev pub has_plain_table_name : Call → Bool
has_plain_table_name (Register name size option rules) = list_all is_visible name
has_plain_table_name (Share name) = list_all is_visible name
has_plain_table_name (Unregister handle) = true
has_plain_table_name (Stage handle offset bytes) = true
has_plain_table_name (Validate handle) = true
has_plain_table_name (Update handle) = true
has_plain_table_name (Abort handle) = true
has_plain_table_name (Load handle offset bytes) = true
has_plain_table_name (GetAddress handle) = true
has_plain_table_name (ReleaseAddress handle) = true
has_plain_table_name (Status handle) = true
has_plain_table_name End = true

-- whether a call of the tables can be answered so: refused, or with its own kind of answer
abbrev pub can_tables_answer : Call → TblAnswer → Bool
can_tables_answer call (Refused status) = true
can_tables_answer (Register name size option rules) (Number number) = true
can_tables_answer (Register name size option rules) (Duplicate number) = true
can_tables_answer (Share name) (Number number) = true
can_tables_answer (Unregister handle) Done = true
can_tables_answer (Stage handle offset bytes) Done = true
can_tables_answer (Validate handle) Done = true
can_tables_answer (Update handle) Done = true
can_tables_answer (Abort handle) Done = true
can_tables_answer (Load handle offset bytes) Done = true
can_tables_answer (GetAddress handle) (Address told version) = true
can_tables_answer (ReleaseAddress handle) Done = true
can_tables_answer (Status handle) (State figures) = true
can_tables_answer End Done = true
can_tables_answer call answer = false

-- whether the figures of a table have 32 bits
abbrev pub are_short_table_figures : TblState → Bool
are_short_table_figures figures =
    nat_lt figures.version (2 ^ 32) && nat_lt figures.staged (2 ^ 32) &&
    nat_lt figures.holds (2 ^ 32)

-- whether the number of a rule that a value fails has 32 bits
abbrev pub has_short_rule : TblStatus → Bool
has_short_rule (Validation rule) = nat_lt rule (2 ^ 32)
has_short_rule status = true

-- whether an answer's numbers have 32 bits
abbrev pub has_short_table_numbers : TblAnswer → Bool
has_short_table_numbers Done = true
has_short_table_numbers (Number number) = nat_lt number (2 ^ 32)
has_short_table_numbers (Duplicate number) = nat_lt number (2 ^ 32)
has_short_table_numbers (Address told version) = nat_lt version (2 ^ 32)
has_short_table_numbers (State figures) = are_short_table_figures figures
has_short_table_numbers (Refused status) = has_short_rule status

-- an entry as the applications of a script make them
pub record IsPlainAtTables (e : Entry) : Type 0 where
  pub app : e.app < 2 ^ 32
  pub name : IsTrue (has_plain_table_name e.call)
  pub answer : IsTrue (can_tables_answer e.call e.answer)
  pub numbers : IsTrue (has_short_table_numbers e.answer)

-- as many entries, each of the same application and with the same answer
pub record TablesTellTheSame (one other : List Entry) : Type 0 where
  pub apps : map (λ e. e.app) one ≡ map (λ e. e.app) other
  pub answers : map (λ e. e.answer) one ≡ map (λ e. e.answer) other
