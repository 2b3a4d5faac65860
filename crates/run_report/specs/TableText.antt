-- The lines of a report on the calls of the tables.
use Rattle.std.specs.Prelude.{ℕ, Bool, true, false, List, [], ◌++◌, length, sum, codes, decimal}
use Rattle.tbl_words.specs.declared.calls.TblAnswer.{TblAnswer}
use Rattle.tbl_words.specs.declared.calls.TblAnswer.TheVariants.{Done, Number, Duplicate, Address, State, Refused}
use Rattle.tbl_words.specs.declared.calls.TblState.{TblState}
use Rattle.tbl_words.specs.declared.calls.Told.{Told}
use Rattle.tbl_words.specs.declared.calls.Told.TheVariants.{Same, Updated, NeverLoaded}
use Rattle.tbl_words.specs.declared.history.Call.{Call}
use Rattle.tbl_words.specs.declared.history.Call.TheVariants.{Register, Share, Unregister, Stage, Validate, Update, Abort, Load, GetAddress, ReleaseAddress, Status, End}
use Rattle.tbl_words.specs.declared.history.Entry.{Entry}
use Rattle.tbl_words.specs.declared.statuses.TblStatus.{TblStatus}
use Rattle.tbl_words.specs.declared.statuses.TblStatus.TheVariants.{Validation}
use Rattle.tbl_words.specs.Statuses.{tbl_name}
use Rattle.text_page.specs.Texts.{name_text, numbered}

-- a load: the handle, the place of its first byte, and the number and the sum of its bytes
abbrev pub load_text : List ℕ → ℕ → ℕ → List ℕ → List ℕ
load_text word handle offset bytes =
    word ++ decimal handle ++ codes " " ++ decimal offset ++ codes " " ++ decimal (length bytes) ++
    codes " " ++ decimal (sum bytes)

-- a call; of a registration the name, the size, the option and how many rules it gives
abbrev pub table_call_text : Call → List ℕ
table_call_text (Register name size option rules) =
    codes "treg " ++ name_text name ++ codes " " ++ decimal size ++ codes " " ++ decimal option ++
    codes " " ++ decimal (length rules)
table_call_text (Share name) = codes "tshare " ++ name_text name
table_call_text (Unregister handle) = codes "tunreg " ++ decimal handle
table_call_text (Stage handle offset bytes) = load_text (codes "tstage ") handle offset bytes
table_call_text (Validate handle) = codes "tval " ++ decimal handle
table_call_text (Update handle) = codes "tupd " ++ decimal handle
table_call_text (Abort handle) = codes "tabort " ++ decimal handle
table_call_text (Load handle offset bytes) = load_text (codes "tload ") handle offset bytes
table_call_text (GetAddress handle) = codes "tget " ++ decimal handle
table_call_text (ReleaseAddress handle) = codes "trel " ++ decimal handle
table_call_text (Status handle) = codes "tstat " ++ decimal handle
table_call_text End = codes "end"

-- what an address is told with: that nothing changed since the last one, that an update came, or
-- that there never was a load
abbrev pub told_text : Told → List ℕ
told_text Same = codes "CFE_SUCCESS"
told_text Updated = codes "CFE_TBL_INFO_UPDATED"
told_text NeverLoaded = codes "CFE_TBL_ERR_NEVER_LOADED"

-- 1 if it is so, else 0
abbrev pub flag_text : Bool → List ℕ
flag_text true = codes "1"
flag_text false = codes "0"

-- the figures of a table: its version, whether it was ever loaded, what is staged, and how many
-- handles hold a version
abbrev pub table_figures_text : TblState → List ℕ
table_figures_text figures =
    decimal figures.version ++ codes " " ++ flag_text figures.loaded ++ codes " " ++
    decimal figures.staged ++ codes " " ++ decimal figures.holds

-- the number of a rule that a value fails, behind a blank; nothing of any other refusal
abbrev pub failed_rule_text : TblStatus → List ℕ
failed_rule_text (Validation rule) = codes " " ++ decimal rule
failed_rule_text status = []

-- an answer: what it tells, or why the call was refused
abbrev pub table_answer_text : TblAnswer → List ℕ
table_answer_text Done = codes "CFE_SUCCESS"
table_answer_text (Number number) = codes "CFE_SUCCESS " ++ decimal number
table_answer_text (Duplicate number) = codes "CFE_TBL_WARN_DUPLICATE " ++ decimal number
table_answer_text (Address told version) = told_text told ++ codes " " ++ decimal version
table_answer_text (State figures) = codes "CFE_SUCCESS " ++ table_figures_text figures
table_answer_text (Refused status) = tbl_name status ++ failed_rule_text status

-- the line of entry number n: its number, its application, its call and its answer
abbrev pub table_entry_text : ℕ → Entry → List ℕ
table_entry_text n e =
    decimal n ++ codes " a" ++ decimal e.app ++ codes " " ++ table_call_text e.call ++
    codes " -> " ++ table_answer_text e.answer ++ codes "\n"

-- the lines of a history, whose entries are numbered from 1
abbrev pub table_entries_text : List Entry → List ℕ
table_entries_text entries = numbered table_entry_text 1 entries
