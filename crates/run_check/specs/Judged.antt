-- How a report is judged: each line by the entries before it, so that no run has to be gone on with
-- that is under way.
use Rattle.std.specs.Prelude.{◌≡◌, ℕ, ◌+◌, List, [], ◌∷◌, ◌++◌, length, codes, decimal}
use Rattle.bus_words.specs.declared.history.Entry.{Entry}
use Rattle.tbl_words.specs.declared.history.Entry.{Entry as TableEntry}
use Rattle.run_report.specs.BusText.{entry_text}
use Rattle.run_report.specs.TableText.{table_entry_text}
use Rattle.app_script.specs.Script.{ScriptText}
use Rattle.app_script.specs.ScriptRanges.{IsScript}
use Rattle.script_runs.specs.Histories.{Histories}
use Rattle.script_runs.specs.Runs.{IsRunOf}
use Rattle.run_check.specs.declared.judgement.Judgement.{Judgement}
use Rattle.run_check.specs.declared.judgement.Judgement.TheVariants.{Yes, No}
use Rattle.run_check.specs.Begun.{AreBegunTables, IsBegun, IsWhole, AreWholeTables}
use Rattle.run_check.specs.Checks.{IsAnswer}
use Rattle.run_check.specs.Fronts.{wrong_line}
use Rattle.run_check.specs.Openings.{bus_part, head, report, tables_part}

-- the text begins with this one
abbrev pub Begins : List ℕ → List ℕ → Type 0
Begins text front = (rest : List ℕ) × (text ≡ front ++ rest)

-- how the line of an entry begins: its number and that of its application
abbrev pub entry_head : ℕ → ℕ → List ℕ
entry_head number app = decimal number ++ codes " a" ++ decimal app ++ codes " "

-- a report as far as its lines on the tables
abbrev pub entries_part : ScriptText → Histories → List ℕ
entries_part script histories = bus_part script histories.bus ++ tables_part histories.tables

-- One of these holds of the bytes and the verdict on them.
pub data IsJudged (script : ScriptText) (bytes : List ℕ) (verdict : Judgement) : Type 0 where
  -- they don't begin with the first two lines
  NoHead : ¬ Begins bytes (head script) → verdict ≡ No (wrong_line bytes (head script)) →
      IsJudged script bytes verdict
  -- the lines of a history of the bus are followed by no line of any entry that may come next
  NobodysEntry :
      (history : List Entry) (rest : List ℕ) → IsBegun script history → ¬ IsWhole script history →
      bytes ≡ bus_part script history ++ rest →
      ((e : Entry) → IsBegun script (history ++ e ∷ []) →
      ¬ Begins rest (entry_head (length history + 1) e.app)) →
      verdict ≡ No (wrong_line bytes (bus_part script history)) → IsJudged script bytes verdict
  -- they are followed by a line that begins with an application's number, and isn't the line of
  -- this application's next entry
  WrongEntry :
      (history : List Entry) (e : Entry) (rest : List ℕ) → IsBegun script (history ++ e ∷ []) →
      bytes ≡ bus_part script history ++ rest →
      Begins rest (entry_head (length history + 1) e.app) →
      ¬ Begins rest (entry_text (length history + 1) e) →
      verdict ≡ No (wrong_line bytes (bus_part script (history ++ e ∷ []))) →
      IsJudged script bytes verdict
  -- no entry of the bus is missing, and the heading of the tables doesn't follow
  NoTables :
      (history : List Entry) (rest : List ℕ) → IsBegun script history → IsWhole script history →
      bytes ≡ bus_part script history ++ rest →
      ¬ Begins rest (codes "tables\n") →
      verdict ≡ No (wrong_line bytes (bus_part script history ++ codes "tables\n")) →
      IsJudged script bytes verdict
  -- the same of the tables, if no entry of the bus is missing
  NobodysTableEntry :
      (histories : Histories) (rest : List ℕ) → IsBegun script histories.bus →
      IsWhole script histories.bus →
      AreBegunTables script histories.tables → ¬ AreWholeTables script histories.tables →
      bytes ≡ entries_part script histories ++ rest →
      ((e : TableEntry) → AreBegunTables script (histories.tables ++ e ∷ []) →
      ¬ Begins rest (entry_head (length histories.tables + 1) e.app)) →
      verdict ≡ No (wrong_line bytes (entries_part script histories)) →
      IsJudged script bytes verdict
  WrongTableEntry :
      (histories : Histories) (e : TableEntry) (rest : List ℕ) → IsBegun script histories.bus →
      IsWhole script histories.bus →
      AreBegunTables script (histories.tables ++ e ∷ []) →
      bytes ≡ entries_part script histories ++ rest →
      Begins rest (entry_head (length histories.tables + 1) e.app) →
      ¬ Begins rest (table_entry_text (length histories.tables + 1) e) →
      verdict ≡
      No (wrong_line bytes
      (entries_part script (record histories { tables = histories.tables ++ e ∷ [] }))) →
      IsJudged script bytes verdict
  -- no entry is missing, and what follows isn't the rest of the report
  WrongEnd :
      (histories : Histories) (rest : List ℕ) → IsRunOf script histories →
      bytes ≡ entries_part script histories ++ rest →
      ¬ (bytes ≡ report script histories) →
      verdict ≡ No (wrong_line bytes (report script histories)) → IsJudged script bytes verdict
  -- they are the report of a run
  Right : (histories : Histories) → IsRunOf script histories → bytes ≡ report script histories →
      verdict ≡ Yes → IsJudged script bytes verdict

-- such a verdict is the answer
abbrev pub JudgedIsAnswered : Type 0
JudgedIsAnswered =
    (script : ScriptText) (bytes : List ℕ) (verdict : Judgement) → IsScript script →
    IsJudged script bytes verdict → IsAnswer script bytes verdict
