-- The reports of runs, and how the report of a run that is under way begins.
use Rattle.std.specs.Prelude.{◌≡◌, ℕ, zero, suc, ◌==◌, List, [], ◌∷◌, ◌++◌, length, map, codes, decimal, Option, Some, None, if◌then◌else◌}
use Rattle.std.specs.List.{range_with_len}
use Rattle.std.specs.Option.{option_map}
use Rattle.bus_words.specs.declared.history.Entry.{Entry}
use Rattle.bus_words.specs.Machine.{state_after}
use Rattle.tbl_words.specs.declared.history.Entry.{Entry as TableEntry}
use Rattle.app_script.specs.Script.{ScriptText}
use Rattle.script_runs.specs.Histories.{Histories}
use Rattle.script_runs.specs.Told.{receipts_told}
use Rattle.run_report.specs.BusText.{entries_text}
use Rattle.run_report.specs.Report.{figures_shown, table_figures_shown, report_text}
use Rattle.run_report.specs.TableText.{table_entries_text}
use Rattle.run_check.specs.Begun.{IsWhole, AreWholeTables}

-- the report of a script's histories, with what each of its applications tells of what it received
-- and held, and with the figures of both services after them
abbrev pub report : ScriptText → Histories → List ℕ
report script histories =
    report_text histories.bus histories.tables
    (map (receipts_told script histories) (range_with_len 1 (length script.apps)))
    (figures_shown script.limits (state_after script.limits (length script.apps) histories.bus))
    (table_figures_shown script.limits (length script.apps) histories.tables)

-- its first two lines
abbrev pub head : ScriptText → List ℕ
head script = codes "fsw " ++ decimal script.limits.version ++ codes "\nbus\n"

-- a report as far as its lines on the bus
abbrev pub bus_part : ScriptText → List Entry → List ℕ
bus_part script history = head script ++ entries_text history

-- its lines on the tables
abbrev pub tables_part : List TableEntry → List ℕ
tables_part history = codes "tables\n" ++ table_entries_text history

-- A report begins so if a run of the script has these histories so far: with the lines on the
-- bus; if no entry of the bus is missing, also with those on the tables; and it is all there
-- if none of the tables is missing either.
pub data Opens (script : ScriptText) (histories : Histories) (text : List ℕ) : Type 0 where
  WithBus : text ≡ bus_part script histories.bus → Opens script histories text
  WithTables : IsWhole script histories.bus →
      text ≡ bus_part script histories.bus ++ tables_part histories.tables →
      Opens script histories text
  WithAll : IsWhole script histories.bus → AreWholeTables script histories.tables →
      text ≡ report script histories → Opens script histories text

-- the first lines of a text, so many, each with its line end; None if it has fewer
abbrev pub first_lines : ℕ → List ℕ → Option (List ℕ)
first_lines zero text = Some []
first_lines (suc n) [] = None
first_lines (suc n) (byte ∷ text) =
    option_map (λ line. byte ∷ line) (first_lines (if byte == 10 then n else suc n) text)
