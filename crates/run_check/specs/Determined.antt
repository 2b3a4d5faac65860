-- A script and the report of a run of it determine the run.
use Rattle.std.specs.Prelude.{◌≡◌, List, [], ◌∷◌, ◌++◌}
use Rattle.bus_words.specs.declared.history.Entry.{Entry}
use Rattle.tbl_words.specs.declared.history.Entry.{Entry as TableEntry}
use Rattle.app_script.specs.Script.{ScriptText}
use Rattle.app_script.specs.ScriptRanges.{IsScript}
use Rattle.script_runs.specs.Histories.{Histories}
use Rattle.script_runs.specs.Runs.{IsRunOf}
use Rattle.run_check.specs.Begun.{IsBegun, AreBegunTables}
use Rattle.run_check.specs.Openings.{report}

-- two runs of a script have the same report only if they have the same histories
abbrev pub ReportsTellRuns : Type 0
ReportsTellRuns =
    (script : ScriptText) (one other : Histories) → IsScript script →
    IsRunOf script one → IsRunOf script other → report script one ≡ report script other →
    one ≡ other

-- behind a history of the bus that is under way, an application has one next entry at the most
abbrev pub NextEntriesAreOne : Type 0
NextEntriesAreOne =
    (script : ScriptText) (history : List Entry) (e f : Entry) →
    IsBegun script (history ++ e ∷ []) → IsBegun script (history ++ f ∷ []) → e.app ≡ f.app → e ≡ f

-- and at the tables
abbrev pub NextTableEntriesAreOne : Type 0
NextTableEntriesAreOne =
    (script : ScriptText) (history : List TableEntry) (e f : TableEntry) →
    AreBegunTables script (history ++ e ∷ []) → AreBegunTables script (history ++ f ∷ []) →
    e.app ≡ f.app → e ≡ f
