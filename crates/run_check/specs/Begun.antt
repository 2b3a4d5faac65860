-- Runs of a script that are under way: which calls its applications may have made so far, and if
-- none is missing.
use Rattle.std.specs.Prelude.{ℕ, ◌≤◌, List, ◌++◌, length, All}
use Rattle.bus_words.specs.declared.history.Entry.{Entry}
use Rattle.bus_words.specs.Machine.{IsLegal}
use Rattle.tbl_words.specs.declared.history.Entry.{Entry as TableEntry}
use Rattle.tbl_words.specs.Machine.{IsLegal as AreLegalTables}
use Rattle.app_script.specs.Script.{ScriptText, app_at}
use Rattle.script_runs.specs.TableTrace.{TableTrace, first_handles, own_table_entries}
use Rattle.script_runs.specs.Trace.{Trace, first_registers, own_entries}
use Rattle.script_runs.specs.Written.{first_written}

-- the entries are the first ones of a list that is all there are
abbrev pub IsFront : {E : Type 0} → (List E → Type 0) → List E → Type 0
IsFront {E} AreAll entries = (rest : List E) × AreAll (entries ++ rest)

-- The bus. --

-- the entries are all that an application of the script makes
abbrev pub AreAllOf : ScriptText → ℕ → List Entry → Type 0
AreAllOf script app entries = Trace first_registers first_written (app_at script app).lines entries

-- A history of the bus that a run of the script may have so far: legal, the entries of each
-- application the first ones of those that its lines make, and no other application's entries.
pub record IsBegun (script : ScriptText) (history : List Entry) : Type 0 where
  pub legal : IsLegal script.limits (length script.apps) history
  pub each : (app : ℕ) → 1 ≤ app → app ≤ length script.apps →
      IsFront (AreAllOf script app) (own_entries app history)
  pub nobody_else : All (λ e. (1 ≤ e.app) × (e.app ≤ length script.apps)) history

-- no entry is missing
abbrev pub IsWhole : ScriptText → List Entry → Type 0
IsWhole script history =
    (app : ℕ) → 1 ≤ app → app ≤ length script.apps → AreAllOf script app (own_entries app history)

-- The tables. --

-- the entries are all that an application of the script makes
abbrev pub AreAllTablesOf : ScriptText → ℕ → List TableEntry → Type 0
AreAllTablesOf script app entries = TableTrace first_handles (app_at script app).lines entries

-- a history of the tables that a run of the script may have so far
pub record AreBegunTables (script : ScriptText) (history : List TableEntry) : Type 0 where
  pub legal : AreLegalTables script.limits (length script.apps) history
  pub each : (app : ℕ) → 1 ≤ app → app ≤ length script.apps →
      IsFront (AreAllTablesOf script app) (own_table_entries app history)
  pub nobody_else : All (λ e. (1 ≤ e.app) × (e.app ≤ length script.apps)) history

-- no entry is missing
abbrev pub AreWholeTables : ScriptText → List TableEntry → Type 0
AreWholeTables script history =
    (app : ℕ) → 1 ≤ app → app ≤ length script.apps →
    AreAllTablesOf script app (own_table_entries app history)
