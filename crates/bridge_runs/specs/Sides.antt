-- A side of a bridge: a bus and its tables, with the applications of a script, and the bridge as
-- one application more.
use Rattle.std.specs.Prelude.{◌≡◌, ℕ, ◌+◌, ◌≤◌, List, [], ◌∷◌, length, map, All}
use Rattle.bus_words.specs.Machine.{IsLegal}
use Rattle.tbl_words.specs.declared.history.Call.TheVariants as table_calls
use Rattle.tbl_words.specs.declared.history.Entry.{Entry as TableEntry}
use Rattle.tbl_words.specs.Machine.{IsLegal as AreLegalTables}
use Rattle.app_script.specs.Script.{ScriptText, app_at}
use Rattle.script_runs.specs.Histories.{Histories}
use Rattle.script_runs.specs.TableTrace.{TableTrace, first_handles, own_table_entries}
use Rattle.script_runs.specs.Trace.{Trace, first_registers, own_entries}
use Rattle.script_runs.specs.Written.{first_written}
use Rattle.bridge_plan.specs.Plan.{bridge_of}

-- how many applications a side has: those of its script, and the bridge
abbrev pub side_apps : ScriptText → ℕ
side_apps script = length script.apps + 1

-- The bus and the tables of a side can have these histories, under its script's configuration and
-- with one application more than the script has.
pub record AreLegal (script : ScriptText) (histories : Histories) : Type 0 where
  pub bus : IsLegal script.limits (side_apps script) histories.bus
  pub tables : AreLegalTables script.limits (side_apps script) histories.tables

-- Each of the two histories has each application's calls of its service, each once and in the order
-- of the application's lines; and nobody but these and the bridge has an entry.
pub record MergesBeside (script : ScriptText) (histories : Histories) : Type 0 where
  pub each :
      (app : ℕ) → 1 ≤ app → app ≤ length script.apps →
      Trace first_registers first_written (app_at script app).lines (own_entries app histories.bus)
  pub nobody_else : All (λ e. (1 ≤ e.app) × (e.app ≤ bridge_of script)) histories.bus
  pub each_at_tables :
      (app : ℕ) → 1 ≤ app → app ≤ length script.apps →
      TableTrace first_handles (app_at script app).lines (own_table_entries app histories.tables)
  pub nobody_else_at_tables : All (λ e. (1 ≤ e.app) × (e.app ≤ bridge_of script)) histories.tables

-- the bridge makes no call of the tables but its end
abbrev pub EndsAlone : ScriptText → List TableEntry → Type 0
EndsAlone script history =
    map (λ e. e.call) (own_table_entries (bridge_of script) history) ≡ table_calls.End ∷ []
