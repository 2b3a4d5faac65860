-- Histories that merge what a script's applications do.
use Rattle.std.specs.Prelude.{ℕ, ◌≤◌, length, All}
use Rattle.app_script.specs.Script.{ScriptText, app_at}
use Rattle.script_runs.specs.Histories.{Histories}
use Rattle.script_runs.specs.TableTrace.{TableTrace, first_handles, own_table_entries}
use Rattle.script_runs.specs.Trace.{Trace, first_registers, own_entries}
use Rattle.script_runs.specs.Written.{first_written}

-- Each of the two histories has each application's calls of its service, each once and in the order
-- of the application's lines, and no other's.
pub record Merges (script : ScriptText) (histories : Histories) : Type 0 where
  pub each :
      (app : ℕ) → 1 ≤ app → app ≤ length script.apps →
      Trace first_registers first_written (app_at script app).lines (own_entries app histories.bus)
  pub nobody_else : All (λ e. (1 ≤ e.app) × (e.app ≤ length script.apps)) histories.bus
  pub each_at_tables :
      (app : ℕ) → 1 ≤ app → app ≤ length script.apps →
      TableTrace first_handles (app_at script app).lines (own_table_entries app histories.tables)
  pub nobody_else_at_tables : All (λ e. (1 ≤ e.app) × (e.app ≤ length script.apps)) histories.tables
