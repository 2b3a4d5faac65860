-- The applications of a run: those of a script, and perhaps one that runs beside them.
use Rattle.std.specs.Prelude.{◌≡◌, ℕ, zero, suc, ◌≤◌, false, List, [], ◌∷◌, ◌++◌, replicate, Option, Some, None}
use Rattle.fsw_base.specs.declared.config.Budget.{Budget}
use Rattle.script_lines.specs.declared.line.Line.{Line}
use Rattle.script_lines.specs.declared.line.Line.TheVariants.{Send, Housekeeping}
use Rattle.app_script.specs.Script.{Application, ScriptText}
use Rattle.thread_run.specs.declared.works.RunParts.{RunParts}

-- lines that take so many entries, with the one for the end, and so many bytes: one that brings all
-- the bytes, and others that bring none
abbrev pub lines_for : ℕ → ℕ → List Line
lines_for zero bytes = []
lines_for (suc zero) bytes = []
lines_for (suc (suc n)) bytes = Send 0 bytes 0 false ∷ replicate n Housekeeping

-- an application may run beside with this budget: it has an entry for its end, bytes only if it has
-- others, and no buffers
pub record CanBeBeside (budget : Budget) : Type 0 where
  pub some : 1 ≤ budget.entries
  pub bytes : budget.entries ≤ 1 → budget.bytes ≡ 0
  pub none : budget.buffers ≡ 0

-- the one beside, as an application
abbrev pub app_beside : Budget → Application
app_beside budget = record { name = []; lines = lines_for budget.entries budget.bytes }

-- The script as far as its configuration and its applications' numbers and budgets go: the one
-- beside is an application more, behind the others, with lines that would take its budget.
abbrev pub whole_of : ScriptText → Option Budget → ScriptText
whole_of script None = script
whole_of script (Some budget) =
    record script { apps = script.apps ++ app_beside budget ∷ [] }

-- that of a run
abbrev pub whole : RunParts → ScriptText
whole parts = whole_of parts.script.now parts.beside
