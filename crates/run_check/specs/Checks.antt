-- What a check of a report answers.
use Rattle.std.specs.Prelude.{◌≡◌, ℕ, ◌<◌, List, Some}
use Rattle.app_script.specs.Script.{ScriptText}
use Rattle.script_runs.specs.Histories.{Histories}
use Rattle.script_runs.specs.Runs.{IsRunOf}
use Rattle.run_check.specs.declared.judgement.Judgement.{Judgement}
use Rattle.run_check.specs.declared.judgement.Judgement.TheVariants.{Yes, No}
use Rattle.run_check.specs.Begun.{IsBegun, AreBegunTables}
use Rattle.run_check.specs.Openings.{Opens, first_lines, report}

-- The bytes are the report of a run of the script.
pub record IsGood (script : ScriptText) (bytes : List ℕ) : Type 0 where
  pub histories : Histories
  pub run : IsRunOf script histories
  pub same : bytes ≡ report script histories

-- The report of a run of the script that may be under way begins with this text.
pub record Beginning (script : ScriptText) (text : List ℕ) : Type 0 where
  pub histories : Histories
  pub begun : IsBegun script histories.bus
  pub begun_tables : AreBegunTables script histories.tables
  pub opens : Opens script histories text

-- The first lines of the bytes, so many, are those with which the report of such a run begins.
pub record Starts (script : ScriptText) (bytes : List ℕ) (lines : ℕ) : Type 0 where
  pub text : List ℕ
  pub beginning : Beginning script text
  pub front : List ℕ
  pub read : first_lines lines bytes ≡ Some front
  pub same : first_lines lines text ≡ Some front

-- no run begins with the first lines of the bytes up to this one, and one does with any fewer
pub record IsFirstWrong (script : ScriptText) (bytes : List ℕ) (line : ℕ) : Type 0 where
  pub wrong : ¬ Starts script bytes line
  pub least : (fewer : ℕ) → fewer < line → Starts script bytes fewer

-- Yes if the bytes are the report of a run of the script; else No, with the number of the first
-- line that is no run's
abbrev pub IsAnswer : ScriptText → List ℕ → Judgement → Type 0
IsAnswer script bytes Yes = IsGood script bytes
IsAnswer script bytes (No line) = (¬ IsGood script bytes) × IsFirstWrong script bytes line
