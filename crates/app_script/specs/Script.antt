-- A script, as its readers tell it.
use Rattle.std.specs.Prelude.{ℕ, ◌-◌, List, [], slice_index_or}
use Rattle.fsw_base.specs.Limits.{Limits}
use Rattle.script_lines.specs.declared.line.Line.{Line}

-- an application: its name, and its call lines in order
pub record Application : Type 0 where
  pub name : List ℕ
  pub lines : List Line

-- a script: the limits that it configures, its version among them, and its applications in order
pub record ScriptText : Type 0 where
  pub limits : Limits
  pub apps : List Application

-- the application with this number; applications count from 1
abbrev pub app_at : ScriptText → ℕ → Application
app_at script number = slice_index_or script.apps (number - 1) (record { name = []; lines = [] })
