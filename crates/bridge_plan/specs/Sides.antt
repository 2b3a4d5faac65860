-- The script of a side, in a plan's text.
use Rattle.std.specs.Prelude.{ℕ, ◌+◌, nat_lt, List, [], ◌∷◌, length, Result, Ok, Err, if◌then◌else◌}
use Rattle.fsw_base.specs.declared.script_faults.FaultKind.{FaultKind}
use Rattle.fsw_base.specs.declared.script_faults.FaultKind.TheVariants.{TooManyApps}
use Rattle.fsw_base.specs.declared.script_faults.ScriptFault.{ScriptFault}
use Rattle.script_words.specs.Readings.{◌>>=◌}
use Rattle.app_script.specs.Grammar.{Progress, apps_of, after_line, at_line, ◌>=>◌}
use Rattle.app_script.specs.Script.{ScriptText}

-- a side has room for the bridge: at most 15 applications of a script
unfoldable pub with_room : Progress → Result Progress FaultKind
with_room s = if nat_lt 15 (length (apps_of s)) then Err TooManyApps else Ok s

-- a line of a side's script is one of a script; but the sixteenth application is one too many
unfoldable pub after_side_line : Progress → List ℕ → Result Progress FaultKind
after_side_line s line = after_line s line >>= with_room

-- the lines from one number on
unfoldable pub after_side_lines : ℕ → Progress → List (List ℕ) → Result Progress ScriptFault
after_side_lines number s [] = Ok s
after_side_lines number s (line ∷ lines) =
    at_line number (after_side_line s line) >=> λ t. after_side_lines (number + 1) t lines

-- the script that was read
abbrev pub script_read : Progress → ScriptText
script_read s = record { limits = s.limits; apps = apps_of s }
