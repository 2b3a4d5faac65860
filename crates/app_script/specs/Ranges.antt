-- What is true of every script that the grammar gives: its words are within their ranges, and all
-- of it within the bounds of a whole script.
use Rattle.std.specs.Prelude.{ℕ, ◌≤◌, length, sum_by, All}
use Rattle.script_lines.specs.declared.line.Line.{Line}
use Rattle.script_lines.specs.declared.line.Line.TheVariants.{Create, Find, Send, SendRaw, SendEvent, LogMode, TableRegister, TableShare, Stage, Load}
use Rattle.script_settings.specs.Accounts.{budget_of}
use Rattle.script_words.specs.declared.content.Content.{Content}
use Rattle.script_words.specs.Content.{content_len}
use Rattle.app_script.specs.Script.{ScriptText}

-- a load of 1 to 65536 bytes, from an offset of at most 65536 on
abbrev pub IsLoadInRange : ℕ → Content → Type 0
IsLoadInRange offset content =
    (offset ≤ 65536) × (1 ≤ content_len content) × (content_len content ≤ 65536)

-- a name of at most 64 bytes, a message of 7 to 65542, an event's text of at most 200, a mode of 0
-- or 1, and loads as above
unfoldable pub IsLineInRange : Line → Type 0
IsLineInRange (Create pipe depth name) = length name ≤ 64
IsLineInRange (Find pipe name) = length name ≤ 64
IsLineInRange (Send id size fill inc) = (7 ≤ size) × (size ≤ 65542)
IsLineInRange (SendRaw bytes inc) = length bytes ≤ 65542
IsLineInRange (SendEvent id kind text) = length text ≤ 200
IsLineInRange (LogMode mode) = mode ≤ 1
IsLineInRange (TableRegister handle name size option rules) = length name ≤ 64
IsLineInRange (TableShare handle name) = length name ≤ 64
IsLineInRange (Stage handle offset content) = IsLoadInRange offset content
IsLineInRange (Load handle offset content) = IsLoadInRange offset content
IsLineInRange line = Unit {0}

pub record IsInRange (script : ScriptText) : Type 0 where
  pub lines : All (λ a. All IsLineInRange a.lines) script.apps
  pub calls : sum_by (λ a. length a.lines) script.apps ≤ 20000
  pub bytes : sum_by (λ a. (budget_of a.lines).bytes) script.apps ≤ 16777216
