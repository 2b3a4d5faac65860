-- What each line of a script tells, by itself and the script's version.
use Rattle.std.specs.Prelude.{ℕ, ◌==◌, Bool, true, List, [], ◌∷◌, Option, Some, None, Result, Ok, Err, codes}
use Rattle.std.specs.List.{starts_with}
use Rattle.fsw_base.specs.declared.script_faults.FaultKind.{FaultKind}
use Rattle.fsw_base.specs.declared.script_faults.FaultKind.TheVariants.{UnknownWord}
use Rattle.script_words.specs.Readings.{◌>>=◌}
use Rattle.script_words.specs.Text.{words_of}
use Rattle.script_words.specs.Counts.{Word}
use Rattle.script_lines.specs.declared.line.Line.{Line}
use Rattle.script_lines.specs.CallLines.{call_line_of}
use Rattle.script_lines.specs.FileLines.{tfile_of}
use Rattle.script_settings.specs.declared.settings.LimitName.{LimitName}
use Rattle.script_settings.specs.Settings.{set_of, sizes_of, seq_of, app_of, script_of}
use Rattle.app_script.specs.declared.forms.Form.{Form}
use Rattle.app_script.specs.declared.forms.Form.TheVariants as form
use Rattle.app_script.specs.Forms.{form_in}

-- A line of configuration: a limit's value, the block sizes, or the count at which an id starts.
pub data Setting : Type 0 where
  Limit : LimitName → ℕ → Setting
  Sizes : List ℕ → Setting
  Start : ℕ → ℕ → Setting

-- What a line tells: the version of the language, a setting, an application that begins, or a call.
pub data Item : Type 0 where
  Version : ℕ → Item
  Configures : Setting → Item
  Begins : Word → Item
  Calls : Line → Item

-- a line without words, and one that begins with a hash sign, is skipped
unfoldable pub is_skipped : List Word → Bool
is_skipped [] = true
is_skipped (first ∷ words) = starts_with (λ a b. a == b) first (codes "#")

-- what a line of this form tells, from the line behind its first word: one item, or two calls if it
-- is that of a table file; each number, register and text is in its range
unfoldable pub items_of : Form → List ℕ → Result (List Item) FaultKind
items_of form.Script rest =
    script_of (words_of rest) >>= λ version. Ok (Version version ∷ [])
items_of form.Set rest =
    set_of (words_of rest) >>= λ set. Ok (Configures (Limit set.0 set.1) ∷ [])
items_of form.Sizes rest =
    sizes_of (words_of rest) >>= λ sizes. Ok (Configures (Sizes sizes) ∷ [])
items_of form.Seq rest =
    seq_of (words_of rest) >>= λ start. Ok (Configures (Start start.0 start.1) ∷ [])
items_of form.App rest = app_of (words_of rest) >>= λ name. Ok (Begins name ∷ [])
items_of (form.Call first) rest = call_line_of first rest >>= λ line. Ok (Calls line ∷ [])
items_of form.File rest =
    tfile_of (words_of rest) >>= λ calls. Ok (Calls calls.0 ∷ Calls calls.1 ∷ [])

-- what a line tells whose first word is of this form, if of any
abbrev pub items_known : Option Form → List ℕ → Result (List Item) FaultKind
items_known None rest = Err UnknownWord
items_known (Some form) rest = items_of form rest

-- what a line of these words tells in a script of this version, if it isn't skipped
unfoldable pub items_in : ℕ → List Word → List ℕ → Result (List Item) FaultKind
items_in version [] rest = Err UnknownWord
items_in version (first ∷ words) rest = items_known (form_in version first) rest
