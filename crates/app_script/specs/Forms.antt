-- The forms of lines, by their first words.
use Rattle.std.specs.Prelude.{ℕ, not, ◌&&◌, nat_le, Bool, false, Option, Some, None, codes, if◌then◌else◌}
use Rattle.script_words.specs.Text.{is_same}
use Rattle.script_words.specs.Counts.{Word}
use Rattle.script_lines.specs.CallLines.{call_word}
use Rattle.app_script.specs.declared.forms.Form.{Form}
use Rattle.app_script.specs.declared.forms.Form.TheVariants.{Script, Set, Sizes, Seq, App, Call, File}

-- what the first word of a line says of its form
unfoldable pub call_form : Word → Option Form
call_form word = elim (call_word word) [ Some first ↦ Some (Call first) | None ↦ None ]

unfoldable pub form_of : Word → Option Form
form_of word =
    if is_same word (codes "script") then Some Script
    else (if is_same word (codes "set") then Some Set
    else (if is_same word (codes "sizes") then Some Sizes
    else (if is_same word (codes "seq") then Some Seq
    else (if is_same word (codes "app") then Some App
    else call_form word))))

-- scripts have table files from version 2 on
unfoldable pub file_form : ℕ → Word → Option Form
file_form version word =
    if nat_le 2 version && is_same word (codes "tfile") then Some File else None

-- what the first word of a line says of its form, in a script of this version
unfoldable pub form_in : ℕ → Word → Option Form
form_in version word =
    elim (form_of word) [ Some form ↦ Some form | None ↦ file_form version word ]

-- `script` stands first of all, configuration before the first application, call lines and table
-- files in an application
abbrev pub is_misplaced : Form → Bool → Bool → Bool
is_misplaced Script begun started = begun
is_misplaced Set begun started = started
is_misplaced Sizes begun started = started
is_misplaced Seq begun started = started
is_misplaced App begun started = false
is_misplaced (Call first) begun started = not started
is_misplaced File begun started = not started
