-- The one spelling of a script that is printed: its version, its settings, then its applications.
use Rattle.std.specs.Prelude.{ℕ, ◌==◌, List, [], ◌∷◌, ◌++◌, map, codes, decimal, if◌then◌else◌}
use Rattle.std.specs.List.{flat_map}
use Rattle.fsw_base.specs.Limits.{Limits, usual_limits}
use Rattle.fsw_base.specs.Blocks.{usual_sizes}
use Rattle.text_page.specs.Texts.{hex_id}
use Rattle.script_words.specs.Text.{is_same}
use Rattle.script_words.specs.Counts.{Word}
use Rattle.script_text.specs.Spelling.{spaced, line_text}
use Rattle.script_settings.specs.declared.settings.LimitName.{LimitName}
use Rattle.script_settings.specs.declared.settings.LimitName.TheVariants.{MsgIds, Pipes, Dests, Depth, MsgMax, Pool, AppPool, Tables, Handles, TableMax, TablePool}
use Rattle.app_script.specs.Script.{Application, ScriptText}
use Rattle.app_script.specs.ScriptRanges.{limit_of, all_limits}

-- the word for a limit
abbrev pub limit_word : LimitName → Word
limit_word MsgIds = codes "msgids"
limit_word Pipes = codes "pipes"
limit_word Dests = codes "dests"
limit_word Depth = codes "depth"
limit_word MsgMax = codes "msgmax"
limit_word Pool = codes "pool"
limit_word AppPool = codes "apppool"
limit_word Tables = codes "tables"
limit_word Handles = codes "handles"
limit_word TableMax = codes "tablemax"
limit_word TablePool = codes "tablepool"

-- the line of the version, if it isn't 1
unfoldable pub version_lines : ℕ → List (List ℕ)
version_lines version =
    if version == 1 then [] else (spaced (codes "script" ∷ decimal version ∷ []) ∷ [])

-- the line that sets a limit, if it isn't the usual one
unfoldable pub set_lines_of : LimitName → ℕ → List (List ℕ)
set_lines_of name value =
    if value == limit_of usual_limits name then []
    else (spaced (codes "set" ∷ limit_word name ∷ decimal value ∷ []) ∷ [])

abbrev pub set_lines : Limits → List (List ℕ)
set_lines limits = flat_map (λ name. set_lines_of name (limit_of limits name)) all_limits

-- the line of the block sizes, if they aren't the usual ones
unfoldable pub sizes_lines : List ℕ → List (List ℕ)
sizes_lines sizes =
    if is_same sizes usual_sizes then [] else (spaced (codes "sizes" ∷ map decimal sizes) ∷ [])

-- the line of a count's start
abbrev pub seq_text : ℕ × ℕ → List ℕ
seq_text start = spaced (codes "seq" ∷ hex_id start.0 ∷ decimal start.1 ∷ [])

-- the lines of an application: its name, and its call lines in order
abbrev pub app_lines : Application → List (List ℕ)
app_lines app = spaced (codes "app" ∷ app.name ∷ []) ∷ map line_text app.lines

-- the lines of a script
unfoldable pub spelled_lines : ScriptText → List (List ℕ)
spelled_lines script =
    version_lines script.limits.version ++ set_lines script.limits ++
    sizes_lines script.limits.sizes ++ map seq_text script.limits.starts ++
    flat_map app_lines script.apps

-- lines, each with a line feed at its end
abbrev pub ended : List (List ℕ) → List ℕ
ended lines = flat_map (λ line. line ++ codes "\n") lines

-- The spelling of a script.
unfoldable pub spelled_script : ScriptText → List ℕ
spelled_script script = ended (spelled_lines script)
