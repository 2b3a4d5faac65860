-- The language of scripts, as it is told to those who write them: which lines a script has, and in
-- which order.
use Rattle.std.specs.Prelude.{◌≡◌, ℕ, ◌≤◌, ◌==◌, ◌&&◌, not, nat_le, Bool, true, false, List, [], ◌∷◌, ◌++◌, length, map, filter, fold, Option, Some, None, Result, Ok, IsTrue}
use Rattle.std.specs.List.{list_all, list_any, flat_map}
use Rattle.fsw_base.specs.declared.script_faults.FaultKind.{FaultKind}
use Rattle.fsw_base.specs.Limits.{Limits, usual_limits}
use Rattle.script_words.specs.Text.{lines_of, words_of, behind_word, is_text}
use Rattle.script_settings.specs.Settings.{limit_number, with_limit}
use Rattle.script_words.specs.Readings.{◌>>=◌}
use Rattle.app_script.specs.Items.{Setting, Limit, Sizes, Start, Item, Version, Configures, Begins, Calls, is_skipped, items_in}
use Rattle.app_script.specs.Script.{Application, ScriptText}
use Rattle.app_script.specs.ScriptRanges.{have_new_names, all_calls, all_bytes}

-- ---- lines

-- at most 1024 bytes, each printable or a tab
abbrev pub is_plain : List ℕ → Bool
is_plain line = nat_le (length line) 1024 && list_all is_text line

-- the lines that aren't skipped: not the empty ones and the comments
abbrev pub told_among : List (List ℕ) → List (List ℕ)
told_among lines = filter (λ line. not (is_skipped (words_of line))) lines

-- what a line of a script of this version tells
abbrev pub items_on : ℕ → List ℕ → Result (List Item) FaultKind
items_on version line = items_in version (words_of line) (behind_word line)

-- what lines of a script of this version tell in order, if each tells something
unfoldable pub told_by : ℕ → List (List ℕ) → Result (List Item) FaultKind
told_by version [] = Ok []
told_by version (line ∷ lines) = do
  items ← items_on version line
  others ← told_by version lines
  Ok (items ++ others)

-- ---- configuration

-- the limits with one setting more
abbrev pub with_setting : Limits → Setting → Limits
with_setting limits (Limit name value) = with_limit limits name value
with_setting limits (Sizes sizes) = record limits { sizes = sizes }
with_setting limits (Start id count) = record limits { starts = limits.starts ++ (id, count) ∷ [] }

-- the version of a script: the one that its first line tells, 1 if none is told
abbrev pub version_in : Option ℕ → ℕ
version_in None = 1
version_in (Some version) = version

-- what settings make of the usual limits, in a script of this version
abbrev pub configured : ℕ → List Setting → Limits
configured version settings = fold with_setting (record usual_limits { version = version }) settings

-- settings of the same thing: of one limit, of the block sizes, of the count of one message id
abbrev pub is_same_setting : Setting → Setting → Bool
is_same_setting (Limit one value) (Limit other to) = limit_number one == limit_number other
is_same_setting (Sizes sizes) (Sizes others) = true
is_same_setting (Start id count) (Start other from) = id == other
is_same_setting one other = false

-- each of these settings is none of those before it
abbrev pub are_new_settings : List Setting → List Setting → Bool
are_new_settings before [] = true
are_new_settings before (setting ∷ settings) =
    not (list_any (λ other. is_same_setting other setting) before) &&
    are_new_settings (before ++ setting ∷ []) settings

-- ---- a whole script

-- an application: its name, then its call lines
abbrev pub app_items : Application → List Item
app_items app = Begins app.name ∷ map Calls app.lines

-- the version of the language, if it is told
abbrev pub version_items : Option ℕ → List Item
version_items None = []
version_items (Some version) = Version version ∷ []

-- a script: the version of the language, if it is told; the configuration; then one application
-- after another
abbrev pub script_items : Option ℕ → List Setting → List Application → List Item
script_items version settings apps =
    version_items version ++ map Configures settings ++ flat_map app_items apps

-- The text is this script.
pub record IsText (text : List ℕ) (script : ScriptText) : Type 0 where
  -- a text of plain lines
  pub size : length text ≤ 1048576
  pub plain : IsTrue (list_all is_plain (lines_of text))
  -- its lines, without those that are skipped, tell a script in this order; the line of a table
  -- file tells two calls, and counts as them
  pub version : Option ℕ
  pub settings : List Setting
  pub order : told_by (version_in version) (told_among (lines_of text)) ≡
      Ok (script_items version settings script.apps)
  -- it has the version that is told and these settings, of which each is given once, and at most 16
  -- counts
  pub limits : script.limits ≡ configured (version_in version) settings
  pub once : IsTrue (are_new_settings [] settings)
  pub starts : length script.limits.starts ≤ 16
  -- one to 16 applications, each with a name of its own
  pub some : 1 ≤ length script.apps
  pub few : length script.apps ≤ 16
  pub names : IsTrue (have_new_names [] script.apps)
  -- not too many call lines, nor too heavy ones
  pub calls : all_calls script.apps ≤ 20000
  pub charges : all_bytes script.apps ≤ 16777216
