-- The scripts that a text can be: limits, names and call lines in their ranges, and not too many of
-- them.
use Rattle.std.specs.Prelude.{ℕ, ◌≤◌, ◌+◌, ◌&&◌, nat_le, not, Bool, true, List, [], ◌∷◌, ◌++◌, length, IsTrue}
use Rattle.std.specs.List.{list_all, list_any}
use Rattle.fsw_base.specs.Limits.{Limits}
use Rattle.fsw_base.specs.Blocks.{are_block_sizes}
use Rattle.fsw_base.specs.Starts.{are_count_starts}
use Rattle.script_words.specs.Text.{is_same}
use Rattle.script_lines.specs.Ranges.{is_readable}
use Rattle.script_settings.specs.declared.settings.LimitName.{LimitName}
use Rattle.script_settings.specs.declared.settings.LimitName.TheVariants.{MsgIds, Pipes, Dests, Depth, MsgMax, Pool, AppPool, Tables, Handles, TableMax, TablePool}
use Rattle.script_settings.specs.Settings.{least, greatest, is_app_name, is_version}
use Rattle.script_settings.specs.Accounts.{account_of}
use Rattle.app_script.specs.Script.{Application, ScriptText}

-- the value that a limit has
abbrev pub limit_of : Limits → LimitName → ℕ
limit_of limits MsgIds = limits.msgids
limit_of limits Pipes = limits.pipes
limit_of limits Dests = limits.dests
limit_of limits Depth = limits.depth
limit_of limits MsgMax = limits.msgmax
limit_of limits Pool = limits.pool
limit_of limits AppPool = limits.apppool
limit_of limits Tables = limits.tables
limit_of limits Handles = limits.handles
limit_of limits TableMax = limits.tablemax
limit_of limits TablePool = limits.tablepool

-- the limits, in the order in which they are printed
abbrev pub all_limits : List LimitName
all_limits =
    MsgIds ∷ Pipes ∷ Dests ∷ Depth ∷ MsgMax ∷ Pool ∷ AppPool ∷ Tables ∷ Handles ∷ TableMax ∷
    TablePool ∷ []

-- each limit in its range
abbrev pub are_limits : Limits → Bool
are_limits limits =
    list_all (λ name. nat_le (least name) (limit_of limits name) &&
    nat_le (limit_of limits name) (greatest name)) all_limits

-- each name is none of those before it
abbrev pub have_new_names : List Application → List Application → Bool
have_new_names before [] = true
have_new_names before (app ∷ apps) =
    not (list_any (λ other. is_same other.name app.name) before) &&
    have_new_names (before ++ app ∷ []) apps

-- an application that a text can have
abbrev pub is_application : Application → Bool
is_application app = is_app_name app.name && list_all is_readable app.lines

-- the call lines of all applications, and the sum of their charges
abbrev pub all_calls : List Application → ℕ
all_calls [] = 0
all_calls (app ∷ apps) = length app.lines + all_calls apps

abbrev pub all_bytes : List Application → ℕ
all_bytes [] = 0
all_bytes (app ∷ apps) = (account_of app.lines).bytes + all_bytes apps

-- what a text can be read as
pub record IsScript (script : ScriptText) : Type 0 where
  pub version : IsTrue (is_version script.limits.version)
  pub limits : IsTrue (are_limits script.limits)
  pub sizes : IsTrue (are_block_sizes script.limits.sizes)
  pub starts : IsTrue (are_count_starts script.limits.starts)
  pub some : 1 ≤ length script.apps
  pub few : length script.apps ≤ 16
  pub names : IsTrue (have_new_names [] script.apps)
  pub applications : IsTrue (list_all is_application script.apps)
  pub calls : all_calls script.apps ≤ 20000
  pub bytes : all_bytes script.apps ≤ 16777216
