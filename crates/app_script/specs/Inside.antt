-- What the fields of an application, of a reading and of a script stand for.
use Rattle.std.specs.Prelude.{◌≡◌, ◌≤◌, length, IsTrue}
use Rattle.app_script.specs.declared.app.App.TheInside as app
use Rattle.script_settings.specs.Accounts.{account_of}
use Rattle.app_script.specs.Script.{Application, ScriptText}
use Rattle.fsw_base.specs.Limits.{limits_of}
use Rattle.fsw_base.specs.Starts.{are_count_starts}
use Rattle.app_script.specs.declared.reading.Reading.TheInside as reading
use Rattle.app_script.specs.Grammar.{Progress}
use Rattle.app_script.specs.declared.script.Script.TheInside as script
use Rattle.app_script.specs.ScriptRanges.{IsScript}

-- An application. --

abbrev pub application_in : app.Inside → Application
application_in a = record { name = a.name; lines = a.lines.items }

-- the account is that of the lines, of which there are not too many
pub record Fits (a : app.Inside) : Type 0 where
  pub account : a.account ≡ account_of a.lines.items
  pub calls : a.account.calls ≡ length a.lines.items
  pub waits : a.account.waits ≤ length a.lines.items
  pub buffers : a.account.buffers ≤ length a.lines.items
  pub few : length a.lines.items ≤ 20000

-- A reading. --

abbrev pub progress_in : reading.Inside → Progress
progress_in a = record {
  begun = a.begun;
  limits = record (limits_of a.config) { starts = a.starts.items };
  named = a.named.items;
  sized = a.sized;
  started = a.started;
  done = a.done.items;
  present = a.present;
  calls = a.calls;
  charged = a.charged;
}

-- the counts are within what a script may have
pub record KeepsCounts (a : reading.Inside) : Type 0 where
  pub calls : a.calls ≤ 20000
  pub charged : a.charged ≤ 16777216
  pub lines : length a.present.lines ≤ a.calls
  pub bytes : (account_of a.present.lines).bytes ≤ a.charged
  pub starts : IsTrue (are_count_starts a.starts.items)
  pub apps : length a.done.items ≤ 15

-- A script. --

abbrev pub script_in : script.Inside → ScriptText
script_in a = record { limits = limits_of a.config; apps = a.apps.items }

-- it is one that a text can be
abbrev pub KeepsRanges : script.Inside → Type 0
KeepsRanges a = IsScript (script_in a)
