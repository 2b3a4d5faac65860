-- What the lines of a report on the bus are.
use Rattle.std.specs.Prelude.{◌≡◌, ℕ, List, ◌++◌}
use Rattle.bus_words.specs.declared.history.Entry.{Entry}
use Rattle.app_script.specs.Script.{ScriptText}
use Rattle.run_report.specs.BusText.{entries_text}
use Rattle.run_check.specs.declared.judgement.Judgement.TheVariants.{No}
use Rattle.run_check.specs.Begun.{IsBegun, IsWhole}
use Rattle.run_check.specs.Checks.{IsAnswer}
use Rattle.run_check.specs.Fronts.{line_ends}
use Rattle.run_check.specs.Openings.{head}
use Rattle.replay_parts.specs.Compared.{Compared, GoesPast}
use Rattle.bus_replay.specs.declared.all_lines.BusReplayed.{BusReplayed}
use Rattle.bus_replay.specs.declared.all_lines.BusReplayed.TheVariants.{Whole, Wrong}
use Rattle.bus_replay.specs.Replays.{IsReplayed, IsWrongNext, Replay}

-- They are the lines of a history of which nothing is missing; the replay is behind it, and the
-- text past them.
pub record AreWholeLines (script : ScriptText) (from to : Compared) (r : Replay) : Type 0 where
  pub history : List Entry
  pub same : r.script ≡ script
  pub replayed : IsReplayed history r
  pub whole : IsWhole script history
  pub text : GoesPast from to (entries_text history)

-- They are the lines of a history, and the one behind them, if the text was then, is that of no
-- entry that may come next.
pub record AreWrongLines (script : ScriptText) (from : Compared) (line : ℕ) : Type 0 where
  pub history : List Entry
  pub begun : IsBegun script history
  pub then : Compared
  pub text : GoesPast from then (entries_text history)
  pub wrong : IsWrongNext script history then line

-- what was found
abbrev pub AreReplayed : ScriptText → Compared → Compared → BusReplayed → Type 0
AreReplayed script from to (Whole replay) = AreWholeLines script from to replay
AreReplayed script from to (Wrong line) = AreWrongLines script from line

-- Behind the first two lines of a report the number is the answer on it, that of the first line
-- with which no run of the script begins.
abbrev pub AreFirstWrong : ScriptText → Compared → BusReplayed → Type 0
AreFirstWrong script from (Whole replay) = Unit {0}
AreFirstWrong script from (Wrong line) =
    from.lines ≡ line_ends (head script) →
    IsAnswer script (head script ++ from.rest) (No line)
