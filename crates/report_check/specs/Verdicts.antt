-- How far a report was judged.
use Rattle.std.specs.Prelude.{◌≡◌, ℕ, ◌+◌, List}
use Rattle.bus_words.specs.declared.history.Entry.{Entry}
use Rattle.app_script.specs.Script.{ScriptText}
use Rattle.script_runs.specs.Histories.{Histories}
use Rattle.run_check.specs.declared.judgement.Judgement.{Judgement}
use Rattle.run_check.specs.declared.judgement.Judgement.TheVariants.{Yes, No}
use Rattle.run_check.specs.Begun.{AreWholeTables, IsWhole}
use Rattle.run_check.specs.Fronts.{wrong_line}
use Rattle.run_check.specs.Openings.{bus_part}
use Rattle.replay_parts.specs.Compared.{Compared, GoesPast}
use Rattle.bus_replay.specs.Replays.{IsReplayed, Replay}
use Rattle.table_replay.specs.Replays.{IsReplayed as AreReplayed, Replay as TableReplay}

-- a report of which nothing was compared yet
abbrev pub unread : List ℕ → Compared
unread bytes = record { rest = bytes; lines = 0 }

-- The text is past the lines on the bus, of a history of which nothing is missing.
pub record IsPastBus (script : ScriptText) (bytes : List ℕ) (at : Compared)
    (r : Replay) : Type 0 where
  pub history : List Entry
  pub same : r.script ≡ script
  pub replayed : IsReplayed history r
  pub whole : IsWhole script history
  pub text : GoesPast (unread bytes) at (bus_part script history)

-- what is kept of both services is what histories leave of which nothing is missing
pub record AreBehind (script : ScriptText) (histories : Histories) (r : Replay)
    (tables : TableReplay) : Type 0 where
  pub same : r.script ≡ script
  pub replayed : IsReplayed histories.bus r
  pub whole : IsWhole script histories.bus
  pub same_tables : tables.script ≡ script
  pub replayed_tables : AreReplayed histories.tables tables
  pub whole_tables : AreWholeTables script histories.tables

-- this text and nothing else is what is left; or it isn't, and the number is that of the line in
-- which it differs
abbrev pub IsTailJudged : Compared → List ℕ → Judgement → Type 0
IsTailJudged at tail Yes = at.rest ≡ tail
IsTailJudged at tail (No line) =
    (¬ (at.rest ≡ tail)) × (line ≡ at.lines + wrong_line at.rest tail)
