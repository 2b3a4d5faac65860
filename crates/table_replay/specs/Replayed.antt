-- What the lines of a report on the tables are.
use Rattle.std.specs.Prelude.{◌≡◌, ℕ, List, ◌++◌, codes}
use Rattle.bus_words.specs.declared.history.Entry.{Entry as BusEntry}
use Rattle.tbl_words.specs.declared.history.Entry.{Entry}
use Rattle.app_script.specs.Script.{ScriptText}
use Rattle.run_report.specs.TableText.{table_entries_text}
use Rattle.run_check.specs.declared.judgement.Judgement.TheVariants.{No}
use Rattle.run_check.specs.Begun.{AreBegunTables, AreWholeTables, IsBegun, IsWhole}
use Rattle.run_check.specs.Checks.{IsAnswer}
use Rattle.run_check.specs.Fronts.{line_ends}
use Rattle.run_check.specs.Openings.{bus_part}
use Rattle.replay_parts.specs.Compared.{Compared, GoesPast}
use Rattle.table_replay.specs.declared.all_lines.TablesReplayed.{TablesReplayed}
use Rattle.table_replay.specs.declared.all_lines.TablesReplayed.TheVariants.{Whole, Wrong}
use Rattle.table_replay.specs.Replays.{IsReplayed, IsWrongNext, Replay}

-- They are the lines of a history of which nothing is missing; the replay is behind it, and the
-- text past them.
pub record AreWholeLines (script : ScriptText) (from to : Compared) (r : Replay) : Type 0 where
  pub history : List Entry
  pub same : r.script ≡ script
  pub replayed : IsReplayed history r
  pub whole : AreWholeTables script history
  pub text : GoesPast from to (table_entries_text history)

-- They are the lines of a history, and the one behind them, if the text was then, is that of no
-- entry that may come next.
pub record AreWrongLines (script : ScriptText) (from : Compared) (line : ℕ) : Type 0 where
  pub history : List Entry
  pub begun : AreBegunTables script history
  pub then : Compared
  pub text : GoesPast from then (table_entries_text history)
  pub wrong : IsWrongNext script history then line

-- what was found
abbrev pub AreReplayed : ScriptText → Compared → Compared → TablesReplayed → Type 0
AreReplayed script from to (Whole replay) = AreWholeLines script from to replay
AreReplayed script from to (Wrong line) = AreWrongLines script from line

-- what is before the lines on the tables, if the bus has this history
abbrev pub before_tables : ScriptText → List BusEntry → List ℕ
before_tables script history = bus_part script history ++ codes "tables\n"

-- Whatever history of the bus is before them, of which nothing is missing: the number is the answer
-- on the report, that of the first line with which no run of the script begins.
abbrev pub AreFirstWrong : ScriptText → Compared → TablesReplayed → Type 0
AreFirstWrong script from (Whole replay) = Unit {0}
AreFirstWrong script from (Wrong line) =
    (bus : List BusEntry) → IsBegun script bus → IsWhole script bus →
    from.lines ≡ line_ends (before_tables script bus) →
    IsAnswer script (before_tables script bus ++ from.rest) (No line)
