-- The tables of a run that is under way, played again.
use Rattle.std.specs.Prelude.{◌≡◌, ℕ, zero, suc, ◌+◌, ◌-◌, ◌≤◌, ◌&&◌, Bool, true, false, List, [], ◌∷◌, ◌++◌, length, slice_get, slice_set, slice_index_or, Some}
use Rattle.fsw_base.specs.Limits.{Limits}
use Rattle.tbl_words.specs.declared.history.Entry.{Entry}
use Rattle.tbl_words.specs.declared.uses.TblUse.{TblUse}
use Rattle.tbl_words.specs.Machine.{state_after}
use Rattle.tbl_words.specs.Tables.{State, has_ended}
use Rattle.tbl_words.specs.Uses.{greater_of, peak_after, use_of}
use Rattle.app_script.specs.Script.{ScriptText}
use Rattle.run_report.specs.TableText.{table_entry_text}
use Rattle.run_check.specs.Begun.{AreBegunTables, AreWholeTables}
use Rattle.run_check.specs.Fronts.{wrong_line}
use Rattle.run_check.specs.Judged.{Begins, entry_head}
use Rattle.run_check.specs.Places.{lines_of}
use Rattle.run_check.specs.TablePlaces.{TablePlace, first_table_place, passed_at_tables, settled_at_tables, table_place_after}
use Rattle.replay_parts.specs.Compared.{Compared, GoesPast}
use Rattle.table_replay.specs.declared.replay.TableStep.{TableStep}
use Rattle.table_replay.specs.declared.replay.TableStep.TheVariants.{Entered, Whole, Wrong}

-- What is kept: the script, the limits and the state of the tables, the greatest numbers that were
-- in use, how many entries there were, and where each application is among its lines.
pub record Replay : Type 0 where
  pub script : ScriptText
  pub limits : Limits
  pub state : State
  pub peak : TblUse
  pub entries : ℕ
  pub places : List TablePlace

-- It is behind a history that a run of the script may have so far.
pub record IsReplayed (history : List Entry) (r : Replay) : Type 0 where
  pub begun : AreBegunTables r.script history
  pub limits : r.limits ≡ r.script.limits
  pub state : r.state ≡ state_after r.script.limits (length r.script.apps) history
  pub peak : r.peak ≡ peak_after r.script.limits (length r.script.apps) history
  pub entries : r.entries ≡ length history
  pub places : (app : ℕ) → 1 ≤ app → app ≤ length r.script.apps →
      slice_get r.places (app - 1) ≡ Some (table_place_after r.script app history)

-- if an application is before its first entry
abbrev pub first_place : State → ScriptText → ℕ → TablePlace
first_place s script app = passed_at_tables app s (lines_of script app) first_table_place

-- it is behind some history
abbrev pub IsUnderWay : Replay → Type 0
IsUnderWay r = (history : List Entry) × IsReplayed history r

-- the next line begins with the number of the next entry and that of an application that hasn't
-- ended
pub record IsNextCaller (r : Replay) (app : ℕ) (text : Compared) : Type 0 where
  pub known : app ≤ length r.script.apps
  pub going : has_ended r.state app ≡ false
  pub headed : Begins text.rest (entry_head (r.entries + 1) app)

-- behind an entry of this number, after which the tables are as they are
abbrev pub settled : Replay → ℕ → Entry → Replay
settled r number e = record r {
  peak = greater_of r.peak (use_of r.limits r.state);
  entries = number;
  places =
      slice_set r.places (e.app - 1)
      (settled_at_tables e.app r.state (lines_of r.script e.app) e.call e.answer
      (slice_index_or r.places (e.app - 1) first_table_place));
}

-- whether the applications up to this number have ended
abbrev pub have_all_ended : State → ℕ → Bool
have_all_ended s zero = true
have_all_ended s (suc app) = have_all_ended s app && has_ended s (suc app)

-- The next line is that of an entry that may come next, and everything is past it.
pub record Enters (history : List Entry) (new : Replay) (from to : Compared) : Type 0 where
  pub entry : Entry
  pub replayed : IsReplayed (history ++ entry ∷ []) new
  pub text : GoesPast from to (table_entry_text (length history + 1) entry)

-- The next line is that of no entry that may come next. An entry is missing, and the line doesn't
-- begin with the number of an application that may have the next one; or it does, and isn't the
-- line of that application's next entry.
pub data IsWrongNext (script : ScriptText) (history : List Entry) (text : Compared)
    (line : ℕ) : Type 0 where
  Nobodys : ¬ AreWholeTables script history →
      ((e : Entry) → AreBegunTables script (history ++ e ∷ []) →
      ¬ Begins text.rest (entry_head (length history + 1) e.app)) →
      line ≡ text.lines + wrong_line text.rest [] →
      IsWrongNext script history text line
  Another : (e : Entry) → AreBegunTables script (history ++ e ∷ []) →
      Begins text.rest (entry_head (length history + 1) e.app) →
      ¬ Begins text.rest (table_entry_text (length history + 1) e) →
      line ≡ text.lines + wrong_line text.rest (table_entry_text (length history + 1) e) →
      IsWrongNext script history text line

-- what a step does of a replay that is behind these entries
abbrev pub Steps : List Entry → Replay → Replay → Compared → Compared → TableStep → Type 0
Steps history old new from to Entered = (new.script ≡ old.script) × Enters history new from to
Steps history old new from to Whole =
    AreWholeTables old.script history × (new ≡ old) × (to ≡ from)
Steps history old new from to (Wrong line) = IsWrongNext old.script history from line
