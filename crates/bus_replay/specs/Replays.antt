-- The bus of a run that is under way, played again.
use Rattle.std.specs.Prelude.{◌≡◌, ◌≢◌, ℕ, zero, suc, ◌+◌, ◌-◌, ◌≤◌, ◌&&◌, Bool, true, List, [], ◌∷◌, ◌++◌, length, slice_get, Some}
use Rattle.std.specs.Option.{option_map}
use Rattle.bus_words.specs.declared.history.Entry.{Entry}
use Rattle.bus_words.specs.Acts.{whole_after}
use Rattle.bus_words.specs.Bus.{State, Ended, has_ended, standing_of}
use Rattle.list_bus.specs.Played.{IsPlayed, Played}
use Rattle.app_script.specs.Script.{ScriptText}
use Rattle.run_report.specs.BusText.{entry_text}
use Rattle.run_check.specs.Begun.{IsBegun, IsWhole}
use Rattle.run_check.specs.Fronts.{wrong_line}
use Rattle.run_check.specs.Judged.{Begins, entry_head}
use Rattle.run_check.specs.Places.{Place, first_place as place_before, lines_of, passed, place_after, settled}
use Rattle.replay_parts.specs.Compared.{Compared, GoesPast}
use Rattle.bus_replay.specs.declared.replay.BusStep.{BusStep}
use Rattle.bus_replay.specs.declared.replay.BusStep.TheVariants.{Entered, Whole, Wrong}
use Rattle.bus_replay.specs.Places.{Kept, place_of}

-- What is kept: the script, the bus, how many entries there were, and where each application is
-- among its lines.
pub record Replay : Type 0 where
  pub script : ScriptText
  pub played : Played
  pub entries : ℕ
  pub places : List Kept

-- It is behind a history that a run of the script may have so far.
pub record IsReplayed (history : List Entry) (r : Replay) : Type 0 where
  pub begun : IsBegun r.script history
  pub limits : r.played.limits ≡ r.script.limits
  pub whole : r.played.whole ≡ whole_after r.script.limits (length r.script.apps) history
  pub kept : IsPlayed r.played
  pub entries : r.entries ≡ length history
  pub places : (app : ℕ) → 1 ≤ app → app ≤ length r.script.apps →
      option_map place_of (slice_get r.places (app - 1)) ≡ Some (place_after r.script app history)

-- if an application is before its first entry
abbrev pub first_place : State → ScriptText → ℕ → Place
first_place s script app = passed app s (lines_of script app) place_before

-- it is behind some history
abbrev pub IsUnderWay : Replay → Type 0
IsUnderWay r = (history : List Entry) × IsReplayed history r

-- the next line begins with the number of the next entry and that of an application that hasn't
-- ended, and with that of no other
pub record IsNextCaller (r : Replay) (app : ℕ) (text : Compared) : Type 0 where
  pub known : app ≤ length r.script.apps
  pub going : standing_of r.played.whole.bus app ≢ Ended
  pub headed : Begins text.rest (entry_head (r.entries + 1) app)
  pub only : (other : ℕ) → other ≤ length r.script.apps →
      Begins text.rest (entry_head (r.entries + 1) other) → other ≡ app

-- behind an entry of this number, after which the bus is as it is; the places of the others are as
-- they were
pub record IsSettled (old new : Replay) (number : ℕ) (e : Entry) : Type 0 where
  pub script : new.script ≡ old.script
  pub played : new.played ≡ old.played
  pub entries : new.entries ≡ number
  pub own : (place : Kept) → slice_get old.places (e.app - 1) ≡ Some place →
      option_map place_of (slice_get new.places (e.app - 1)) ≡
      Some
      (settled e.app old.played.whole.bus (lines_of old.script e.app) e.call e.answer
      (place_of place))
  pub others : (at : ℕ) → at ≢ e.app - 1 → slice_get new.places at ≡ slice_get old.places at

-- whether the applications up to this number have ended
abbrev pub have_all_ended : State → ℕ → Bool
have_all_ended s zero = true
have_all_ended s (suc app) = have_all_ended s app && has_ended (standing_of s (suc app))

-- The next line is that of an entry that may come next, and everything is past it.
pub record Enters (history : List Entry) (new : Replay) (from to : Compared) : Type 0 where
  pub entry : Entry
  pub replayed : IsReplayed (history ++ entry ∷ []) new
  pub text : GoesPast from to (entry_text (length history + 1) entry)

-- The next line is that of no entry that may come next. An entry is missing, and the line doesn't
-- begin with the number of an application that may have the next one; or it does, and isn't the
-- line of that application's next entry.
pub data IsWrongNext (script : ScriptText) (history : List Entry) (text : Compared)
    (line : ℕ) : Type 0 where
  Nobodys : ¬ IsWhole script history →
      ((e : Entry) → IsBegun script (history ++ e ∷ []) →
      ¬ Begins text.rest (entry_head (length history + 1) e.app)) →
      line ≡ text.lines + wrong_line text.rest [] →
      IsWrongNext script history text line
  Another : (e : Entry) → IsBegun script (history ++ e ∷ []) →
      Begins text.rest (entry_head (length history + 1) e.app) →
      ¬ Begins text.rest (entry_text (length history + 1) e) →
      line ≡ text.lines + wrong_line text.rest (entry_text (length history + 1) e) →
      IsWrongNext script history text line

-- what a step does of a replay that is behind these entries
abbrev pub Steps : List Entry → Replay → Replay → Compared → Compared → BusStep → Type 0
Steps history old new from to Entered = (new.script ≡ old.script) × Enters history new from to
Steps history old new from to Whole = IsWhole old.script history × (new ≡ old) × (to ≡ from)
Steps history old new from to (Wrong line) = IsWrongNext old.script history from line
