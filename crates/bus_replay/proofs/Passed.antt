-- Line after line.
use Rattle.std.proofs.Common.{◌≡◌, ℕ, ◌+◌, ◌<◌, List, [], ◌∷◌, ◌++◌, length, ap, sym, ◌∙◌, subst}
use Rattle.bus_words.specs.declared.history.Entry.{Entry}
use Rattle.app_script.specs.Script.{ScriptText}
use Rattle.run_report.specs.BusText.{entries_text, entry_text}
use Rattle.run_check.specs.Begun.{IsBegun, IsWhole}
use Rattle.replay_parts.specs.Compared.{Compared, GoesPast}
use Rattle.replay_parts.proofs.LineTexts.{less_left, past_entry}
use Rattle.replay_parts.proofs.Passing.{goes_nowhere}
use Rattle.bus_replay.specs.declared.replay.BusStep.TheVariants.{Entered, Whole, Wrong}
use Rattle.bus_replay.specs.Replayed.{AreWholeLines, AreWrongLines}
use Rattle.bus_replay.specs.Replays.{IsReplayed, IsUnderWay, IsWrongNext, Replay, Steps}

-- the replay is behind a history, and the text past its lines
pub record Passed (script : ScriptText) (from : Compared) (r : Replay) (to : Compared) : Type 0 where
  pub history : List Entry
  pub same : r.script ≡ script
  pub replayed : IsReplayed history r
  pub text : GoesPast from to (entries_text history)

-- at first
pub first_passed : (script : ScriptText) (from : Compared) (r : Replay) → r.script ≡ script → IsReplayed [] r → Passed script from r from
first_passed script from r same first = record { history = []; same = same; replayed = first; text = goes_nowhere from }

-- it may go on
pub passed_way : (script : ScriptText) (from : Compared) (r : Replay) (to : Compared) → Passed script from r to → IsUnderWay r
passed_way script from r to at = (at.history, at.replayed)

-- behind one entry more
pub passed_more : (script : ScriptText) (from : Compared) (r now : Replay) (mid to : Compared) → Passed script from r mid →
    ((history : List Entry) → IsReplayed history r → Steps history r now mid to Entered) → Passed script from now to
passed_more script from r now mid to at steps =
    let step = steps at.history at.replayed in
    record {
      history = at.history ++ step.1.entry ∷ [];
      same = step.0 ∙ at.same;
      replayed = step.1.replayed;
      text = past_entry entry_text from mid to at.history step.1.entry at.text step.1.text;
    }

pub passed_less : (script : ScriptText) (from : Compared) (r now : Replay) (mid to : Compared) → Passed script from r mid →
    ((history : List Entry) → IsReplayed history r → Steps history r now mid to Entered) → length to.rest < length mid.rest
passed_less script from r now mid to at steps =
    let step = steps at.history at.replayed in
    less_left mid to _ step.1.text

-- if nothing is missing
pub passed_whole : (script : ScriptText) (from : Compared) (r now : Replay) (mid to : Compared) → Passed script from r mid →
    ((history : List Entry) → IsReplayed history r → Steps history r now mid to Whole) → AreWholeLines script from to now
passed_whole script from r now mid to at steps =
    let step = steps at.history at.replayed in
    record {
      history = at.history;
      same = ap (λ (x : Replay). x.script) step.1 ∙ at.same;
      replayed = subst (IsReplayed at.history) (sym step.1) at.replayed;
      whole = subst (λ (s : ScriptText). IsWhole s at.history) at.same step.0;
      text = subst (λ (t : Compared). GoesPast from t (entries_text at.history)) (sym step.2) at.text;
    }

-- at a wrong line
pub passed_wrong : (script : ScriptText) (from : Compared) (r now : Replay) (mid to : Compared) (line : ℕ) → Passed script from r mid →
    ((history : List Entry) → IsReplayed history r → Steps history r now mid to (Wrong line)) → AreWrongLines script from line
passed_wrong script from r now mid to line at steps = record {
  history = at.history;
  begun = subst (λ (s : ScriptText). IsBegun s at.history) at.same at.replayed.begun;
  then = mid;
  text = at.text;
  wrong = subst (λ (s : ScriptText). IsWrongNext s at.history mid line) at.same (steps at.history at.replayed);
}
