-- Before the first line.
use Rattle.std.proofs.Common.{◌≡◌, ℕ, ◌-◌, ◌≤◌, [], length, Some, ap, ◌∙◌}
use Rattle.std.specs.Prelude.{slice_get}
use Rattle.fsw_base.specs.Limits.{Limits}
use Rattle.tbl_words.specs.Tables.{State, opening}
use Rattle.tbl_words.specs.Uses.{use_of}
use Rattle.run_check.proofs.Beginnings.{begun_no_tables}
use Rattle.table_replay.specs.Replays.{IsReplayed, Replay, first_place}

pub first_replayed : (r : Replay) → r.limits ≡ r.script.limits → r.state ≡ opening r.limits (length r.script.apps) → r.peak ≡ use_of r.limits r.state → r.entries ≡ 0 →
    ((app : ℕ) → 1 ≤ app → app ≤ length r.script.apps → slice_get r.places (app - 1) ≡ Some (first_place r.state r.script app)) → IsReplayed [] r
first_replayed r limits state peak entries places = record {
  begun = begun_no_tables r.script;
  limits = limits;
  state = now;
  peak = peak ∙ ap (λ (l : Limits). use_of l r.state) limits ∙ ap (λ (s : State). use_of r.script.limits s) now;
  entries = entries;
  places = λ app one few. places app one few ∙ ap (λ (s : State). Some (first_place s r.script app)) now;
}
  where
    now : r.state ≡ opening r.script.limits (length r.script.apps)
    now = state ∙ ap (λ (l : Limits). opening l (length r.script.apps)) limits
