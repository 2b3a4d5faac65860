-- Before the first line.
use Rattle.std.proofs.Common.{◌≡◌, ℕ, ◌-◌, ◌≤◌, [], length, Some, ap, ◌∙◌}
use Rattle.std.specs.Prelude.{slice_get}
use Rattle.std.specs.Option.{option_map}
use Rattle.fsw_base.specs.Limits.{Limits}
use Rattle.bus_words.specs.Acts.{Whole, opening_whole}
use Rattle.list_bus.specs.Played.{IsPlayed}
use Rattle.run_check.proofs.Beginnings.{begun_nothing}
use Rattle.bus_replay.specs.Places.{place_of}
use Rattle.bus_replay.specs.Replays.{IsReplayed, Replay, first_place}

pub first_replayed : (r : Replay) → r.played.limits ≡ r.script.limits → r.played.whole ≡ opening_whole r.played.limits (length r.script.apps) → IsPlayed r.played → r.entries ≡ 0 →
    ((app : ℕ) → 1 ≤ app → app ≤ length r.script.apps → option_map place_of (slice_get r.places (app - 1)) ≡ Some (first_place r.played.whole.bus r.script app)) → IsReplayed [] r
first_replayed r limits whole kept entries places = record {
  begun = begun_nothing r.script;
  limits = limits;
  whole = now;
  kept = kept;
  entries = entries;
  places = λ app one few. places app one few ∙ ap (λ (w : Whole). Some (first_place w.bus r.script app)) now;
}
  where
    now : r.played.whole ≡ opening_whole r.script.limits (length r.script.apps)
    now = whole ∙ ap (λ (l : Limits). opening_whole l (length r.script.apps)) limits
