use Rattle.std.proofs.Common.{◌≡◌, ℕ, ◌+◌, ◌-◌, ◌<◌, ◌≤◌, length, Some}
use Rattle.std.specs.Prelude.{slice_get}
use Rattle.std.specs.Option.{option_map}
use Rattle.bus_replay.specs.Places.{place_of}
use Rattle.bus_replay.specs.Replays.{first_place}
use Rattle.bus_replay.proofs.replay.first_places.Given as goal

-- those so far are there
abbrev pub invariant-loop-number : goal.invariant-loop-number
invariant-loop-number l = record {
  count : length l.places.items + 1 ≡ l.number;
  there : (app : ℕ) → 1 ≤ app → app < l.number → option_map place_of (slice_get l.places.items (app - 1)) ≡ Some (first_place l.bus.whole.bus l.script app);
}
