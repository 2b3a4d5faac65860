use Rattle.std.proofs.Common.{◌≡◌, ℕ, ◌+◌, ◌-◌, ◌<◌, ◌≤◌, length, Some}
use Rattle.std.specs.Prelude.{slice_get}
use Rattle.table_replay.specs.Replays.{first_place}
use Rattle.table_replay.proofs.replay.first_places.Given as goal

-- those so far are there
abbrev pub invariant-loop-number : goal.invariant-loop-number
invariant-loop-number l = record {
  count : length l.places.items + 1 ≡ l.number;
  there : (app : ℕ) → 1 ≤ app → app < l.number → slice_get l.places.items (app - 1) ≡ Some (first_place l.tables.state l.script app);
}
