use Rattle.std.proofs.Common.{◌≡◌, ℕ, ◌<◌, ◌≤◌, true}
use Rattle.bus_words.specs.Bus.{has_ended, standing_of}
use Rattle.bus_replay.proofs.replay.BusReplay.have_all_ended.Given as goal

-- so far each has ended
abbrev pub invariant-loop-number : goal.invariant-loop-number
invariant-loop-number l = (app : ℕ) → 1 ≤ app → app < l.number → has_ended (standing_of l.self.played.whole.bus app) ≡ true
