use Rattle.std.proofs.Common.{◌≡◌, ℕ, ◌<◌, get_or}
use Rattle.script_runs.specs.Messages.{fill_byte}
use Rattle.script_calls.proofs.made.count_up.Given as goal

-- the bytes so far count up
abbrev pub invariant-loop-i : goal.invariant-loop-i
invariant-loop-i l = (k : ℕ) → k < l.i → get_or l.payload k 0 ≡ fill_byte l.fill k
