use Rattle.std.proofs.Common.{◌≡◌, ℕ, ◌<◌, ◌≤◌, true}
use Rattle.tbl_words.specs.Tables.{has_ended}
use Rattle.table_replay.proofs.replay.TableReplay.have_all_ended.Given as goal

-- so far each has ended
abbrev pub invariant-loop-number : goal.invariant-loop-number
invariant-loop-number l = (app : ℕ) → 1 ≤ app → app < l.number → has_ended l.self.state app ≡ true
