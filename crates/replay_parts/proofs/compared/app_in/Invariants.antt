use Rattle.std.proofs.Common.{ℕ, ◌<◌, ◌≤◌, [], ◌∷◌, ◌++◌, decimal}
use Rattle.run_check.specs.Judged.{Begins}
use Rattle.replay_parts.proofs.compared.app_in.Given as goal

-- the text begins with the number of none so far
abbrev pub invariant-loop-number : goal.invariant-loop-number
invariant-loop-number l = (app : ℕ) → 1 ≤ app → app < l.number → ¬ Begins l.text (decimal app ++ 32 ∷ [])
