use Rattle.std.proofs.Common.{◌≡◌, take, length, map, vec_len, vec_capacity}
use Rattle.script_settings.specs.Accounts.{budget_of}
use Rattle.app_run.proofs.rotating.budgets_of.Given as goal

-- the budgets so far, and the room for those to come
abbrev pub invariant-loop-i : goal.invariant-loop-i
invariant-loop-i l =
    (l.budgets.items ≡ map (λ a. budget_of a.lines) (take l.i l.script.apps))
    × (vec_len l.budgets ≡ l.i)
    × (vec_capacity l.budgets ≡ length l.script.apps)
