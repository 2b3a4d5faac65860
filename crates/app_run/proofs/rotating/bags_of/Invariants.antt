use Rattle.std.proofs.Common.{◌≡◌, take, length, map, vec_len, vec_capacity}
use Rattle.script_settings.specs.Accounts.{budget_of}
use Rattle.app_run.specs.Openings.{empty_bag}
use Rattle.app_run.proofs.rotating.bags_of.Given as goal

-- the bags so far, and the room for those to come
abbrev pub invariant-loop-i : goal.invariant-loop-i
invariant-loop-i l =
    (l.bags.items ≡ map (λ a. empty_bag l.script.limits.pipes (budget_of a.lines).buffers) (take l.i l.script.apps))
    × (vec_len l.bags ≡ l.i)
    × (vec_capacity l.bags ≡ length l.script.apps)
