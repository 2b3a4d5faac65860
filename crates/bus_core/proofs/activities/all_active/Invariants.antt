use Rattle.std.proofs.Common.{◌≡◌, replicate, vec_len, vec_capacity}
use Rattle.bus_core.specs.declared.activities.Activity.TheVariants.{Active}
use Rattle.bus_core.proofs.activities.all_active.Given as goal

-- as many are active as were counted, and there is room for all
abbrev pub invariant-loop : goal.invariant-loop
invariant-loop l =
    (l.activities.items ≡ replicate l.counter Active) × (vec_len l.activities ≡ l.counter) × (vec_capacity l.activities ≡ l.apps)
