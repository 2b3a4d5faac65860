use Rattle.std.proofs.Common.{◌≡◌, map, replicate}
use Rattle.bus_words.specs.Bus.{Active}
use Rattle.list_bus.specs.Standings.{standing_in}
use Rattle.list_bus.proofs.standings.all_active.Given as goal

-- as many are active as were counted
abbrev pub invariant-loop : goal.invariant-loop
invariant-loop l = map standing_in l.standings.items ≡ replicate l.counter Active
