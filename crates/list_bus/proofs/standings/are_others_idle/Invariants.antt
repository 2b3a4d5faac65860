use Rattle.std.proofs.Common.{◌≡◌, map, drop, set}
use Rattle.std.specs.List.{list_all}
use Rattle.bus_words.specs.Bus.{Ended, is_idle}
use Rattle.list_bus.specs.Standings.{standing_in}
use Rattle.list_bus.proofs.standings.are_others_idle.Given as goal

-- what is left decides
abbrev pub invariant-loop-place : goal.invariant-loop-place
invariant-loop-place l =
    list_all (is_idle l.pipes) (drop l.place (set (map standing_in l.standings) l.own Ended))
    ≡ list_all (is_idle l.pipes) (set (map standing_in l.standings) l.own Ended)
