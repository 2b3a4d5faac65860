-- Standings as the machine of lists has them.
use Rattle.bus_words.specs.Bus.{Standing, Active, Waiting, Ended}
use Rattle.list_bus.specs.declared.standings.ListStanding.{ListStanding}
use Rattle.list_bus.specs.declared.standings.ListStanding.TheVariants as listed

-- a standing of the machine of lists, as the bus has it
abbrev pub standing_in : ListStanding → Standing
standing_in listed.Active = Active
standing_in (listed.Waiting pipe) = Waiting pipe
standing_in listed.Ended = Ended
