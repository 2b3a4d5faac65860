use Rattle.run_check.proofs.BusGoesOn.{places_go_on}
use Rattle.run_check.proofs.laws.places_go_on.Goals as goal

pub returns : goal.returns
returns c = places_go_on
