use Rattle.bus_words.proofs.Standings.{applications_stay}
use Rattle.bus_words.proofs.app_laws.applications_stay.Goals as goal

pub returns : goal.returns
returns c = applications_stay
