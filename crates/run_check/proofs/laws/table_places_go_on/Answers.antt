use Rattle.run_check.proofs.TableGoesOn.{table_places_go_on}
use Rattle.run_check.proofs.laws.table_places_go_on.Goals as goal

pub returns : goal.returns
returns c = table_places_go_on
