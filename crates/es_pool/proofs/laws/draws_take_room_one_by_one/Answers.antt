use Rattle.es_pool.proofs.Rooms.{fits_after, account_room_after, draws_together}
use Rattle.es_pool.proofs.laws.draws_take_room_one_by_one.Goals as goal

pub returns-clause-pool : goal.returns-clause-pool
returns-clause-pool c = fits_after

pub returns-clause-account : goal.returns-clause-account
returns-clause-account c = account_room_after

pub returns-clause-together : goal.returns-clause-together
returns-clause-together c = draws_together
