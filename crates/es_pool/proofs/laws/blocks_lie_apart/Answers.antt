use Rattle.es_pool.proofs.Places.{places_within, places_by_8, places_apart, no_common_byte, places_stay_drawn, places_stay_back}
use Rattle.es_pool.proofs.laws.blocks_lie_apart.Goals as goal

pub returns-clause-within : goal.returns-clause-within
returns-clause-within c = places_within

pub returns-clause-aligned : goal.returns-clause-aligned
returns-clause-aligned c = places_by_8

pub returns-clause-apart : goal.returns-clause-apart
returns-clause-apart c = places_apart

pub returns-clause-no_common_byte : goal.returns-clause-no_common_byte
returns-clause-no_common_byte c = no_common_byte

pub returns-clause-stays_drawn : goal.returns-clause-stays_drawn
returns-clause-stays_drawn c = places_stay_drawn

pub returns-clause-stays_back : goal.returns-clause-stays_back
returns-clause-stays_back c = places_stay_back
