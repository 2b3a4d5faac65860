use Rattle.bus_words.proofs.PoolGrants.{ArePools-after}
use Rattle.bus_words.proofs.laws.pools_are_counted.Goals as goal

pub returns : goal.returns
returns c = ArePools-after
