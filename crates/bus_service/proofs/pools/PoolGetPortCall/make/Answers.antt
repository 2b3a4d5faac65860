use Rattle.bus_service.proofs.pools.PoolGetPortCall.make.Goals as goal

pub returns-clause-bag : goal.returns-clause-bag
returns-clause-bag g c = c.pool_get.ensures.bags _ _ c.requires.bag
