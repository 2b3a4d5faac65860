use Rattle.bus_service.proofs.pools.PoolPutPortCall.make.Goals as goal

pub returns-clause-bag : goal.returns-clause-bag
returns-clause-bag g c = c.pool_put.ensures.bags _ _ c.requires.bag
