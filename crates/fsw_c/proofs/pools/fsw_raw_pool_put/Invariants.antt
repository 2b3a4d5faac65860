use Rattle.fsw_c.proofs.pools.fsw_raw_pool_put.Given as goal

abbrev pub ghosts-pool_put : goal.ghosts-pool_put
ghosts-pool_put a = record { name = a.blank.name; parts = a.blank.parts }
