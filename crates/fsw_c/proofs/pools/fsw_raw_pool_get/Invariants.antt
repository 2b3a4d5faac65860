use Rattle.fsw_c.proofs.pools.fsw_raw_pool_get.Given as goal

abbrev pub ghosts-pool_get : goal.ghosts-pool_get
ghosts-pool_get a = record { name = a.blank.name; parts = a.blank.parts }
