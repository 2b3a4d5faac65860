use Rattle.test_parts.proofs.es_pool_tests.a_long_run_agrees_with_the_plain_pool.Given as goal

abbrev pub ghosts-long_run : goal.ghosts-long_run
ghosts-long_run g a = record { name = a.blank.name; parts = a.blank.parts }
