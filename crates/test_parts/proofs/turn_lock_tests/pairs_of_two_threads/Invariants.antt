use Rattle.test_parts.proofs.turn_lock_tests.pairs_of_two_threads.Given as goal

abbrev pub ghosts-add_in_two_threads : goal.ghosts-add_in_two_threads
ghosts-add_in_two_threads g a = record { name = a.lock.now.name }
