use Rattle.test_parts.proofs.turn_lock_tests.sleeping.every_sleeper_is_woken.Given as goal

abbrev pub ghosts-take_turns_in_two_threads : goal.ghosts-take_turns_in_two_threads
ghosts-take_turns_in_two_threads g a = record { name = a.lock.now.name }
