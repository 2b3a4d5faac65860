use Rattle.test_parts.proofs.turn_lock_tests.sleeping.an_entry_wakes_who_sleeps_until_one_is_made.Given as goal

abbrev pub ghosts-turns_beside_an_entry : goal.ghosts-turns_beside_an_entry
ghosts-turns_beside_an_entry g a = record { name = a.lock.now.name }
