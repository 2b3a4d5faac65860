use Rattle.test_parts.proofs.turn_lock_tests.sleeping.a_seat_that_waits_for_long_sleeps.Given as goal

abbrev pub ghosts-looks_in_a_long_turn : goal.ghosts-looks_in_a_long_turn
ghosts-looks_in_a_long_turn g a = record { name = a.lock.now.name }
