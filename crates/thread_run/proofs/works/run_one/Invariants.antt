use Rattle.thread_run.proofs.works.run_one.Given as goal

-- the two locks are those of the services at hand
abbrev pub ghosts-run_by : goal.ghosts-run_by
ghosts-run_by g a = record { bus = a.shared.bus.now; tables = a.shared.tables.now }
