use Rattle.fsw_c.proofs.tables.fsw_raw_table_unregister.Given as goal

abbrev pub ghosts-unregister : goal.ghosts-unregister
ghosts-unregister a = record { name = a.blank.name; parts = a.blank.parts }
