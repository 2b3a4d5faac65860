use Rattle.fsw_c.proofs.registering.fsw_raw_table_register.Given as goal

abbrev pub ghosts-register : goal.ghosts-register
ghosts-register a = record { name = a.blank.name; parts = a.blank.parts }
