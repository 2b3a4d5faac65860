use Rattle.fsw_c.proofs.buffers.fsw_raw_allocate_buffer.Given as goal

abbrev pub ghosts-allocate : goal.ghosts-allocate
ghosts-allocate a = record { name = a.blank.name; parts = a.blank.parts }
