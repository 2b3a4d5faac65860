use Rattle.fsw_c.proofs.buffers.fsw_raw_release_buffer.Given as goal

abbrev pub ghosts-release : goal.ghosts-release
ghosts-release a = record { name = a.blank.name; parts = a.blank.parts }
