use Rattle.fsw_c.proofs.buffers.fsw_raw_transmit_buffer.Given as goal

abbrev pub ghosts-transmit_buffer : goal.ghosts-transmit_buffer
ghosts-transmit_buffer a = record { name = a.blank.name; parts = a.blank.parts }
