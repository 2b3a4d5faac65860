use Rattle.fsw_c.proofs.pipes.fsw_raw_delete_pipe.Given as goal

abbrev pub ghosts-delete_pipe : goal.ghosts-delete_pipe
ghosts-delete_pipe a = record { name = a.blank.name; parts = a.blank.parts }
