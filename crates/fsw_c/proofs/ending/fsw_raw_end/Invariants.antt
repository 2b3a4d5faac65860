use Rattle.fsw_c.proofs.ending.fsw_raw_end.Given as goal

abbrev pub ghosts-end-L-Ledger : goal.ghosts-end-L-Ledger
ghosts-end-L-Ledger a = record { name = a.blank.name; parts = a.blank.parts }

abbrev pub ghosts-end-M-Ledger : goal.ghosts-end-M-Ledger
ghosts-end-M-Ledger a = record { name = a.other.name; parts = a.other.parts }
