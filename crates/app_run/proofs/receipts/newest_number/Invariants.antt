use Rattle.std.proofs.Common.{◌≡◌, None, drop}
use Rattle.app_run.specs.Received.{newest_number}
use Rattle.app_run.proofs.receipts.newest_number.Given as goal

-- none of the receipts behind this place is from the pipe
abbrev pub invariant-loop-place : goal.invariant-loop-place
invariant-loop-place l = newest_number (drop l.place l.receipts.receipts) l.pipe ≡ None
