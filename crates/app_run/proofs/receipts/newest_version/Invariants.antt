use Rattle.std.proofs.Common.{◌≡◌, None, drop}
use Rattle.app_run.specs.Received.{newest_version}
use Rattle.app_run.proofs.receipts.newest_version.Given as goal

-- none of the receipts behind this place is of the handle
abbrev pub invariant-loop-place : goal.invariant-loop-place
invariant-loop-place l = newest_version (drop l.place l.receipts.receipts) l.handle ≡ None
