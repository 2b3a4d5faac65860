use Rattle.std.proofs.Common.{◌≤◌, All, take}
use Rattle.app_script.specs.Script.{app_at}
use Rattle.app_run.specs.Lines.{made_size}
use Rattle.app_run.proofs.runner.largest_made.Given as goal

-- none of the lines so far has more bytes made
abbrev pub invariant-loop-i : goal.invariant-loop-i
invariant-loop-i l = All (λ line. made_size line ≤ l.largest) (take l.i (app_at l.script l.app).lines)
