use Rattle.std.proofs.Common.{◌≡◌, false}
use Rattle.thread_run.specs.Whole.{whole}
use Rattle.thread_run.specs.Works.{IsBetweenTurns}
use Rattle.thread_run.proofs.works.run_by.Given as goal

-- between two turns the application is on its way, and goes on
abbrev pub invariant-loop : goal.invariant-loop
invariant-loop g l =
    (goal.iterator-loop g).can_next l.iterator' × (goal.iterator-loop g).is_finite l.iterator'
    × IsBetweenTurns (whole l.shared) l.initial.runner.running.app l.runner l.calls
    × (l.runner.ended ≡ false)
