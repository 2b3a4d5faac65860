use Rattle.thread_run.proofs.opening.+open_first.Given as goal

abbrev pub decreases-open_first : goal.decreases-open_first
decreases-open_first l = l.count
