use Rattle.app_run.specs.Runners.{histories_of}
use Rattle.app_run.proofs.OpenLaws.{are-budgets}
use Rattle.thread_run.proofs.run.run_threads.Goals as goal

pub returns-clause-guarantees : goal.returns-clause-guarantees
returns-clause-guarantees g c =
    c.runs_guarantee.ensures c.args.script.now (histories_of c.close_all.result.bus c.close_all.result.tables) c.close_all.ensures.run

pub open_services-requires-clause-budgets : goal.open_services-requires-clause-budgets
open_services-requires-clause-budgets g c = are-budgets c.args.script.now c.recall_ranges.ensures.run c.recall_ranges.ensures.text.some c.recall_ranges.ensures.text.few
