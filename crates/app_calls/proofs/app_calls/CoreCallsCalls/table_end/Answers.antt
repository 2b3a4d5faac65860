use Rattle.app_calls.proofs.TableAnswers.{table-answers-held}
use Rattle.app_calls.proofs.app_calls.CoreCallsCalls.table_end.Goals as goal

pub returns : goal.returns
returns g c = table-answers-held _ _ _ _ _ c.end.ensures.does c.end.ensures.bag
