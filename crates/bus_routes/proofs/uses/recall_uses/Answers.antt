use Rattle.bus_routes.proofs.UseCounts.{delivered_uses, taken_uses, front_uses, last_uses}
use Rattle.bus_routes.proofs.uses.recall_uses.Goals as goal

pub returns-clause-delivered : goal.returns-clause-delivered
returns-clause-delivered c = λ number message subs rows rising. delivered_uses number message 0 subs rows rising

pub returns-clause-taken : goal.returns-clause-taken
returns-clause-taken c = λ number pipe rows rising. taken_uses number pipe 0 rows rising

pub returns-clause-front : goal.returns-clause-front
returns-clause-front c = λ number pipe rows rising. front_uses number pipe 0 rows rising

pub returns-clause-last : goal.returns-clause-last
returns-clause-last c = λ number pipe rows rising. last_uses number pipe 0 rows rising
