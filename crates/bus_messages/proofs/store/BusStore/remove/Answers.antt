use Rattle.bus_messages.proofs.PipeRemovals.{rows_wait, rows_last, removed_keeps, removed_store, removed_bags}
use Rattle.bus_messages.proofs.store.BusStore.remove.Goals as goal

pub delete_pipe-requires-clause-waits : goal.delete_pipe-requires-clause-waits
delete_pipe-requires-clause-waits g c = rows_wait c.self.inside c.args.self.now c.self.view_is c.args.pipe c.requires.waits

pub delete_pipe-requires-clause-last : goal.delete_pipe-requires-clause-last
delete_pipe-requires-clause-last g c = rows_last c.self.inside c.args.self.now c.self.view_is c.args.pipe c.requires.last

pub invariant_of-self : goal.invariant_of-self
invariant_of-self g c = removed_keeps c.self.inside c.args.self.now c.delete_pipe.new.self c.args.pipe c.delete_pipe.ensures c.self.view_is c.recall_order.ensures c.requires.waits c.requires.last c.self.invariant

pub returns-clause-after : goal.returns-clause-after
returns-clause-after g c = removed_store c.self.inside c.args.self.now c.delete_pipe.new.self c.args.pipe c.delete_pipe.ensures c.self.view_is c.recall_order.ensures c.requires.waits c.requires.last

pub returns-clause-bags : goal.returns-clause-bags
returns-clause-bags g c = removed_bags c.self.inside c.args.self.now c.delete_pipe.new.self c.args.pipe c.delete_pipe.ensures c.self.view_is c.recall_order.ensures c.requires.waits c.requires.last
