use Rattle.bus_messages.proofs.NewPipes.{created_bags}
use Rattle.bus_messages.proofs.store.BusStore.create_pipe.Goals as goal

pub returns-clause-bags : goal.returns-clause-bags
returns-clause-bags c = created_bags c.self.inside c.args.self.now c.create_pipe-number.new.self c.args.name.now c.args.owner c.args.depth c.self.view_is c.create_pipe-number.ensures.after c.recall_order.ensures
