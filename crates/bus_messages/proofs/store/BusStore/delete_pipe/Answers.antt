use Rattle.std.proofs.Common.{ap, ◌∙◌}
use Rattle.bus_messages.specs.Store.{Store}
use Rattle.bus_messages.proofs.PipeRemovals.{loan_other, deleted_store}
use Rattle.bus_messages.proofs.store.BusStore.delete_pipe.Goals as goal

pub returns-clause-after : goal.returns-clause-after
returns-clause-after g c =
    deleted_store c.args.self.now c.empty_pipe.new.store c.remove.new.self c.args.pipe
    c.empty_pipe.ensures.others c.empty_pipe.ensures.same c.empty_pipe.ensures.account c.remove.ensures.after c.recall_held.ensures

pub returns-clause-loans : goal.returns-clause-loans
returns-clause-loans g c = λ other apart.
    loan_other c.args.pipe other apart c.remove.new.self c.empty_pipe.new.store (ap (λ (o : Store). o.loans) c.remove.ensures.after)
    ∙ c.empty_pipe.ensures.loans other apart

pub returns-clause-bag : goal.returns-clause-bag
returns-clause-bag g c = c.remove.ensures.bags c.args.app c.empty_pipe.new.held c.empty_pipe.ensures.bag

pub returns-clause-other_bags : goal.returns-clause-other_bags
returns-clause-other_bags g c = λ other bag apart holds. c.remove.ensures.bags other bag (c.empty_pipe.ensures.other_bags other bag apart holds)
