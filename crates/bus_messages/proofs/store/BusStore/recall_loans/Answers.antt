use Rattle.bus_messages.proofs.OneLoan.{loans_told}
use Rattle.bus_messages.proofs.store.BusStore.recall_loans.Goals as goal

pub returns : goal.returns
returns c = loans_told c.self.inside c.self.invariant c.args.self.now c.self.view_is
