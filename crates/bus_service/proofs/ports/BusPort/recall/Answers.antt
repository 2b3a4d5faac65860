use Rattle.std.proofs.Common.{◌≡◌, subst}
use Rattle.bus_words.specs.Runs.{own_entries}
use Rattle.sb_calls.specs.Bags.{HasBag}
use Rattle.bus_service.specs.Ports.{PortView}
use Rattle.bus_service.proofs.ports.BusPort.recall.Goals as goal

pub returns-clause-bag : goal.returns-clause-bag
returns-clause-bag c = subst (λ (p : PortView). HasBag p.seen p.app p.bag) c.self.view_is c.self.invariant

pub returns-clause-mine : goal.returns-clause-mine
returns-clause-mine c = subst (λ (p : PortView). own_entries p.app p.seen.log.entries ≡ p.mine) c.self.view_is c.recall.ensures.mine
