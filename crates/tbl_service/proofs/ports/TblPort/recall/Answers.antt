use Rattle.std.proofs.Common.{◌≡◌, subst}
use Rattle.tbl_load.specs.Bags.{HasBag}
use Rattle.tbl_service.specs.Ports.{PortView, own_entries}
use Rattle.tbl_service.proofs.ports.TblPort.recall.Goals as goal

pub returns-clause-bag : goal.returns-clause-bag
returns-clause-bag c = subst (λ (p : PortView). HasBag p.seen p.app p.bag) c.self.view_is c.self.invariant

pub returns-clause-mine : goal.returns-clause-mine
returns-clause-mine c = subst (λ (p : PortView). own_entries p.app p.seen.log.entries ≡ p.mine) c.self.view_is c.recall.ensures.mine
