use Rattle.std.proofs.Common.{[]}
use Rattle.bus_core.proofs.plain.PlainBus.pend.Goals as goal

pub pend_lending-requires : goal.pend_lending-requires
pend_lending-requires g c = record { may = c.requires.may; views = c.requires.bag.views }

pub returns-clause-bag : goal.returns-clause-bag
returns-clause-bag g c = c.pend_lending.ensures.bag [] c.requires.bag
