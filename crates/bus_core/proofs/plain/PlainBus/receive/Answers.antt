use Rattle.std.proofs.Common.{[]}
use Rattle.bus_core.proofs.plain.PlainBus.receive.Goals as goal

pub receive_lending-requires : goal.receive_lending-requires
receive_lending-requires g c = record { may = c.requires.may; views = c.requires.bag.views }

pub returns-clause-bag : goal.returns-clause-bag
returns-clause-bag g c = c.receive_lending.ensures.bag [] c.requires.bag
