use Rattle.std.proofs.Common.{[]}
use Rattle.bus_core.proofs.plain.PlainBus.allocate.Goals as goal

pub allocate_lending-requires : goal.allocate_lending-requires
allocate_lending-requires g c = record { may = c.requires.may; bag = record { lent = []; has = c.requires.bag }; room = c.requires.room }

pub returns-clause-bag : goal.returns-clause-bag
returns-clause-bag g c = c.allocate_lending.ensures.bag [] c.requires.bag
