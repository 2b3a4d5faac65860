use Rattle.std.proofs.Common.{[]}
use Rattle.bus_core.proofs.plain.PlainBus.look.Goals as goal

pub look_lending-requires : goal.look_lending-requires
look_lending-requires c = record { may = c.requires.may; views = c.requires.bag.views }

pub returns-clause-bag : goal.returns-clause-bag
returns-clause-bag c = c.look_lending.ensures.bag [] c.requires.bag
