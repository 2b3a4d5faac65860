use Rattle.std.proofs.Common.{[]}
use Rattle.bus_core.proofs.plain.PlainBus.delete_pipe.Goals as goal

pub delete_pipe_lending-requires : goal.delete_pipe_lending-requires
delete_pipe_lending-requires g c = record { may = c.requires.may; views = c.requires.bag.views }

pub returns-clause-bag : goal.returns-clause-bag
returns-clause-bag g c = c.delete_pipe_lending.ensures.bag [] c.requires.bag
