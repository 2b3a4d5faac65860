use Rattle.std.proofs.Common.{[], refl}
use Rattle.bus_core.proofs.plain.PlainBus.release.Goals as goal

pub release_lending-requires : goal.release_lending-requires
release_lending-requires g c = record { may = c.requires.may; buffer = record { known = c.requires.bag.buffers.known; due = c.requires.bag.buffers.due c.args.buf } }

pub returns-clause-bag : goal.returns-clause-bag
returns-clause-bag g c = c.release_lending.ensures.bag [] refl c.requires.bag
