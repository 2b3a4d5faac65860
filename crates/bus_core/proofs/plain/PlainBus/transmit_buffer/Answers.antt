use Rattle.std.proofs.Common.{[], refl}
use Rattle.bus_core.proofs.plain.PlainBus.transmit_buffer.Goals as goal

pub transmit_buffer_lending-requires : goal.transmit_buffer_lending-requires
transmit_buffer_lending-requires g c = record { may = c.requires.may; buffer = record { known = c.requires.bag.buffers.known; due = c.requires.bag.buffers.due c.args.buf } }

pub returns-clause-bag : goal.returns-clause-bag
returns-clause-bag g c = c.transmit_buffer_lending.ensures.bag [] refl c.requires.bag
