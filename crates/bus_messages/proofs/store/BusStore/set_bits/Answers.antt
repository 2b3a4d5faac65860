use Rattle.bus_messages.proofs.Changes.{bits_keeps, bits_store, bits_bags}
use Rattle.bus_messages.proofs.store.BusStore.set_bits.Goals as goal

pub invariant_of-self : goal.invariant_of-self
invariant_of-self c = bits_keeps c.self.inside c.args.self.now c.set_bits.new.self c.args.number c.args.bits c.set_bits.ensures c.self.invariant

pub returns-clause-after : goal.returns-clause-after
returns-clause-after c = bits_store c.self.inside c.args.self.now c.set_bits.new.self c.args.number c.args.bits c.set_bits.ensures c.self.view_is

pub returns-clause-bags : goal.returns-clause-bags
returns-clause-bags c = bits_bags c.self.inside c.args.self.now c.set_bits.new.self c.args.number c.args.bits c.set_bits.ensures c.self.view_is
