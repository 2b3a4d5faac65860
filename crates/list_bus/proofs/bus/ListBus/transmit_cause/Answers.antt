use Rattle.std.proofs.Common.{sym, ◌∙◌, arith}
use Rattle.list_bus.proofs.HeaderFaults.{no_fault_long}
use Rattle.list_bus.proofs.bus.ListBus.transmit_cause.Goals as goal

pub id_of-requires : goal.id_of-requires
id_of-requires c = omega (arith, no_fault_long c.args.bytes.now (sym c.is_faulty.ensures ∙ c.if-is_faulty.false))
