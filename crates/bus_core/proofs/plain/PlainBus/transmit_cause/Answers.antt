use Rattle.std.proofs.Common.{◌≤◌, length, sym, ◌∙◌, arith}
use Rattle.bus_core.proofs.Refusals.{message_least}
use Rattle.bus_core.proofs.plain.PlainBus.transmit_cause.Goals as goal

pub id_of-requires : goal.id_of-requires
id_of-requires c =
    let least : 7 ≤ length c.args.bytes.now = message_least c.args.bytes.now (sym c.is_message.ensures ∙ c.if-not-is_message.false) in
    omega (arith, least)
