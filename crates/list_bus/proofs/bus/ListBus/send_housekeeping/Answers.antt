use Rattle.std.proofs.Common.{ap}
use Rattle.ccsds_msg.specs.declared.packet.Header.{Header}
use Rattle.bus_words.specs.Held.{in_use}
use Rattle.list_bus.proofs.Packets.{packet_decides, packet_events}
use Rattle.list_bus.proofs.bus.ListBus.send_housekeeping.Goals as goal

pub returns-clause-made : goal.returns-clause-made
returns-clause-made c =
    let now = c.args.self.now in
    let is_id = ap (λ (h : Header). h.id) (c.recall_packets.ensures.header now.whole.bus.statistics.counts (in_use now.limits now.whole.bus)) in
    packet_decides now c.args.app is_id c.transmit.new.self _ _ c.packet-packet.ensures c.in_ok-decision.ensures.made

pub returns-clause-events : goal.returns-clause-events
returns-clause-events c =
    let now = c.args.self.now in
    let is_id = ap (λ (h : Header). h.id) (c.recall_packets.ensures.header now.whole.bus.statistics.counts (in_use now.limits now.whole.bus)) in
    packet_events now c.args.app is_id _ _ _ c.packet-packet.ensures c.in_ok-decision.ensures.events
