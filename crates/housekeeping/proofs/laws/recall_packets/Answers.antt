use Rattle.housekeeping.proofs.PacketLemmas.{length-housekeeping_packet, IsMessage-housekeeping_packet, header_of-housekeeping_packet}
use Rattle.housekeeping.proofs.laws.recall_packets.Goals as goal

pub returns-clause-length : goal.returns-clause-length
returns-clause-length c = length-housekeeping_packet

pub returns-clause-message : goal.returns-clause-message
returns-clause-message c = IsMessage-housekeeping_packet

pub returns-clause-header : goal.returns-clause-header
returns-clause-header c = header_of-housekeeping_packet
