use Rattle.std.specs.Option.{option_map_or}
use Rattle.ccsds_msg.specs.Message.{with_count}
use Rattle.buf_desc.specs.Slots.{sealed_at}
use Rattle.buf_desc.proofs.Copies.{length-counted}
use Rattle.bus_messages.proofs.NewBlocks.{put_added}
use Rattle.bus_messages.proofs.blocks.put_message.Goals as goal

pub returns-clause-added : goal.returns-clause-added
returns-clause-added g c =
    let bytes = c.args.bytes.now in
    let put = c.put_copy-desc.ensures in
    put_added c.args.desk.now c.put_copy-desc.new.self c.args.number (sealed_at c.put_copy-desc.new.self.slots c.put_copy-desc.result).loan c.put_copy-desc.result bytes
    (option_map_or (with_count bytes) c.args.count bytes) (length-counted bytes c.args.count c.requires.header)
    put.next put.fresh put.drawn put.sealed
