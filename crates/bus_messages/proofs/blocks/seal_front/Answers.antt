use Rattle.std.proofs.Common.{length, take, ap, ◌∙◌, arith}
use Rattle.std.specs.Option.{option_map_or}
use Rattle.ccsds_msg.specs.Message.{with_count, message_size}
use Rattle.buf_desc.specs.Block.{Unsent as UnsentBlock}
use Rattle.buf_desc.proofs.Copies.{length-counted}
use Rattle.bus_messages.proofs.NewBlocks.{own_as, fronted, fronted_numbers, counted_front}
use Rattle.bus_messages.proofs.blocks.seal_front.Goals as goal

pub seal-desc-requires-clause-own : goal.seal-desc-requires-clause-own
seal-desc-requires-clause-own c =
    let bytes = c.args.block.bytes in
    let long = length-counted bytes c.args.count (omega (arith, c.requires.header)) in
    own_as c.args.desk.now c.args.block c.with_its_count-message.result (option_map_or (with_count bytes) c.args.count bytes) c.with_its_count-message.ensures
    (ap (λ (b : UnsentBlock). length b.bytes) c.with_its_count-message.ensures ∙ long) c.requires.own

pub seal-desc-requires-clause-within : goal.seal-desc-requires-clause-within
seal-desc-requires-clause-within c =
    let bytes = c.args.block.bytes in
    let long = length-counted bytes c.args.count (omega (arith, c.requires.header)) in
    let is = ap (λ (b : UnsentBlock). length b.bytes) c.with_its_count-message.ensures in
    let size = c.size_of-size.ensures ∙ ap message_size c.bytes.ensures in
    omega (arith, is, long, size, c.requires.within)

pub returns-clause-seals : goal.returns-clause-seals
returns-clause-seals c =
    let bytes = c.args.block.bytes in
    let size = c.size_of-size.ensures ∙ ap message_size c.bytes.ensures in
    fronted c.args.desk.now c.seal-desc.new.self c.args.block c.with_its_count-message.result _ (option_map_or (with_count bytes) c.args.count bytes) c.size_of-size.result _ c.requires.own c.with_its_count-message.ensures
    (length-counted bytes c.args.count (omega (arith, c.requires.header)))
    (ap (λ n. take n (option_map_or (with_count bytes) c.args.count bytes)) size ∙ counted_front bytes c.args.count (message_size bytes) (omega arith) (omega (arith, c.requires.header)))
    c.seal-desc.ensures.after

pub returns-clause-numbers : goal.returns-clause-numbers
returns-clause-numbers c =
    fronted_numbers c.args.desk.now c.seal-desc.new.self c.args.block c.with_its_count-message.result (option_map_or (with_count c.args.block.bytes) c.args.count c.args.block.bytes) c.size_of-size.result _ c.requires.own c.with_its_count-message.ensures c.seal-desc.ensures.after
