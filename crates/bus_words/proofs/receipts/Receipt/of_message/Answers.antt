use Rattle.std.proofs.Common.{arith, ◌≤◌, length}
use Rattle.std.proofs.Math.Facts.{Fits-lt-pow}
use Rattle.ccsds_msg.proofs.MessageLemmas.{IsMessage-length, length-message}
use Rattle.bus_words.proofs.receipts.Receipt.of_message.Goals as goal

pub id_of-requires : goal.id_of-requires
id_of-requires c = omega (arith, IsMessage-length c.args.message.now c.requires)

pub count_of-requires : goal.count_of-requires
count_of-requires c = omega (arith, IsMessage-length c.args.message.now c.requires)

pub overflow_cast-result : goal.overflow_cast-result
overflow_cast-result c =
    let short : length c.args.message.now ≤ 65542 = length-message c.args.message.now (λ i. Fits-lt-pow (c.type_inv.message i)) c.requires in
    omega (arith, short)

pub sum_of-requires : goal.sum_of-requires
sum_of-requires c =
    let short : length c.args.message.now ≤ 65542 = length-message c.args.message.now (λ i. Fits-lt-pow (c.type_inv.message i)) c.requires in
    omega (arith, short)
