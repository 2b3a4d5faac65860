-- What is out was made, and what was made is paid for by the pool's bytes.
use Rattle.std.proofs.Common.{◌<◌, length, ap, arith}
use Rattle.list_messages.proofs.Account.{bytes_le_cost, bytes-drop}
use Rattle.list_messages.proofs.blocks.bytes_in_use.Goals as goal

pub overflow_add-bytes : goal.overflow_add-bytes
overflow_add-bytes c =
    let a = c.args.account.now in
    let within : c.loop-class.class < length a.sizes = omega (arith, ap length c.sizes.ensures) in
    omega (
      arith,
      c.loop-class.invariant,
      c.bytes_at-held.ensures,
      bytes-drop a.out a.sizes c.loop-class.class c.requires.out_all within,
      bytes_le_cost a.out a.made a.sizes c.requires.out_all c.requires.made_all c.requires.most,
      c.requires.paid,
    )

pub loop-class-preserved : goal.loop-class-preserved
loop-class-preserved c =
    let a = c.args.account.now in
    let within : c.loop-class.class < length a.sizes = omega (arith, ap length c.sizes.ensures) in
    omega (arith, c.loop-class.invariant, c.bytes_at-held.ensures, bytes-drop a.out a.sizes c.loop-class.class c.requires.out_all within)

pub overflow_cast-result : goal.overflow_cast-result
overflow_cast-result c =
    let a = c.args.account.now in
    omega (arith, c.loop-class.invariant, bytes_le_cost a.out a.made a.sizes c.requires.out_all c.requires.made_all c.requires.most, c.requires.paid)
