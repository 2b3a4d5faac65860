use Rattle.std.proofs.Common.{◌∙◌, arith}
use Rattle.sb_bridge.proofs.threads.end_side.Goals as goal

pub returns : goal.returns
returns g c = record {
  each = c.end_all.ensures.dones;
  all = c.end_all.ensures.all ∙ c.requires.all;
  no_receipts = c.requires.no_receipts;
  receipts_room = omega (arith, c.end_all.ensures.all, c.requires.receipts_room);
}
