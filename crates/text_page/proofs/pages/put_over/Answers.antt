use Rattle.std.proofs.Common.{length, length-drop, ap, arith}
use Rattle.text_page.proofs.PieceTexts.{puts_more, rest_of}
use Rattle.text_page.proofs.pages.put_over.Goals as goal

pub loop-taken-preserved : goal.loop-taken-preserved
loop-taken-preserved g c = record {
  within = omega (arith, c.put_front-taken.ensures.count.within, ap length (rest_of c.loop-taken.taken c.args.text.now), length-drop c.loop-taken.taken c.args.text.now);
  puts = puts_more c.loop-taken.taken c.put_front-taken.result c.args.text.now c.loop-taken.invariant.puts c.put_front-taken.ensures.puts;
}
