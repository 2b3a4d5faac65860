use Rattle.std.proofs.Common.{length, length-drop, arith, ap, ◌∙◌}
use Rattle.text_page.proofs.PieceTexts.{cut_at, grew_more, rest_of}
use Rattle.text_page.proofs.writes.write_text.Goals as goal

pub loop-taken-preserved : goal.loop-taken-preserved
loop-taken-preserved g c =
    let took = c.in-Took.ensures.bytes in
    record {
      within = omega (arith, took.0.within, ap length (rest_of c.loop-taken.taken c.args.bytes.now), length-drop c.loop-taken.taken c.args.bytes.now);
      none_failed = c.in-Took.ensures.failed;
      grew = grew_more c.args.sink.now.written c.loop-taken.taken c.in-Took.count c.args.bytes.now c.loop-taken.invariant.grew took.1;
      faults = omega (arith, c.loop-taken.invariant.faults, c.write.ensures.never_falls);
      same_sink = c.write.ensures.same_sink ∙ c.loop-taken.invariant.same_sink;
    }

pub returns-in-Failed-clause-err : goal.returns-in-Failed-clause-err
returns-in-Failed-clause-err g c =
    cut_at c.args.sink.now.written c.write.new.self.written c.loop-taken.taken c.args.bytes.now (c.in-Failed.ensures.bytes ∙ c.loop-taken.invariant.grew)
