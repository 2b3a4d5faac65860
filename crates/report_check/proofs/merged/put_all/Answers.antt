use Rattle.std.proofs.Common.{rules}
use Rattle.text_page.proofs.PieceTexts.{◌▸◌, puts_as}
use Rattle.report_check.proofs.MergedTexts.{texts_more}
use Rattle.report_check.proofs.merged.put_all.Goals as goal

pub loop-i-preserved : goal.loop-i-preserved
loop-i-preserved g c =
    puts_as _ (texts_more c.args.app c.args.made.now c.loop-i.i c.index-made-i.result c.loop-i-test.true (search rules)) (c.loop-i.invariant ▸ c.put_made.ensures)
