use Rattle.std.proofs.Common.{[], sym, append-nil}
use Rattle.run_report.specs.CounterText.{class_text}
use Rattle.text_page.proofs.PieceTexts.{◌▸◌, puts_as, waits_behind}
use Rattle.run_report.proofs.Accounts.{flat_map-range}
use Rattle.run_report.proofs.pools.put_classes.Goals as goal

pub loop-class-init : goal.loop-class-init
loop-class-init g c = waits_behind c.args.sink.now c.args.page.now c.args.page.now [] (sym (append-nil c.args.page.now))

pub loop-class-preserved : goal.loop-class-preserved
loop-class-preserved g c =
    puts_as _ (flat_map-range (class_text c.args.name (g.P.HasAccount.account c.args.pool.now)) c.loop-class.class) (c.loop-class.invariant ▸ c.put_class.ensures)
