use Rattle.std.proofs.Common.{[], ap, codes, sym, ◌∙◌, append-nil}
use Rattle.text_page.proofs.PieceTexts.{puts_as, waits_behind}
use Rattle.run_report.specs.CounterText.{field_text}
use Rattle.run_report.proofs.Versions.{oldest_told, oldest_untold}
use Rattle.run_report.proofs.counters.put_oldest.Goals as goal

pub returns-then-version-eq2 : goal.returns-then-version-eq2
returns-then-version-eq2 g c =
    puts_as _ (ap (field_text (codes "oldest")) c.at.ensures ∙ sym (oldest_told c.args.version c.args.counters.now.counts c.if-version-eq2.true)) c.put_field.ensures

pub returns-else-version-eq2 : goal.returns-else-version-eq2
returns-else-version-eq2 g c =
    puts_as _ (sym (oldest_untold c.args.version c.args.counters.now.counts c.if-version-eq2.false)) (waits_behind c.args.sink.now c.args.page.now c.args.page.now [] (sym (append-nil c.args.page.now)))
