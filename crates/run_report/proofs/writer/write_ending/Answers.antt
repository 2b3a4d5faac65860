use Rattle.std.proofs.Common.{append-nil}
use Rattle.std.proofs.lemmas.Result.{on_err_weaker}
use Rattle.run_report.specs.Report.{ending_text, figures_read, table_figures_read}
use Rattle.text_page.proofs.PieceTexts.{◌▸◌, on_ok_both, puts_as, puts_never_falls, puts_part, puts_rose, puts_whole}
use Rattle.run_report.proofs.writer.write_ending.Goals as goal

pub returns : goal.returns
returns g c =
    let text = ending_text (figures_read c.args.bus.now) (table_figures_read c.args.tables.now) in
    let all = puts_as text (append-nil text) (c.put_ending.ensures ▸ c.finish.ensures.puts) in
    let blank = c.new-page.ensures in
    record {
      ok = on_ok_both c.finish.result (puts_whole c.requires blank all) c.finish.ensures.none_failed c.finish.ensures.ok;
      none_failed = c.finish.ensures.none_failed;
      err = on_err_weaker c.finish.result (λ set. puts_part c.requires blank all) c.finish.ensures.failed;
      failed = c.finish.ensures.failed;
      cause = on_err_weaker c.finish.result (puts_rose c.requires all) c.finish.ensures.failed;
      never_falls = puts_never_falls c.requires all;
      same_sink = all.same_sink;
    }
