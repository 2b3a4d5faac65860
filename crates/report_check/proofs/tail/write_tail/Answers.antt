use Rattle.std.proofs.Common.{◌≡◌, append-nil, ap, ◌∙◌}
use Rattle.fsw_base.specs.EventDesk.{Desk}
use Rattle.list_bus.specs.Played.{Played}
use Rattle.run_report.specs.EventText.{log_text}
use Rattle.run_report.specs.Report.{ending_text, figures_shown}
use Rattle.text_page.proofs.PieceTexts.{◌▸◌, on_ok_both, puts_as, puts_whole}
use Rattle.report_check.specs.Tails.{figures_of, table_figures_kept, tail_kept}
use Rattle.report_check.proofs.tail.write_tail.Goals as goal

pub returns : goal.returns
returns g c =
    let bus = c.args.bus.now in
    let text = tail_kept c.args.apps bus c.args.tables.now in
    let desk : c.desk.result.now ≡ bus.played.whole.bus.events = c.desk.ensures ∙ ap (λ (p : Played). p.whole.bus.events) c.bus.ensures in
    let log = puts_as _ (ap (λ (d : Desk). log_text d.log) desk) c.put_log.ensures in
    let ending = puts_as (ending_text (figures_shown bus.played.limits bus.played.whole.bus) (table_figures_kept c.args.tables.now))
    (ap (λ (p : Played). ending_text (figures_shown p.limits p.whole.bus) (figures_of c.args.shown.now)) c.bus-2.ensures
    ∙ ap (ending_text (figures_shown bus.played.limits bus.played.whole.bus)) c.requires.shown) c.put_ending.ensures in
    let all = puts_as text (append-nil text) (c.put.ensures ▸ c.put_receipts.ensures ▸ c.put-2.ensures ▸ log ▸ ending ▸ c.finish.ensures.puts) in
    let blank = c.new-page.ensures in
    record {
      ok = on_ok_both c.finish.result (puts_whole c.requires.none_failed blank all) c.finish.ensures.none_failed c.finish.ensures.ok;
      none_failed = c.finish.ensures.none_failed;
      failed = c.finish.ensures.failed;
      same_sink = all.same_sink;
    }
