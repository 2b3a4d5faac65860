use Rattle.std.proofs.Common.{◌∙◌}
use Rattle.std.proofs.lemmas.Result.{on_err_weaker, on_ok_weaker}
use Rattle.fsw_base.specs.Limits.{limits_of}
use Rattle.text_page.proofs.PieceTexts.{◌▸◌, on_ok_both, puts_as, puts_never_falls, puts_part, puts_rose, puts_whole}
use Rattle.script_text.specs.ScriptSpelling.{spelled_script}
use Rattle.script_text.proofs.AppsBack.{scripts_back}
use Rattle.script_text.proofs.PrintLemmas.{spelled}
use Rattle.script_text.proofs.script_printing.print_script.Goals as goal

pub returns : goal.returns
returns g c =
    let text = spelled_script c.args.script.now in
    let limits = limits_of c.config-config.result.now in
    let all = puts_as text (spelled limits c.applications.result.now ∙ (λ i. spelled_script (record { limits = c.config-config.ensures i; apps = c.applications.ensures i })))
    (c.put_version.ensures ▸ c.put_limits.ensures ▸ c.put_sizes.ensures ▸ c.put_starts.ensures ▸ c.put_applications.ensures ▸ c.finish.ensures.puts) in
    let blank = c.new-page.ensures in
    record {
      ok = on_ok_both c.finish.result (puts_whole c.requires blank all) c.finish.ensures.none_failed c.finish.ensures.ok;
      none_failed = c.finish.ensures.none_failed;
      err = on_err_weaker c.finish.result (λ set. puts_part c.requires blank all) c.finish.ensures.failed;
      failed = c.finish.ensures.failed;
      cause = on_err_weaker c.finish.result (puts_rose c.requires all) c.finish.ensures.failed;
      never_falls = puts_never_falls c.requires all;
      same_sink = all.same_sink;
      reads_back = on_ok_weaker c.finish.result (λ none short. scripts_back c.args.script.now c.recall_ranges.ensures.text short) c.finish.ensures.none_failed;
    }
