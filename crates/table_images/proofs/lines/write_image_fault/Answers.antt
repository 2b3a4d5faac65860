use Rattle.std.proofs.Common.{append-nil, ◌∙◌}
use Rattle.std.proofs.lemmas.Result.{on_err_weaker}
use Rattle.tbl_file.specs.FaultNames.{image_fault_name}
use Rattle.table_images.specs.Images.{image_fault_text}
use Rattle.text_page.proofs.PieceTexts.{◌▸◌, on_ok_both, puts_as, puts_never_falls, puts_part, puts_rose, puts_whole}
use Rattle.table_images.proofs.lines.write_image_fault.Goals as goal

pub returns : goal.returns
returns g c =
    let text = image_fault_text c.args.fault in
    let named = puts_as (image_fault_name c.args.fault) (c.as_bytes.ensures.value ∙ c.name.ensures) c.put-2.ensures in
    let all = puts_as text (append-nil text) (c.put.ensures ▸ named ▸ c.put-3.ensures ▸ c.finish.ensures.puts) in
    let blank = c.new-page.ensures in
    record {
      ok = on_ok_both c.finish.result (puts_whole c.requires blank all) c.finish.ensures.none_failed c.finish.ensures.ok;
      none_failed = c.finish.ensures.none_failed;
      err = on_err_weaker c.finish.result (λ set. puts_part c.requires blank all) c.finish.ensures.failed;
      failed = c.finish.ensures.failed;
      cause = on_err_weaker c.finish.result (puts_rose c.requires all) c.finish.ensures.failed;
      never_falls = puts_never_falls c.requires all;
      same_sink = all.same_sink;
    }
