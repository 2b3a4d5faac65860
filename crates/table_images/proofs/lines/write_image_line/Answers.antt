use Rattle.std.proofs.Common.{append-nil, ap, decimal, ◌∙◌}
use Rattle.std.proofs.lemmas.Result.{on_err_weaker}
use Rattle.table_images.specs.Images.{image_text}
use Rattle.text_page.proofs.PieceTexts.{◌▸◌, on_ok_both, puts_as, puts_never_falls, puts_part, puts_rose, puts_whole}
use Rattle.table_images.proofs.lines.write_image_line.Goals as goal

pub returns : goal.returns
returns g c =
    let image = c.args.image.now in
    let text = image_text image.name.now image.offset image.bytes.now image.sub in
    let all = puts_as text (append-nil text)
    (c.put.ensures ▸ c.put-2.ensures ▸ c.put-3.ensures ▸ c.put_number.ensures ▸ c.put-4.ensures ▸ c.put_number-2.ensures ▸ c.put-5.ensures
    ▸ puts_as _ (ap decimal c.sum_of.ensures.sum) c.put_number-3.ensures ▸ c.put-6.ensures ▸ c.put_number-4.ensures ▸ c.put-7.ensures ▸ c.finish.ensures.puts) in
    let blank = c.new-page.ensures in
    record {
      ok = on_ok_both c.finish.result (puts_whole c.requires.none_failed blank all) c.finish.ensures.none_failed c.finish.ensures.ok;
      none_failed = c.finish.ensures.none_failed;
      err = on_err_weaker c.finish.result (λ set. puts_part c.requires.none_failed blank all) c.finish.ensures.failed;
      failed = c.finish.ensures.failed;
      cause = on_err_weaker c.finish.result (puts_rose c.requires.none_failed all) c.finish.ensures.failed;
      never_falls = puts_never_falls c.requires.none_failed all;
      same_sink = all.same_sink;
    }
