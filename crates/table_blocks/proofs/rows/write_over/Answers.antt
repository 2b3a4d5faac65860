use Rattle.std.proofs.Common.{ap, ◌∙◌, ℕ, set, Some}
use Rattle.tbl_words.specs.Machine.{with_range}
use Rattle.table_blocks.specs.Contents.{Content, content_at, with_value}
use Rattle.table_blocks.proofs.Sets.{put_back}
use Rattle.table_blocks.proofs.rows.write_over.Goals as goal

pub returns : goal.returns
returns c =
    let old = c.args.tables.now.items in
    let t = c.write_over.result in
    let told : Content → ℕ → Content = λ T loan. with_value T loan (with_range T.present.bytes c.args.offset c.args.range.now) in
    record {
      after = put_back old c.put_table.new.tables.items c.args.key t (λ t. t.present.loan) (told (content_at old c.args.key)) c.requires.within
          (c.put_table.ensures.after ∙ ap (λ l. set l c.args.key (Some t)) c.take_table-table.ensures.after)
          (c.write_over.ensures ∙ ap (λ T. told T ((t.present.loan))) c.take_table-table.ensures.table);
    }
