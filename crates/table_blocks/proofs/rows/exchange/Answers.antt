use Rattle.std.proofs.Common.{ap, ◌∙◌, ℕ, set, Some}
use Rattle.table_blocks.specs.Contents.{Content, content_at, staged_in, with_value}
use Rattle.table_blocks.proofs.Sets.{put_back}
use Rattle.table_blocks.proofs.rows.exchange.Goals as goal

pub returns : goal.returns
returns c =
    let old = c.args.tables.now.items in
    let t = c.exchange.result in
    let told : Content → ℕ → Content = λ T loan. with_value T loan (staged_in T.next).bytes in
    record {
      after = put_back old c.put_table.new.tables.items c.args.key t (λ t. t.present.loan) (told (content_at old c.args.key)) c.requires.within
          (c.put_table.ensures.after ∙ ap (λ l. set l c.args.key (Some t)) c.take_table-table.ensures.after)
          (c.exchange.ensures ∙ ap (λ T. told T ((t.present.loan))) c.take_table-table.ensures.table);
    }
