use Rattle.std.proofs.Common.{ap, ◌∙◌, ℕ, set, Some}
use Rattle.table_blocks.specs.Contents.{Content, content_at, older_in, without_staged}
use Rattle.table_blocks.proofs.Sets.{put_back}
use Rattle.table_blocks.proofs.rows.abort_inactive.Goals as goal

pub returns : goal.returns
returns c =
    let old = c.args.tables.now.items in
    let t = c.abort_inactive.result in
    let told : Content → ℕ → Content = λ T loan. without_staged T loan in
    record {
      after = put_back old c.put_table.new.tables.items c.args.key t (λ t. (older_in t.next).loan) (told (content_at old c.args.key)) c.requires.within
          (c.put_table.ensures.after ∙ ap (λ l. set l c.args.key (Some t)) c.take_table-table.ensures.after)
          (c.abort_inactive.ensures ∙ ap (λ T. told T (((older_in t.next).loan))) c.take_table-table.ensures.table);
    }
