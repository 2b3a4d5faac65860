use Rattle.std.proofs.Common.{ap, ◌∙◌, subst, set, Some, None}
use Rattle.table_blocks.specs.Contents.{content_at, HasTwoLoans}
use Rattle.table_blocks.proofs.Sets.{one_back}
use Rattle.table_blocks.proofs.rows.tell_versions.Goals as goal

pub returns-clause-apart : goal.returns-clause-apart
returns-clause-apart c = subst HasTwoLoans c.take_table-table.ensures.table c.tell_versions.ensures.apart

pub returns-clause-same : goal.returns-clause-same
returns-clause-same c =
    let old = c.args.tables.now.items in
    let key = c.args.key in
    c.put_table.ensures.after
    ∙ ap (λ l. set l key (Some c.tell_versions.new.self)) c.take_table-table.ensures.after
    ∙ ap (λ t. set (set old key None) key (Some t)) (c.tell_versions.ensures.same ∙ c.take_table-table.ensures.table)
    ∙ one_back old key c.requires.open
