use Rattle.std.proofs.Common.{◌≡◌, ap, sym, ◌∙◌, subst, set, Some, None, is_some}
use Rattle.std.specs.Option.{option_map_or}
use Rattle.table_blocks.specs.Contents.{Content, content_at, is_open, no_content, ShareNoLoan}
use Rattle.table_blocks.proofs.Sets.{two_back, still_kept}
use Rattle.table_blocks.proofs.rows.tell_tables_apart.Goals as goal

pub take_table-other_table-requires-clause-open : goal.take_table-other_table-requires-clause-open
take_table-other_table-requires-clause-open c =
    let old = c.args.tables.now.items in
    ap (λ l. is_open l c.args.other) c.take_table-table.ensures.after
    ∙ ap is_some (still_kept old c.args.key c.args.other c.requires.two)
    ∙ c.requires.other_open

pub returns-clause-apart : goal.returns-clause-apart
returns-clause-apart c =
    let old = c.args.tables.now.items in
    let other = c.args.other in
    let its =
    c.take_table-other_table.ensures.table
    ∙ ap (λ l. content_at l other) c.take_table-table.ensures.after
    ∙ ap (λ o. option_map_or (λ t. t) o no_content) (still_kept old c.args.key other c.requires.two) in
    subst (λ t. ShareNoLoan t (content_at old other)) c.take_table-table.ensures.table
    (subst (λ t. ShareNoLoan c.take_table-table.result t) its c.tell_apart.ensures.apart)

pub returns-clause-same : goal.returns-clause-same
returns-clause-same c =
    let old = c.args.tables.now.items in
    let key = c.args.key in
    let other = c.args.other in
    let out = set (set old key None) other None in
    let its =
    c.take_table-other_table.ensures.table
    ∙ ap (λ l. content_at l other) c.take_table-table.ensures.after
    ∙ ap (λ o. option_map_or (λ t. t) o no_content) (still_kept old key other c.requires.two) in
    c.put_table-2.ensures.after
    ∙ ap (λ l. set l key (Some c.tell_apart.new.self))
    (c.put_table.ensures.after
    ∙ ap (λ l. set l other (Some c.tell_apart.new.other))
    (c.take_table-other_table.ensures.after ∙ ap (λ l. set l other None) c.take_table-table.ensures.after))
    ∙ ap (λ t. set (set out other (Some c.tell_apart.new.other)) key (Some t)) (c.tell_apart.ensures.same ∙ c.take_table-table.ensures.table)
    ∙ ap (λ t. set (set out other (Some t)) key (Some (content_at old key))) (c.tell_apart.ensures.same_other ∙ its)
    ∙ two_back old key other c.requires.two c.requires.open c.requires.other_open
