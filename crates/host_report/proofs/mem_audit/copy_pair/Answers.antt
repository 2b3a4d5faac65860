use Rattle.std.proofs.Common.{◌&&◌, ap, sym, ◌∙◌}
use Rattle.journal_store.specs.Budgets.{allowances}
use Rattle.host_report.specs.Copies.{are_within, table_fits}
use Rattle.host_report.proofs.mem_audit.copy_pair.Goals as goal

pub returns-then-copy_entries-clause-fits : goal.returns-then-copy_entries-clause-fits
unfolding are_within
returns-then-copy_entries-clause-fits c =
    let tables = c.args.tables.now.entries in
    let budgets = c.args.target.now.bus.budgets in
    c.copy_table_entries.ensures.fits
    ∙ ap (λ given. table_fits (allowances given) tables) c.requires.same
    ∙ ap (λ b. b && table_fits (allowances budgets) tables) (sym c.if-copy_entries.true ∙ c.copy_entries.ensures.fits)

pub returns-else-copy_entries-clause-fits : goal.returns-else-copy_entries-clause-fits
unfolding are_within
returns-else-copy_entries-clause-fits c =
    let tables = c.args.tables.now.entries in
    let budgets = c.args.target.now.bus.budgets in
    c.if-copy_entries.false
    ∙ ap (λ b. b && table_fits (allowances budgets) tables) (sym c.if-copy_entries.false ∙ c.copy_entries.ensures.fits)
