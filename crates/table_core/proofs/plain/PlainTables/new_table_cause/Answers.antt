use Rattle.std.proofs.Common.{true, false, length, Some, None, sym, refl, ◌∙◌, arith}
use Rattle.tbl_words.specs.declared.statuses.TblStatus.TheVariants.{ErrRegistryFull, ErrHandlesFull, ErrMemBlockSize}
use Rattle.tbl_words.specs.Machine.{new_table_cause}
use Rattle.table_core.proofs.CallLaws.{at_core}
use Rattle.table_core.proofs.RegisterCalls.{below, at_least, new_table_checked}
use Rattle.table_core.proofs.plain.PlainTables.new_table_cause.Goals as goal

pub returns-then-tables-self : goal.returns-then-tables-self
returns-then-tables-self c =
    let a = c.self.inside in
    at_core a c.args.self.now c.self.view_is (λ limits s. new_table_cause limits s c.args.size c.args.option) (Some ErrRegistryFull)
    (new_table_checked a c.self.invariant c.recall_ties.ensures c.args.size c.args.option true _ _ (at_least a.config.tables (length a.registry.tables) (omega (arith, c.tables.ensures, c.if-tables-self.true))) refl refl)

pub returns-then-handles-self : goal.returns-then-handles-self
returns-then-handles-self c =
    let a = c.self.inside in
    at_core a c.args.self.now c.self.view_is (λ limits s. new_table_cause limits s c.args.size c.args.option) (Some ErrHandlesFull)
    (new_table_checked a c.self.invariant c.recall_ties.ensures c.args.size c.args.option false true _ (below a.config.tables (length a.registry.tables) (omega (arith, c.tables.ensures, c.if-tables-self.false)))
    (at_least a.config.handles (length a.registry.handles) (omega (arith, c.handles.ensures, c.if-handles-self.true))) refl)

pub returns-then-not-fits : goal.returns-then-not-fits
returns-then-not-fits c =
    let a = c.self.inside in
    at_core a c.args.self.now c.self.view_is (λ limits s. new_table_cause limits s c.args.size c.args.option) (Some ErrMemBlockSize)
    (new_table_checked a c.self.invariant c.recall_ties.ensures c.args.size c.args.option false false false (below a.config.tables (length a.registry.tables) (omega (arith, c.tables.ensures, c.if-tables-self.false)))
    (below a.config.handles (length a.registry.handles) (omega (arith, c.handles.ensures, c.if-handles-self.false))) (sym c.fits.ensures ∙ c.if-not-fits.true))

pub returns : goal.returns
returns c =
    let a = c.self.inside in
    at_core a c.args.self.now c.self.view_is (λ limits s. new_table_cause limits s c.args.size c.args.option) None
    (new_table_checked a c.self.invariant c.recall_ties.ensures c.args.size c.args.option false false true (below a.config.tables (length a.registry.tables) (omega (arith, c.tables.ensures, c.if-tables-self.false)))
    (below a.config.handles (length a.registry.handles) (omega (arith, c.handles.ensures, c.if-handles-self.false))) (sym c.fits.ensures ∙ c.if-not-fits.false))
