use Rattle.std.proofs.Common.{◌∙◌, ap, sym, subst, arith, List}
use Rattle.fsw_base.specs.declared.config.Budget.{Budget}
use Rattle.fsw_base.specs.Limits.{Limits, limits_of}
use Rattle.journal_store.specs.Budgets.{AreBudgets}
use Rattle.app_run.proofs.OpenLaws.{are-budgets, opened-is, tables_opened-is}
use Rattle.app_run.proofs.rotating.open_services.Goals as goal

pub new-requires : goal.new-requires
new-requires c = record {
  budgets = subst (λ (bs : List Budget). AreBudgets bs) (sym (c.deref.ensures.value ∙ c.in_ok-budgets.ensures))
      (are-budgets c.args.script.now c.recall_ranges.ensures.run c.recall_ranges.ensures.text.some c.recall_ranges.ensures.text.few);
  region = omega (arith, ap (λ (limits : Limits). limits.tablepool) c.config.ensures, c.blocks_mut-pool.ensures.tables, c.requires.tables);
  work = omega (arith, ap (λ (limits : Limits). limits.tablemax) c.config.ensures, c.blocks_mut-pool.ensures.work, c.requires.work);
}

pub new-requires-2 : goal.new-requires-2
new-requires-2 c = record {
  budgets = subst (λ (bs : List Budget). AreBudgets bs) (sym (c.deref-2.ensures.value ∙ c.in_ok-budgets.ensures))
      (are-budgets c.args.script.now c.recall_ranges.ensures.run c.recall_ranges.ensures.text.some c.recall_ranges.ensures.text.few);
  region = omega (arith, ap (λ (limits : Limits). limits.pool) c.config-2.ensures, c.blocks_mut-pool.ensures.pool, c.requires.pool);
}

pub returns-clause-bus : goal.returns-clause-bus
returns-clause-bus c =
    opened-is c.args.script.now c.in_ok-bus.bus (limits_of c.config-2.result.now) c.in_ok-budgets.budgets.items c.deref-2.result.now c.in_ok-bus.ensures
    c.config-2.ensures c.deref-2.ensures.value c.in_ok-budgets.ensures

pub returns-clause-tables : goal.returns-clause-tables
returns-clause-tables c =
    tables_opened-is c.args.script.now c.in_ok-tables.tables (limits_of c.config.result.now) c.in_ok-budgets.budgets.items c.deref.result.now c.in_ok-tables.ensures
    c.config.ensures c.deref.ensures.value c.in_ok-budgets.ensures
