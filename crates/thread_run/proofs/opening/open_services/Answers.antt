use Rattle.std.proofs.Common.{◌∙◌, sym, subst, List}
use Rattle.fsw_base.specs.declared.config.Budget.{Budget}
use Rattle.journal_store.specs.Budgets.{AreBudgets}
use Rattle.thread_run.proofs.opening.open_services.Goals as goal

pub new-requires-clause-budgets : goal.new-requires-clause-budgets
new-requires-clause-budgets c =
    subst (λ (bs : List Budget). AreBudgets bs) (sym (c.deref.ensures.value ∙ c.in_ok-budgets.ensures)) c.requires.budgets

pub new-requires-2-clause-budgets : goal.new-requires-2-clause-budgets
new-requires-2-clause-budgets c =
    subst (λ (bs : List Budget). AreBudgets bs) (sym (c.deref-2.ensures.value ∙ c.in_ok-budgets.ensures)) c.requires.budgets
