use Rattle.std.proofs.Common.{◌≡◌, ℕ, ◌-◌, ◌≤◌, length, get_or, ap, sym, ◌∙◌, subst}
use Rattle.core_port.specs.Ports.{MainView}
use Rattle.core_port.specs.Words.{budget_of}
use Rattle.core_port.proofs.Mains.{main_budget}
use Rattle.core_port.proofs.service.Main.budget.Goals as goal

pub returns-clause-first : goal.returns-clause-first
returns-clause-first g c = subst (λ (n : ℕ). 1 ≤ n) c.get.ensures.value c.get.ensures.first

pub returns-clause-budget : goal.returns-clause-budget
returns-clause-budget g c =
    let w = g.K.Kind.words in
    let budget = c.index.result.now in
    let given = c.self.inside.budgets.items in
    let first = subst (λ (n : ℕ). 1 ≤ n) c.get.ensures.value c.get.ensures.first in
    subst (λ (m : MainView _ _). budget ≡ budget_of (w.fixed m.seen).budgets c.args.app) c.self.view_is
    (main_budget w c.laws.ensures c.self.inside.seat given c.self.inside.view_room c.self.invariant c.args.app budget first
    (subst (λ (m : MainView _ _). c.args.app ≤ length (w.fixed m.seen).budgets) (sym c.self.view_is) c.requires)
    (c.index.ensures ∙ ap (λ (n : ℕ). get_or given (n - 1) budget) c.get.ensures.value))
