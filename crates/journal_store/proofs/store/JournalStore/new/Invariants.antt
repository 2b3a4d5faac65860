use Rattle.std.proofs.Common.{◌≡◌, length, take, sum_by, vec_capacity}
use Rattle.journal_store.specs.Budgets.{allowances}
use Rattle.journal_store.proofs.store.JournalStore.new.Given as goal

abbrev pub invariant-loop-budget : goal.invariant-loop-budget
invariant-loop-budget g l = record {
  given_so_far : l.given.items ≡ take l.budget-index l.budgets;
  given_room : vec_capacity l.given ≡ length l.budgets;
  so_far : l.left.items ≡ allowances (take l.budget-index l.budgets);
  room : vec_capacity l.left ≡ length l.budgets;
  entries : l.entries ≡ sum_by (λ budget. budget.entries) (take l.budget-index l.budgets);
  bytes : l.bytes ≡ sum_by (λ budget. budget.bytes) (take l.budget-index l.budgets);
}
