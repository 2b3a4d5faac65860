-- What budgets allow in all.
use Rattle.std.proofs.Common.{◌≡◌, ◌+◌, List, [], ◌∷◌, sum_by, refl, ap, sym, ◌∙◌}
use Rattle.std.proofs.lemmas.List.Sums.{sum_by-cons}
use Rattle.fsw_base.specs.declared.config.Budget.{Budget}
use Rattle.journal_store.specs.declared.allowance.Allowance.{Allowance}
use Rattle.journal_store.specs.Budgets.{allowances, entries_left}

-- the allowances' entries are the budgets'
pub entries_left-allowances : (budgets : List Budget) → entries_left (allowances budgets) ≡ sum_by (λ budget. budget.entries) budgets
entries_left-allowances [] = refl
entries_left-allowances (budget ∷ budgets) =
    sum_by-cons (λ (allowance : Allowance). allowance.entries) (record { entries = budget.entries; bytes = budget.bytes }) (allowances budgets)
    ∙ ap (λ n. budget.entries + n) (entries_left-allowances budgets)
    ∙ sym (sum_by-cons (λ (b : Budget). b.entries) budget budgets)
