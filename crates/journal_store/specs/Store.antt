-- A journal's rows with their bytes, and the budgets of its applications. What each may still add
-- follows.
use Rattle.std.specs.Prelude.{ℕ, List, [], ◌∷◌, ◌++◌, length, map}
use Rattle.fsw_base.specs.declared.config.Budget.{Budget}
use Rattle.journal_store.specs.declared.allowance.Allowance.{Allowance}
use Rattle.journal_store.specs.Budgets.{Charge, allowances, left_from}

-- A row: the application that it is of, what it says, and its bytes.
pub record Stored (R : Type 0) : Type 0 where
  pub app : ℕ
  pub row : R
  pub text : List ℕ

-- The budgets of the applications 1, 2, 3 and so on, which never change, and the rows in order.
pub record Store (R : Type 0) : Type 0 where
  pub budgets : List Budget
  pub rows : List (Stored R)

-- what a row takes: one entry of its application, and as many bytes as it has
abbrev pub charge_of : {R : Type 0} → Stored R → Charge
charge_of stored = record { app = stored.app; bytes = length stored.text }

-- what each application may still add: its budget's entries and bytes, less those of its rows
abbrev pub left_of : {R : Type 0} → Store R → List Allowance
left_of store = left_from (allowances store.budgets) (map charge_of store.rows)

-- the store with one more row
abbrev pub with_row : {R : Type 0} → Store R → Stored R → Store R
with_row store stored = record store { rows = store.rows ++ stored ∷ [] }
