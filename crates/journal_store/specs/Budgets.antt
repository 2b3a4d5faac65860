-- What applications may add to a journal, and what is left of it.
use Rattle.std.specs.Prelude.{ℕ, ◌-◌, ◌^◌, ◌<◌, ◌≤◌, List, [], ◌∷◌, length, map, sum_by, slice_index_or, slice_set}
use Rattle.fsw_base.specs.declared.config.Budget.{Budget}
use Rattle.journal_store.specs.declared.allowance.Allowance.{Allowance}

-- one to sixteen budgets, whose entries, bytes and buffers each add up to less than 2^32
pub record AreBudgets (budgets : List Budget) : Type 0 where
  pub some : 1 ≤ length budgets
  pub few : length budgets ≤ 16
  pub entries : sum_by (λ budget. budget.entries) budgets < 2 ^ 32
  pub bytes : sum_by (λ budget. budget.bytes) budgets < 2 ^ 32
  pub buffers : sum_by (λ budget. budget.buffers) budgets < 2 ^ 32

-- what applications with these budgets may add
abbrev pub allowances : List Budget → List Allowance
allowances budgets =
    map (λ budget. record { entries = budget.entries; bytes = budget.bytes }) budgets

-- what an application, from 1, may still add; one that is not known may add nothing
abbrev pub allowance_of : List Allowance → ℕ → Allowance
allowance_of left app = slice_index_or left (app - 1) (record { entries = 0; bytes = 0 })

-- an entry of so many bytes may be added for the application
pub record HasRoom (left : List Allowance) (app bytes : ℕ) : Type 0 where
  pub known : app ≤ length left
  pub one_entry : 1 ≤ (allowance_of left app).entries
  pub its_bytes : bytes ≤ (allowance_of left app).bytes

-- one entry of so many bytes less for the application
abbrev pub charged : List Allowance → ℕ → ℕ → List Allowance
charged left app bytes =
    slice_set left (app - 1)
    (record {
      entries = (allowance_of left app).entries - 1;
      bytes = (allowance_of left app).bytes - bytes;
    })

-- What an entry takes: of which application, and its bytes.
pub record Charge : Type 0 where
  pub app : ℕ
  pub bytes : ℕ

-- what is left of these allowances once these charges were made
abbrev pub left_from : List Allowance → List Charge → List Allowance
left_from left [] = left
left_from left (charge ∷ charges) = left_from (charged left charge.app charge.bytes) charges

-- how many entries may still be added in all
abbrev pub entries_left : List Allowance → ℕ
entries_left left = sum_by (λ allowance. allowance.entries) left

-- how many bytes may still be added in all
abbrev pub bytes_left : List Allowance → ℕ
bytes_left left = sum_by (λ allowance. allowance.bytes) left
