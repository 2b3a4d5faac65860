-- What a journal stands for: the budgets of its applications, and its entries. What each may still
-- add follows.
use Rattle.std.specs.Prelude.{List, [], ◌∷◌, ◌++◌, map}
use Rattle.fsw_base.specs.declared.config.Budget.{Budget}
use Rattle.journal_store.specs.declared.allowance.Allowance.{Allowance}
use Rattle.journal_store.specs.Budgets.{Charge, allowances, left_from}
use Rattle.tbl_words.specs.declared.history.Entry.{Entry}
use Rattle.tbl_words.specs.Entries.{call_bytes}

-- The budgets of the applications 1, 2, 3 and so on, which never change, and the entries in order.
pub record Log : Type 0 where
  pub budgets : List Budget
  pub entries : List Entry

-- what an entry takes of its application's budget
abbrev pub charge_of : Entry → Charge
charge_of e = record { app = e.app; bytes = call_bytes e.call }

-- what each application may still add: its budget's entries and bytes, less those of its entries
abbrev pub left_of : Log → List Allowance
left_of log = left_from (allowances log.budgets) (map charge_of log.entries)

-- the journal with one more entry
abbrev pub with_entry : Log → Entry → Log
with_entry log e = record log { entries = log.entries ++ e ∷ [] }
