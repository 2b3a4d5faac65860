-- What one more entry leaves of what applications may still add.
use Rattle.std.proofs.Common.{◌≡◌, List, [], ◌∷◌, ◌++◌, length, map, ap, ◌∙◌}
use Rattle.std.proofs.lemmas.List.{map_push}
use Rattle.journal_store.specs.declared.allowance.Allowance.{Allowance}
use Rattle.journal_store.specs.Budgets.{charged, left_from}
use Rattle.journal_store.proofs.Charges as charges
use Rattle.tbl_words.specs.declared.history.Entry.{Entry}
use Rattle.tbl_words.specs.Entries.{call_bytes}
use Rattle.tbl_words.specs.Log.{Log, charge_of, left_of}

-- one more entry is one more charge
pub left_from-push : (left : List Allowance) (es : List Entry) (e : Entry) →
    left_from left (map charge_of (es ++ e ∷ [])) ≡ charged (left_from left (map charge_of es)) e.app (call_bytes e.call)
left_from-push left es e =
    ap (left_from left) (map_push charge_of es e) ∙ charges.left_from-push left (map charge_of es) (charge_of e)

-- there is something left for as many applications as have a budget
pub length-left_of : (log : Log) → length (left_of log) ≡ length log.budgets
length-left_of log = charges.length-left_of log.budgets (map charge_of log.entries)
