-- What a refused call answers and leaves, and what an accepted one does.
use Rattle.std.proofs.Common.{◌≡◌, ℕ, Some, None, sym, ap}
use Rattle.tbl_words.specs.declared.statuses.TblStatus.{TblStatus}
use Rattle.tbl_words.specs.declared.calls.TblAnswer.TheVariants as answers
use Rattle.tbl_words.specs.declared.history.Call.{Call}
use Rattle.tbl_words.specs.Machine.{cause, accept, outcome, step}
use Rattle.list_tables.specs.Kept.{Kept, leaves}

module _ (k : Kept) (app : ℕ) (call : Call) where
  pub refused_answer : (why : TblStatus) → cause k.limits k.state app call ≡ Some why → answers.Refused why ≡ (step k.limits k.state app call).0
  refused_answer why e = sym (ap (λ x. (outcome k.limits k.state app call x).0) e)

  pub refused_leaves : (why : TblStatus) → cause k.limits k.state app call ≡ Some why → k ≡ leaves k (step k.limits k.state app call)
  refused_leaves why e = sym (ap (λ x. leaves k (outcome k.limits k.state app call x)) e)

  pub accepted_answer : cause k.limits k.state app call ≡ None → (accept k.limits k.state app call).0 ≡ (step k.limits k.state app call).0
  accepted_answer e = sym (ap (λ x. (outcome k.limits k.state app call x).0) e)

  pub accepted_leaves : cause k.limits k.state app call ≡ None → leaves k (accept k.limits k.state app call) ≡ leaves k (step k.limits k.state app call)
  accepted_leaves e = sym (ap (λ x. leaves k (outcome k.limits k.state app call x)) e)
