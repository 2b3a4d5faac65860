-- What a call of the tables' box does, as an export says it.
use Rattle.std.proofs.Common.{◌≡◌, ℕ, ◌⊎◌, inl, inr, Option, Some, Result, Ok, Err, refl, ap, sym, ◌∙◌}
use Rattle.std.specs.Prelude.{IfOk, OnErr}
use Rattle.std.specs.Result.{result_err}
use Rattle.tbl_words.specs.declared.statuses.TblStatus.{TblStatus}
use Rattle.tbl_words.specs.declared.calls.TblAnswer.{TblAnswer}
use Rattle.tbl_words.specs.declared.history.Call.{Call}
use Rattle.table_core.specs.Core.{Acts, HasNextVersion, answer_behind_last}
use Rattle.table_core.specs.Answers.{done, shared, plain_figures_told}
use Rattle.checked_tables.specs.declared.refusal.Refusal.{Refusal}
use Rattle.checked_tables.specs.Asked.{unasked}
use Rattle.checked_tables.proofs.Apps.{next-or-none}
use Rattle.fsw_core.specs.declared.Core.{Core}
use Rattle.fsw_c.specs.TableCodes.{tbl_code, table_code, unasked_table_code, table_call_code}
use Rattle.fsw_c.specs.TableAnswers.{IsSpent, KeepsBags, TableCall, Unasked, Asked, Spent}

-- a form of answers: an accepted call has the status 0, a refused one its refusal's
pub record IsForm {T : Type 0} (form : Result T TblStatus → TblAnswer) : Type 0 where
  pub accepted : (x : T) → table_code (form (Ok x)) ≡ 0
  pub refused : (s : TblStatus) → table_code (form (Err s)) ≡ tbl_code s

-- the core with these tables
pub same-core : (o n : Core) → n.bus ≡ o.bus → n.tables ≡ o.tables → n ≡ o
same-core o n bus tables = λ i. record { bus = bus i; tables = tables i }

module _ {T : Type 0} (form : Result T TblStatus → TblAnswer) (old new : Option Core) (o n : Core) (app : ℕ) (call : Call) (was : old ≡ Some o) (now : new ≡ Some n) (bus : n.bus ≡ o.bus) where
  code-of : IsForm form → (r : Result T TblStatus) → table_call_code {T = T} (Ok r) ≡ table_code (form r)
  code-of its (Ok x) = sym (its.accepted x)
  code-of its (Err s) = sym (its.refused s)

  -- a call with its own numbers of statuses
  pub called-as : (code : Result (Result T TblStatus) Refusal → ℕ) → ((answer : Result T TblStatus) → code (Ok answer) ≡ table_code (form answer)) → ((why : Refusal) → code (Err why) ≡ unasked_table_code why) →
      (r : Result (Result T TblStatus) Refusal) (status : ℕ) → status ≡ code r → result_err r ≡ unasked o.tables.core app call → OnErr r (n.tables ≡ o.tables) →
      IfOk r (λ (answer : Result T TblStatus). Acts o.tables.core n.tables.core app call (form answer)) → IfOk r (λ (answer : Result T TblStatus). KeepsBags o.tables n.tables app call) → TableCall old new app call status
  called-as code of-ok of-err (Ok answer) status is asked nothing does bags = Asked o n (form answer) was now bus (sym asked) does bags (is ∙ of-ok answer)
  called-as code of-ok of-err (Err why) status is unasked nothing does bags = Unasked o why was (now ∙ ap Some (same-core o n bus nothing)) (sym unasked) (is ∙ of-err why)

  -- a call that always takes its step, if it is asked
  pub called : IsForm form → (r : Result (Result T TblStatus) Refusal) (status : ℕ) → status ≡ table_call_code r → result_err r ≡ unasked o.tables.core app call → OnErr r (n.tables ≡ o.tables) →
      IfOk r (λ (answer : Result T TblStatus). Acts o.tables.core n.tables.core app call (form answer)) → IfOk r (λ (answer : Result T TblStatus). KeepsBags o.tables n.tables app call) → TableCall old new app call status
  called its = called-as table_call_code (code-of its) (λ why. refl)

  -- one that makes a version, or says that no number is left for it
  pub called-version : IsForm form → (handle : ℕ) → ((HasNextVersion o.tables.core.state handle → ⊥) → IsSpent o.tables.core.state call) → (n.tables.bags ≡ o.tables.bags → KeepsBags o.tables n.tables app call) →
      (r : Result (Result T TblStatus) Refusal) (status : ℕ) → status ≡ table_call_code r → result_err r ≡ unasked o.tables.core app call → OnErr r (n.tables ≡ o.tables) →
      IfOk r (λ (answer : Result T TblStatus). HasNextVersion o.tables.core.state handle → Acts o.tables.core n.tables.core app call (form answer)) →
      IfOk r (λ (answer : Result T TblStatus). (HasNextVersion o.tables.core.state handle → ⊥) → n.tables.core ≡ o.tables.core) →
      IfOk r (λ (answer : Result T TblStatus). (HasNextVersion o.tables.core.state handle → ⊥) → form answer ≡ answer_behind_last o.tables.core app call) →
      n.tables.bags ≡ o.tables.bags → TableCall old new app call status
  called-version its handle makes stay (Err why) status is unasked nothing does spent behind bags = Unasked o why was (now ∙ ap Some (same-core o n bus nothing)) (sym unasked) is
  called-version its handle makes stay (Ok answer) status is asked nothing does spent behind bags = by_version (next-or-none o.tables.core.state handle)
    where
      same : n.tables.core ≡ o.tables.core → n.tables ≡ o.tables
      same core = λ i. record { core = core i; bags = bags i }

      by_version : HasNextVersion o.tables.core.state handle ⊎ (HasNextVersion o.tables.core.state handle → ⊥) → TableCall old new app call status
      by_version (inl left) = Asked o n (form answer) was now bus (sym asked) (does left) (stay bags) (is ∙ code-of its answer)
      by_version (inr none) = Spent o was (now ∙ ap Some (same-core o n bus (same (spent none)))) (sym asked) (makes none) (is ∙ code-of its answer ∙ ap table_code (behind none))

-- what holds whatever was answered
pub if_ok : {T E : Type 0} {P : Type 0} (r : Result T E) → P → IfOk r (λ (x : T). P)
if_ok {P = P} (Ok x) holds = holds
if_ok {P = P} (Err e) holds = tt

pub on_err : {T E : Type 0} {P : Type 0} (r : Result T E) → P → OnErr r P
on_err {P = P} (Ok x) holds = tt
on_err {P = P} (Err e) holds = holds

-- both of two facts
pub both : {T E : Type 0} (P Q : T → Type 0) (r : Result T E) → IfOk r P → IfOk r Q → IfOk r (λ (x : T). P x × Q x)
both P Q (Ok x) p q = (p, q)
both P Q (Err e) p q = p

pub done-form : IsForm done
done-form = record { accepted = λ x. refl; refused = λ s. refl }

pub shared-form : IsForm shared
shared-form = record { accepted = λ x. refl; refused = λ s. refl }

pub figures-form : IsForm plain_figures_told
figures-form = record { accepted = λ x. refl; refused = λ s. refl }
