-- A registration with more than 8 rules is refused as any other with more than 8.
use Rattle.std.proofs.Common.{◌≡◌, ℕ, ◌<◌, ◌≤◌, ◌⊎◌, inl, inr, Bool, true, false, true≢false, IsSome, not, leb, List, length, Option, Some, None, Result, Ok, Err, ap, sym, ◌∙◌, subst, arith}
use Rattle.std.specs.Prelude.{OnErr}
use Rattle.std.specs.Result.{result_err}
use Rattle.std.proofs.lemmas.Bool.{cases_lt}
use Rattle.std.proofs.lemmas.Bool.Decides.{nat_tests}
use Rattle.std.proofs.lemmas.List.{length-map}
use Rattle.tbl_rules.specs.declared.rules.Rule.{Rule}
use Rattle.tbl_words.specs.declared.statuses.TblStatus.{TblStatus}
use Rattle.tbl_words.specs.declared.calls.Registered.{Registered}
use Rattle.tbl_words.specs.declared.history.Call.TheVariants.{Register}
use Rattle.tbl_words.specs.Machine.{may_call}
use Rattle.table_core.specs.Core.{Plain, has_handle_number}
use Rattle.checked_tables.specs.declared.refusal.Refusal.{Refusal}
use Rattle.checked_tables.specs.declared.refusal.Refusal.TheVariants.{NoApplication, TooLong, NotActive, NoNumbers}
use Rattle.checked_tables.specs.Asked.{is_application, reason_if, unasked}
use Rattle.fsw_core.specs.declared.Core.{Core}
use Rattle.fsw_c.specs.declared.registering.FswRule.{FswRule}
use Rattle.fsw_c.specs.Rules.{rule_in, rules_in}
use Rattle.fsw_c.specs.TableCodes.{registration_code}
use Rattle.fsw_c.specs.TableAnswers.{TableCall, Unasked}
use Rattle.fsw_c.proofs.TableSteps.{same-core}

too-many : (rules : List Rule) → 8 < length rules → leb (length rules) 8 ≡ false
too-many rules many = grind (arith, nat_tests)

-- if the rules aren't few enough, there are more than 8
pub too-long : {T : Type 0} (found : Option T) (given : List FswRule) → (length given ≤ 8 → IsSome found) → found ≡ None → 8 < length (rules_in given)
too-long found given few none = subst (λ (n : ℕ). 8 < n) (sym (length-map given rule_in)) (by_length (cases_lt 8 (length given)))
  where
    by_length : (8 < length given) ⊎ (length given ≤ 8) → 8 < length given
    by_length (inl past) = past
    by_length (inr within) = absurd (true≢false (sym (subst IsSome none (few within))))

-- the reason by the two tests that come first
abbrev refused : Plain → ℕ → Bool → Option Refusal
refused core app few = reason_if (not (is_application core app)) NoApplication (reason_if (not few) TooLong (reason_if (not (may_call core.state app)) NotActive (reason_if (not (has_handle_number core.state)) NoNumbers None)))

some-reason : (is_app : Bool) (others : Option Refusal) → None ≡ reason_if (not is_app) NoApplication (reason_if true TooLong others) → ⊥
some-reason true others never = absurd (cc (never))
some-reason false others never = absurd (cc (never))

pub refused-many : (old new : Option Core) (o n : Core) (app size option : ℕ) (name : List ℕ) (rules many : List Rule) → old ≡ Some o → new ≡ Some n → n.bus ≡ o.bus → 8 < length rules → 8 < length many →
    (r : Result (Result Registered TblStatus) Refusal) (status : ℕ) → status ≡ registration_code r → result_err r ≡ unasked o.tables.core app (Register name size option many) → OnErr r (n.tables ≡ o.tables) →
    TableCall old new app (Register name size option rules) status
refused-many old new o n app size option name rules many was now bus long longer (Err why) status is unasked same =
    let core = o.tables.core in
    Unasked o why was (now ∙ ap Some (same-core o n bus same))
    (ap (refused core app) (too-many rules long) ∙ sym (ap (refused core app) (too-many many longer)) ∙ sym unasked) is
refused-many old new o n app size option name rules many was now bus long longer (Ok answer) status is unasked same =
    let core = o.tables.core in
    absurd (some-reason (is_application core app) (reason_if (not (may_call core.state app)) NotActive (reason_if (not (has_handle_number core.state)) NoNumbers None)) (unasked ∙ ap (refused core app) (too-many many longer)))
