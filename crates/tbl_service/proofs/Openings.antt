-- What a port that has made no call may still add, and whether it may make its last call.
use Rattle.std.proofs.Common.{◌≡◌, ℕ, ◌-◌, ◌≤◌, not, leb, List, [], length, All, refl, ap, sym, ◌∙◌, subst, arith}
use Rattle.std.proofs.lemmas.List.{get_or-map}
use Rattle.fsw_base.specs.declared.config.Budget.{Budget}
use Rattle.journal_store.specs.declared.allowance.Allowance.{Allowance}
use Rattle.journal_store.specs.Budgets.{allowance_of, allowances}
use Rattle.tbl_words.specs.declared.history.Entry.{Entry}
use Rattle.tbl_words.specs.Log.{left_of}
use Rattle.tbl_load.specs.Core.{Core}
use Rattle.tbl_load.proofs.Journals.{length-left_of}
use Rattle.core_port.specs.Words.{budget_of}
use Rattle.core_port.proofs.Histories.{none_of_them}
use Rattle.tbl_service.specs.Ports.{left_by, own_entries}
use Rattle.tbl_service.specs.Words.{Tells}
use Rattle.tbl_service.specs.declared.permits.Permits.{Permits}
use Rattle.tbl_service.proofs.Allowances.{allowed_by_own}
use Rattle.tbl_service.proofs.PermitTests.{at_most, tested}
use Rattle.tbl_service.proofs.OthersCalls.{open_alone}

-- what an application's own entries leave is what the history leaves
pub own_left : (core : Core) (app : ℕ) (mine : List Entry) → 1 ≤ app → app ≤ length core.log.budgets → All (λ (e : Entry). 1 ≤ e.app) core.log.entries → own_entries app core.log.entries ≡ mine →
    allowance_of (left_by core mine) app ≡ allowance_of (left_of core.log) app
own_left core app mine first known called own =
    let budgets = core.log.budgets in
    ap (λ (es : List Entry). allowance_of (left_of (record { budgets = budgets; entries = es })) app) (sym own)
    ∙ allowed_by_own (allowances budgets) app core.log.entries first (omega (arith, known, length-left_of (record { budgets = budgets; entries = [] }))) called

-- an application of which the history has no entry has its budget, and may make its last call if this allows one
pub fresh_permits : (core : Core) (app : ℕ) (permits : Permits) → 1 ≤ app → app ≤ length core.log.budgets → All (λ (e : Entry). 1 ≤ e.app) core.log.entries → own_entries app core.log.entries ≡ [] →
    permits.left ≡ record { entries = (budget_of core.log.budgets app).entries; bytes = (budget_of core.log.budgets app).bytes } →
    permits.may_end ≡ leb 1 permits.left.entries → Tells core app permits
fresh_permits core app permits first known called none given tests =
    let budget : Budget → Allowance = λ b. record { entries = b.entries; bytes = b.bytes } in
    let left : permits.left ≡ allowance_of (left_of core.log) app =
    given
    ∙ sym (get_or-map budget core.log.budgets (app - 1) (record { entries = 0; bytes = 0; buffers = 0 }) (record { entries = 0; bytes = 0 }) (omega (arith, first, known)))
    ∙ own_left core app [] first known called none in
    record {
      left = left;
      end = (
        λ yes. record {
          known = known;
          standing = ap (λ b. not b) (open_alone core app first known called (none_of_them Entry (λ e. e.app) app core.log.entries none));
          room = record {
            known = omega (arith, known, length-left_of core.log);
            one_entry = subst (λ (a : Allowance). 1 ≤ a.entries) left (at_most 1 permits.left.entries (sym tests ∙ yes));
            its_bytes = omega arith;
          };
          within = refl;
        },
        λ may. tests ∙ tested 1 permits.left.entries (subst (λ (a : Allowance). 1 ≤ a.entries) (sym left) may.room.one_entry),
      );
    }
