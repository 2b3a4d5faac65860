-- What a port that has made no call may still add, and which calls it may make.
use Rattle.std.proofs.Common.{◌≡◌, ℕ, ◌-◌, ◌≤◌, leb, List, [], length, All, IsTrue, refl, ap, sym, ◌∙◌, subst, true, arith}
use Rattle.std.proofs.lemmas.List.{get_or-map}
use Rattle.fsw_base.specs.declared.config.Budget.{Budget}
use Rattle.journal_store.specs.declared.allowance.Allowance.{Allowance}
use Rattle.journal_store.specs.Budgets.{allowance_of, allowances}
use Rattle.bus_words.specs.declared.history.Call.{Call}
use Rattle.bus_words.specs.declared.history.Call.TheVariants.{Figures, End}
use Rattle.bus_words.specs.declared.history.Entry.{Entry}
use Rattle.bus_words.specs.Bus.{Standing, Active}
use Rattle.bus_words.specs.Entries.{call_bytes}
use Rattle.bus_words.specs.Log.{left_of}
use Rattle.bus_words.specs.Machine.{may_call}
use Rattle.bus_words.specs.Runs.{own_entries}
use Rattle.bus_core.specs.Core.{is_within}
use Rattle.sb_calls.specs.Core.{Core, MayCall}
use Rattle.bus_words.proofs.Journals.{length-left_of}
use Rattle.bus_words.proofs.OwnEntries.{allowed_by_own}
use Rattle.core_port.specs.Words.{budget_of}
use Rattle.core_port.proofs.Histories.{none_of_them}
use Rattle.bus_service.specs.Ports.{left_by}
use Rattle.bus_service.specs.Words.{Tells}
use Rattle.bus_service.specs.declared.permits.Permits.{Permits}
use Rattle.bus_service.proofs.ActiveStandings.{active_alone}
use Rattle.bus_service.proofs.PermitTests.{at_most, tested}

-- what an application's own entries leave is what the history leaves
pub own_left : (core : Core) (app : ℕ) (mine : List Entry) → 1 ≤ app → app ≤ length core.log.budgets → All (λ (e : Entry). 1 ≤ e.app) core.log.entries → own_entries app core.log.entries ≡ mine →
    allowance_of (left_by core mine) app ≡ allowance_of (left_of core.log) app
own_left core app mine first known called own =
    let budgets = core.log.budgets in
    ap (λ (es : List Entry). allowance_of (left_of (record { budgets = budgets; entries = es })) app) (sym own)
    ∙ allowed_by_own (allowances budgets) app core.log.entries first (omega (arith, known, length-left_of (record { budgets = budgets; entries = [] }))) called

-- an application of which the history has no entry is active, has its budget, and may make a call if this allows one
pub fresh_permits : (core : Core) (app : ℕ) (permits : Permits) → 1 ≤ app → app ≤ length core.log.budgets → All (λ (e : Entry). 1 ≤ e.app) core.log.entries → own_entries app core.log.entries ≡ [] →
    permits.left ≡ record { entries = (budget_of core.log.budgets app).entries; bytes = (budget_of core.log.budgets app).bytes } →
    permits.any ≡ leb 1 permits.left.entries → permits.last ≡ leb 1 permits.left.entries → Tells core app permits
fresh_permits core app permits first known called none given any last =
    let budget : Budget → Allowance = λ b. record { entries = b.entries; bytes = b.bytes } in
    let left : permits.left ≡ allowance_of (left_of core.log) app =
    given
    ∙ sym (get_or-map budget core.log.budgets (app - 1) (record { entries = 0; bytes = 0; buffers = 0 }) (record { entries = 0; bytes = 0 }) (omega (arith, first, known)))
    ∙ own_left core app [] first known called none in
    let active = active_alone core app first known called (none_of_them Entry (λ e. e.app) app core.log.entries none) in
    let may : leb 1 permits.left.entries ≡ true → (call : Call) → IsTrue (may_call Active call) → call_bytes call ≡ 0 → IsTrue (is_within call) → MayCall core app call = λ some call standing empty within. record {
      known = known;
      standing = ap (λ (x : Standing). may_call x call) active ∙ standing;
      room = record {
        known = omega (arith, known, length-left_of core.log);
        one_entry = subst (λ (a : Allowance). 1 ≤ a.entries) left (at_most 1 permits.left.entries some);
        its_bytes = omega (arith, empty);
      };
      within = within;
    } in
    let tests : (call : Call) → MayCall core app call → leb 1 permits.left.entries ≡ true = λ call granted.
    tested 1 permits.left.entries (subst (λ (a : Allowance). 1 ≤ a.entries) (sym left) granted.room.one_entry) in
    record {
      left = left;
      any = (λ yes. may (sym any ∙ yes) Figures refl refl refl, λ granted. any ∙ tests Figures granted);
      last = (λ yes. may (sym last ∙ yes) End refl refl refl, λ granted. last ∙ tests End granted);
    }
