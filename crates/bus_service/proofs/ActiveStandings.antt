-- An application of which a history has no entry is active.
use Rattle.std.proofs.Common.{◌≡◌, ◌≢◌, ℕ, ◌-◌, ◌≤◌, ◌==◌, cond, true≢false, eqb, eq-eqb, ne_eqb, false, List, [], ◌∷◌, ◌++◌, get_or, replicate, slice_index_or, slice_set, ap, sym, ◌∙◌, arith}
use Rattle.std.specs.List.{All}
use Rattle.std.proofs.lemmas.Bool.Decides.{nat_tests}
use Rattle.std.proofs.lemmas.List.{get_or-set_other, get_or-replicate}
use Rattle.std.proofs.lemmas.List.Elements.{All-head, All-tail}
use Rattle.fsw_base.specs.Limits.{Limits}
use Rattle.bus_words.specs.declared.history.Call.{Call}
use Rattle.bus_words.specs.declared.history.Entry.{Entry}
use Rattle.bus_words.specs.Bus.{State, Standing, Active, Ended, opening, standing_of}
use Rattle.bus_words.specs.Machine.{state_from, step}
use Rattle.bus_words.proofs.Steps.{after_step}
use Rattle.sb_calls.specs.Core.{Core, state_of, apps_of}

active-step : (limits : Limits) (history : List Entry) (s : State) (who app : ℕ) (call : Call) → 1 ≤ who → 1 ≤ app → (who == app) ≡ false → standing_of s app ≡ Active →
    standing_of ((step limits history s who call).1) app ≡ Active
active-step limits history s who app call some first differ active =
    let apart : app - 1 ≡ who - 1 → ⊥ = λ same. true≢false (sym (eq-eqb who app (omega (arith, same, some, first))) ∙ differ) in
    let other : (standing : Standing) → cond {A = Standing} (app == 0) Ended (slice_index_or (slice_set s.standings (who - 1) standing) (app - 1) Ended) ≡ Active = λ standing.
    ap (λ found. cond {A = Standing} (app == 0) Ended found) (get_or-set_other s.standings (who - 1) (app - 1) standing Ended apart) ∙ active in
    after_step (λ (t : State). standing_of t app ≡ Active) limits history s who call (record {
      same = active;
      creates = λ depth name none. active;
      subscribes = λ id pipe limit scope none new. active;
      sends = λ sending id who number room. active;
      receives = λ pipe. active;
      deletes = λ pipe none. active;
      sets = λ pipe bits none. active;
      unsubscribes = λ id pipe none. active;
      stands = λ pipe standing going. other standing;
      ends = other Ended;
      pools = λ next follows. active;
      allocates = λ size none. active;
      leaves = λ buf has. active;
      records = λ t desk statistics is. is;
      passes = λ sending id who has asked. active;
    })

active-from : (limits : Limits) (history : List Entry) (s : State) (app : ℕ) (es : List Entry) → 1 ≤ app → All (λ (e : Entry). 1 ≤ e.app) es → All (λ (e : Entry). e.app ≢ app) es →
    standing_of s app ≡ Active → standing_of (state_from limits history s es) app ≡ Active
active-from limits history s app [] first callers others active = active
active-from limits history s app (e ∷ es) first callers others active =
    let from_one : Entry → Type 0 = λ x. 1 ≤ x.app in
    let other : Entry → Type 0 = λ x. x.app ≢ app in
    active-from limits (history ++ e ∷ []) ((step limits history s e.app e.call).1) app es first (All-tail from_one e es callers) (All-tail other e es others)
    (active-step limits history s e.app app e.call (All-head from_one e es callers) first (ne_eqb e.app app (All-head other e es others)) active)

opened : (limits : Limits) (apps app : ℕ) → 1 ≤ app → app ≤ apps → standing_of (opening limits apps) app ≡ Active
opened limits apps app first known =
    ap (λ test. cond {A = Standing} test Ended (get_or (replicate apps Active) (app - 1) Ended)) (not_zero app first)
    ∙ get_or-replicate apps (app - 1) Active Ended (omega (arith, first, known))
  where
    not_zero : (n : ℕ) → 1 ≤ n → eqb n 0 ≡ false
    not_zero n some = grind (arith, nat_tests)

pub active_alone : (core : Core) (app : ℕ) → 1 ≤ app → app ≤ apps_of core → All (λ (e : Entry). 1 ≤ e.app) core.log.entries → All (λ (e : Entry). e.app ≢ app) core.log.entries →
    standing_of (state_of core) app ≡ Active
active_alone core app first known callers others =
    active-from core.limits [] (opening core.limits (apps_of core)) app core.log.entries first callers others (opened core.limits (apps_of core) app first known)
