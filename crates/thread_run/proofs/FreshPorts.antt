-- The main part of the bus beside ports that made no call and saw none.
use Rattle.std.proofs.Common.{◌≡◌, ◌⊎◌, ⊎_elim, ℕ, ◌+◌, ◌≤◌, List, [], ◌∷◌, ◌++◌, refl, ap, sym, ◌∙◌, subst, arith}
use mathlib.Core.List.{IsPrefix}
use mathlib.Core.Logic.{dite}
use native.Mathlib.Decide.{ℕ_discrete}
use Rattle.atomic_table.specs.Seated.{TableId}
use Rattle.bus_words.specs.Runs.{own_entries}
use Rattle.sb_calls.specs.Core.{Core}
use Rattle.bus_service.specs.Ports.{Begins, KeepsLongerOf, MainView, PortView, with_history}
use Rattle.app_script.specs.Script.{ScriptText}
use Rattle.app_run.specs.Openings.{opened}
use Rattle.thread_run.specs.declared.works.Work.{Work}
use Rattle.thread_run.specs.Works.{MayWork}

-- what begins an empty list is empty
begins-none : {X : Type 0} (xs ys : List X) → IsPrefix xs ys → ys ≡ [] → xs ≡ []
begins-none [] ys is none = refl
begins-none (x ∷ xs) ys is none = absurd (some (is.1 ∙ none))
  where
    some : x ∷ (xs ++ is.0) ≡ [] → ⊥
    some same = cc same

-- the longer of a history and an empty one is the history
longer-than_none : (script : ScriptText) (one other kept : Core) → other ≡ opened script → KeepsLongerOf one other kept → kept ≡ one
longer-than_none script one other kept before longer =
    ⊎_elim
    (λ (is : Begins one other × (kept ≡ with_history one other)).
    let entries : one.log.entries ≡ [] = begins-none one.log.entries other.log.entries is.0.entries (ap (λ (core : Core). core.log.entries) before) in
    let notes : one.notes ≡ [] = begins-none one.notes other.notes is.0.notes (ap (λ (core : Core). core.notes) before) in
    let es : other.log.entries ≡ one.log.entries = ap (λ (core : Core). core.log.entries) before ∙ sym entries in
    let ns : other.notes ≡ one.notes = ap (λ (core : Core). core.notes) before ∙ sym notes in
    is.1 ∙ λ i. record { limits = one.limits; log = record { budgets = one.log.budgets; entries = es i }; notes = ns i })
    (λ (is : Begins other one × (kept ≡ one)). is.1)
    longer

pub met-main : (script : ScriptText) (main now : MainView) (port : PortView) → port.seen ≡ opened script → now ≡ record main { seen = now.seen } → KeepsLongerOf main.seen port.seen now.seen → now ≡ main
met-main script main now port before is longer = is ∙ ap (λ (core : Core). record main { seen = core }) (longer-than_none script main.seen port.seen now.seen before longer)

-- the work is what it was
pub same-work : (script : ScriptText) (bus tables : TableId) (work : Work) (n m : ℕ) (port : PortView) → port ≡ work.port → m ≡ n → work.runner.running.app ≡ 1 + n →
    MayWork script bus tables work.runner.running.app work → MayWork script bus tables (1 + m) (record work { port = port })
same-work script bus tables work n m port same count number may =
    let app : work.runner.running.app ≡ 1 + m = number ∙ ap (λ k. 1 + k) (sym count) in
    subst (λ (p : PortView). MayWork script bus tables (1 + m) (record work { port = p })) (sym same) (subst (λ k. MayWork script bus tables k work) app may)

-- no entry is of these applications, nor of the one of the next number
pub quiet-more : (script : ScriptText) (bus tables : TableId) (work : Work) (n all : ℕ) (mid now : MainView) → now ≡ mid → all ≡ n + 1 → work.runner.running.app ≡ 1 + n →
    MayWork script bus tables work.runner.running.app work → IsPrefix (own_entries work.port.app now.seen.log.entries) work.port.mine →
    ((app : ℕ) → 1 ≤ app → app ≤ n → own_entries app mid.seen.log.entries ≡ []) → (app : ℕ) → 1 ≤ app → app ≤ all → own_entries app now.seen.log.entries ≡ []
quiet-more script bus tables work n all mid now same count number may own quiet app first last =
    dite (ℕ_discrete app (1 + n))
    (λ here. ap (λ k. own_entries k now.seen.log.entries) (here ∙ sym (may.ports.bus_app ∙ number))
    ∙ begins-none (own_entries work.port.app now.seen.log.entries) work.port.mine own may.none)
    (λ other. ap (λ (m : MainView). own_entries app m.seen.log.entries) same ∙ quiet app first (omega (arith, last, count, other)))
