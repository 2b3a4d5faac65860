-- The bridge's port of side 1, met by the main part before any other application has called.
use Rattle.std.proofs.Common.{◌≡◌, ◌≢◌, inl, inr, ℕ, zero, suc, ◌+◌, ◌<◌, ◌≤◌, nat_le, true, false, List, [], ◌∷◌, ◌++◌, length, Contains, refl, ap, sym, ◌∙◌, subst, arith}
use Rattle.std.proofs.lemmas.Bool.Decides.{nat_tests}
use Rattle.std.proofs.lemmas.List.Elements.{All-nil}
use mathlib.Core.List.{IsPrefix}
use Rattle.atomic_table.specs.Seated.{TableId}
use Rattle.bus_words.specs.Runs.{own_entries}
use Rattle.sb_calls.specs.Core.{Core}
use Rattle.bus_service.specs.Ports.{Begins, KeepsLongerOf, MainView, PortView}
use Rattle.app_script.specs.Script.{ScriptText}
use Rattle.thread_run.specs.declared.works.Done.{Done}
use Rattle.thread_run.specs.Mains.{IsJoined, IsOpen, numbers}
use Rattle.thread_run.proofs.Joins.{same-longer}
use Rattle.thread_run.proofs.Numbers.{in-numbers}

begins-none : {X : Type 0} (xs ys : List X) → IsPrefix xs ys → ys ≡ [] → xs ≡ []
begins-none [] ys is none = refl
begins-none (x ∷ xs) ys is none = absurd (some (is.1 ∙ none))
  where
    some : x ∷ (xs ++ is.0) ≡ [] → ⊥
    some same = cc same

module _ (script : ScriptText) (lock : TableId) (main now : MainView) (port : PortView) (opens : IsOpen script lock (length script.apps) main) (met : now ≡ record main { seen = now.seen }) (longer : KeepsLongerOf main.seen port.seen now.seen) where
  -- the main part has seen what the port has
  pub met-entries : now.seen.log.entries ≡ port.seen.log.entries
  met-entries = of_longer longer
    where
      of_longer : KeepsLongerOf main.seen port.seen now.seen → now.seen.log.entries ≡ port.seen.log.entries
      of_longer (inl is) = ap (λ (core : Core). core.log.entries) is.1
      of_longer (inr is) =
          let none : main.seen.log.entries ≡ [] = ap (λ (core : Core). core.log.entries) opens.before in
          ap (λ (core : Core). core.log.entries) is.1 ∙ none ∙ sym (begins-none port.seen.log.entries main.seen.log.entries is.0.entries none)

  pub met-limits : now.seen.limits ≡ script.limits
  met-limits = (same-longer main.seen port.seen now.seen longer).0 ∙ ap (λ (core : Core). core.limits) opens.before

  pub met-joined : IsJoined script lock [] now
  met-joined = record {
    lock_is = ap (λ (m : MainView). m.lock) met ∙ opens.lock_is;
    limits = met-limits;
    budgets = (same-longer main.seen port.seen now.seen longer).1 ∙ ap (λ (core : Core). core.log.budgets) opens.before;
    made = ap (λ (m : MainView). m.apps) met ∙ opens.made;
    joined = ap (λ (m : MainView). m.ended) met ∙ opens.none;
    begun = All-nil (λ (d : Done). Begins d.port.seen now.seen);
  }

-- nobody but the one of the last number has an entry
pub nobody-else : (n : ℕ) (main : MainView) → main.apps ≡ numbers (n + 1) → ((app : ℕ) → 1 ≤ app → app ≤ n → own_entries app main.seen.log.entries ≡ []) →
    ((app : ℕ) → ¬ (Contains main.apps app) → own_entries app main.seen.log.entries ≡ []) → (other : ℕ) → other ≢ n + 1 → own_entries other main.seen.log.entries ≡ []
nobody-else n main made quiet others zero differ =
    others zero (λ there. let low = (in-numbers (n + 1) zero (subst (λ apps. Contains apps zero) made there)).0 in omega (arith, low))
nobody-else n main made quiet others (suc k) differ =
    elim (nat_le (suc k) n) as (λ b. nat_le (suc k) n ≡ b → own_entries (suc k) main.seen.log.entries ≡ []) [
      | true ↦ λ within. quiet (suc k) (omega arith) (below within)
      | false ↦ λ beyond. others (suc k) (λ there.
          let high = (in-numbers (n + 1) (suc k) (subst (λ apps. Contains apps (suc k)) made there)).1 in
          differ (omega (arith, high, above beyond)))
    ] refl
  where
    below : nat_le (suc k) n ≡ true → suc k ≤ n
    below within = grind (arith, nat_tests, within)

    above : nat_le (suc k) n ≡ false → n < suc k
    above beyond = grind (arith, nat_tests, beyond)
