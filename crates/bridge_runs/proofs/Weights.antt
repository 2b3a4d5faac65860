-- What the entries of a history weigh, each on its own, is what the entries of each application weigh.
use Rattle.std.proofs.Common.{◌≡◌, ℕ, zero, suc, ◌+◌, ◌-◌, ◌<◌, ◌≤◌, ◌==◌, Bool, true, false, cond, List, [], ◌∷◌, length, refl, ap, subst, arith, eqb-true}
use Rattle.std.specs.Prelude.{All, slice_index_or}
use Rattle.std.proofs.lemmas.Bool.{eqb-false, ne_eqb}
use Rattle.std.proofs.lemmas.List.Elements.{All-tail}
use Rattle.bus_words.specs.declared.history.Entry.{Entry}
use Rattle.app_script.specs.Script.{Application}
use Rattle.script_runs.specs.Trace.{own_entries}

module _ (w : Entry → ℕ) where
  abbrev pub weigh : List Entry → ℕ
  weigh [] = 0
  weigh (e ∷ es) = w e + weigh es

  -- of so many applications, from this number on
  abbrev own_weights : ℕ → ℕ → List Entry → ℕ
  own_weights n zero es = 0
  own_weights n (suc count) es = weigh (own_entries n es) + own_weights (n + 1) count es

  own_none : (n count : ℕ) → own_weights n count [] ≡ 0
  own_none n zero = refl
  own_none n (suc count) = omega (arith, own_none (n + 1) count)

  own_with : (b : Bool) (n : ℕ) (e : Entry) (es : List Entry) → (e.app == n) ≡ b → weigh (own_entries n (e ∷ es)) ≡ cond b (w e) 0 + weigh (own_entries n es)
  own_with true n e es same = ap (λ b. weigh (cond b (e ∷ own_entries n es) (own_entries n es))) same
  own_with false n e es same =
      let kept : weigh (own_entries n (e ∷ es)) ≡ weigh (own_entries n es) = ap (λ b. weigh (cond b (e ∷ own_entries n es) (own_entries n es))) same in
      omega (arith, kept)

  own_past : (n count : ℕ) (e : Entry) (es : List Entry) → e.app < n → own_weights n count (e ∷ es) ≡ own_weights n count es
  own_past n zero e es before = refl
  own_past n (suc count) e es before =
      omega (arith, own_with false n e es (ne_eqb e.app n (λ same. absurd (omega (arith, same, before)))), own_past (n + 1) count e es (omega (arith, before)))

  own_once : (n count : ℕ) (e : Entry) (es : List Entry) → n ≤ e.app → e.app < n + count → own_weights n count (e ∷ es) ≡ w e + own_weights n count es
  own_once n zero e es from to = absurd (omega (arith, from, to))
  own_once n (suc count) e es from to = decide (e.app == n) refl (own_once (n + 1) count e es)
    where
      decide : (b : Bool) → (e.app == n) ≡ b → (n + 1 ≤ e.app → e.app < n + 1 + count → own_weights (n + 1) count (e ∷ es) ≡ w e + own_weights (n + 1) count es)
          → own_weights n (suc count) (e ∷ es) ≡ w e + own_weights n (suc count) es
      decide true same others = omega (arith, own_with true n e es same, own_past (n + 1) count e es (omega (arith, eqb-true e.app n same)))
      decide false other others =
          let later : n + 1 ≤ e.app = omega (arith, from, eqb-false e.app n other) in
          omega (arith, own_with false n e es other, others later (omega (arith, to)))

  all_own : (count : ℕ) (es : List Entry) → All (λ e. (1 ≤ e.app) × (e.app ≤ count)) es → weigh es ≡ own_weights 1 count es
  all_own count [] all = omega (arith, own_none 1 count)
  all_own count (e ∷ es) all =
      let first = all 0 e (omega arith) in
      omega (arith, own_once 1 count e es first.0 (omega (arith, first.1)), all_own count es (All-tail (λ (x : Entry). (1 ≤ x.app) × (x.app ≤ count)) e es all))

  -- those of a script's applications, each within its own bound, and of one more
  module _ (most : Application → ℕ) where
    abbrev pub most_of : List Application → ℕ
    most_of [] = 0
    most_of (app ∷ apps) = most app + most_of apps

    apps_own : (apps : List Application) (n : ℕ) (es : List Entry) → ((i : ℕ) → i < length apps → weigh (own_entries (n + i) es) ≤ most (slice_index_or apps i (record { name = []; lines = [] })))
        → own_weights n (suc (length apps)) es ≤ most_of apps + weigh (own_entries (n + length apps) es)
    apps_own [] n es each =
        let same : n ≡ n + 0 = omega arith in
        omega (arith, ap (λ k. weigh (own_entries k es)) same)
    apps_own (app ∷ apps) n es each =
        let same : n ≡ n + 0 = omega arith in
        let last : n + 1 + length apps ≡ n + suc (length apps) = omega arith in
        omega (
          arith,
          each 0 (omega arith),
          ap (λ k. weigh (own_entries k es)) same,
          ap (λ k. weigh (own_entries k es)) last,
          apps_own apps (n + 1) es (λ i within. subst (λ k. weigh (own_entries k es) ≤ most (slice_index_or apps i (record { name = []; lines = [] }))) (moved n i) (each (suc i) (omega (arith, within)))),
        )
      where
        moved : (n i : ℕ) → n + suc i ≡ n + 1 + i
        moved n i = omega arith

    -- so a history weighs no more than these bounds and what the one more weighs
    pub all_within : (apps : List Application) (es : List Entry) → All (λ e. (1 ≤ e.app) × (e.app ≤ length apps + 1)) es →
        ((app : ℕ) → 1 ≤ app → app ≤ length apps → weigh (own_entries app es) ≤ most (slice_index_or apps (app - 1) (record { name = []; lines = [] }))) →
        weigh es ≤ most_of apps + weigh (own_entries (length apps + 1) es)
    all_within apps es all each =
        let count : length apps + 1 ≡ suc (length apps) = omega arith in
        let last : 1 + length apps ≡ length apps + 1 = omega arith in
        omega (
          arith,
          all_own (length apps + 1) es all,
          ap (λ k. own_weights 1 k es) count,
          apps_own apps 1 es (λ i within. one_of i within),
          ap (λ k. weigh (own_entries k es)) last,
        )
      where
        one_of : (i : ℕ) → i < length apps → weigh (own_entries (1 + i) es) ≤ most (slice_index_or apps i (record { name = []; lines = [] }))
        one_of i within =
            let same : 1 + i - 1 ≡ i = omega arith in
            subst (λ k. weigh (own_entries (1 + i) es) ≤ most (slice_index_or apps k (record { name = []; lines = [] }))) same (each (1 + i) (omega arith) (omega (arith, within)))
