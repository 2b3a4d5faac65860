-- The numbers rise, so that a search by halves finds the one or tells that it isn't there.
use Rattle.std.proofs.Common.{◌≡◌, ◌<◌, ◌≤◌, ◌⊎◌, inl, inr, ℕ, length, get_or, ap, sym, subst, ◌∙◌, arith}
use Rattle.std.specs.Result.{MatchResult}
use Rattle.std.proofs.lemmas.Bool.{cases_lt}
use Rattle.std.proofs.lemmas.List.Sorted.{searched}
use Rattle.pipe_table.specs.Inside.{AreRising}
use Rattle.pipe_table.proofs.NumberedPipes.{rising_all}
use Rattle.pipe_table.proofs.table.index_by_halves.Goals as goal

pub returns-in-Ok-clause-some : goal.returns-in-Ok-clause-some
returns-in-Ok-clause-some c =
    let l = c.deref.result.now in
    let n = c.args.number in
    let found = searched l n c.binary_search.result c.binary_search.ensures.position (rising_all 0 l (subst (AreRising 0) (sym c.deref.ensures.value) c.requires)) in
    let here : (c.in-Ok.index < length l) × (get_or l c.in-Ok.index 0 ≡ n) =
    subst (λ r. MatchResult r (λ i. (i < length l) × (get_or l i 0 ≡ n)) (λ i. (i ≤ length l) × ((k : ℕ) → k < i → get_or l k 0 < n) × ((k : ℕ) → i ≤ k → k < length l → n < get_or l k 0))) c.in-Ok.is found in
    subst (λ m. (c.in-Ok.index < length m) × (get_or m c.in-Ok.index 0 ≡ n)) c.deref.ensures.value here

pub returns-in-Err-clause-none : goal.returns-in-Err-clause-none
returns-in-Err-clause-none c = λ _ k within is.
    let l = c.deref.result.now in
    let n = c.args.number in
    let found = searched l n c.binary_search.result c.binary_search.ensures.position (rising_all 0 l (subst (AreRising 0) (sym c.deref.ensures.value) c.requires)) in
    let apart : (c.in-Err.field-0 ≤ length l) × ((j : ℕ) → j < c.in-Err.field-0 → get_or l j 0 < n) × ((j : ℕ) → c.in-Err.field-0 ≤ j → j < length l → n < get_or l j 0) =
    subst (λ r. MatchResult r (λ i. (i < length l) × (get_or l i 0 ≡ n)) (λ i. (i ≤ length l) × ((j : ℕ) → j < i → get_or l j 0 < n) × ((j : ℕ) → i ≤ j → j < length l → n < get_or l j 0))) c.in-Err.is found in
    let same : get_or l k 0 ≡ n = ap (λ m. get_or m k 0) c.deref.ensures.value ∙ is in
    let inside : k < length l = omega (arith, within, ap length c.deref.ensures.value) in
    no (get_or l k 0) n k c.in-Err.field-0 same (apart.1 k) (λ above. apart.2 k above inside) (cases_lt k c.in-Err.field-0)
  where
    no : (x n k i : ℕ) → x ≡ n → (k < i → x < n) → (i ≤ k → n < x) → (k < i) ⊎ (i ≤ k) → ⊥
    no x n k i same below above (inl h) = omega (arith, same, below h)
    no x n k i same below above (inr h) = omega (arith, same, above h)
