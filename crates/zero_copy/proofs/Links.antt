-- Linked places: what a write elsewhere leaves, what a further place at the front and one place fewer do.
use Rattle.std.proofs.Common.{◌≡◌, ℕ, ◌+◌, ◌<◌, ◌≤◌, ◌⊎◌, inl, inr, zero, Bool, true, false, not, cond, eqb, List, [], ◌∷◌, length, get_or, set, refl, ap, sym, subst, ◌∙◌, arith}
use Rattle.std.proofs.lemmas.Bool.{cases_eq}
use Rattle.std.proofs.lemmas.Bool.Decides.{nat_tests}
use Rattle.std.proofs.lemmas.List.{length-set, get_or-set_same, get_or-set_other}
use Rattle.bucket_list.specs.Lists.{times_in}
use Rattle.bucket_list.specs.Chains.{chain}
use Rattle.bucket_list.proofs.Counts.{times_in-cons}
use Rattle.zero_copy.specs.Held.{without}
use Rattle.zero_copy.specs.Inside.{Linked}

-- a number that doesn't stand in a list is neither its first nor behind it
pub not_in : (x : ℕ) (xs : List ℕ) (q : ℕ) → times_in (x ∷ xs) q ≡ 0 → (q ≡ x → ⊥) × (times_in xs q ≡ 0)
not_in x xs q e =
    let c = times_in-cons x xs q in
    ((λ same. differs same c), omega (arith, c, e))
  where
    differs : q ≡ x → times_in (x ∷ xs) q ≡ cond (eqb x q) 1 0 + times_in xs q → ⊥
    differs same c = grind (arith, nat_tests)

-- the first stands there
pub first_in : (x : ℕ) (xs : List ℕ) → 0 < times_in (x ∷ xs) x
first_in x xs =
    let c = times_in-cons x xs x in
    grind (arith, nat_tests)

pub behind_in : (x : ℕ) (xs : List ℕ) (q : ℕ) → 0 < times_in xs q → 0 < times_in (x ∷ xs) q
behind_in x xs q h = omega (arith, h, times_in-cons x xs q)

pub in_cases : (x : ℕ) (xs : List ℕ) (q : ℕ) → 0 < times_in (x ∷ xs) q → (q ≡ x) ⊎ ((q ≡ x → ⊥) × (0 < times_in xs q))
in_cases x xs q h = by_cases (cases_eq q x)
  where
    later : (q ≡ x → ⊥) → times_in (x ∷ xs) q ≡ cond (eqb x q) 1 0 + times_in xs q → 0 < times_in xs q
    later ne c = grind (arith, nat_tests)

    by_cases : (q ≡ x) ⊎ (q ≡ x → ⊥) → (q ≡ x) ⊎ ((q ≡ x → ⊥) × (0 < times_in xs q))
    by_cases (inl same) = inl same
    by_cases (inr other) = inr (other, later other (times_in-cons x xs q))

-- a list with each number at most once has its first nowhere behind it, and is such a list from there on
pub once_behind : (x : ℕ) (xs : List ℕ) → ((q : ℕ) → times_in (x ∷ xs) q ≤ 1) → (times_in xs x ≡ 0) × ((q : ℕ) → times_in xs q ≤ 1)
once_behind x xs once =
    let f = first_in x xs in
    (none (times_in-cons x xs x) (once x), (λ q. omega (arith, once q, times_in-cons x xs q)))
  where
    none : times_in (x ∷ xs) x ≡ cond (eqb x x) 1 0 + times_in xs x → times_in (x ∷ xs) x ≤ 1 → times_in xs x ≡ 0
    none c le = grind (arith, nat_tests)

-- a write of a link of a place that these aren't
pub next_else : (next prev : List ℕ) (from : ℕ) (xs : List ℕ) (to q link : ℕ) → Linked next prev from xs to → (from ≡ q → ⊥) → times_in xs q ≡ 0 → Linked (set next q link) prev from xs to
next_else next prev from [] to q link l ne none = (get_or-set_other next q from link 0 ne ∙ l.0, l.1)
next_else next prev from (x ∷ xs) to q link l ne none =
    let n = not_in x xs q none in
    (get_or-set_other next q from link 0 ne ∙ l.0, l.1, next_else next prev x xs to q link l.2 (λ e. n.0 (sym e)) n.1)

pub prev_else : (next prev : List ℕ) (from : ℕ) (xs : List ℕ) (to q link : ℕ) → Linked next prev from xs to → (to ≡ q → ⊥) → times_in xs q ≡ 0 → Linked next (set prev q link) from xs to
prev_else next prev from [] to q link l ne none = (l.0, get_or-set_other prev q to link 0 ne ∙ l.1)
prev_else next prev from (x ∷ xs) to q link l ne none =
    let n = not_in x xs q none in
    (l.0, get_or-set_other prev q x link 0 (λ e. n.0 (sym e)) ∙ l.1, prev_else next prev x xs to q link l.2 ne n.1)

-- the chain behind a place
pub chain_linked : (next prev : List ℕ) (from : ℕ) (xs : List ℕ) (to : ℕ) → Linked next prev from xs to → chain next (get_or next from 0) (length xs) ≡ xs
chain_linked next prev from [] to l = refl
chain_linked next prev from (x ∷ xs) to l =
    ap (λ f. f ∷ chain next (get_or next f 0) (length xs)) l.0 ∙ ap (λ ys. x ∷ ys) (chain_linked next prev x xs to l.2)

-- what stands before a place among these, and what stands behind it
pub prev_in : (next prev : List ℕ) (from : ℕ) (xs : List ℕ) (to d : ℕ) → Linked next prev from xs to → 0 < times_in xs d → (get_or prev d 0 ≡ from) ⊎ (0 < times_in xs (get_or prev d 0))
prev_in next prev from [] to d l h = absurd (omega (arith, h))
prev_in next prev from (x ∷ xs) to d l h = by_cases (in_cases x xs d h) (λ h'. prev_in next prev x xs to d l.2 h')
  where
    inner : (get_or prev d 0 ≡ x) ⊎ (0 < times_in xs (get_or prev d 0)) → (get_or prev d 0 ≡ from) ⊎ (0 < times_in (x ∷ xs) (get_or prev d 0))
    inner (inl e) = inr (subst (λ q. 0 < times_in (x ∷ xs) q) (sym e) (first_in x xs))
    inner (inr h') = inr (behind_in x xs (get_or prev d 0) h')

    by_cases : (d ≡ x) ⊎ ((d ≡ x → ⊥) × (0 < times_in xs d)) → (0 < times_in xs d → (get_or prev d 0 ≡ x) ⊎ (0 < times_in xs (get_or prev d 0))) → (get_or prev d 0 ≡ from) ⊎ (0 < times_in (x ∷ xs) (get_or prev d 0))
    by_cases (inl e) later = inl (ap (λ q. get_or prev q 0) e ∙ l.1)
    by_cases (inr h') later = inner (later h'.1)

-- the place behind the first
pub after_first : (next prev : List ℕ) (from : ℕ) (xs : List ℕ) (to : ℕ) → Linked next prev from xs to → (get_or next from 0 ≡ to) ⊎ (0 < times_in xs (get_or next from 0))
after_first next prev from [] to l = inl l.0
after_first next prev from (x ∷ xs) to l = inr (subst (λ q. 0 < times_in (x ∷ xs) q) (sym l.0) (first_in x xs))

pub next_in : (next prev : List ℕ) (from : ℕ) (xs : List ℕ) (to d : ℕ) → Linked next prev from xs to → 0 < times_in xs d → (get_or next d 0 ≡ to) ⊎ (0 < times_in xs (get_or next d 0))
next_in next prev from [] to d l h = absurd (omega (arith, h))
next_in next prev from (x ∷ xs) to d l h = by_cases (in_cases x xs d h) (λ h'. next_in next prev x xs to d l.2 h')
  where
    inner : (get_or next d 0 ≡ to) ⊎ (0 < times_in xs (get_or next d 0)) → (get_or next d 0 ≡ to) ⊎ (0 < times_in (x ∷ xs) (get_or next d 0))
    inner (inl e) = inl e
    inner (inr h') = inr (behind_in x xs (get_or next d 0) h')

    by_cases : (d ≡ x) ⊎ ((d ≡ x → ⊥) × (0 < times_in xs d)) → (0 < times_in xs d → (get_or next d 0 ≡ to) ⊎ (0 < times_in xs (get_or next d 0))) → (get_or next d 0 ≡ to) ⊎ (0 < times_in (x ∷ xs) (get_or next d 0))
    by_cases (inl e) later = inner (subst (λ q. (get_or next q 0 ≡ to) ⊎ (0 < times_in xs (get_or next q 0))) (sym e) (after_first next prev x xs to l.2))
    by_cases (inr h') later = inner (later h'.1)

-- a list without what doesn't stand in it
without_none : (d : ℕ) (xs : List ℕ) → times_in xs d ≡ 0 → without d xs ≡ xs
without_none d [] e = refl
without_none d (x ∷ xs) e =
    let n = not_in x xs d e in
    subst (λ b. cond (not b) (x ∷ without d xs) (without d xs) ≡ x ∷ xs) (sym (other x (λ s. n.0 (sym s)))) (ap (λ ys. x ∷ ys) (without_none d xs n.1))
  where
    other : (y : ℕ) → (y ≡ d → ⊥) → eqb y d ≡ false
    other y ne = grind (arith, nat_tests)

pub without_first : (d : ℕ) (xs : List ℕ) → times_in xs d ≡ 0 → without d (d ∷ xs) ≡ xs
without_first d xs e = subst (λ b. cond (not b) (d ∷ without d xs) (without d xs) ≡ xs) (sym same) (without_none d xs e)
  where
    same : eqb d d ≡ true
    same = grind (arith, nat_tests)

without_other : (d x : ℕ) (xs : List ℕ) → (d ≡ x → ⊥) → without d (x ∷ xs) ≡ x ∷ without d xs
without_other d x xs ne = subst (λ b. cond (not b) (x ∷ without d xs) (without d xs) ≡ x ∷ without d xs) (sym other) refl
  where
    other : eqb x d ≡ false
    other = grind (arith, nat_tests)

pub length_without : (d : ℕ) (xs : List ℕ) → 0 < times_in xs d → ((q : ℕ) → times_in xs q ≤ 1) → length (without d xs) + 1 ≡ length xs
length_without d [] h once = absurd (omega (arith, h))
length_without d (x ∷ xs) h once = by_cases (in_cases x xs d h) (λ h'. length_without d xs h' (once_behind x xs once).1)
  where
    by_cases : (d ≡ x) ⊎ ((d ≡ x → ⊥) × (0 < times_in xs d)) → (0 < times_in xs d → length (without d xs) + 1 ≡ length xs) → length (without d (x ∷ xs)) + 1 ≡ length (x ∷ xs)
    by_cases (inl e) later = omega (arith, ap (λ y. length (without d (y ∷ xs))) (sym e), ap length (without_first d xs (ap (times_in xs) e ∙ (once_behind x xs once).0)))
    by_cases (inr h') later = omega (arith, ap length (without_other d x xs h'.0), later h'.1)

pub times_without : (d : ℕ) (xs : List ℕ) (q : ℕ) → times_in (without d xs) q + cond (eqb d q) (times_in xs q) 0 ≡ times_in xs q
times_without d [] q = nothing (eqb d q)
  where
    nothing : (b : Bool) → zero + cond b zero zero ≡ zero
    nothing true = omega arith
    nothing false = omega arith
times_without d (x ∷ xs) q = by_cases (cases_eq d x) (times_without d xs q)
  where
    c : times_in (x ∷ xs) q ≡ cond (eqb x q) 1 0 + times_in xs q
    c = times_in-cons x xs q

    skipped : (now before : ℕ) → now + cond (eqb d q) before 0 ≡ before → d ≡ x → (all : ℕ) → all ≡ cond (eqb x q) 1 0 + before → now + cond (eqb d q) all 0 ≡ all
    skipped now before ih same all e = grind (arith, nat_tests)

    kept : (now before : ℕ) → now + cond (eqb d q) before 0 ≡ before → (d ≡ x → ⊥) → (all after : ℕ) → all ≡ cond (eqb x q) 1 0 + before → after ≡ cond (eqb x q) 1 0 + now → after + cond (eqb d q) all 0 ≡ all
    kept now before ih other all after e e' = grind (arith, nat_tests)

    same_test : d ≡ x → eqb x d ≡ true
    same_test e = grind (arith, nat_tests)

    by_cases : (d ≡ x) ⊎ (d ≡ x → ⊥) → times_in (without d xs) q + cond (eqb d q) (times_in xs q) 0 ≡ times_in xs q → times_in (without d (x ∷ xs)) q + cond (eqb d q) (times_in (x ∷ xs) q) 0 ≡ times_in (x ∷ xs) q
    by_cases (inl same) ih =
        subst (λ b. times_in (cond (not b) (x ∷ without d xs) (without d xs)) q + cond (eqb d q) (times_in (x ∷ xs) q) 0 ≡ times_in (x ∷ xs) q) (sym (same_test same))
        (skipped (times_in (without d xs) q) (times_in xs q) ih same (times_in (x ∷ xs) q) c)
    by_cases (inr other) ih =
        kept (times_in (without d xs) q) (times_in xs q) ih other (times_in (x ∷ xs) q) (times_in (without d (x ∷ xs)) q) c
        (ap (λ ys. times_in ys q) (without_other d x xs other) ∙ times_in-cons x (without d xs) q)

-- one place fewer
pub linked_without : (next prev : List ℕ) (from : ℕ) (xs : List ℕ) (to d : ℕ) → Linked next prev from xs to → 0 < times_in xs d → ((q : ℕ) → times_in xs q ≤ 1) → times_in xs from ≡ 0 → times_in xs to ≡ 0
    → from < length next → to < length prev → ((q : ℕ) → 0 < times_in xs q → (q < length next) × (q < length prev))
    → Linked (set next (get_or prev d 0) (get_or next d 0)) (set prev (get_or next d 0) (get_or prev d 0)) from (without d xs) to
linked_without next prev from [] to d l h once no_from no_to from_in to_in inside = absurd (omega (arith, h))
linked_without next prev from (x ∷ xs) to d l h once no_from no_to from_in to_in inside =
    by_cases (in_cases x xs d h)
    (λ h'. linked_without next prev x xs to d l.2 h' (once_behind x xs once).1 (once_behind x xs once).0 (not_in x xs to no_to).1 (inside x (first_in x xs)).0 to_in (λ q hq. inside q (behind_in x xs q hq)))
  where
    behind : (times_in xs x ≡ 0) × ((q : ℕ) → times_in xs q ≤ 1)
    behind = once_behind x xs once

    from_out : (from ≡ x → ⊥) × (times_in xs from ≡ 0)
    from_out = not_in x xs from no_from

    to_out : (to ≡ x → ⊥) × (times_in xs to ≡ 0)
    to_out = not_in x xs to no_to

    -- the first goes: what stood before it is linked to what stood behind it
    first_gone : (ys : List ℕ) → Linked next prev x ys to → ((q : ℕ) → times_in ys q ≤ 1) → times_in ys from ≡ 0 → times_in ys to ≡ 0 → ((q : ℕ) → 0 < times_in ys q → (q < length next) × (q < length prev))
        → Linked (set next from (get_or next x 0)) (set prev (get_or next x 0) from) from ys to
    first_gone [] l' once' nf nt inside' = (
      get_or-set_same next from (get_or next x 0) 0 from_in ∙ l'.0,
      ap (λ q. get_or (set prev q from) to 0) l'.0 ∙ get_or-set_same prev to from 0 to_in,
    )
    first_gone (y ∷ ys) l' once' nf nt inside' =
        let yb = once_behind y ys once' in
        let f = not_in y ys from nf in
        let t = not_in y ys to nt in
        let y_in : y < length prev = (inside' y (first_in y ys)).1 in (
          get_or-set_same next from (get_or next x 0) 0 from_in ∙ l'.0,
          ap (λ q. get_or (set prev q from) y 0) l'.0 ∙ get_or-set_same prev y from 0 y_in,
          subst (λ q. Linked (set next from (get_or next x 0)) (set prev q from) y ys to) (sym l'.0)
              (next_else next (set prev y from) y ys to from (get_or next x 0)
              (prev_else next prev y ys to y from l'.2 t.0 yb.0) (λ e. f.0 (sym e)) f.1),
        )

    not_from : (get_or prev d 0 ≡ x) ⊎ (0 < times_in xs (get_or prev d 0)) → from ≡ get_or prev d 0 → ⊥
    not_from (inl e) same = from_out.0 (same ∙ e)
    not_from (inr some) same = absurd (omega (arith, some, from_out.1, ap (times_in xs) same))

    not_x : (get_or next d 0 ≡ to) ⊎ (0 < times_in xs (get_or next d 0)) → x ≡ get_or next d 0 → ⊥
    not_x (inl e) same = to_out.0 (sym e ∙ sym same)
    not_x (inr some) same = absurd (omega (arith, some, behind.0, ap (times_in xs) same))

    by_cases : (d ≡ x) ⊎ ((d ≡ x → ⊥) × (0 < times_in xs d))
        → (0 < times_in xs d → Linked (set next (get_or prev d 0) (get_or next d 0)) (set prev (get_or next d 0) (get_or prev d 0)) x (without d xs) to)
        → Linked (set next (get_or prev d 0) (get_or next d 0)) (set prev (get_or next d 0) (get_or prev d 0)) from (without d (x ∷ xs)) to
    by_cases (inl e) later =
        let p : get_or prev d 0 ≡ from = ap (λ q. get_or prev q 0) e ∙ l.1 in
        let n : get_or next d 0 ≡ get_or next x 0 = ap (λ q. get_or next q 0) e in
        let gone : without d (x ∷ xs) ≡ xs = ap (λ y. without d (y ∷ xs)) (sym e) ∙ without_first d xs (ap (times_in xs) e ∙ behind.0) in
        subst (λ ys. Linked (set next (get_or prev d 0) (get_or next d 0)) (set prev (get_or next d 0) (get_or prev d 0)) from ys to) (sym gone)
        (subst (λ q. Linked (set next q (get_or next d 0)) (set prev (get_or next d 0) q) from xs to) (sym p)
        (subst (λ q. Linked (set next from q) (set prev q from) from xs to) (sym n)
        (first_gone xs l.2 behind.1 from_out.1 to_out.1 (λ q hq. inside q (behind_in x xs q hq)))))
    by_cases (inr h') later =
        let kept = without_other d x xs h'.0 in
        subst (λ ys. Linked (set next (get_or prev d 0) (get_or next d 0)) (set prev (get_or next d 0) (get_or prev d 0)) from ys to) (sym kept) (
          get_or-set_other next (get_or prev d 0) from (get_or next d 0) 0 (not_from (prev_in next prev x xs to d l.2 h'.1)) ∙ l.0,
          get_or-set_other prev (get_or next d 0) x (get_or prev d 0) 0 (not_x (next_in next prev x xs to d l.2 h'.1)) ∙ l.1,
          later h'.1,
        )

-- one place more at the front of a ring
pub linked_front : (next prev : List ℕ) (s : ℕ) (xs : List ℕ) (d : ℕ) → Linked next prev s xs s → times_in xs d ≡ 0 → (d ≡ s → ⊥) → times_in xs s ≡ 0 → ((q : ℕ) → times_in xs q ≤ 1)
    → s < length next → s < length prev → d < length next → d < length prev → ((q : ℕ) → 0 < times_in xs q → q < length prev)
    → Linked (set (set next d (get_or next s 0)) s d) (set (set prev (get_or next s 0) d) d s) s (d ∷ xs) s
linked_front next prev s [] d l no_d ne no_s once s_next s_prev d_next d_prev inside =
    let f = get_or next s 0 in (
      get_or-set_same (set next d f) s d 0 (omega (arith, s_next, length-set next d f)),
      get_or-set_same (set prev f d) d s 0 (omega (arith, d_prev, length-set prev f d)),
      (
        get_or-set_other (set next d f) s d d 0 ne ∙ (get_or-set_same next d f 0 d_next ∙ l.0),
        get_or-set_other (set prev f d) d s s 0 (λ e. ne (sym e)) ∙ (ap (λ q. get_or (set prev q d) s 0) l.0 ∙ get_or-set_same prev s d 0 s_prev),
      ),
    )
linked_front next prev s (x ∷ xs) d l no_d ne no_s once s_next s_prev d_next d_prev inside =
    let f = get_or next s 0 in
    let dx = not_in x xs d no_d in
    let sx = not_in x xs s no_s in
    let behind = once_behind x xs once in
    let x_in = inside x (first_in x xs) in
    let rest : Linked (set (set next d f) s d) (set (set prev f d) d s) x xs s =
    next_else (set next d f) (set (set prev f d) d s) x xs s s d
    (next_else next (set (set prev f d) d s) x xs s d f
    (prev_else next (set prev f d) x xs s d s
    (subst (λ q. Linked next (set prev q d) x xs s) (sym l.0) (prev_else next prev x xs s x d l.2 sx.0 behind.0))
    (λ e. ne (sym e)) dx.1)
    (λ e. dx.0 (sym e)) dx.1)
    (λ e. sx.0 (sym e)) sx.1 in (
      get_or-set_same (set next d f) s d 0 (omega (arith, s_next, length-set next d f)),
      get_or-set_same (set prev f d) d s 0 (omega (arith, d_prev, length-set prev f d)),
      (
        get_or-set_other (set next d f) s d d 0 ne ∙ (get_or-set_same next d f 0 d_next ∙ l.0),
        get_or-set_other (set prev f d) d x s 0 (λ e. dx.0 (sym e)) ∙ (ap (λ q. get_or (set prev q d) x 0) l.0 ∙ get_or-set_same prev x d 0 x_in),
        rest,
      ),
    )
