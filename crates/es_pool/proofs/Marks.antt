-- Where a block stands in the lists of free blocks.
use Rattle.std.proofs.Common.{◌≡◌, ◌≢◌, ℕ, ◌-◌, ◌<◌, ◌≤◌, ◌&&◌, ◌⊎◌, inl, inr, zero, suc, Bool, true, false, not, cond, eqb, List, [], ◌∷◌, ◌++◌, length, get_or, set, refl, ap, sym, ◌∙◌, arith}
use Rattle.std.proofs.lemmas.Bool.{cases_lt}
use Rattle.std.proofs.lemmas.Bool.Decides.{nat_tests}
use Rattle.std.proofs.lemmas.List.{get_or_default, get_or_past, get_or-set_other, get_or_append_left, get_or-append_right}
use Rattle.es_pool.specs.Kept.{is_free_in, free_mark}
use Rattle.es_pool.specs.declared.blocks.CutBlock.{CutBlock}
use Rattle.es_pool.proofs.Totals.{block}

parts : (c class : ℕ) (out : Bool) → 0 < cond (eqb c class && not out) 1 0 → (c ≡ class) × (out ≡ false)
parts c class true h = absurd (none (eqb c class) h)
  where
    none : (b : Bool) → 0 < cond (b && false) 1 0 → ⊥
    none true h = omega (arith, h)
    none false h = omega (arith, h)
parts c class false h = (grind (arith, nat_tests), refl)

-- a block that is marked for a class is a free block of it
pub free_from_mark : (blocks : List CutBlock) (class number : ℕ) → 0 < free_mark blocks class number → (number < length blocks) × (get_or blocks number (block class true) ≡ block class false)
free_from_mark blocks class number h = by_cases (cases_lt number (length blocks))
  where
    out : (b : CutBlock) → b ≡ block 0 true → 0 < cond (is_free_in class b) 1 0 → ⊥
    out b e some =
        let p = parts b.class class b.out some in
        let f : b.out ≡ false = p.1 in
        let t : b.out ≡ true = ap (λ x. x.out) e in
        cc

    by_cases : (number < length blocks) ⊎ (length blocks ≤ number) → (number < length blocks) × (get_or blocks number (block class true) ≡ block class false)
    by_cases (inl within) =
        let b = get_or blocks number (block 0 true) in
        let p = parts b.class class b.out h in
        (within, get_or_default blocks number (block class true) (block 0 true) within ∙ (ap (λ c. block c b.out) p.0 ∙ ap (λ o. block class o) p.1))
    by_cases (inr past) = absurd (out (get_or blocks number (block 0 true)) (get_or_past blocks number (block 0 true) past) h)

-- a block that is out has no mark
pub mark_out : (blocks : List CutBlock) (class number : ℕ) → (get_or blocks number (block 0 true)).out ≡ true → free_mark blocks class number ≡ 0
mark_out blocks class number e = none (get_or blocks number (block 0 true)) e
  where
    zero_either : (t : Bool) → cond (t && false) 1 zero ≡ zero
    zero_either true = refl
    zero_either false = refl

    none : (b : CutBlock) → b.out ≡ true → cond (is_free_in class b) 1 zero ≡ zero
    none b e = ap (λ o. cond (eqb b.class class && not o) 1 zero) e ∙ zero_either (eqb b.class class)

-- a free block is marked for its own class alone
pub mark_free : (blocks : List CutBlock) (class here number : ℕ) → get_or blocks number (block 0 true) ≡ block here false → free_mark blocks class number ≡ cond (eqb here class) 1 0
mark_free blocks class here number e = ap (λ b. cond (is_free_in class b) 1 0) e ∙ and_true (eqb here class)
  where
    and_true : (t : Bool) → cond {A = ℕ} (t && true) 1 0 ≡ cond t 1 0
    and_true true = refl
    and_true false = refl

-- another block's mark stays if one block is set
pub mark-set_other : (blocks : List CutBlock) (class number other : ℕ) (b : CutBlock) → number ≢ other → free_mark (set blocks other b) class number ≡ free_mark blocks class number
mark-set_other blocks class number other b ne = ap (λ x. cond (is_free_in class x) 1 0) (get_or-set_other blocks other number b (block 0 true) ne)

-- a further block that is out changes no mark
pub mark-push : (blocks : List CutBlock) (class number here : ℕ) → free_mark (blocks ++ block here true ∷ []) class number ≡ free_mark blocks class number
mark-push blocks class number here = by_cases (cases_lt number (length blocks))
  where
    last : (i : ℕ) → (get_or (block here true ∷ []) i (block 0 true)).out ≡ true
    last zero = refl
    last (suc i) = refl

    by_cases : (number < length blocks) ⊎ (length blocks ≤ number) → free_mark (blocks ++ block here true ∷ []) class number ≡ free_mark blocks class number
    by_cases (inl within) = ap (λ x. cond (is_free_in class x) 1 0) (get_or_append_left blocks (block here true ∷ []) (block 0 true) number within)
    by_cases (inr past) =
        mark_out (blocks ++ block here true ∷ []) class number
        (ap (λ x. x.out) (get_or-append_right blocks (block here true ∷ []) (length blocks) number (block 0 true) refl past) ∙ last (number - length blocks))
        ∙ sym (mark_out blocks class number (ap (λ x. x.out) (get_or_past blocks number (block 0 true) past)))
