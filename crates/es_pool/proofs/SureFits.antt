-- If the rest holds a block of any size, a block fits for what the last size holds.
use Rattle.std.proofs.Common.{◌≡◌, ℕ, ◌+◌, ◌*◌, ◌-◌, ◌<◌, ◌≤◌, zero, suc, Bool, true, false, cond, List, [], ◌∷◌, length, get_or, leb, Option, Some, refl, ap, sym, ◌∙◌, arith}
use Rattle.std.specs.List.{position_from}
use Rattle.std.proofs.lemmas.Bool.Decides.{nat_tests}
use Rattle.std.proofs.lemmas.Iterator.Adapters.{position_from-zero}
use Rattle.fsw_base.specs.PoolAccounts.{overhead}
use Rattle.fsw_base.specs.Blocks.{are_block_sizes}
use Rattle.es_pool.specs.Pool.{PoolState, fits, fits_if, fits_class, used_by, out_in, free_in, made_in}
use Rattle.es_pool.proofs.Sizes.{size_small, fits_rest}
use Rattle.es_pool.proofs.Totals.{made-split}

-- the place of a size that is large enough
record IsPlace (sizes : List ℕ) (start : ℕ) (found : Option ℕ) : Type 0 where
  pub place : ℕ
  pub is : found ≡ Some (start + place)
  pub within : place < length sizes

place_of : (sizes : List ℕ) (size start last : ℕ) → last < length sizes → size ≤ get_or sizes last 0 → IsPlace sizes start (position_from (λ block. leb size block) start sizes)
place_of [] size start last long h = absurd (omega (arith, long))
place_of (x ∷ xs) size start last long h = by_test last long h (leb size x) refl (place_of xs size (start + 1))
  where
    by_test : (last : ℕ) → last < length (x ∷ xs) → size ≤ get_or (x ∷ xs) last 0 → (b : Bool) → leb size x ≡ b →
        ((before : ℕ) → before < length xs → size ≤ get_or xs before 0 → IsPlace xs (start + 1) (position_from (λ block. leb size block) (start + 1) xs)) →
        IsPlace (x ∷ xs) start (cond {A = Option ℕ} b (Some start) (position_from (λ block. leb size block) (start + 1) xs))
    by_test last long h true is rest = record { place = 0; is = ap (λ n. Some n) (omega arith); within = omega arith }
    by_test zero long h false is rest = absurd (grind (arith, nat_tests))
    by_test (suc last) long h false is rest =
        let later = rest last (omega (arith, long)) h in
        record { place = later.place + 1; is = later.is ∙ ap (λ n. Some n) (omega arith); within = omega (arith, later.within) }

part_fits : (cost free rest : ℕ) → cost ≤ rest → leb (cost * (1 - free)) rest ≡ true
part_fits cost zero rest h = grind (arith, nat_tests)
part_fits cost (suc free) rest h = grind (arith, nat_tests)

pub fits_surely : (s : PoolState) (size rest last : ℕ) → are_block_sizes s.sizes ≡ true → last < length s.sizes → size ≤ get_or s.sizes last 0 → 80016 ≤ rest →
    used_by s.sizes s.blocks + rest ≡ s.bytes → fits s size 1 ≡ true
fits_surely s size rest last sizes long large enough adds_up =
    let found = place_of s.sizes size 0 last long large in
    let plain : 0 + found.place ≡ found.place = omega arith in
    let small = size_small s.sizes found.place sizes found.within in
    ap (λ o. fits_if s 1 o) (position_from-zero (λ block. leb size block) s.sizes)
    ∙ ap (λ o. fits_if s 1 o) found.is
    ∙ ap (λ n. fits_class s n 1) plain
    ∙ sym (fits_rest (used_by s.sizes s.blocks) rest s.bytes (get_or s.sizes found.place 0 + overhead) (out_in s.blocks found.place) (free_in s.blocks found.place) (made_in s.blocks found.place) 1 adds_up (made-split s.blocks found.place))
    ∙ part_fits (get_or s.sizes found.place 0 + overhead) (free_in s.blocks found.place) rest (omega (arith, small, enough))
