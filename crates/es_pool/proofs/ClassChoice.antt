-- A class whose blocks are large enough, if those of the class before aren't, is the class that is looked for.
use Rattle.std.proofs.Common.{◌≡◌, ℕ, ◌+◌, ◌<◌, ◌≤◌, zero, suc, true, false, cond, List, [], ◌∷◌, length, get_or, leb, Option, Some, refl, ap, ◌∙◌, arith}
use Rattle.std.specs.List.{position_from}
use Rattle.std.proofs.lemmas.Bool.Decides.{nat_tests}
use Rattle.std.proofs.lemmas.Iterator.Adapters.{position_from-zero}
use Rattle.fsw_base.specs.Blocks.{are_rising_from, are_block_sizes, class_of}
use Rattle.es_pool.proofs.Sizes.{in_range, rising, part}

enough : (size x : ℕ) → size ≤ x → leb size x ≡ true
enough size x h = grind (arith, nat_tests)

small : (size x : ℕ) → x < size → leb size x ≡ false
small size x h = grind (arith, nat_tests)

-- the blocks of the class before are too small
abbrev AreSmallBefore : List ℕ → ℕ → ℕ → Type 0
AreSmallBefore sizes size class = (before : ℕ) → class ≡ suc before → get_or sizes before 0 < size

place_is : (sizes : List ℕ) (size least start class : ℕ) → are_rising_from least sizes ≡ true → class < length sizes → size ≤ get_or sizes class 0 → AreSmallBefore sizes size class →
    position_from (λ block. leb size block) start sizes ≡ Some (start + class)
place_is [] size least start class rises within large small_before = absurd (omega (arith, within))
place_is (x ∷ xs) size least start zero rises within large small_before =
    ap (λ b. cond {A = Option ℕ} b (Some start) (position_from (λ block. leb size block) (start + 1) xs)) (enough size x large) ∙ ap (λ n. Some n) (omega arith)
place_is (x ∷ xs) size least start (suc class) rises within large small_before =
    let later = (in_range least x _ _ rises).2 in
    ap (λ b. cond {A = Option ℕ} b (Some start) (position_from (λ block. leb size block) (start + 1) xs)) (small size x (below class (omega (arith, within)) small_before))
    ∙ place_is xs size (x + 1) (start + 1) class later (omega (arith, within)) large (λ before is. small_before (suc before) (ap suc is))
    ∙ ap (λ n. Some n) (omega arith)
  where
    below : (class : ℕ) → class < length xs → AreSmallBefore (x ∷ xs) size (suc class) → x < size
    below zero h before = before 0 refl
    below (suc class) h before = omega (arith, before (suc class) refl, (rising xs (x + 1) class (in_range least x _ _ rises).2 (omega (arith, h))).0)

pub class_is : (sizes : List ℕ) (size class : ℕ) → are_block_sizes sizes ≡ true → class < length sizes → size ≤ get_or sizes class 0 → AreSmallBefore sizes size class → class_of size sizes ≡ Some class
class_is sizes size class fit within large before =
    let rises = part (leb 1 (length sizes)) (leb (length sizes) 17) (are_rising_from 0 sizes) fit in
    position_from-zero (λ block. leb size block) sizes ∙ place_is sizes size 0 0 class rises within large before ∙ ap (λ n. Some n) (omega arith)
