-- The totals over the blocks, and what a change of one block or a further one does to them.
use Rattle.std.proofs.Common.{◌≡◌, ℕ, ◌+◌, ◌*◌, ◌<◌, ◌≤◌, ◌&&◌, suc, Bool, true, false, not, cond, eqb, List, [], ◌∷◌, length, get_or, set, sum_by, refl, ap, sym, ◌∙◌, arith}
use Rattle.std.proofs.lemmas.Bool.Decides.{nat_tests}
use Rattle.std.proofs.lemmas.List.Sums.{sum_by-cons, sum_by-set, count_by-le-length}
use Rattle.fsw_base.specs.Blocks.{are_block_sizes}
use Rattle.fsw_base.specs.PoolAccounts.{overhead}
use Rattle.es_pool.specs.Pool.{made_in, out_in, free_in, used_by, in_use_by}
use Rattle.es_pool.specs.declared.blocks.CutBlock.{CutBlock}
use Rattle.es_pool.proofs.Sizes.{size_least}

-- a block of a class, in or out
abbrev pub block : ℕ → Bool → CutBlock
block class out = record { class = class; out = out }

-- the blocks of a class are out or free
split_one : (c class : ℕ) (out : Bool) → cond {A = ℕ} (eqb c class) 1 0 ≡ cond (eqb c class && out) 1 0 + cond (eqb c class && not out) 1 0
split_one c class true = grind (arith, nat_tests)
split_one c class false = grind (arith, nat_tests)

pub made-split : (blocks : List CutBlock) (class : ℕ) → made_in blocks class ≡ out_in blocks class + free_in blocks class
made-split [] class = refl
made-split (b ∷ blocks) class =
    omega (arith, sum_by-cons (λ x. cond (eqb x.class class) 1 0) b blocks, sum_by-cons (λ x. cond (eqb x.class class && x.out) 1 0) b blocks, sum_by-cons (λ x. cond (eqb x.class class && not x.out) 1 0) b blocks, split_one b.class class b.out, made-split blocks class)

in_use_one : (out : Bool) (size : ℕ) → cond out size 0 ≤ size + overhead
in_use_one true size = omega arith
in_use_one false size = omega arith

-- what is out was cut
pub in_use-le-used : (sizes : List ℕ) (blocks : List CutBlock) → in_use_by sizes blocks ≤ used_by sizes blocks
in_use-le-used sizes [] = omega arith
in_use-le-used sizes (b ∷ blocks) =
    omega (arith, sum_by-cons (λ x. cond x.out (get_or sizes x.class 0) 0) b blocks, sum_by-cons (λ x. get_or sizes x.class 0 + overhead) b blocks, in_use_one b.out (get_or sizes b.class 0), in_use-le-used sizes blocks)

-- each block took at least the smallest size and the overhead
pub used-ge : (sizes : List ℕ) (blocks : List CutBlock) → are_block_sizes sizes ≡ true → ((number : ℕ) → number < length blocks → (get_or blocks number (block 0 true)).class < length sizes) → length blocks * (get_or sizes 0 0 + overhead) ≤ used_by sizes blocks
used-ge sizes [] fit inside = omega arith
used-ge sizes (b ∷ blocks) fit inside =
    let first = size_least sizes b.class fit (inside 0 (omega arith)) in
    let later = used-ge sizes blocks fit (λ number h. inside (suc number) (omega (arith, h))) in
    let one : suc (length blocks) * (get_or sizes 0 0 + overhead) ≡ (get_or sizes 0 0 + overhead) + length blocks * (get_or sizes 0 0 + overhead) = omega arith in
    omega (arith, one, first, later, sum_by-cons (λ x. get_or sizes x.class 0 + overhead) b blocks)

pub made_few : (blocks : List CutBlock) (class : ℕ) → made_in blocks class ≤ length blocks
made_few blocks class = count_by-le-length (λ x. eqb x.class class) blocks

-- the totals with one block set
pub sum-change : (f : CutBlock → ℕ) (blocks : List CutBlock) (number : ℕ) (before after d : CutBlock) → number < length blocks → get_or blocks number d ≡ before → sum_by f (set blocks number after) + f before ≡ sum_by f blocks + f after
sum-change f blocks number before after d h e = ap (λ b. sum_by f (set blocks number after) + f b) (sym e) ∙ sum_by-set f blocks number after d h
