-- The bytes of the blocks that are out are those of the tables' blocks.
use Rattle.std.proofs.Common.{◌≡◌, ℕ, zero, suc, ◌+◌, ◌*◌, ◌<◌, ◌≤◌, ◌&&◌, Bool, true, false, cond, eqb, leb, Option, Some, None, List, [], ◌∷◌, length, get_or, map, refl, ap, sym, ◌∙◌, arith}
use Rattle.std.specs.Option.{option_map_or}
use Rattle.std.proofs.lemmas.Bool.Decides.{nat_tests}
use Rattle.std.proofs.lemmas.List.{get_or-map}
use Rattle.std.proofs.lemmas.List.Quantifiers.{position-Some}
use Rattle.std.proofs.lemmas.List.Sums.{sum_by-cons}
use Rattle.fsw_base.specs.Blocks.{are_block_sizes, are_rising_from, class_of}
use Rattle.fsw_base.specs.Limits.{Limits}
use Rattle.es_pool.specs.declared.blocks.CutBlock.{CutBlock}
use Rattle.es_pool.specs.Pool.{PoolState, in_use_by, out_in}
use Rattle.es_pool.specs.Account.{IsAccountOf}
use Rattle.tbl_words.proofs.Accounts.{in_range, at_least, rise_of}
use Rattle.tbl_words.specs.Tables.{Table, State, block_size, blocks_for, blocks_out, bytes_in_use, account_of}

-- Each size as often as its class is told. --

abbrev weigh : List ℕ → (ℕ → ℕ) → ℕ
weigh [] f = 0
weigh (size ∷ sizes) f = size * f 0 + weigh sizes (λ class. f (suc class))

weigh_alike : (sizes : List ℕ) (f g : ℕ → ℕ) → ((class : ℕ) → class < length sizes → f class ≡ g class) → weigh sizes f ≡ weigh sizes g
weigh_alike [] f g same = refl
weigh_alike (size ∷ sizes) f g same =
    ap (λ n. size * n + weigh sizes (λ class. f (suc class))) (same 0 (omega arith))
    ∙ ap (λ n. size * g 0 + n) (weigh_alike sizes (λ class. f (suc class)) (λ class. g (suc class)) (λ class within. same (suc class) (omega (arith, within))))

spread : (a b c d e : ℕ) → a * (b + c) + (d + e) ≡ a * b + d + (a * c + e)
spread a b c d e = omega arith

weigh_both : (sizes : List ℕ) (f g : ℕ → ℕ) → weigh sizes (λ class. f class + g class) ≡ weigh sizes f + weigh sizes g
weigh_both [] f g = refl
weigh_both (size ∷ sizes) f g =
    ap (λ n. size * (f 0 + g 0) + n) (weigh_both sizes (λ class. f (suc class)) (λ class. g (suc class)))
    ∙ spread size (f 0) (g 0) (weigh sizes (λ class. f (suc class))) (weigh sizes (λ class. g (suc class)))

times-zero : (n m : ℕ) → m ≡ 0 → n * 0 + m ≡ 0
times-zero n m none = omega (arith, none)

zero-times : (n m : ℕ) → m ≡ 0 → 0 * n + m ≡ 0
zero-times n m none = omega (arith, none)

weigh_none : (sizes : List ℕ) → weigh sizes (λ class. 0) ≡ 0
weigh_none [] = refl
weigh_none (size ∷ sizes) = times-zero size (weigh sizes (λ class. 0)) (weigh_none sizes)

-- Of blocks. --

one_block : (sizes : List ℕ) (class : ℕ) (out : Bool) → class < length sizes → weigh sizes (λ c. cond {A = ℕ} (eqb class c && out) 1 0) ≡ cond {A = ℕ} out (get_or sizes class 0) 0
one_block [] class out within = absurd (omega (arith, within))
one_block (size ∷ sizes) zero out within =
    ap (λ n. size * cond {A = ℕ} out 1 0 + n) (weigh_alike sizes (λ c. cond {A = ℕ} (eqb 0 (suc c) && out) 1 0) (λ c. 0) (λ c less. ap (λ b. cond {A = ℕ} (b && out) 1 0) (not_zero c)))
    ∙ first out
  where
    not_zero : (n : ℕ) → eqb 0 (suc n) ≡ false
    not_zero n = grind (arith, nat_tests)

    once : (n m : ℕ) → m ≡ 0 → n * 1 + m ≡ n
    once n m none = omega (arith, none)

    first : (b : Bool) → size * cond {A = ℕ} b 1 0 + weigh sizes (λ class. 0) ≡ cond {A = ℕ} b size 0
    first true = once size (weigh sizes (λ class. 0)) (weigh_none sizes)
    first false = times-zero size (weigh sizes (λ class. 0)) (weigh_none sizes)
one_block (size ∷ sizes) (suc class) out within =
    ap (λ b. size * cond {A = ℕ} (b && out) 1 0 + weigh sizes (λ c. cond {A = ℕ} (eqb (suc class) (suc c) && out) 1 0)) (not_first class)
    ∙ ap (λ n. size * 0 + n) (weigh_alike sizes (λ c. cond {A = ℕ} (eqb (suc class) (suc c) && out) 1 0) (λ c. cond {A = ℕ} (eqb class c && out) 1 0) (λ c less. ap (λ b. cond {A = ℕ} (b && out) 1 0) (both_behind class c)))
    ∙ behind size _ _ (one_block sizes class out (omega (arith, within)))
  where
    behind : (n m k : ℕ) → m ≡ k → n * 0 + m ≡ k
    behind n m k is = omega (arith, is)

    not_first : (n : ℕ) → eqb (suc n) 0 ≡ false
    not_first n = grind (arith, nat_tests)

    both_behind : (n m : ℕ) → eqb (suc n) (suc m) ≡ eqb n m
    both_behind n m = grind (arith, nat_tests)

-- what is out, class by class
in_use_weighed : (sizes : List ℕ) (blocks : List CutBlock) → ((number : ℕ) → number < length blocks → (get_or blocks number (record { class = 0; out = true })).class < length sizes) →
    in_use_by sizes blocks ≡ weigh sizes (out_in blocks)
in_use_weighed sizes [] inside = sym (weigh_none sizes)
in_use_weighed sizes (b ∷ blocks) inside =
    sum_by-cons (λ (x : CutBlock). cond {A = ℕ} x.out (get_or sizes x.class 0) 0) b blocks
    ∙ ap (λ n. n + in_use_by sizes blocks) (sym (one_block sizes b.class b.out (inside 0 (omega arith))))
    ∙ ap (λ n. weigh sizes (λ c. cond {A = ℕ} (eqb b.class c && b.out) 1 0) + n) (in_use_weighed sizes blocks (λ number within. inside (suc number) (omega (arith, within))))
    ∙ sym (weigh_both sizes (λ c. cond {A = ℕ} (eqb b.class c && b.out) 1 0) (out_in blocks))
    ∙ weigh_alike sizes (λ c. cond {A = ℕ} (eqb b.class c && b.out) 1 0 + out_in blocks c) (out_in (b ∷ blocks)) (λ c within. sym (sum_by-cons (λ (x : CutBlock). cond {A = ℕ} (eqb x.class c && x.out) 1 0) b blocks))

-- Of tables. --

unlike : (x size : ℕ) → x < size → eqb x size ≡ false
unlike x size less = grind (arith, nat_tests)

-- a size below all of them is none of them
below_all : (sizes : List ℕ) (least x n : ℕ) → are_rising_from least sizes ≡ true → x < least → weigh sizes (λ class. cond {A = ℕ} (eqb x (get_or sizes class 0)) n 0) ≡ 0
below_all [] least x n rise less = refl
below_all (size ∷ sizes) least x n rise less =
    let here = in_range least size _ _ _ rise in
    ap (λ b. size * cond {A = ℕ} b n 0 + weigh sizes (λ class. cond {A = ℕ} (eqb x (get_or sizes class 0)) n 0)) (unlike x size (omega (arith, less, here.0)))
    ∙ times-zero size _ (below_all sizes (size + 1) x n here.1 (omega (arith, less, here.0)))

-- the blocks of a size that is one of them
one_size : (sizes : List ℕ) (least class n : ℕ) → are_rising_from least sizes ≡ true → class < length sizes →
    weigh sizes (λ c. cond {A = ℕ} (eqb (get_or sizes class 0) (get_or sizes c 0)) n 0) ≡ get_or sizes class 0 * n
one_size [] least class n rise within = absurd (omega (arith, within))
one_size (size ∷ sizes) least zero n rise within =
    let here = in_range least size _ _ _ rise in
    ap (λ b. size * cond {A = ℕ} b n 0 + weigh sizes (λ c. cond {A = ℕ} (eqb size (get_or sizes c 0)) n 0)) (alike size)
    ∙ alone (size * n) _ (below_all sizes (size + 1) size n here.1 (omega arith))
  where
    alike : (m : ℕ) → eqb m m ≡ true
    alike m = grind (arith, nat_tests)

    alone : (m k : ℕ) → k ≡ 0 → m + k ≡ m
    alone m k none = omega (arith, none)
one_size (size ∷ sizes) least (suc class) n rise within =
    let here = in_range least size _ _ _ rise in
    ap (λ b. size * cond {A = ℕ} b n 0 + weigh sizes (λ c. cond {A = ℕ} (eqb (get_or sizes class 0) (get_or sizes c 0)) n 0)) (above (get_or sizes class 0) (at_least sizes (size + 1) class here.1 (omega (arith, within))))
    ∙ behind size _ _ (one_size sizes (size + 1) class n here.1 (omega (arith, within)))
  where
    above : (x : ℕ) → size + 1 ≤ x → eqb x size ≡ false
    above x more = grind (arith, nat_tests)

    behind : (n m k : ℕ) → m ≡ k → n * 0 + m ≡ k
    behind n m k is = omega (arith, is)

-- the blocks of one table
one_table : (sizes : List ℕ) (size n : ℕ) → are_rising_from 0 sizes ≡ true → weigh sizes (λ c. cond {A = ℕ} (eqb (block_size sizes size) (get_or sizes c 0)) n 0) ≡ block_size sizes size * n
one_table sizes size n rise = by_class (class_of size sizes) refl
  where
    free : (xs : List ℕ) → weigh xs (λ c. cond {A = ℕ} (eqb 0 (get_or xs c 0)) n 0) ≡ 0
    free [] = refl
    free (x ∷ xs) = first x _ (free xs)
      where
        first : (y m : ℕ) → m ≡ 0 → y * cond {A = ℕ} (eqb 0 y) n 0 + m ≡ 0
        first zero m none = zero-times _ m none
        first (suc y) m none = ap (λ b. suc y * cond {A = ℕ} b n 0 + m) (unlike 0 (suc y) (omega arith)) ∙ times-zero (suc y) m none

    none : 0 ≡ 0 * n
    none = omega arith

    by_class : (o : Option ℕ) → class_of size sizes ≡ o →
        weigh sizes (λ c. cond {A = ℕ} (eqb (option_map_or (λ class. get_or sizes class 0) o 0) (get_or sizes c 0)) n 0) ≡ option_map_or (λ class. get_or sizes class 0) o 0 * n
    by_class None is = free sizes ∙ none
    by_class (Some class) is = one_size sizes 0 class n rise ((position-Some (λ block. leb size block) sizes class 0 is).0)

tables_weighed : (sizes : List ℕ) (tables : List Table) → are_rising_from 0 sizes ≡ true → bytes_in_use sizes tables ≡ weigh sizes (λ c. blocks_out sizes tables (get_or sizes c 0))
tables_weighed sizes [] rise = sym (weigh_none sizes)
tables_weighed sizes (t ∷ tables) rise =
    sum_by-cons (λ (x : Table). block_size sizes x.size * blocks_for x.option) t tables
    ∙ ap (λ n. n + bytes_in_use sizes tables) (sym (one_table sizes t.size (blocks_for t.option) rise))
    ∙ ap (λ n. weigh sizes (λ c. cond {A = ℕ} (eqb (block_size sizes t.size) (get_or sizes c 0)) (blocks_for t.option) 0) + n) (tables_weighed sizes tables rise)
    ∙ sym (weigh_both sizes (λ c. cond {A = ℕ} (eqb (block_size sizes t.size) (get_or sizes c 0)) (blocks_for t.option) 0) (λ c. blocks_out sizes tables (get_or sizes c 0)))
    ∙ weigh_alike sizes _ _ (λ c within. sym (sum_by-cons (λ (x : Table). cond {A = ℕ} (eqb (block_size sizes x.size) (get_or sizes c 0)) (blocks_for x.option) 0) t tables))

-- By the account. --

pub in_use_is : (limits : Limits) (s : State) (pool : PoolState) → are_block_sizes limits.sizes ≡ true → IsAccountOf pool (account_of limits s) →
    in_use_by pool.sizes pool.blocks ≡ bytes_in_use limits.sizes s.tables
in_use_is limits s pool fit account =
    let sizes = limits.sizes in
    let same : sizes ≡ pool.sizes = account.sizes in
    let rise = rise_of (leb 1 (length sizes)) (leb (length sizes) 17) (are_rising_from 0 sizes) fit in
    in_use_weighed pool.sizes pool.blocks account.classes
    ∙ weigh_alike pool.sizes (out_in pool.blocks) (λ c. get_or (map (blocks_out sizes s.tables) sizes) c 0) (λ c within. sym (account.out c within))
    ∙ ap (λ xs. weigh xs (λ c. get_or (map (blocks_out sizes s.tables) sizes) c 0)) (sym same)
    ∙ weigh_alike sizes (λ c. get_or (map (blocks_out sizes s.tables) sizes) c 0) (λ c. blocks_out sizes s.tables (get_or sizes c 0)) (λ c within. get_or-map (blocks_out sizes s.tables) sizes c 0 0 within)
    ∙ sym (tables_weighed sizes s.tables rise)
