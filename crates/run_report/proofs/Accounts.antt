-- What a pool shows, in the words of its account, and what one more of its block sizes adds.
use Rattle.std.proofs.Common.{◌≡◌, ℕ, zero, suc, ◌+◌, ◌-◌, ◌<◌, ◌==◌, true, false, if◌then◌else◌, List, [], ◌∷◌, ◌++◌, length, slice_index, codes, decimal, refl, ap, sym, ◌∙◌, arith, add-one, append-nil}
use Rattle.std.specs.List.{flat_map, range_with_len}
use Rattle.std.proofs.lemmas.Bool.Decides.{nat_tests}
use Rattle.std.proofs.lemmas.Grind.{flat_map-append}
use Rattle.std.proofs.lemmas.List.FromFn.{fill_by_all, get_or-map-range_with_len, length-map-range_with_len}
use Rattle.fsw_base.specs.PoolAccounts.{Account, cost_of}
use Rattle.fsw_base.specs.declared.config.PoolStats.{PoolStats}
use Rattle.es_pool.specs.declared.blocks.ClassStats.{ClassStats}
use Rattle.es_pool.specs.Account.{IsAccountOf}
use Rattle.es_pool.specs.Pool.{PoolState, IsWhole, free_in, made_in, out_in, rest_of}
use Rattle.run_report.specs.declared.pools.PoolName.{PoolName}
use Rattle.run_report.specs.CounterText.{account_read, class_in, figures_in, field_text, class_head, class_text}
use Rattle.es_pool.proofs.Law.{rest_alike}
use Rattle.es_pool.proofs.Totals.{made-split}

-- what the account read off a pool says of a block size
read-made : (pool : PoolState) (class : ℕ) → class < length pool.sizes → slice_index (account_read pool).made class ≡ made_in pool.blocks class
read-made pool class there = get_or-map-range_with_len (made_in pool.blocks) 0 (length pool.sizes) class class 0 there (omega arith)

read-out : (pool : PoolState) (class : ℕ) → class < length pool.sizes → slice_index (account_read pool).out class ≡ out_in pool.blocks class
read-out pool class there = get_or-map-range_with_len (out_in pool.blocks) 0 (length pool.sizes) class class 0 there (omega arith)

-- it is the pool's
is_account : (pool : PoolState) → IsWhole pool → IsAccountOf pool (account_read pool)
is_account pool whole = record {
  bytes = refl;
  sizes = refl;
  made_all = length-map-range_with_len (made_in pool.blocks) 0 (length pool.sizes);
  out_all = length-map-range_with_len (out_in pool.blocks) 0 (length pool.sizes);
  made = read-made pool;
  out = read-out pool;
  classes = whole.classes;
  requests = refl;
  errors = refl;
}

abbrev the_account : ℕ → List ℕ → List ℕ → List ℕ → ℕ → ℕ → Account
the_account bytes sizes made out requests errors =
    record { bytes = bytes; sizes = sizes; made = made; out = out; requests = requests; errors = errors }

-- a pool has one account
pub one_account : (pool : PoolState) (account : Account) → IsAccountOf pool account → account ≡ account_read pool
one_account pool account is =
    let made = fill_by_all (made_in pool.blocks) account.made (length pool.sizes) 0 is.made_all is.made in
    let out = fill_by_all (out_in pool.blocks) account.out (length pool.sizes) 0 is.out_all is.out in
    let now = account_read pool in
    ap (λ n. the_account n account.sizes account.made account.out account.requests account.errors) is.bytes
    ∙ ap (λ l. the_account now.bytes l account.made account.out account.requests account.errors) is.sizes
    ∙ ap (λ l. the_account now.bytes now.sizes l account.out account.requests account.errors) made
    ∙ ap (λ l. the_account now.bytes now.sizes now.made l account.requests account.errors) out
    ∙ ap (λ n. the_account now.bytes now.sizes now.made now.out n account.errors) is.requests
    ∙ ap (λ n. the_account now.bytes now.sizes now.made now.out now.requests n) is.errors

-- the bytes never cut
rest-read : (pool : PoolState) → IsWhole pool → rest_of pool ≡ pool.bytes - cost_of (account_read pool).made pool.sizes
rest-read pool whole = ap (λ used. pool.bytes - used) (sym (rest_alike pool (account_read pool) (is_account pool whole)))

-- the blocks of a size that were cut, and those that are free
made-read : (pool : PoolState) (class : ℕ) → class < length pool.sizes → made_in pool.blocks class ≡ slice_index (account_read pool).made class
made-read pool class there = sym (read-made pool class there)

free-read : (pool : PoolState) (class : ℕ) → class < length pool.sizes →
    free_in pool.blocks class ≡ slice_index (account_read pool).made class - slice_index (account_read pool).out class
free-read pool class there = omega (arith, made-split pool.blocks class, read-made pool class there, read-out pool class there)

-- what a pool tells is what its account says
pub figures-read : (pool : PoolState) (figures : PoolStats) → IsWhole pool →
    figures ≡ record { size = pool.bytes; requests = pool.requests; errors = pool.errors; free = rest_of pool } → figures ≡ figures_in (account_read pool)
figures-read pool figures whole is =
    is ∙ ap (λ (n : ℕ). record { size = pool.bytes; requests = pool.requests; errors = pool.errors; free = n }) (rest-read pool whole)

pub class-read : (pool : PoolState) (class : ℕ) (figures : ClassStats) → class < length pool.sizes →
    figures ≡ record { size = slice_index pool.sizes class; made = made_in pool.blocks class; free = free_in pool.blocks class } →
    figures ≡ class_in (account_read pool) class
class-read pool class figures there is =
    is
    ∙ ap (λ (n : ℕ). record { size = slice_index pool.sizes class; made = n; free = free_in pool.blocks class }) (made-read pool class there)
    ∙ ap (λ (n : ℕ). record { size = slice_index pool.sizes class; made = slice_index (account_read pool).made class; free = n }) (free-read pool class there)

-- one number more
range-more : (a n m : ℕ) → a + n ≡ m → range_with_len a (suc n) ≡ range_with_len a n ++ m ∷ []
range-more a zero m last = let same : a ≡ m = omega (arith, last) in ap (λ k. k ∷ []) same
range-more a (suc n) m last = ap (λ l. a ∷ l) (range-more (a + 1) n m (omega (arith, last)))

-- the texts of so many places, and of one more
pub flat_map-range : (f : ℕ → List ℕ) (n : ℕ) → flat_map f (range_with_len 0 n) ++ f n ≡ flat_map f (range_with_len 0 (n + 1))
flat_map-range f n =
    ap (λ l. flat_map f (range_with_len 0 n) ++ l) (sym (append-nil (f n))) ∙ sym (flat_map-append f (range_with_len 0 n) (n ∷ [])) ∙ ap (flat_map f) (sym (range-more 0 n n (omega arith)) ∙ ap (range_with_len 0) (sym (add-one n)))

-- a block size of which some blocks were cut, and one of which none was
pub class-cut : (name : PoolName) (account : Account) (class : ℕ) → (slice_index account.made class ≡ 0 → ⊥) →
    class_text name account class
    ≡ class_head name ++ codes " " ++ decimal (slice_index account.sizes class) ++ field_text (codes "made") (slice_index account.made class)
    ++ field_text (codes "free") (slice_index account.made class - slice_index account.out class) ++ codes "\n"
class-cut name account class some =
    let not_none : (slice_index account.made class == 0) ≡ false = grind (arith, nat_tests) in
    ap (λ b. if b then [] else
    (class_head name ++ codes " " ++ decimal (slice_index account.sizes class) ++ field_text (codes "made") (slice_index account.made class)
    ++ field_text (codes "free") (slice_index account.made class - slice_index account.out class) ++ codes "\n")) not_none

pub class-uncut : (name : PoolName) (account : Account) (class : ℕ) → slice_index account.made class ≡ 0 → class_text name account class ≡ []
class-uncut name account class none =
    let is_none : (slice_index account.made class == 0) ≡ true = grind (arith, nat_tests) in
    ap (λ b. if b then [] else
    (class_head name ++ codes " " ++ decimal (slice_index account.sizes class) ++ field_text (codes "made") (slice_index account.made class)
    ++ field_text (codes "free") (slice_index account.made class - slice_index account.out class) ++ codes "\n")) is_none
