-- What each call keeps of the pools: their limits, that their grants are numbered, and that no pool gave more than one more.
use Rattle.std.proofs.Common.{◌≡◌, ℕ, ◌+◌, ◌-◌, ◌<◌, ◌≤◌, ◌||◌, Bool, true, false, not, cond, leb, Option, Some, None, List, [], ◌∷◌, ◌++◌, length, get_or, set, refl, sym, arith}
use Rattle.std.specs.List.{All}
use Rattle.std.proofs.lemmas.Bool.{false≢true, leb-false}
use Rattle.std.proofs.lemmas.Bool.Decides.{nat_tests}
use Rattle.std.proofs.lemmas.List.{length-set, length-map, length_push}
use Rattle.std.proofs.lemmas.List.Elements.{All-get_or, All-set, All-push, All-map, All-weaker}
use Rattle.fsw_base.specs.Blocks.{class_of}
use Rattle.fsw_base.specs.PoolAccounts.{overhead, counted, has_room_for}
use Rattle.fsw_base.specs.Grants.{PoolGrants, Pools, new_pool, is_among, without, with_grant, pool_account, after_get_if, after_get, after_put, after_end, is_pool, pool_in, with_pool, refuses_pool, after_create, all_after_end, IsNumbered}
use Rattle.fsw_base.proofs.GrantNumbers.{numbered_new, numbered_get, numbered_put, numbered_end}

-- one call more
pub record Follow (s next : Pools) : Type 0 where
  pub most : next.most ≡ s.most
  pub sizes : next.sizes ≡ s.sizes
  pub few : length s.pools ≤ 8 → length next.pools ≤ 8
  pub numbered : All IsNumbered s.pools → All IsNumbered next.pools
  pub given : (n : ℕ) → All (λ pool. pool.given ≤ n) s.pools → All (λ pool. pool.given ≤ n + 1) next.pools

one_more : (pools : List PoolGrants) (n : ℕ) → All (λ pool. pool.given ≤ n) pools → All (λ pool. pool.given ≤ n + 1) pools
one_more pools n all = All-weaker (λ pool. pool.given ≤ n) (λ pool. pool.given ≤ n + 1) (λ pool h. omega (arith, h)) pools all

pub follows_same : (s : Pools) → Follow s s
follows_same s = record { most = refl; sizes = refl; few = λ h. h; numbered = λ all. all; given = one_more s.pools }

-- Changes of one pool. --

within : (s : Pools) (pool : ℕ) → is_pool s pool ≡ true → pool - 1 < length s.pools
within s pool is = grind (arith, nat_tests, is)

follows_with : (s : Pools) (pool : ℕ) (after : PoolGrants) → (IsNumbered (pool_in s pool) → IsNumbered after) → after.given ≤ (pool_in s pool).given + 1 →
    Follow s (with_pool s pool after)
follows_with s pool after counts gives = by_pool (is_pool s pool) refl
  where
    there : is_pool s pool ≡ true → Follow s (record s { pools = set s.pools (pool - 1) after })
    there is = record {
      most = refl;
      sizes = refl;
      few = λ h. omega (arith, h, length-set s.pools (pool - 1) after);
      numbered = λ all. All-set IsNumbered s.pools (pool - 1) after (counts (All-get_or IsNumbered s.pools (pool - 1) (new_pool [] 0) (within s pool is) all)) all;
      given = λ n all.
          let here : (pool_in s pool).given ≤ n = All-get_or (λ (p : PoolGrants). p.given ≤ n) s.pools (pool - 1) (new_pool [] 0) (within s pool is) all in
          All-set (λ (p : PoolGrants). p.given ≤ n + 1) s.pools (pool - 1) after (omega (arith, here, gives)) (one_more s.pools n all);
    }

    by_pool : (b : Bool) → is_pool s pool ≡ b → Follow s (cond b (record s { pools = set s.pools (pool - 1) after }) s)
    by_pool true is = there is
    by_pool false is = follows_same s

given_get : (p : PoolGrants) (app size : ℕ) → (after_get p app size).given ≤ p.given + 1
given_get p app size = by_class (class_of size p.sizes)
  where
    by_room : (class : ℕ) (b : Bool) → (cond {A = PoolGrants} b (with_grant p app class) p).given ≤ p.given + 1
    by_room class true = omega arith
    by_room class false = omega arith

    by_class : (o : Option ℕ) → (after_get_if p app o).given ≤ p.given + 1
    by_class None = omega arith
    by_class (Some class) = by_room class (has_room_for (pool_account p) class 1)

given_put : (p : PoolGrants) (number : ℕ) → (after_put p number).given ≤ p.given + 1
given_put p number = by_out (is_among p.out number)
  where
    by_out : (b : Bool) →
        (cond {A = PoolGrants} b (record p { out = without number p.out }) (record p { errors = counted p.errors })).given
        ≤ p.given + 1
    by_out true = omega arith
    by_out false = omega arith

pub follows_get : (s : Pools) (pool app size : ℕ) → Follow s (with_pool s pool (after_get (pool_in s pool) app size))
follows_get s pool app size = follows_with s pool (after_get (pool_in s pool) app size) (numbered_get (pool_in s pool) app size) (given_get (pool_in s pool) app size)

pub follows_put : (s : Pools) (pool number : ℕ) → Follow s (with_pool s pool (after_put (pool_in s pool) number))
follows_put s pool number = follows_with s pool (after_put (pool_in s pool) number) (numbered_put (pool_in s pool) number) (given_put (pool_in s pool) number)

-- One pool more. --

few_pools : (many large small : Bool) → (many || large || small) ≡ false → many ≡ false
few_pools true large small is = absurd (false≢true (sym is))
few_pools false large small is = refl

pub follows_create : (s : Pools) (bytes : ℕ) → Follow s (after_create s bytes)
follows_create s bytes = by_refusal (refuses_pool s bytes) refl
  where
    more : refuses_pool s bytes ≡ false → Follow s (record s { pools = s.pools ++ new_pool s.sizes bytes ∷ [] })
    more is =
        let few = leb-false 8 (length s.pools) (few_pools (leb 8 (length s.pools)) (not (leb bytes s.most)) (not (leb (get_or s.sizes 0 0 + overhead) bytes)) is) in
        record {
          most = refl;
          sizes = refl;
          few = λ h. omega (arith, few, length_push s.pools (new_pool s.sizes bytes));
          numbered = λ all. All-push IsNumbered s.pools (new_pool s.sizes bytes) all (numbered_new s.sizes bytes);
          given = λ n all. All-push (λ (p : PoolGrants). p.given ≤ n + 1) s.pools (new_pool s.sizes bytes) (one_more s.pools n all) (omega arith);
        }

    by_refusal : (b : Bool) → refuses_pool s bytes ≡ b → Follow s (cond b s (record s { pools = s.pools ++ new_pool s.sizes bytes ∷ [] }))
    by_refusal true is = follows_same s
    by_refusal false is = more is

-- An end. --

pub follows_end : (s : Pools) (app : ℕ) → Follow s (all_after_end app s)
follows_end s app = record {
  most = refl;
  sizes = refl;
  few = λ h. omega (arith, h, length-map s.pools (after_end app));
  numbered = λ all. All-map IsNumbered (after_end app) s.pools (All-weaker IsNumbered (λ p. IsNumbered (after_end app p)) (numbered_end app) s.pools all);
  given = λ n all. All-map (λ (p : PoolGrants). p.given ≤ n + 1) (after_end app) s.pools (one_more s.pools n all);
}
