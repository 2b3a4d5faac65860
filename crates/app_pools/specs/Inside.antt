-- What the fields of the pools stand for.
use Rattle.std.specs.Prelude.{◌≡◌, ◌≢◌, ◌⊎◌, ◌==◌, ℕ, ◌+◌, ◌-◌, ◌<◌, ◌≤◌, true, not, List, [], ◌++◌, map, filter, take, drop, length, slice_index_or, All}
use Rattle.std.specs.List.{range_with_len, AllPairs}
use Rattle.fsw_base.specs.PoolAccounts.{Account}
use Rattle.es_pool.specs.Account.{IsAccountOf}
use Rattle.es_pool.specs.Pool.{PoolState, made_in, out_among, is_out, class_at, most_cut}
use Rattle.fsw_base.specs.Grants.{Grant, PoolGrants, Pools, new_pool, is_pool, pool_account, blocks_out, held_by, IsNumbered}
use Rattle.app_pools.specs.declared.pool.Lent.{Lent}

-- a grant, without its block
abbrev pub grant_of : Lent → Grant
grant_of lent = record { number = lent.number; app = lent.app; class = lent.class }

-- what a pool is
abbrev pub grants_of : PoolState → ℕ → List Lent → PoolGrants
grants_of pool given lent = record {
  bytes = pool.bytes;
  sizes = pool.sizes;
  made = map (made_in pool.blocks) (range_with_len 0 (length pool.sizes));
  requests = pool.requests;
  errors = pool.errors;
  given = given;
  out = map grant_of lent;
}

-- the account of a pool with these grants, in which nothing depends on how many were given
abbrev pub account_in : PoolState → List Lent → Account
account_in pool lent = pool_account (grants_of pool 0 lent)

-- a grant's block is out and of the grant's class
abbrev pub IsLent : PoolState → Lent → Type 0
IsLent pool grant = (is_out pool grant.block ≡ true) × (class_at pool grant.block ≡ grant.class)

-- each grant's block is, and no two have one block
pub record AreLent (pool : PoolState) (lent : List Lent) : Type 0 where
  pub each : All (IsLent pool) lent
  pub apart : AllPairs (λ earlier later. earlier.block ≢ later.block) lent

-- the numbers rise
abbrev pub AreRising : List Lent → Type 0
AreRising lent = AllPairs (λ earlier later. earlier.number < later.number) lent

-- the grant at a place has the number
abbrev pub HasNumber : List Lent → ℕ → ℕ → Type 0
HasNumber lent number i =
    (i < length lent) × ((d : Lent) → (slice_index_or lent i d).number ≡ number)

-- the numbers rise, and all of them were given
pub record AreNumbered (lent : List Lent) (given : ℕ) : Type 0 where
  pub rising : AreRising lent
  pub given_all : All (λ grant. (1 ≤ grant.number) × (grant.number ≤ given)) lent

-- the grants that are out once the first so many were visited: of these, those of the application
-- came back
abbrev pub left_after : ℕ → ℕ → List Lent → List Lent
left_after app count lent =
    filter (λ grant. not (grant.app == app)) (take count lent) ++ drop count lent

-- the blocks of the first grants of an application are given back: those of its later grants and of
-- all others' are out
pub record AreGivenBack (old new : PoolState) (lent : List Lent) (app count : ℕ) : Type 0 where
  pub account : IsAccountOf new
      (record (account_in old lent)
      { out = blocks_out old.sizes (map grant_of (left_after app count lent)) })
  pub held : (i : ℕ) (d : Lent) → i < length lent → count ≤ i ⊎
      (slice_index_or lent i d).app ≢ app → IsLent new (slice_index_or lent i d)
  pub cut : length new.blocks ≡ length old.blocks
  pub sizes : new.sizes ≡ old.sizes
  pub most : new.most ≡ old.most
  pub fewer : out_among new.blocks + held_by app (map grant_of lent) ≡ out_among old.blocks +
      held_by app (map grant_of (drop count lent))

-- the blocks that are out are those of the grants, as many of each class, and there is room for as
-- many grants as blocks can ever be cut
pub record AreKept (pool : PoolState) (given : ℕ) (lent : List Lent) (room : ℕ) : Type 0 where
  pub account : IsAccountOf pool (account_in pool lent)
  pub blocks : AreLent pool lent
  pub numbered : AreNumbered lent given
  pub all : length lent ≡ out_among pool.blocks
  pub cut : length pool.blocks ≤ given
  pub enough : most_cut pool ≤ room

-- the pools that were created, of all those that there is room for
abbrev pub pools_in : ℕ → List ℕ → ℕ → List PoolGrants → Pools
pools_in most sizes made places = record { most = most; sizes = sizes; pools = take made places }

-- there is room for eight pools, all that weren't created are as at opening, and of each the grants
-- that are out stand in order of number
pub record AreOpened (most : ℕ) (sizes : List ℕ) (made : ℕ)
    (places : List PoolGrants) : Type 0 where
  pub eight : length places ≡ 8
  pub within : made ≤ 8
  pub unused : (i : ℕ) → made ≤ i → i < 8 →
      slice_index_or places i (new_pool [] 0) ≡ new_pool sizes most
  pub numbered : All IsNumbered places

-- where the pool of a number stands
pub record IsPlace (s : Pools) (pool place : ℕ) : Type 0 where
  pub there : is_pool s pool ≡ true
  pub before : place ≡ pool - 1
  pub within : place < length s.pools
