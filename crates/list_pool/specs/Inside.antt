-- What the fields of the pools stand for.
use Rattle.std.specs.Prelude.{◌≡◌, ℕ, ◌-◌, ◌<◌, ◌≤◌, ◌&&◌, nat_le, true, length, IsTrue}
use Rattle.fsw_base.specs.Blocks.{are_block_sizes}
use Rattle.fsw_base.specs.PoolAccounts.{Account}
use Rattle.fsw_base.specs.Grants.{PoolGrants, Pools}
use Rattle.list_pool.specs.declared.account.ListAccount.TheInside as account
use Rattle.list_pool.specs.declared.grants.GrantPool.TheInside as grants
use Rattle.list_pool.specs.declared.pools.GrantPools.TheInside as pools

-- what an account is
abbrev pub account_of : account.Inside → Account
account_of a = record {
  bytes = a.bytes;
  sizes = a.sizes;
  made = a.made.items;
  out = a.out.items;
  requests = a.requests;
  errors = a.errors;
}

-- each block size has its two numbers
pub record HasAllNumbers (a : account.Inside) : Type 0 where
  pub fit : IsTrue (are_block_sizes a.sizes)
  pub made : length a.made.items ≡ length a.sizes
  pub out : length a.out.items ≡ length a.sizes

-- what a pool is
abbrev pub pool_of : grants.Inside → PoolGrants
pool_of p = record {
  bytes = p.bytes;
  sizes = p.sizes;
  made = p.made.items;
  requests = p.requests;
  errors = p.errors;
  given = p.given;
  out = p.out.items;
}

-- each of its block sizes has the number of blocks made
abbrev pub HasMadeOfAll : grants.Inside → Type 0
HasMadeOfAll p = length p.made.items ≡ length p.sizes

-- what the pools are
abbrev pub pools_of : pools.Inside → Pools
pools_of p = record { most = p.most; sizes = p.sizes; pools = p.pools.items }

-- no more pools were created than there may be
abbrev pub AreFew : pools.Inside → Type 0
AreFew p = length p.pools.items ≤ 8

-- where the pool of a number stands, of so many
pub record IsPlace (count pool place : ℕ) : Type 0 where
  pub there : (nat_le 1 pool && nat_le pool count) ≡ true
  pub before : place ≡ pool - 1
  pub within : place < count
