-- A pool and its account, kept beside it on paper.
use Rattle.std.specs.Prelude.{◌≡◌, ℕ, ◌<◌, true, length, slice_index, slice_index_or}
use Rattle.fsw_base.specs.PoolAccounts.{Account}
use Rattle.es_pool.specs.Pool.{PoolState, made_in, out_in}

-- an account is that of a pool
pub record IsAccountOf (pool : PoolState) (account : Account) : Type 0 where
  pub bytes : account.bytes ≡ pool.bytes
  pub sizes : account.sizes ≡ pool.sizes
  pub made_all : length account.made ≡ length pool.sizes
  pub out_all : length account.out ≡ length pool.sizes
  pub made : (class : ℕ) → class < length pool.sizes →
      slice_index account.made class ≡ made_in pool.blocks class
  pub out : (class : ℕ) → class < length pool.sizes →
      slice_index account.out class ≡ out_in pool.blocks class
  pub classes : (number : ℕ) → number < length pool.blocks →
      (slice_index_or pool.blocks number (record { class = 0; out = true })).class <
      length pool.sizes
  pub requests : account.requests ≡ pool.requests
  pub errors : account.errors ≡ pool.errors
