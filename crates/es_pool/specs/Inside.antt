-- What the fields of the pools stand for.
use Rattle.std.specs.Prelude.{◌≡◌, ◌<◌, ◌≤◌, length, vec_capacity}
use Rattle.fsw_base.specs.PoolAccounts.{Account, IsBalanced}
use Rattle.es_pool.specs.Pool.{PoolState, out_among}
use Rattle.es_pool.specs.Kept.{IsKept}
use Rattle.es_pool.specs.Places.{AreOffsetsOf}
use Rattle.es_pool.specs.declared.pool.Pool.TheInside as pool
use Rattle.es_pool.specs.declared.plain.PlainPool.TheInside as plain

-- what a pool is
abbrev pub state_of : pool.Inside → PoolState
state_of a =
    record {
      bytes = a.bytes;
      most = a.most;
      sizes = a.sizes;
      blocks = a.blocks.items;
      requests = a.requests;
      errors = a.errors;
    }

-- the count of the blocks that are out, the class drawn last, where the blocks lie, and all else
-- that a pool keeps beside its blocks
pub record AreKept (a : pool.Inside) : Type 0 where
  pub kept : IsKept (state_of a) a.rest a.in_use a.made.items a.free (vec_capacity a.blocks)
  pub out : a.out ≡ out_among a.blocks.items
  pub recent : a.recent < length a.sizes
  pub offsets : AreOffsetsOf (state_of a) a.offsets.items
  pub room : vec_capacity a.blocks ≤ vec_capacity a.offsets

-- what a plain pool is
abbrev pub account_of : plain.Inside → Account
account_of a =
    record {
      bytes = a.bytes;
      sizes = a.sizes;
      made = a.made.items;
      out = a.out.items;
      requests = a.requests;
      errors = a.errors;
    }

abbrev pub AreBalanced : plain.Inside → Type 0
AreBalanced a = IsBalanced (account_of a)
