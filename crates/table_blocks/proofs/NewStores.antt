-- A store of which no table was opened.
use Rattle.std.proofs.Common.{◌≡◌, ℕ, zero, suc, replicate, None, refl}
use Rattle.table_blocks.specs.Contents.{kept_at}
use Rattle.table_blocks.specs.Blocks.{buffers_taken}

-- no key has a table
pub none_kept : (keys key : ℕ) → kept_at (replicate keys None) key ≡ None
none_kept zero key = refl
none_kept (suc keys) zero = refl
none_kept (suc keys) (suc key) = none_kept keys key

-- and no table has a working buffer
pub none_taken : (keys : ℕ) → buffers_taken (replicate keys None) ≡ 0
none_taken zero = refl
none_taken (suc keys) = none_taken keys
