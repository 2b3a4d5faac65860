-- Blocks that are out, by block size.
use Rattle.std.proofs.Common.{◌≡◌, ℕ, List, length}
use Rattle.std.proofs.lemmas.List.FromFn.{length-map-range_with_len}
use Rattle.fsw_base.specs.Grants.{Grant, out_of, blocks_out}

-- each block size has its number
pub counts_long : (sizes : List ℕ) (out : List Grant) → length (blocks_out sizes out) ≡ length sizes
counts_long sizes out = length-map-range_with_len (λ class. out_of class out) 0 (length sizes)
