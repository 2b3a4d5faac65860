-- What lies in the memory of a table: a version that is lent, or a value that is staged.
use Rattle.std.specs.Prelude.{ℕ, Bool, List}

-- a version in a sealed block: the number of the block's loan, the bytes, how many views of them
-- are out, and the bytes of the whole block
pub record LentVersion : Type 0 where
  pub loan : ℕ
  pub bytes : List ℕ
  pub views : ℕ
  pub whole : ℕ

-- a staged value: its bytes, whether it was validated, and the bytes of the whole memory that it
-- lies in
pub record StagedValue : Type 0 where
  pub bytes : List ℕ
  pub validated : Bool
  pub whole : ℕ
