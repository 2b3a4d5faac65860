-- What contracts see of a loan: its number, the bytes and how many views are out.
use Rattle.std.specs.Prelude.{ℕ, List}
use denote.Ref.{MutBor}

-- a sealed block: the number of its loan, the bytes that are lent, how many views are out, and the
-- borrowed block that comes back
pub record LentBlock : Type 0 where
  pub loan : ℕ
  pub bytes : List ℕ
  pub out : ℕ
  pub block : MutBor (List ℕ)

-- what a view shows: the number of its loan, and the bytes that are lent
pub record LentBytes : Type 0 where
  pub loan : ℕ
  pub bytes : List ℕ
