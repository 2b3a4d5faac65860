-- A list of receipts, and how many more it has room for.
use Rattle.std.specs.Prelude.{ℕ, List}
use Rattle.bus_words.specs.declared.receipts.Receipt.{Receipt}

pub record Receipts : Type 0 where
  pub receipts : List Receipt
  pub room : ℕ
