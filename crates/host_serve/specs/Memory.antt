-- What contracts see of the program's memory.
use Rattle.std.specs.Prelude.{Bool}

-- Whether the last request for memory was refused.
pub record Requests : Type 0 where
  pub refused : Bool
