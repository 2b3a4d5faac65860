-- What waits in a pipe of a software bus, as a caller sees it (cFE Software Bus, pipes).
use Rattle.std.specs.Prelude.{ℕ, List, Option}
use Rattle.pipe_queue.specs.declared.item.Item.{Item}

-- The greatest depth that there is room for, how many items may wait at once (the pipe's depth; 0
-- before the first start), those that wait, oldest first, and the one received last, if there is
-- one.
pub record Queued : Type 0 where
  pub room : ℕ
  pub depth : ℕ
  pub queue : List Item
  pub last : Option Item
