-- What a bag shows of a pipe.
use Rattle.std.specs.Prelude.{ℕ, List, Option}
use Rattle.std.specs.Option.{option_map}
use Rattle.lend_block.specs.Loan.{LentBytes}
use Rattle.buf_desc.specs.Held.{Holding, view_at}

-- the bytes that the bag shows of the pipe's last message
abbrev pub bytes_seen : Holding LentBytes → ℕ → Option (List ℕ)
bytes_seen bag pipe = option_map (λ view. view.bytes) (view_at bag pipe)
