-- Writing into a bag's buffers.
use Rattle.std.specs.Prelude.{◌≡◌, ℕ, length}
use Rattle.std.specs.Option.{option_map}
use Rattle.lend_block.specs.Loan.{LentBytes}
use Rattle.buf_desc.specs.Held.{Holding, buffer_at}
use Rattle.bus_messages.specs.Bag.{shape_of}
use Rattle.script_runs.specs.Written.{Written}
use Rattle.app_calls.specs.Callers.{written_in}

-- Bytes were written into the bag's buffers, which have these now. Their blocks are what they were,
-- and so is all else.
pub record WritesBag (old new : Holding LentBytes) (left : Written) : Type 0 where
  pub written : (number : ℕ) → written_in new number ≡ left number
  pub shapes : (number : ℕ) →
      option_map shape_of (buffer_at new number) ≡ option_map shape_of (buffer_at old number)
  pub count : length new.buffers ≡ length old.buffers
  pub rest : new ≡ record old { buffers = new.buffers }
