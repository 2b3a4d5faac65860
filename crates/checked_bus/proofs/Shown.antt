-- What an application's view of a pipe shows.
use Rattle.std.proofs.Common.{◌≡◌, ℕ, Bool, true, false, cond, List, Option, Some, None, refl}
use Rattle.std.specs.Option.{option_map}
use Rattle.lend_block.specs.Loan.{LentBytes}
use Rattle.bus_words.specs.Bus.{Item, owns}
use Rattle.bus_words.specs.Pipes.{last_on}
use Rattle.bus_messages.specs.Bag.{view_due}
use Rattle.bus_messages.specs.Words.{loan_of}
use Rattle.bus_core.specs.Core.{Plain}
use Rattle.checked_bus.specs.Box.{last_message}

-- the bytes of the view that is due are those of the last message
pub bytes_due : (core : Plain) (app pipe : ℕ) → option_map (λ (view : LentBytes). view.bytes) (view_due core.whole.bus.pipes core.loans app pipe) ≡ last_message core app pipe
bytes_due core app pipe = by_last (owns core.whole.bus.pipes app pipe) (last_on core.whole.bus.pipes pipe)
  where
    by_last : (own : Bool) (last : Option Item) →
        option_map (λ (view : LentBytes). view.bytes) (cond {A = Option LentBytes} own (option_map (λ (item : Item). record { loan = loan_of core.loans pipe; bytes = item.message }) last) None)
        ≡ cond {A = Option (List ℕ)} own (option_map (λ (item : Item). item.message) last) None
    by_last true None = refl
    by_last true (Some item) = refl
    by_last false last = refl
