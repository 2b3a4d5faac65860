-- What an application tells of a message that it received.
use Rattle.std.specs.Prelude.{ℕ, List, length, sum, take, Option, None, if◌then◌else◌}
use Rattle.std.specs.Option.{option_map, option_and_then}
use Rattle.ccsds_msg.specs.Message.{message_id, message_count}
use Rattle.bus_words.specs.declared.receipts.Receipt.{Receipt}
use Rattle.bus_words.specs.declared.receipts.Receipt.TheVariants.{Message}
use Rattle.bus_words.specs.declared.receipts.TheConstants.{HEAD_BYTES}
use Rattle.bus_words.specs.Bus.{State, owns, pipe_at}

-- the receipt of a message from a pipe: its send number, id, sequence count, size, the sum of its
-- bytes, and its first bytes
abbrev pub message_receipt : ℕ → ℕ → List ℕ → Receipt
message_receipt pipe number message =
    Message pipe number (message_id message) (message_count message) (length message) (sum message)
    (take HEAD_BYTES message)

-- the receipt of the last message of an application's pipe, if the pipe is live and has one
abbrev pub receipt_in : State → ℕ → ℕ → Option Receipt
receipt_in s app pipe =
    if owns s.pipes app pipe
    then option_and_then
    (λ found. option_map (λ item. message_receipt pipe item.number item.message) found.last)
    (pipe_at s.pipes pipe)
    else None
