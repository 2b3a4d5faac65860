-- What is sent: what a call sees of the past for it, and the messages and packets that calls send.
use Rattle.std.specs.Prelude.{ℕ, ◌+◌, List, length, take, Bool, if◌then◌else◌}
use Rattle.ccsds_msg.specs.Message.{message_id, message_size, with_count}
use Rattle.fsw_base.specs.Limits.{Limits}
use Rattle.housekeeping.specs.Packet.{housekeeping_packet}
use Rattle.bus_words.specs.Bus.{State, Sending, unsent_size}
use Rattle.bus_words.specs.Held.{in_use}

-- What a call sees beside the bus's own state.
pub record Reads : Type 0 where
  -- the count that the next send of an id gets
  pub next : ℕ → ℕ

-- the message as it is delivered: with its id's next count if the send asks for it, else as
-- given
abbrev pub stamped : Reads → List ℕ → Bool → List ℕ
stamped reads bytes inc = if inc then with_count bytes (reads.next (message_id bytes)) else bytes

-- what an application sends with these bytes: under the next number; the size first asked for is
-- the message's own
abbrev pub sending_from : Reads → State → ℕ → List ℕ → Bool → Sending
sending_from reads s app bytes inc =
    record {
      sender = app;
      number = s.numbers_given + 1;
      asked = length bytes;
      message = stamped reads bytes inc;
    }

-- the message that a buffer's bytes begin with: as many of them as its header says (CCSDS 133.0-B,
-- 4.1.3.5)
abbrev pub front_of : List ℕ → List ℕ
front_of bytes = take (message_size bytes) bytes

-- what an application sends in a buffer of its own with these bytes: under the buffer's number; the
-- size first asked for is the buffer's
abbrev pub sending_in : Reads → State → ℕ → ℕ → List ℕ → Bool → Sending
sending_in reads s app buf bytes inc =
    record {
      sender = app;
      number = buf;
      asked = unsent_size s.unsent app buf;
      message = stamped reads (front_of bytes) inc;
    }

-- the housekeeping packet: the counters and what is in use, as they are before the call that sends
-- it
abbrev pub packet_in : Limits → State → List ℕ
packet_in limits s = housekeeping_packet s.statistics.counts (in_use limits s)
