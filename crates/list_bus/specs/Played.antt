-- The bus as a machine that is played: its limits and all of its state.
use Rattle.std.specs.Prelude.{◌≡◌, ℕ, nat_le, nat_lt, ◌^◌, Bool, true, List, length, Option, None, if◌then◌else◌}
use Rattle.fsw_base.specs.Limits.{Limits}
use Rattle.bus_words.specs.declared.calls.BusAnswer.{BusAnswer}
use Rattle.bus_words.specs.declared.history.Call.{Call}
use Rattle.bus_words.specs.declared.history.Call.TheVariants.{Transmit, TransmitBuffer, LogMode}
use Rattle.bus_words.specs.Bus.{Item, State, owns}
use Rattle.bus_words.specs.Pipes.{last_on}
use Rattle.bus_words.specs.Acts.{Whole, act}
use Rattle.list_messages.specs.Messages.{AreNamed}
use Rattle.list_messages.specs.Sends.{Use}

-- The limits, all of the state, and of each send number how often it is named.
pub record Played : Type 0 where
  pub limits : Limits
  pub whole : Whole
  pub uses : List Use

-- send numbers are named as pipes and unsent buffers name them
abbrev pub IsPlayed : Played → Type 0
IsPlayed p =
    AreNamed p.uses p.whole.bus.numbers_given p.whole.bus.pipes p.whole.bus.unsent
    p.whole.bus.pipes_created

-- a message and a buffer have fewer than 2^32 bytes, and a mode is 0 or 1
abbrev pub is_playable : Call → Bool
is_playable (Transmit bytes inc) = nat_lt (length bytes) (2 ^ 32)
is_playable (TransmitBuffer buf bytes inc) = nat_lt (length bytes) (2 ^ 32)
is_playable (LogMode mode) = nat_le mode 1
is_playable call = true

-- the call was answered, and left the state, as the machine does by the state alone, and names are
-- still those of pipes and buffers
pub record Plays (old new : Played) (app : ℕ) (call : Call) (answer : BusAnswer) : Type 0 where
  pub made : act old.limits old.whole app call ≡ (answer, new.whole)
  pub limits : new.limits ≡ old.limits
  pub kept : IsPlayed new

-- the message received last from an application's pipe, if the pipe is live and has one
abbrev pub last_of : State → ℕ → ℕ → Option Item
last_of s app pipe = if owns s.pipes app pipe then last_on s.pipes pipe else None
