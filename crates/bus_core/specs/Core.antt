-- The core as its callers see it: its limits, the state, the loans of the last messages, and the
-- descriptors of unsent buffers.
use Rattle.std.specs.Prelude.{◌≡◌, ℕ, ◌≤◌, nat_le, nat_lt, Bool, true, List, length, IsTrue}
use Rattle.fsw_base.specs.Limits.{Limits}
use Rattle.housekeeping.specs.declared.names.CounterName.{CounterName}
use Rattle.housekeeping.specs.Counters.{ticked}
use Rattle.bus_words.specs.declared.calls.BusAnswer.{BusAnswer}
use Rattle.bus_words.specs.declared.history.Call.{Call}
use Rattle.bus_words.specs.declared.history.Call.TheVariants.{Create, Delete, SetOpts, GetOpts, Find, PipeName, Subscribe, Unsubscribe, Transmit, Receive, Pend, Look, Allocate, TransmitBuffer, Release, PoolCreate, PoolGet, PoolPut, PoolFigures, Register, SendEvent, ResetFilter, LogMode, ClearLog, Housekeeping, Figures, End}
use Rattle.bus_words.specs.Bus.{State, any_send, standing_of, route, drops}
use Rattle.bus_words.specs.Machine.{may_call}
use Rattle.bus_words.specs.Acts.{Whole, act}
use Rattle.bus_messages.specs.Store.{LastLoan, BufferDesc}

-- The limits, the state, the loan that the last message of each live pipe is lent by, and the
-- descriptor of each unsent buffer.
pub record Plain : Type 0 where
  pub limits : Limits
  pub whole : Whole
  pub loans : List LastLoan
  pub descs : List BufferDesc

-- how many applications the core serves
abbrev pub apps_in : Plain → ℕ
apps_in core = length core.whole.bus.standings

-- the core with one more on this counter, and all else as it was
abbrev pub with_tick : Plain → CounterName → Plain
with_tick core which = record core {
  whole = record core.whole {
    bus = record core.whole.bus {
      statistics =
          record core.whole.bus.statistics
          { counts = ticked core.whole.bus.statistics.counts which };
    };
  };
}

-- how many pipes drop their oldest message for one of this id that the application sends, whatever
-- message it is
abbrev pub drops_for : State → ℕ → ℕ → ℕ
drops_for s app id =
    drops (any_send app) (route s.subscriptions id) s.pipes

-- a name of at most 64 bytes, a message of at most 65542, an event's text of at most 200, a mode of
-- 0 or 1; what a buffer may have is bounded by its size
abbrev pub is_within : Call → Bool
is_within (Create depth name) = nat_le (length name) 64
is_within (Delete pipe) = true
is_within (SetOpts pipe bits) = true
is_within (GetOpts pipe) = true
is_within (Find name) = nat_le (length name) 64
is_within (PipeName pipe) = true
is_within (Subscribe id pipe limit scope) = true
is_within (Unsubscribe id pipe) = true
is_within (Transmit bytes inc) = nat_le (length bytes) 65542
is_within (Receive pipe) = true
is_within (Pend pipe) = true
is_within (Look pipe) = true
is_within (Allocate size) = true
is_within (TransmitBuffer buf bytes inc) = true
is_within (Release buf) = true
is_within (PoolCreate bytes) = true
is_within (PoolGet pool size) = true
is_within (PoolPut pool grant) = true
is_within (PoolFigures pool) = true
is_within (Register filters) = true
is_within (SendEvent id kind text) = nat_le (length text) 200
is_within (ResetFilter id) = true
is_within (LogMode mode) = nat_le mode 1
is_within ClearLog = true
is_within Housekeeping = true
is_within Figures = true
is_within End = true

-- the application may make this call now, if a number is left for the pipe or the subscription that
-- it makes
pub record MayAct (core : Plain) (app : ℕ) (call : Call) : Type 0 where
  pub known : app ≤ apps_in core
  pub standing : IsTrue (may_call (standing_of core.whole.bus app) call)
  pub within : IsTrue (is_within call)

-- a number is left for one pipe more: numbers are below 2^32, and none is given twice
abbrev pub has_pipe_number : State → Bool
has_pipe_number s = nat_lt s.pipes_created 4294967295

-- a number is left for one subscription more: numbers are below 2^32, and none is given twice
abbrev pub has_subscription_number : State → Bool
has_subscription_number s = nat_lt s.subscriptions_made 4294967295

-- a number is left for one send or buffer more: numbers are below 2^64, and none is given twice
abbrev pub has_send_number : State → Bool
has_send_number s = nat_lt s.numbers_given 18446744073709551615

-- the call was answered, and left the state, as the machine does by the state alone
pub record Acts (old new : Plain) (app : ℕ) (call : Call) (answer : BusAnswer) : Type 0 where
  pub made : act old.limits old.whole app call ≡ (answer, new.whole)
  pub limits : new.limits ≡ old.limits
