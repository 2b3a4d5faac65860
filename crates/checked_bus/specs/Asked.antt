-- Why the bus isn't asked a call, if it isn't. It is asked if the core's condition of the call
-- holds.
use Rattle.std.specs.Prelude.{ℕ, ◌==◌, if◌then◌else◌, ◌&&◌, not, nat_le, nat_lt, Bool, true, List, length, Option, Some, None, is_some}
use Rattle.std.specs.Option.{option_or}
use Rattle.fsw_base.specs.declared.config.Scope.{Scope}
use Rattle.fsw_base.specs.declared.config.Scope.TheVariants.{Global, Local}
use Rattle.fsw_base.specs.declared.events.EventKind.{EventKind}
use Rattle.fsw_base.specs.declared.events.EventKind.TheVariants.{Debug, Information, Error, Critical}
use Rattle.fsw_base.specs.Events.{are_filters}
use Rattle.bus_words.specs.declared.history.Call.{Call}
use Rattle.bus_words.specs.declared.history.Call.TheVariants.{Create, Subscribe, Allocate, TransmitBuffer, Release, Look, Register, SendEvent, LogMode, End}
use Rattle.bus_words.specs.Bus.{State, standing_of, waited_on}
use Rattle.bus_words.specs.Machine.{refused_if, may_call}
use Rattle.bus_core.specs.Core.{Plain, apps_in, is_within, has_pipe_number, has_subscription_number}
use Rattle.checked_bus.specs.declared.refusal.Refusal.{Refusal}
use Rattle.checked_bus.specs.declared.refusal.Refusal.TheVariants.{NoApplication, TooLong, NotActive, NoNumbers, NoRoom, BufferOut, NotItsBlock, NoScope, NoKind, NoMode, SameFilter}
use Rattle.checked_bus.specs.Box.{Boxed, bag_of}
use Rattle.checked_bus.specs.Lent.{Lent, is_misfit, written}

-- the bus serves an application of this number
abbrev pub is_application : Plain → ℕ → Bool
is_application core app = nat_le 1 app && nat_le app (apps_in core)

-- a number is left for the pipe or the subscription that the call makes, if it makes one
abbrev pub has_number : State → Call → Bool
has_number s (Create depth name) = has_pipe_number s
has_number s (Subscribe id pipe limit scope) = has_subscription_number s
has_number s call = true

-- why the bus isn't asked a call, the first reason that applies; none if it is asked
abbrev pub unasked : Plain → ℕ → Call → Option Refusal
unasked core app call =
    refused_if (not (is_application core app)) NoApplication
    (refused_if (not (is_within call)) TooLong
    (refused_if (not (may_call (standing_of core.whole.bus app) call)) NotActive
    (refused_if (not (has_number core.whole.bus call)) NoNumbers None)))

-- Calls with more conditions. --

-- why it isn't asked for a buffer: also that the place for it has one, or that the application's
-- bag has no room for one more
abbrev pub unasked_allocate : Boxed → ℕ → ℕ → Lent → Option Refusal
unasked_allocate box app size buffer =
    option_or (unasked box.core app (Allocate size))
    (refused_if (is_some buffer.bytes) BufferOut
    (refused_if
    (not (nat_lt (length (bag_of box app).buffers) (bag_of box app).buffer_room))
    NoRoom None))

-- why it isn't asked to send a buffer: also that the memory is no block of the buffer's size
abbrev pub unasked_transmit : Boxed → ℕ → Lent → Bool → Option Refusal
unasked_transmit box app buffer inc =
    option_or
    (unasked box.core app
    (TransmitBuffer buffer.number (written (bag_of box app) buffer) inc))
    (refused_if (is_misfit (bag_of box app) buffer) NotItsBlock None)

-- why it isn't given a buffer back, which is the same
abbrev pub unasked_release : Boxed → ℕ → Lent → Option Refusal
unasked_release box app buffer =
    option_or (unasked box.core app (Release buffer.number))
    (refused_if (is_misfit (bag_of box app) buffer) NotItsBlock None)

-- why it isn't asked for an end: also that the application has a buffer out
abbrev pub unasked_end : Boxed → ℕ → Option Refusal
unasked_end box app =
    option_or (unasked box.core app End)
    (refused_if (nat_lt 0 (length (bag_of box app).buffers)) BufferOut None)

-- why it isn't asked a look, which is at the pipe that the application waits on
abbrev pub unasked_look : Plain → ℕ → Option Refusal
unasked_look core app = unasked core app (Look (waited_on (standing_of core.whole.bus app)))

-- the scope of a number: 0 is local, 1 global
abbrev pub scope_of : ℕ → Option Scope
scope_of number =
    if number == 0 then Some Local else (if number == 1 then Some Global else None)

-- why it isn't asked for a subscription: also that the scope's number is neither 0 nor 1
abbrev pub unasked_subscribe : Plain → ℕ → ℕ → ℕ → ℕ → ℕ → Option Refusal
unasked_subscribe core app id pipe limit scope =
    option_or (unasked core app (Subscribe id pipe limit Global))
    (refused_if (not (is_some (scope_of scope))) NoScope None)

-- why it isn't asked for a registration: also more than 8 filters, or two of one event id
abbrev pub unasked_register : Plain → ℕ → List (ℕ × ℕ) → Option Refusal
unasked_register core app filters =
    refused_if (not (is_application core app)) NoApplication
    (refused_if (nat_lt 8 (length filters)) TooLong
    (option_or (unasked core app (Register filters))
    (refused_if (not (are_filters filters)) SameFilter None)))

-- the kind of event of a number, 1 to 4
abbrev pub kind_of : ℕ → Option EventKind
kind_of number =
    if number == 1 then Some Debug
    else (if number == 2 then Some Information
    else (if number == 3 then Some Error
    else (if number == 4 then Some Critical else None)))

-- why it isn't asked for an event: also that the kind's number isn't 1 to 4
abbrev pub unasked_event : Plain → ℕ → ℕ → ℕ → List ℕ → Option Refusal
unasked_event core app id kind text =
    option_or (unasked core app (SendEvent id Debug text))
    (refused_if (not (is_some (kind_of kind))) NoKind None)

-- why it isn't asked for a mode of the log: also that the mode is neither 0 nor 1
abbrev pub unasked_mode : Plain → ℕ → ℕ → Option Refusal
unasked_mode core app mode =
    option_or (unasked core app (LogMode 0)) (refused_if (nat_lt 1 mode) NoMode None)
