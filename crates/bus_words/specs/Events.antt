-- The events that the bus tells of its calls, and the event desk (cFE Event Services) after each
-- call.
use Rattle.std.specs.Prelude.{ℕ, List, [], ◌∷◌, map, fold, if◌then◌else◌}
use Rattle.fsw_base.specs.EventDesk.{Desk, new_desk, registered, unregistered, sent, reset, with_mode, cleared}
use Rattle.ccsds_msg.specs.Message.{message_id}
use Rattle.housekeeping.specs.Packet.{housekeeping_id}
use Rattle.bus_events.specs.declared.event.ServiceEvent.{ServiceEvent}
use Rattle.bus_events.specs.declared.event.ServiceEvent.TheVariants.{DuplicateSubscription, NotSubscribed, NoSubscribers, MessageLimit, PipeOverflow, OldestDropped}
use Rattle.bus_events.specs.Events.{served_all}
use Rattle.bus_words.specs.declared.calls.BusAnswer.{BusAnswer}
use Rattle.bus_words.specs.declared.calls.BusAnswer.TheVariants.{Sb, Es, Evs}
use Rattle.bus_words.specs.declared.history.Call.{Call}
use Rattle.bus_words.specs.declared.history.Call.TheVariants.{Subscribe, Unsubscribe, Transmit, TransmitBuffer, Register, SendEvent, ResetFilter, LogMode, ClearLog, Housekeeping, End}
use Rattle.bus_words.specs.declared.history.Entry.{Entry}
use Rattle.bus_words.specs.declared.miss.Miss.{Miss}
use Rattle.bus_words.specs.declared.miss.MissCause.{MissCause}
use Rattle.bus_words.specs.declared.miss.MissCause.TheVariants.{OverLimit, Full, Oldest}
use Rattle.bus_words.specs.Bus.{Pipe, Subscription, State, any_send, missed, route, is_subscribed}

-- An entry of a history at its moment: the bus before it, the entry, and the bus after it.
pub record Moment : Type 0 where
  pub before : State
  pub entry : Entry
  pub after : State

-- Sends. --

-- what is told of a pipe that misses a message of this id and sender, or its oldest one for it, for
-- this cause
abbrev pub cause_event : MissCause → ℕ → ℕ → ℕ → ServiceEvent
cause_event OverLimit id pipe sender = MessageLimit id pipe sender
cause_event Full id pipe sender = PipeOverflow id pipe sender
cause_event Oldest id pipe sender = OldestDropped id pipe sender

-- what is told of a pipe that misses a message of this id and sender or drops its oldest one for it
abbrev pub miss_event : ℕ → ℕ → Miss → ServiceEvent
miss_event id sender miss = cause_event miss.cause id miss.pipe sender

-- what is told of all such pipes, in order
abbrev pub miss_events : ℕ → ℕ → List Miss → List ServiceEvent
miss_events id sender misses = map (miss_event id sender) misses

-- what is told of these destinations of a message of this id and sender, in order
abbrev pub delivery_events : ℕ → ℕ → List Subscription → List Pipe → List ServiceEvent
delivery_events id sender subs pipes = miss_events id sender (missed (any_send sender) subs pipes)

-- what is told of a send of this id and sender that isn't refused: that nobody subscribes to the
-- id, or which pipes miss the message or dropped their oldest one for it
abbrev pub send_events : ℕ → ℕ → List Subscription → List Pipe → List ServiceEvent
send_events id sender [] pipes = NoSubscribers id ∷ []
send_events id sender (sub ∷ subs) pipes = delivery_events id sender (sub ∷ subs) pipes

-- the same on this bus
abbrev pub sent_events : State → ℕ → ℕ → List ServiceEvent
sent_events s id sender = send_events id sender (route s.subscriptions id) s.pipes

-- Calls. --

-- what is told of a subscription of a pair, which stood already or didn't
abbrev pub subscribe_events : State → ℕ → ℕ → List ServiceEvent
subscribe_events s id pipe =
    if is_subscribed s.subscriptions id pipe then DuplicateSubscription id pipe ∷ [] else []

-- what is told of the end of a pair's subscription, which stood or didn't
abbrev pub unsubscribe_events : State → ℕ → ℕ → List ServiceEvent
unsubscribe_events s id pipe =
    if is_subscribed s.subscriptions id pipe then [] else NotSubscribed id pipe ∷ []

-- these events, if the call was accepted; of a refused call the bus tells none
abbrev pub unless_refused : BusAnswer → List ServiceEvent → List ServiceEvent
unless_refused (Sb status) events = []
unless_refused (Es status) events = []
unless_refused (Evs status) events = []
unless_refused answer events = events

-- what the bus tells of an application's call so answered, in order, if this is the bus before
-- it. Of a send its id and its sender say enough.
unfoldable pub call_events : State → ℕ → Call → BusAnswer → List ServiceEvent
call_events s app (Subscribe id pipe limit scope) answer =
    unless_refused answer (subscribe_events s id pipe)
call_events s app (Unsubscribe id pipe) answer =
    unless_refused answer (unsubscribe_events s id pipe)
call_events s app (Transmit bytes inc) answer =
    unless_refused answer (sent_events s (message_id bytes) app)
call_events s app (TransmitBuffer buf bytes inc) answer =
    unless_refused answer (sent_events s (message_id bytes) app)
call_events s app Housekeeping answer =
    unless_refused answer (sent_events s housekeeping_id app)
call_events s app call answer = []

-- what the bus tells of an entry's call
abbrev pub service_events : Moment → List ServiceEvent
service_events m = call_events m.before m.entry.app m.entry.call m.entry.answer

-- The event desk. --

-- this event desk after an application's call: its own call of the event services, its end, or what
-- the bus tells of the call
unfoldable pub desk_by : Desk → ℕ → Call → List ServiceEvent → Desk
desk_by desk app (Register filters) events = registered desk app filters
desk_by desk app (SendEvent id kind text) events = sent desk app id kind text
desk_by desk app (ResetFilter id) events = reset desk app id
desk_by desk app (LogMode mode) events = with_mode desk mode
desk_by desk app ClearLog events = cleared desk
desk_by desk app End events = unregistered desk app
desk_by desk app call events = served_all desk events

-- this event desk after an entry
abbrev pub desk_then : Desk → Moment → Desk
desk_then desk m = desk_by desk m.entry.app m.entry.call (service_events m)

-- the event desk after these moments, from the first one on
abbrev pub desk_told : List Moment → Desk
desk_told moments = fold desk_then new_desk moments
