-- The events that the software bus itself tells (cFE Software Bus, event messages): their numbers,
-- kinds and texts.
use Rattle.std.specs.Prelude.{ℕ, List, ◌++◌, fold, codes, decimal}
use Rattle.fsw_base.specs.declared.events.EventKind.{EventKind}
use Rattle.fsw_base.specs.declared.events.EventKind.TheVariants.{Information, Error}
use Rattle.fsw_base.specs.EventDesk.{Desk, served}
use Rattle.text_page.specs.Texts.{hex_id}
use Rattle.bus_events.specs.declared.event.ServiceEvent.{ServiceEvent}
use Rattle.bus_events.specs.declared.event.ServiceEvent.TheVariants.{DuplicateSubscription, NotSubscribed, NoSubscribers, MessageLimit, PipeOverflow, OldestDropped}

-- the event's id
abbrev pub event_number : ServiceEvent → ℕ
event_number (DuplicateSubscription id pipe) = 1
event_number (NotSubscribed id pipe) = 2
event_number (NoSubscribers id) = 3
event_number (MessageLimit id pipe sender) = 4
event_number (PipeOverflow id pipe sender) = 5
event_number (OldestDropped id pipe sender) = 6

-- how grave it is: a message that a pipe missed is an error
abbrev pub event_kind : ServiceEvent → EventKind
event_kind (DuplicateSubscription id pipe) = Information
event_kind (NotSubscribed id pipe) = Information
event_kind (NoSubscribers id) = Information
event_kind (MessageLimit id pipe sender) = Error
event_kind (PipeOverflow id pipe sender) = Error
event_kind (OldestDropped id pipe sender) = Information

-- a message id and a pipe
abbrev pub pair_text : ℕ → ℕ → List ℕ
pair_text id pipe = hex_id id ++ codes " pipe " ++ decimal pipe

-- the message id, the pipe that the message was for, and who sent it
abbrev pub missed_text : ℕ → ℕ → ℕ → List ℕ
missed_text id pipe sender = pair_text id pipe ++ codes " sender " ++ decimal sender

-- its text
unfoldable pub event_text : ServiceEvent → List ℕ
event_text (DuplicateSubscription id pipe) = codes "duplicate id " ++ pair_text id pipe
event_text (NotSubscribed id pipe) = codes "not subscribed id " ++ pair_text id pipe
event_text (NoSubscribers id) = codes "no subscribers id " ++ hex_id id
event_text (MessageLimit id pipe sender) = codes "limit id " ++ missed_text id pipe sender
event_text (PipeOverflow id pipe sender) = codes "overflow id " ++ missed_text id pipe sender
event_text (OldestDropped id pipe sender) = codes "oldest id " ++ missed_text id pipe sender

-- the event desk once it was told the event
abbrev pub served_event : Desk → ServiceEvent → Desk
served_event desk event = served desk (event_number event) (event_kind event) (event_text event)

-- once it was told these events, in order
abbrev pub served_all : Desk → List ServiceEvent → Desk
served_all desk events = fold served_event desk events
