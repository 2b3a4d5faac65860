-- One pipe alone: a list machine that knows its owner, option bits, depth, own subscriptions, queue
-- and last message, and of the rest of the bus nothing but the accepted sends.
use Rattle.std.specs.Prelude.{◌≡◌, ℕ, ◌+◌, ◌==◌, ◌&&◌, not, nat_le, Bool, true, false, List, [], ◌∷◌, ◌++◌, filter, find, Option, Some, None, if◌then◌else◌}
use Rattle.std.specs.List.{list_any}
use Rattle.std.specs.Option.{option_map_or}
use Rattle.fsw_base.specs.declared.config.Scope.TheVariants.{Global}
use Rattle.fsw_base.specs.declared.statuses.SbStatus.TheVariants.{NoMessage}
use Rattle.fsw_base.specs.Limits.{Limits}
use Rattle.ccsds_msg.specs.Message.{message_id}
use Rattle.housekeeping.specs.Packet.{housekeeping_id}
use Rattle.bus_words.specs.declared.calls.BusAnswer.{BusAnswer}
use Rattle.bus_words.specs.declared.calls.BusAnswer.TheVariants.{Done, Number, Sent, Got, TimeOut, Pending, Sb}
use Rattle.bus_words.specs.declared.history.Call.{Call}
use Rattle.bus_words.specs.declared.history.Call.TheVariants.{Create, Delete, SetOpts, Subscribe, Unsubscribe, Transmit, Receive, Pend, Look, TransmitBuffer, Housekeeping, End}
use Rattle.bus_words.specs.declared.history.Entry.{Entry}
use Rattle.bus_words.specs.Bus.{Item, Pipe, Subscription, State, opening, pipe_at, owns, with_bits, offered, after_receive, new_pipe}
use Rattle.bus_words.specs.Machine.{packet_in, front_of, delivered, step, state_after}

-- What happens to a pipe.
pub data Input : Type 0 where
  -- it is made: by whom, and how many messages it may hold
  Start : (owner depth : ℕ) → Input
  -- its owner subscribes it to an id, with a limit
  Sub : (id limit : ℕ) → Input
  -- its owner ends its subscription to an id
  Unsub : (id : ℕ) → Input
  -- its owner sets its option bits
  Opts : (bits : ℕ) → Input
  -- somebody's send is accepted: the sender, the id, the send number and the message
  Send : (sender id number : ℕ) (message : List ℕ) → Input
  -- its owner receives on it
  Take : Input
  -- it is deleted, or its owner ends
  Stop : Input

-- What one pipe alone is: the pipe, its own live subscriptions, and how many of these it made.
pub record Alone : Type 0 where
  pub pipe : Pipe
  pub subscriptions : List Subscription
  pub made : ℕ

-- a pipe with nothing in it; its own number is 1 and it has no name
abbrev pub empty_pipe : ℕ → ℕ → Pipe
empty_pipe owner depth = new_pipe 1 [] owner depth

-- before it is made
abbrev pub unmade : Alone
unmade = record { pipe = empty_pipe 0 0; subscriptions = []; made = 0 }

-- the pipe's own live subscription to the id
abbrev pub own_subscription : Alone → ℕ → Option Subscription
own_subscription a id = find (λ sub. sub.id == id) a.subscriptions

-- one subscription more; none if the id has a live one
abbrev pub sub_alone : Alone → ℕ → ℕ → Alone
sub_alone a id limit =
    if list_any (λ sub. sub.id == id) a.subscriptions then a
    else (record a {
      subscriptions =
          a.subscriptions ++
          record { number = a.made + 1; id = id; pipe = 1; limit = limit; scope = Global } ∷ [];
      made = a.made + 1;
    })

-- the pipe is offered the message if it has a live subscription to its id: it makes of it what
-- the verdict says
abbrev pub sent_alone : Alone → ℕ → ℕ → ℕ → List ℕ → Alone
sent_alone a sender id number message =
    option_map_or
    (λ sub. record a {
      pipe = offered (record { sender = sender; number = number; asked = 0; message = message })
          sub a.pipe;
    }) (own_subscription a id) a

-- what an input does
abbrev pub input_alone : Alone → Input → Alone
input_alone a (Start owner depth) =
    record { pipe = empty_pipe owner depth; subscriptions = []; made = 0 }
input_alone a (Sub id limit) = sub_alone a id limit
input_alone a (Unsub id) =
    record a { subscriptions = filter (λ sub. not (sub.id == id)) a.subscriptions }
input_alone a (Opts bits) = record a { pipe = with_bits bits a.pipe }
input_alone a (Send sender id number message) = sent_alone a sender id number message
input_alone a Take = record a { pipe = after_receive a.pipe }
input_alone a Stop =
    record a { pipe = record a.pipe { queue = []; last = None }; subscriptions = [] }

-- the pipe after these inputs
abbrev pub solo : Alone → List Input → Alone
solo a [] = a
solo a (input ∷ inputs) = solo (input_alone a input) inputs

-- A message as its receiver knows it: its send number and its bytes.
pub record Received : Type 0 where
  pub number : ℕ
  pub message : List ℕ

-- the message of an item
abbrev pub received_of : Item → Received
received_of item = record { number = item.number; message = item.message }

-- the message that is the pipe's last, as a list of at most one
abbrev pub last_of : Option Item → List Received
last_of None = []
last_of (Some item) = received_of item ∷ []

-- what an input gives the receiver: a take, the message that it makes the last
abbrev pub given : Alone → Input → List Received
given a Take = last_of (after_receive a.pipe).last
given a (Start owner depth) = []
given a (Sub id limit) = []
given a (Unsub id) = []
given a (Opts bits) = []
given a (Send sender id number message) = []
given a Stop = []

-- what the receiver gets of one pipe alone, in order
abbrev pub solo_receipts : Alone → List Input → List Received
solo_receipts a [] = []
solo_receipts a (input ∷ inputs) = given a input ++ solo_receipts (input_alone a input) inputs

-- What a history is to one pipe. --

-- the input if the call was accepted and is on this pipe
abbrev pub if_on : ℕ → ℕ → Input → List Input
if_on p pipe input = if p == pipe then input ∷ [] else []

-- whether a receive so answered takes the last message away
abbrev pub takes : BusAnswer → Bool
takes (Got number) = true
takes (Sb NoMessage) = true
takes TimeOut = true
takes Pending = true
takes answer = false

-- whether pipe p was made, be it live or not; the first has the number 1
abbrev pub was_made : State → ℕ → Bool
was_made s p = nat_le 1 p && nat_le p s.pipes_created

-- what an entry is to pipe p, after this history and in this state of the bus: an accepted call on
-- it, an accepted send once the pipe was made, or its owner's end
abbrev pub inputs_of : Limits → List Entry → State → ℕ → Entry → List Input
inputs_of limits history s p e = of_call e.call e.answer
  where
    of_call : Call → BusAnswer → List Input
    of_call (Create depth name) (Number number) = if_on p number (Start e.app depth)
    of_call (Delete pipe) Done = if_on p pipe Stop
    of_call (SetOpts pipe bits) Done = if_on p pipe (Opts bits)
    of_call (Subscribe id pipe limit scope) Done = if_on p pipe (Sub id limit)
    of_call (Unsubscribe id pipe) Done = if_on p pipe (Unsub id)
    of_call (Transmit bytes inc) (Sent number reached) =
        if nat_le 1 number && was_made s p
        then Send e.app (message_id bytes) number (delivered limits history bytes inc) ∷ []
        else []
    of_call Housekeeping (Sent number reached) =
        if nat_le 1 number && was_made s p
        then Send e.app housekeeping_id number
        (delivered limits history (packet_in limits s) true) ∷ [] else []
    of_call (TransmitBuffer buf bytes inc) (Sent number reached) =
        if nat_le 1 number && was_made s p
        then Send e.app (message_id bytes) number
        (delivered limits history (front_of bytes) inc) ∷ [] else []
    of_call (Receive pipe) answer = if takes answer then if_on p pipe Take else []
    of_call (Pend pipe) answer = if takes answer then if_on p pipe Take else []
    of_call (Look pipe) answer = if takes answer then if_on p pipe Take else []
    of_call End Done = if owns s.pipes e.app p then Stop ∷ [] else []
    of_call call answer = []

-- what the entries that follow a history are to pipe p
abbrev pub cut_from : Limits → List Entry → State → ℕ → List Entry → List Input
cut_from limits history s p [] = []
cut_from limits history s p (e ∷ es) =
    inputs_of limits history s p e ++
    cut_from limits (history ++ e ∷ []) ((step limits history s e.app e.call).1) p es

-- what a history of so many applications is to pipe p, from the entry on that made it
abbrev pub cut : Limits → ℕ → ℕ → List Entry → List Input
cut limits apps p history = cut_from limits [] (opening limits apps) p history

-- What pipe p's owner receives. --

-- whether an entry gives a message from pipe p
abbrev pub gets_from : ℕ → Entry → Bool
gets_from p e = of_call e.call e.answer
  where
    of_call : Call → BusAnswer → Bool
    of_call (Receive pipe) (Got number) = p == pipe
    of_call (Pend pipe) (Got number) = p == pipe
    of_call (Look pipe) (Got number) = p == pipe
    of_call call answer = false

-- the last message of pipe p
abbrev pub last_received : State → ℕ → List Received
last_received s p = option_map_or (λ pipe. last_of pipe.last) (pipe_at s.pipes p) []

-- the messages that the entries which follow a history give from pipe p, each the last one after
-- its entry
abbrev pub receipts_from : Limits → List Entry → State → ℕ → List Entry → List Received
receipts_from limits history s p [] = []
receipts_from limits history s p (e ∷ es) =
    (if gets_from p e then last_received ((step limits history s e.app e.call).1) p else [])
    ++ receipts_from limits (history ++ e ∷ []) ((step limits history s e.app e.call).1) p es

-- the messages that a history of so many applications gives from pipe p, in order
abbrev pub receipts : Limits → ℕ → ℕ → List Entry → List Received
receipts limits apps p history = receipts_from limits [] (opening limits apps) p history

-- an entry that follows a history gives this message from pipe p: it is the pipe's last, and the
-- newest that the pipe alone gives
pub record Gives (limits : Limits) (apps p : ℕ) (history : List Entry) (e : Entry)
    (message : Received) : Type 0 where
  pub answer : e.answer ≡ Got message.number
  pub last : last_received (state_after limits apps (history ++ e ∷ [])) p ≡ message ∷ []
  pub newest : solo_receipts unmade (cut limits apps p (history ++ e ∷ [])) ≡
      solo_receipts unmade (cut limits apps p history) ++ message ∷ []
