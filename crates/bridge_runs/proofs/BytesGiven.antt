-- A pipe gives no more bytes than the accepted sends had.
use Rattle.std.proofs.Common.{◌≡◌, ℕ, zero, suc, ◌+◌, ◌≤◌, ◌==◌, ◌&&◌, nat_le, Bool, true, false, cond, List, [], ◌∷◌, ◌++◌, length, drop, map, take, Option, Some, None, refl, ap, arith}
use Rattle.std.specs.List.{list_any}
use Rattle.std.specs.Option.{option_map_or}
use Rattle.fsw_base.specs.declared.config.Scope.TheVariants.{Global}
use Rattle.bus_words.specs.declared.verdict.Verdict.{Verdict}
use Rattle.bus_words.specs.declared.verdict.Verdict.TheVariants as verdicts
use Rattle.bus_words.specs.declared.calls.BusAnswer.{BusAnswer}
use Rattle.bus_words.specs.declared.calls.BusAnswer.TheVariants as answers
use Rattle.bus_words.specs.declared.history.Call.{Call}
use Rattle.bus_words.specs.declared.history.Call.TheVariants as calls
use Rattle.bus_words.specs.declared.history.Entry.{Entry}
use Rattle.bus_words.specs.Alone.{Alone, Input, Received, Start, Sub, Unsub, Opts, Send, Take, Stop, cut, cut_from, given, if_on, input_alone, inputs_of, last_of, own_subscription, solo_receipts, takes, unmade, was_made}
use Rattle.bus_words.specs.Bus.{Item, Pipe, Sending, State, Subscription, offer_of, offered, opening, owns}
use Rattle.bus_words.specs.Held.{in_use}
use Rattle.bus_words.specs.Machine.{IsLegal, delivered, front_of, packet_in, reads_after, step}
use Rattle.bus_words.specs.Pipes.{oldest, queue_after, verdict_over, waiting_of as queued_of}
use Rattle.bus_words.proofs.Finds.{Each}
use Rattle.ccsds_msg.specs.Message.{message_id, message_size}
use Rattle.ccsds_msg.proofs.MessageLemmas.{length-with_count}
use Rattle.fsw_base.specs.Limits.{Limits}
use Rattle.housekeeping.specs.Packet.{housekeeping_id}
use Rattle.housekeeping.proofs.PacketLemmas.{length-housekeeping_packet}
use Rattle.bridge_runs.specs.Lefts.{bytes_of, brought}
use Rattle.bridge_runs.proofs.Brought.{IsSound, Sound, sound-from}
use Rattle.bridge_runs.proofs.Weights.{weigh}

-- ---- one pipe alone

abbrev bytes_in_input : Input → ℕ
bytes_in_input (Send sender id number message) = length message
bytes_in_input input = 0

abbrev pub input_bytes : List Input → ℕ
input_bytes [] = 0
input_bytes (input ∷ inputs) = bytes_in_input input + input_bytes inputs

abbrev pub received_bytes : List Received → ℕ
received_bytes [] = 0
received_bytes (received ∷ others) = length received.message + received_bytes others

abbrev queue_bytes : List Item → ℕ
queue_bytes [] = 0
queue_bytes (item ∷ items) = length item.message + queue_bytes items

pub input_bytes-append : (xs ys : List Input) → input_bytes (xs ++ ys) ≡ input_bytes xs + input_bytes ys
input_bytes-append [] ys = omega arith
input_bytes-append (x ∷ xs) ys = omega (arith, input_bytes-append xs ys)

received_bytes-append : (xs ys : List Received) → received_bytes (xs ++ ys) ≡ received_bytes xs + received_bytes ys
received_bytes-append [] ys = omega arith
received_bytes-append (x ∷ xs) ys = omega (arith, received_bytes-append xs ys)

queue_bytes-append : (xs ys : List Item) → queue_bytes (xs ++ ys) ≡ queue_bytes xs + queue_bytes ys
queue_bytes-append [] ys = omega arith
queue_bytes-append (x ∷ xs) ys = omega (arith, queue_bytes-append xs ys)

-- the message that waits longest is given, or there is none
bytes_taken : (queue : List Item) → received_bytes (last_of (oldest queue)) + queue_bytes (drop 1 queue) ≤ queue_bytes queue + 0
bytes_taken [] = omega arith
bytes_taken (item ∷ queue) = omega arith

-- a queue grows by the newest message at most
bytes_queued : (verdict : Verdict) (newest : Item) (queue : List Item) → queue_bytes (queue_after verdict newest queue) ≤ queue_bytes queue + length newest.message
bytes_queued verdicts.Skip newest queue = omega arith
bytes_queued verdicts.OverLimit newest queue = omega arith
bytes_queued verdicts.In newest queue = omega (arith, queue_bytes-append queue (newest ∷ []))
bytes_queued verdicts.Oldest newest [] = omega arith
bytes_queued verdicts.Oldest newest (item ∷ queue) = omega (arith, queue_bytes-append queue (newest ∷ []))
bytes_queued verdicts.Full newest queue = omega arith

bytes_offered : (sending : Sending) (sub : Subscription) (pipe : Pipe) → queue_bytes (offered sending sub pipe).queue ≤ queue_bytes pipe.queue + length sending.message
bytes_offered sending sub pipe =
    let offer = offer_of sending in
    bytes_queued (verdict_over (nat_le sub.limit (queued_of offer.subscription_of pipe sub.number)) pipe offer.sender) (offer.item_for sub) pipe.queue

bytes_sent_alone : (a : Alone) (sending : Sending) (own : Option Subscription) → 0 + queue_bytes (option_map_or (λ sub. record a { pipe = offered sending sub a.pipe }) own a).pipe.queue ≤ queue_bytes a.pipe.queue + length sending.message
bytes_sent_alone a sending None = omega arith
bytes_sent_alone a sending (Some sub) = omega (arith, bytes_offered sending sub a.pipe)

bytes_input : (a : Alone) (input : Input) → received_bytes (given a input) + queue_bytes (input_alone a input).pipe.queue ≤ queue_bytes a.pipe.queue + bytes_in_input input
bytes_input a (Start owner depth) = omega arith
bytes_input a (Sub id limit) =
    elim (list_any (λ (sub : Subscription). sub.id == id) a.subscriptions) as (λ b. 0 + queue_bytes (cond {A = Alone} b a (record a { subscriptions = a.subscriptions ++ record { number = a.made + 1; id = id; pipe = 1; limit = limit; scope = Global } ∷ []; made = a.made + 1 })).pipe.queue ≤ queue_bytes a.pipe.queue + 0) [
      | true ↦ omega arith
      | false ↦ omega arith
    ]
bytes_input a (Unsub id) = omega arith
bytes_input a (Opts bits) = omega arith
bytes_input a (Send sender id number message) =
    bytes_sent_alone a (record { sender = sender; number = number; asked = 0; message = message }) (own_subscription a id)
bytes_input a Take = bytes_taken a.pipe.queue
bytes_input a Stop = omega arith

pub bytes_given : (a : Alone) (inputs : List Input) → received_bytes (solo_receipts a inputs) ≤ queue_bytes a.pipe.queue + input_bytes inputs
bytes_given a [] = omega arith
bytes_given a (input ∷ inputs) =
    omega (arith, received_bytes-append (given a input) (solo_receipts (input_alone a input) inputs), bytes_input a input, bytes_given (input_alone a input) inputs)

-- ---- a history as it is cut to one pipe

none_if : (b : Bool) (input : Input) → bytes_in_input input ≡ 0 → input_bytes (cond b (input ∷ []) []) ≤ 0
none_if true input none = omega (arith, none)
none_if false input none = omega arith

takes_none : (b : Bool) (p pipe : ℕ) → input_bytes (cond b (if_on p pipe Take) []) ≤ 0
takes_none true p pipe = none_if (p == pipe) Take refl
takes_none false p pipe = omega arith

sent_if : (b : Bool) (input : Input) (most : ℕ) → bytes_in_input input ≤ most → input_bytes (cond b (input ∷ []) []) ≤ most
sent_if true input most within = omega (arith, within)
sent_if false input most within = omega arith

-- a message is as long with its count as without
length-delivered : (limits : Limits) (history : List Entry) (bytes : List ℕ) (inc : Bool) → 7 ≤ length bytes → length (delivered limits history bytes inc) ≡ length bytes
length-delivered limits history bytes true long = length-with_count bytes ((reads_after limits history).next (message_id bytes)) (omega (arith, long))
length-delivered limits history bytes false long = refl

take_within : {X : Type 0} (n : ℕ) (xs : List X) → length (take n xs) ≤ length xs
take_within zero xs = omega arith
take_within (suc n) [] = omega arith
take_within (suc n) (x ∷ xs) = omega (arith, take_within n xs)

-- an accepted send brings its message, and nothing else brings one
bytes_inputs : (limits : Limits) (history : List Entry) (s : State) (p app : ℕ) (call : Call) (answer : BusAnswer) → Sound call answer →
    input_bytes (inputs_of limits history s p (record { app = app; call = call; answer = answer })) ≤ brought call answer
bytes_inputs limits history s p app (calls.Create depth name) (answers.Number number) sound = none_if (p == number) (Start app depth) refl
bytes_inputs limits history s p app (calls.Delete pipe) answers.Done sound = none_if (p == pipe) Stop refl
bytes_inputs limits history s p app (calls.SetOpts pipe bits) answers.Done sound = none_if (p == pipe) (Opts bits) refl
bytes_inputs limits history s p app (calls.Subscribe id pipe limit scope) answers.Done sound = none_if (p == pipe) (Sub id limit) refl
bytes_inputs limits history s p app (calls.Unsubscribe id pipe) answers.Done sound = none_if (p == pipe) (Unsub id) refl
bytes_inputs limits history s p app (calls.Transmit bytes inc) (answers.Sent number reached) sound =
    let long = length-delivered limits history bytes inc sound in
    sent_if (nat_le 1 number && was_made s p) (Send app (message_id bytes) number (delivered limits history bytes inc)) (length bytes) (omega (arith, long))
bytes_inputs limits history s p app (calls.TransmitBuffer buf bytes inc) (answers.Sent number reached) sound =
    let long = length-delivered limits history (front_of bytes) inc sound in
    let front = take_within (message_size bytes) bytes in
    sent_if (nat_le 1 number && was_made s p) (Send app (message_id bytes) number (delivered limits history (front_of bytes) inc)) (length bytes) (omega (arith, long, front))
bytes_inputs limits history s p app calls.Housekeeping (answers.Sent number reached) sound =
    let packet = length-housekeeping_packet s.statistics.counts (in_use limits s) in
    let long = length-delivered limits history (packet_in limits s) true (omega (arith, packet)) in
    sent_if (nat_le 1 number && was_made s p) (Send app housekeeping_id number (delivered limits history (packet_in limits s) true)) 64 (omega (arith, long, packet))
bytes_inputs limits history s p app (calls.Receive pipe) answer sound = takes_none (takes answer) p pipe
bytes_inputs limits history s p app (calls.Pend pipe) answer sound = takes_none (takes answer) p pipe
bytes_inputs limits history s p app (calls.Look pipe) answer sound = takes_none (takes answer) p pipe
bytes_inputs limits history s p app calls.End answers.Done sound = none_if (owns s.pipes app p) Stop refl
bytes_inputs limits history s p app call answer sound = omega arith

bytes_cut : (limits : Limits) (history : List Entry) (s : State) (p : ℕ) (es : List Entry) → Each IsSound es → input_bytes (cut_from limits history s p es) ≤ weigh (λ e. brought e.call e.answer) es
bytes_cut limits history s p [] sound = omega arith
bytes_cut limits history s p (e ∷ es) sound =
    let after = (step limits history s e.app e.call).1 in
    omega (
      arith,
      input_bytes-append (inputs_of limits history s p e) (cut_from limits (history ++ e ∷ []) after p es),
      bytes_inputs limits history s p e.app e.call e.answer sound.0,
      bytes_cut limits (history ++ e ∷ []) after p es sound.1,
    )

messages_bytes : (received : List Received) → bytes_of (map (λ (r : Received). r.message) received) ≡ received_bytes received
messages_bytes [] = refl
messages_bytes (r ∷ received) = ap (λ n. length r.message + n) (messages_bytes received)

-- a pipe gives alone no more bytes than entries brought
pub bytes_alone : (limits : Limits) (apps p : ℕ) (history : List Entry) → IsLegal limits apps history →
    bytes_of (map (λ (r : Received). r.message) (solo_receipts unmade (cut limits apps p history))) ≤ weigh (λ e. brought e.call e.answer) history
bytes_alone limits apps p history legal =
    omega (
      arith,
      messages_bytes (solo_receipts unmade (cut limits apps p history)),
      bytes_given unmade (cut limits apps p history),
      bytes_cut limits [] (opening limits apps) p history (sound-from limits [] (opening limits apps) history legal),
    )
