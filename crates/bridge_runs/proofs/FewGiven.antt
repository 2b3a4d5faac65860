-- A pipe gives no more messages than sends were accepted.
use Rattle.std.proofs.Common.{◌≡◌, ℕ, ◌+◌, ◌≤◌, ◌==◌, ◌&&◌, nat_le, Bool, true, false, cond, List, [], ◌∷◌, ◌++◌, length, length-append, drop, Option, Some, None, refl, ap, arith}
use Rattle.std.specs.List.{list_any, count_by}
use Rattle.std.specs.Option.{option_map_or}
use Rattle.std.proofs.lemmas.List.Sums.{sum_by-append, sum_by-cons}
use Rattle.fsw_base.specs.declared.config.Scope.TheVariants.{Global}
use Rattle.fsw_base.specs.Limits.{Limits}
use Rattle.bus_words.specs.declared.calls.BusAnswer.{BusAnswer}
use Rattle.bus_words.specs.declared.calls.BusAnswer.TheVariants as answers
use Rattle.bus_words.specs.declared.history.Call.{Call}
use Rattle.bus_words.specs.declared.history.Call.TheVariants as calls
use Rattle.bus_words.specs.declared.history.Entry.{Entry}
use Rattle.bus_words.specs.declared.verdict.Verdict.{Verdict}
use Rattle.bus_words.specs.declared.verdict.Verdict.TheVariants as verdicts
use Rattle.bus_words.specs.Alone.{Alone, Input, Start, Sub, Unsub, Opts, Send, Take, Stop, cut_from, cut, given, input_alone, inputs_of, if_on, last_of, own_subscription, solo_receipts, takes, unmade, was_made}
use Rattle.bus_words.specs.Bus.{Item, Pipe, Sending, State, Subscription, offer_of, offered, opening, owns}
use Rattle.bus_words.specs.Machine.{step}
use Rattle.bus_words.specs.Pipes.{oldest, queue_after, verdict_over, waiting_of as queued_of}
use Rattle.bridge_runs.specs.Lefts.{is_send, sends_in}

-- ---- one pipe alone

abbrev is_send_input : Input → Bool
is_send_input (Send sender id number message) = true
is_send_input input = false

abbrev send_inputs : List Input → ℕ
send_inputs inputs = count_by is_send_input inputs

inputs_append : (xs ys : List Input) → send_inputs (xs ++ ys) ≡ send_inputs xs + send_inputs ys
inputs_append xs ys = sum_by-append (λ (input : Input). cond (is_send_input input) 1 0) xs ys

-- the message that waits longest is given, or there is none
one_taken : (queue : List Item) → length (last_of (oldest queue)) + length (drop 1 queue) ≤ length queue + 0
one_taken [] = omega arith
one_taken (item ∷ queue) = omega arith

-- a queue grows by one at most
one_queued : (verdict : Verdict) (newest : Item) (queue : List Item) → length (queue_after verdict newest queue) ≤ length queue + 1
one_queued verdicts.Skip newest queue = omega arith
one_queued verdicts.OverLimit newest queue = omega arith
one_queued verdicts.In newest queue = omega (arith, length-append queue (newest ∷ []))
one_queued verdicts.Oldest newest [] = omega arith
one_queued verdicts.Oldest newest (item ∷ queue) = omega (arith, length-append queue (newest ∷ []))
one_queued verdicts.Full newest queue = omega arith

-- an offer makes it no longer than that
one_offered : (sending : Sending) (sub : Subscription) (pipe : Pipe) → length (offered sending sub pipe).queue ≤ length pipe.queue + 1
one_offered sending sub pipe =
    let offer = offer_of sending in
    one_queued (verdict_over (nat_le sub.limit (queued_of offer.subscription_of pipe sub.number)) pipe offer.sender) (offer.item_for sub) pipe.queue

sent_queue : (a : Alone) (sending : Sending) (own : Option Subscription) → 0 + length (option_map_or (λ sub. record a { pipe = offered sending sub a.pipe }) own a).pipe.queue ≤ length a.pipe.queue + 1
sent_queue a sending None = omega arith
sent_queue a sending (Some sub) = omega (arith, one_offered sending sub a.pipe)

one_input : (a : Alone) (input : Input) → length (given a input) + length (input_alone a input).pipe.queue ≤ length a.pipe.queue + send_inputs (input ∷ [])
one_input a (Start owner depth) = omega arith
one_input a (Sub id limit) =
    elim (list_any (λ (sub : Subscription). sub.id == id) a.subscriptions) as (λ b. 0 + length (cond {A = Alone} b a (record a { subscriptions = a.subscriptions ++ record { number = a.made + 1; id = id; pipe = 1; limit = limit; scope = Global } ∷ []; made = a.made + 1 })).pipe.queue ≤ length a.pipe.queue + 0) [
      | true ↦ omega arith
      | false ↦ omega arith
    ]
one_input a (Unsub id) = omega arith
one_input a (Opts bits) = omega arith
one_input a (Send sender id number message) =
    sent_queue a (record { sender = sender; number = number; asked = 0; message = message }) (own_subscription a id)
one_input a Take = one_taken a.pipe.queue
one_input a Stop = omega arith

few_given : (a : Alone) (inputs : List Input) → length (solo_receipts a inputs) ≤ length a.pipe.queue + send_inputs inputs
few_given a [] = omega arith
few_given a (input ∷ inputs) =
    omega (arith, length-append (given a input) (solo_receipts (input_alone a input) inputs), one_input a input, few_given (input_alone a input) inputs, inputs_append (input ∷ []) inputs)

-- ---- a history as it is cut to one pipe

one_input_is : (input : Input) → is_send_input input ≡ false → send_inputs (input ∷ []) ≡ 0
one_input_is input none =
    let count : cond (is_send_input input) 1 0 ≡ 0 = ap (λ (b : Bool). cond {A = ℕ} b 1 0) none in
    omega (arith, count)

few_if_on : (p pipe : ℕ) (input : Input) → is_send_input input ≡ false → send_inputs (if_on p pipe input) ≡ 0
few_if_on p pipe input none = elim (p == pipe) as (λ b. send_inputs (cond b (input ∷ []) []) ≡ 0) [ true ↦ one_input_is input none | false ↦ refl ]

few_sent : (b : Bool) (input : Input) → send_inputs (cond b (input ∷ []) []) ≤ 1
few_sent true input = elim (is_send_input input) as (λ b. 0 + cond b 1 0 ≤ 1) [ true ↦ omega arith | false ↦ omega arith ]
few_sent false input = omega arith

few_takes : (b : Bool) (p pipe : ℕ) → send_inputs (cond b (if_on p pipe Take) []) ≤ 0
few_takes true p pipe = omega (arith, few_if_on p pipe Take refl)
few_takes false p pipe = omega arith

few_stops : (b : Bool) → send_inputs (cond b (Stop ∷ []) []) ≤ 0
few_stops true = omega arith
few_stops false = omega arith

-- an entry is one accepted send at most, and only if it is a send
few_inputs : (limits : Limits) (history : List Entry) (s : State) (p app : ℕ) (call : Call) (answer : BusAnswer) → send_inputs (inputs_of limits history s p (record { app = app; call = call; answer = answer })) ≤ cond (is_send call) 1 0
few_inputs limits history s p app (calls.Create depth name) (answers.Number number) = omega (arith, few_if_on p number (Start app depth) refl)
few_inputs limits history s p app (calls.Delete pipe) answers.Done = omega (arith, few_if_on p pipe Stop refl)
few_inputs limits history s p app (calls.SetOpts pipe bits) answers.Done = omega (arith, few_if_on p pipe (Opts bits) refl)
few_inputs limits history s p app (calls.Subscribe id pipe limit scope) answers.Done = omega (arith, few_if_on p pipe (Sub id limit) refl)
few_inputs limits history s p app (calls.Unsubscribe id pipe) answers.Done = omega (arith, few_if_on p pipe (Unsub id) refl)
few_inputs limits history s p app (calls.Transmit bytes inc) (answers.Sent number reached) = few_sent (nat_le 1 number && was_made s p) _
few_inputs limits history s p app (calls.TransmitBuffer buf bytes inc) (answers.Sent number reached) = few_sent (nat_le 1 number && was_made s p) _
few_inputs limits history s p app calls.Housekeeping (answers.Sent number reached) = few_sent (nat_le 1 number && was_made s p) _
few_inputs limits history s p app (calls.Receive pipe) answer = few_takes (takes answer) p pipe
few_inputs limits history s p app (calls.Pend pipe) answer = few_takes (takes answer) p pipe
few_inputs limits history s p app (calls.Look pipe) answer = few_takes (takes answer) p pipe
few_inputs limits history s p app calls.End answers.Done = few_stops (owns s.pipes app p)
few_inputs limits history s p app call answer = omega arith

pub few_cut : (limits : Limits) (history : List Entry) (s : State) (p : ℕ) (es : List Entry) → send_inputs (cut_from limits history s p es) ≤ sends_in es
few_cut limits history s p [] = omega arith
few_cut limits history s p (e ∷ es) =
    let after = (step limits history s e.app e.call).1 in
    omega (arith, inputs_append (inputs_of limits history s p e) (cut_from limits (history ++ e ∷ []) after p es), few_inputs limits history s p e.app e.call e.answer, few_cut limits (history ++ e ∷ []) after p es, sum_by-cons (λ (x : Entry). cond (is_send x.call) 1 0) e es)

pub few_alone : (limits : Limits) (apps p : ℕ) (history : List Entry) → length (solo_receipts unmade (cut limits apps p history)) ≤ sends_in history
few_alone limits apps p history =
    omega (arith, few_given unmade (cut limits apps p history), few_cut limits [] (opening limits apps) p history)
