-- What entries bring to pipes, in bytes, if the bus answered them.
use Rattle.std.proofs.Common.{◌≡◌, ℕ, zero, suc, ◌<◌, ◌≤◌, ◌==◌, not, ltb, Bool, true, false, cond, List, [], ◌∷◌, ◌++◌, length, Option, Some, None, refl, sym, subst, arith}
use Rattle.std.specs.Option.{is_some}
use Rattle.std.proofs.lemmas.Bool.{ltb-false}
use Rattle.ccsds_msg.specs.Message.{fault, front_fault, message_id}
use Rattle.ccsds_msg.specs.declared.packet.MsgFault.{MsgFault}
use Rattle.ccsds_msg.proofs.MessageLemmas.{IsMessage-length, IsMessage-front}
use Rattle.fsw_base.specs.declared.statuses.SbStatus.TheVariants.{BadArgument, BufferInvalid}
use Rattle.fsw_base.specs.Limits.{Limits}
use Rattle.bus_words.specs.declared.calls.BusAnswer.{BusAnswer}
use Rattle.bus_words.specs.declared.calls.BusAnswer.TheVariants as answers
use Rattle.bus_words.specs.declared.history.Call.{Call}
use Rattle.bus_words.specs.declared.history.Call.TheVariants as calls
use Rattle.bus_words.specs.declared.history.Entry.{Entry}
use Rattle.bus_words.specs.Refusals.{Refusal, OfBus, OfPools, OfEvents, refusal_answer}
use Rattle.bus_words.specs.Bus.{Sending, State, Subscription, opening, has_unsent, route}
use Rattle.bus_words.specs.Held.{numbers_to}
use Rattle.bus_words.specs.Machine.{IsLegal, LegalFrom, allocate_cause, buffer_gone, cause, decided_with, front_of, passed_along, reads_after, sent_along, state_after, step, transmit_buffer_cause, transmit_cause}
use Rattle.bus_words.specs.Sends.{Reads, sending_from, sending_in}
use Rattle.bus_words.specs.Numbers.{number_given, number_sent, numbers_in}
use Rattle.bus_words.specs.Runs.{own_entries}
use Rattle.bus_words.proofs.Finds.{Each}
use Rattle.bus_words.proofs.Numbers.{numbers_in_order}
use Rattle.bus_words.proofs.Steps.{by_bus-none, refused_if-none}

-- ---- what the bus accepts

-- of an accepted call: a buffer has room for a message, and what is sent is one
abbrev pub Sound : Call → BusAnswer → Type 0
Sound (calls.Allocate size) (answers.Number number) = 7 ≤ size
Sound (calls.Transmit bytes inc) (answers.Sent number reached) = 7 ≤ length bytes
Sound (calls.TransmitBuffer buf bytes inc) (answers.Sent number reached) = 7 ≤ length (front_of bytes)
Sound call answer = Unit {0}

sound-refused : (call : Call) (why : Refusal) → Sound call (refusal_answer why)
sound-refused (calls.Allocate size) (OfBus status) = tt
sound-refused (calls.Allocate size) (OfPools status) = tt
sound-refused (calls.Allocate size) (OfEvents status) = tt
sound-refused (calls.Transmit bytes inc) (OfBus status) = tt
sound-refused (calls.Transmit bytes inc) (OfPools status) = tt
sound-refused (calls.Transmit bytes inc) (OfEvents status) = tt
sound-refused (calls.TransmitBuffer buf bytes inc) (OfBus status) = tt
sound-refused (calls.TransmitBuffer buf bytes inc) (OfPools status) = tt
sound-refused (calls.TransmitBuffer buf bytes inc) (OfEvents status) = tt
sound-refused call why = tt

fault-none : (why : Option MsgFault) → is_some why ≡ false → why ≡ None
fault-none None none = refl
fault-none (Some other) none = absurd cc

sound-along : (limits : Limits) (subs : List Subscription) (sending : Sending) (s : State) (bytes : List ℕ) (inc : Bool) → 7 ≤ length bytes → Sound (calls.Transmit bytes inc) (sent_along limits subs sending s).0
sound-along limits [] sending s bytes inc long = long
sound-along limits (sub ∷ subs) sending s bytes inc long = long

sound-passed : (subs : List Subscription) (sending : Sending) (s : State) (buf : ℕ) (bytes : List ℕ) (inc : Bool) → 7 ≤ length (front_of bytes) → Sound (calls.TransmitBuffer buf bytes inc) (passed_along subs sending s).0
sound-passed [] sending s buf bytes inc long = long
sound-passed (sub ∷ subs) sending s buf bytes inc long = long

sound-decided : (reads : Reads) (limits : Limits) (s : State) (app : ℕ) (call : Call) (why : Option Refusal) → cause limits s app call ≡ why → Sound call (decided_with reads limits s app call why).0
sound-decided reads limits s app call (Some why) is = sound-refused call why
sound-decided reads limits s app (calls.Allocate size) None is =
    ltb-false size 7 (refused_if-none (ltb size 7) BadArgument _ (by_bus-none (allocate_cause limits s size) is)).0
sound-decided reads limits s app (calls.Transmit bytes inc) None is =
    let none = by_bus-none (transmit_cause limits s bytes) is in
    sound-along limits (route s.subscriptions (message_id bytes)) (sending_from reads s app bytes inc) s bytes inc
    (IsMessage-length bytes (fault-none (fault bytes) (refused_if-none (is_some (fault bytes)) BadArgument _ none).0))
sound-decided reads limits s app (calls.TransmitBuffer buf bytes inc) None is =
    let none = by_bus-none (transmit_buffer_cause s app buf bytes) is in
    let first = (refused_if-none (not (has_unsent s.unsent app buf)) BufferInvalid _ none).1 in
    sound-passed (route s.subscriptions (message_id bytes)) (sending_in reads s app buf bytes inc) (buffer_gone s app buf) buf bytes inc
    (IsMessage-length (front_of bytes) (IsMessage-front bytes (fault-none (front_fault bytes) (refused_if-none (is_some (front_fault bytes)) BadArgument _ first).0)))
sound-decided reads limits s app call None is = tt

sound-step : (limits : Limits) (history : List Entry) (s : State) (app : ℕ) (call : Call) → Sound call (step limits history s app call).0
sound-step limits history s app call = sound-decided (reads_after limits history) limits s app call (cause limits s app call) refl

abbrev pub IsSound : Entry → Type 0
IsSound e = Sound e.call e.answer

pub sound-from : (limits : Limits) (history : List Entry) (s : State) (es : List Entry) → LegalFrom limits history s es → Each IsSound es
sound-from limits history s [] legal = tt
sound-from limits history s (e ∷ es) legal = (
  subst (Sound e.call) (sym legal.1) (sound-step limits history s e.app e.call),
  sound-from limits (history ++ e ∷ []) (step limits history s e.app e.call).1 es legal.4,
)

-- ---- numbers that grow

-- each is greater than those before, and than this one
abbrev pub Ascends : ℕ → List ℕ → Type 0
Ascends m [] = Unit {0}
Ascends m (n ∷ ns) = (m < n) × Ascends n ns

ascends-lower : (m k : ℕ) (ns : List ℕ) → m ≤ k → Ascends k ns → Ascends m ns
ascends-lower m k [] below up = tt
ascends-lower m k (n ∷ ns) below up = let first = up.0 in (omega (arith, below, first), up.1)

ascends-rest : (m : ℕ) (xs ys : List ℕ) → Ascends m (xs ++ ys) → Ascends m ys
ascends-rest m [] ys up = up
ascends-rest m (x ∷ xs) ys up = let first = up.0 in ascends-lower m x ys (omega (arith, first)) (ascends-rest x xs ys up.1)

ascends-push : (m : ℕ) (ns : List ℕ) (n : ℕ) → Ascends m ns → m < n → Each (λ k. k < n) ns → Ascends m (ns ++ n ∷ [])
ascends-push m [] n up above all = (above, tt)
ascends-push m (k ∷ ns) n up above all = (up.0, ascends-push k ns n up.1 all.0 all.1)

below-push : (ns : List ℕ) (n k : ℕ) → Each (λ i. i < n) ns → n ≤ k → Each (λ i. i < suc k) (ns ++ k ∷ [])
below-push [] n k all most = (omega arith, tt)
below-push (i ∷ ns) n k all most = let first = all.0 in (omega (arith, first, most), below-push ns n k all.1 most)

numbers_below : (n : ℕ) → Each (λ k. k < suc n) (numbers_to n)
numbers_below zero = tt
numbers_below (suc n) = below-push (numbers_to n) (suc n) (suc n) (numbers_below n) (omega arith)

numbers_ascend : (n : ℕ) → Ascends 0 (numbers_to n)
numbers_ascend zero = tt
numbers_ascend (suc n) = ascends-push 0 (numbers_to n) (suc n) (numbers_ascend n) (omega arith) (numbers_below n)

-- ---- the entries of one application

-- the greatest number of a buffer so far
abbrev pub after : ℕ → Call → BusAnswer → ℕ
after m (calls.Allocate size) (answers.Number number) = number
after m call answer = m

-- a new buffer has a greater number than all before, and room for a message; what is sent is one
abbrev pub Grown : ℕ → Call → BusAnswer → Type 0
Grown m (calls.Allocate size) (answers.Number number) = (m < number) × (7 ≤ size)
Grown m (calls.Transmit bytes inc) (answers.Sent number reached) = 7 ≤ length bytes
Grown m call answer = Unit {0}

abbrev pub Grows : ℕ → List Entry → Type 0
Grows m [] = Unit {0}
Grows m (e ∷ es) = Grown m e.call e.answer × Grows (after m e.call e.answer) es

grown-one : (m : ℕ) (call : Call) (answer : BusAnswer) (ns : List ℕ) → Ascends m (number_given call answer ++ ns) → Sound call answer → Grown m call answer × Ascends (after m call answer) ns
grown-one m (calls.Allocate size) (answers.Number number) ns up sound = ((up.0, sound), up.1)
grown-one m (calls.Transmit bytes inc) (answers.Sent number reached) ns up sound = (sound, ascends-rest m (number_sent number) ns up)
grown-one m call answer ns up sound = (tt, ascends-rest m (number_given call answer) ns up)

grows-own : (m app : ℕ) (es : List Entry) → Ascends m (numbers_in es) → Each IsSound es → Grows m (own_entries app es)
grows-own m app [] up sound = tt
grows-own m app (e ∷ es) up sound =
    elim (e.app == app) as (λ b. Grows m (cond {A = List Entry} b (e ∷ own_entries app es) (own_entries app es))) [
      | true ↦ let one = grown-one m e.call e.answer (numbers_in es) up sound.0 in (one.0, grows-own (after m e.call e.answer) app es one.1 sound.1)
      | false ↦ grows-own m app es (ascends-rest m (number_given e.call e.answer) (numbers_in es) up) sound.1
    ]

-- an application's buffers get greater and greater numbers, and what it sends is a message
pub own-grows : (limits : Limits) (apps app : ℕ) (history : List Entry) → IsLegal limits apps history → Grows 0 (own_entries app history)
own-grows limits apps app history legal =
    grows-own 0 app history
    (subst (Ascends 0) (sym (numbers_in_order limits apps history legal)) (numbers_ascend (state_after limits apps history).numbers_given))
    (sound-from limits [] (opening limits apps) history legal)
