-- What sends answer and leave.
use Rattle.std.proofs.Common.{◌≡◌, ℕ, ◌+◌, ◌≤◌, Bool, true, false, ◌&&◌, not, cond, eqb, leb, ltb, List, [], ◌∷◌, length, map, Option, Some, None, is_some, refl, ap, sym, ◌∙◌, arith}
use Rattle.std.proofs.lemmas.Bool.Decides.{nat_tests}
use Rattle.fsw_base.specs.Limits.{Limits}
use Rattle.fsw_base.specs.PoolAccounts.{has_room}
use Rattle.fsw_base.specs.declared.statuses.SbStatus.{SbStatus}
use Rattle.fsw_base.specs.declared.statuses.SbStatus.TheVariants.{BadArgument, MsgTooBig, BufAlocErr, BufferInvalid}
use Rattle.ccsds_msg.specs.Message.{fault, front_fault, message_id}
use Rattle.ccsds_msg.specs.declared.packet.MsgFault.{MsgFault}
use Rattle.ccsds_msg.proofs.MessageLemmas.{IsMessage-length}
use Rattle.bus_words.specs.declared.calls.BusAnswer.{BusAnswer}
use Rattle.bus_words.specs.declared.calls.BusAnswer.TheVariants.{Sent}
use Rattle.bus_words.specs.declared.history.Call.TheVariants.{Transmit, TransmitBuffer}
use Rattle.bus_words.specs.Bus.{State, Subscription, Sending, route, deliver, reached, has_unsent, without_unsent}
use Rattle.bus_words.specs.Held.{account_of, account_drawn}
use Rattle.bus_words.specs.Machine.{allocate_cause, transmit_cause, transmit_buffer_cause, sent_along, passed_along, accept_with, refused_if, stamped, front_of}
use Rattle.bus_words.specs.Acts.{Whole, NextCount, moved_on, reads_in, completed}
use Rattle.list_messages.specs.Messages.{Messages, with_sent, with_passed, sending_of, passing_of}
use Rattle.list_bus.specs.Inside.{means, limits_in}
use Rattle.list_bus.specs.declared.bus.ListBus.TheInside.{Inside}

-- Causes. --

no_fault : (o : Option MsgFault) → not (is_some o) ≡ true → o ≡ None
no_fault None passes = refl
no_fault (Some why) passes = absurd (cc (passes))

-- a send that isn't refused is of a message
pub long_enough : (limits : Limits) (s : State) (bytes : List ℕ) → transmit_cause limits s bytes ≡ None → 7 ≤ length bytes
long_enough limits s bytes none =
    IsMessage-length bytes
    (no_fault (fault bytes)
    (passes (is_some (fault bytes)) (ltb limits.msgmax (length bytes))
    (cond (eqb (length (route s.subscriptions (message_id bytes))) 0) None (refused_if (not (has_room (account_of limits s) (length bytes))) BufAlocErr None)) none))
  where
    passes : (bad big : Bool) (others : Option SbStatus) → refused_if bad BadArgument (refused_if big MsgTooBig others) ≡ None → not bad ≡ true
    passes true big others is = absurd (cc (is))
    passes false big others is = refl

-- a buffer that isn't refused has a block
pub room_to : (limits : Limits) (s : State) (size : ℕ) → allocate_cause limits s size ≡ None → has_room (account_of limits s) size ≡ true
room_to limits s size none = passes (ltb size 7) (ltb limits.msgmax size) (has_room (account_of limits s) size) none
  where
    passes : (small big room : Bool) → refused_if small BadArgument (refused_if big MsgTooBig (refused_if (not room) BufAlocErr None)) ≡ None → room ≡ true
    passes true big room is = absurd (cc (is))
    passes false true room is = absurd (cc (is))
    passes false false true is = refl
    passes false false false is = absurd (cc (is))

-- a buffer whose transmission isn't refused begins with a message
pub begins : (s : State) (app buf : ℕ) (bytes : List ℕ) → transmit_buffer_cause s app buf bytes ≡ None → front_fault bytes ≡ None
begins s app buf bytes none = no_fault (front_fault bytes) (passes (has_unsent s.unsent app buf) (is_some (front_fault bytes)) none)
  where
    passes : (own bad : Bool) → refused_if (not own) BufferInvalid (refused_if bad BadArgument None) ≡ None → not bad ≡ true
    passes false bad is = absurd (cc (is))
    passes true true is = absurd (cc (is))
    passes true false is = refl

-- Next counts. --

-- a send under a new number moves its id's
moved : (nexts : List NextCount) (id given : ℕ) (inc : Bool) →
    cond {A = List NextCount} (inc && leb 1 (given + 1)) (map (moved_on id) nexts) nexts ≡ cond {A = List NextCount} inc (map (moved_on id) nexts) nexts
moved nexts id given false = refl
moved nexts id given true = ap (λ b. cond {A = List NextCount} b (map (moved_on id) nexts) nexts) some
  where
    some : leb 1 (given + 1) ≡ true
    some = grind (arith, nat_tests)

-- Sends along subscriptions. --

-- a send along a subscription
along : (limits : Limits) (subs : List Subscription) (sending : Sending) (s : State) → (length subs ≡ 0 → ⊥) →
    sent_along limits subs sending s
    ≡ (
      Sent sending.number (reached sending subs s.pipes),
      record s {
        pipes = deliver sending subs s.pipes;
        numbers_given = sending.number;
        made = (account_drawn limits s sending.asked).made;
        drawn = (account_drawn limits s sending.asked).requests;
      },
    )
along limits [] sending s some = absurd (some refl)
along limits (sub ∷ subs) sending s some = refl

passed : (subs : List Subscription) (sending : Sending) (s : State) → (length subs ≡ 0 → ⊥) →
    passed_along subs sending s ≡ (Sent sending.number (reached sending subs s.pipes), record s { pipes = deliver sending subs s.pipes })
passed [] sending s some = absurd (some refl)
passed (sub ∷ subs) sending s some = refl

module _ (a : Inside) (app : ℕ) (bytes : List ℕ) (inc : Bool) (subs : List Subscription) (routed : subs ≡ route a.subs.subscriptions (message_id bytes)) where
  -- Messages. --

  module _ (some : length subs ≡ 0 → ⊥) (message : List ℕ) (as_sent : message ≡ stamped (reads_in (means a)) bytes inc) where
    abbrev sending : List ℕ → Sending
    sending text = sending_of a.messages.part app (length bytes) text

    some_routed : length (route a.subs.subscriptions (message_id bytes)) ≡ 0 → ⊥
    some_routed none = some (ap length routed ∙ none)

    -- the answer, and the state, with this number of pipes, these messages and these next counts
    abbrev left : ℕ → ℕ → Messages → List NextCount → BusAnswer × Whole
    left number arrived part nexts = (Sent number arrived, record { bus = (means (record a { messages = record { part = part; uses = a.messages.uses } })).bus; nexts = nexts })

    pub sent_made : (number arrived : ℕ) (part : Messages) (nexts : List NextCount) → number ≡ a.messages.part.numbers_given + 1 →
        arrived ≡ reached (sending message) subs a.messages.part.pipes → part ≡ with_sent a.messages.part (sending message) subs →
        nexts ≡ cond {A = List NextCount} inc (map (moved_on (message_id bytes)) a.nexts) a.nexts →
        completed (limits_in a) (means a) (Transmit bytes inc) (accept_with (reads_in (means a)) (limits_in a) (means a).bus app (Transmit bytes inc)) ≡ left number arrived part nexts
    sent_made number arrived part nexts numbered arrives is counted =
        let given = a.messages.part.numbers_given in
        let pipes = a.messages.part.pipes in
        let by : List ℕ → List Subscription → BusAnswer × Whole = λ text ss. left (given + 1) (reached (sending text) ss pipes) (with_sent a.messages.part (sending text) ss) nexts in
        ap (completed (limits_in a) (means a) (Transmit bytes inc)) (along (limits_in a) (route a.subs.subscriptions (message_id bytes)) (sending (stamped (reads_in (means a)) bytes inc)) (means a).bus some_routed)
        ∙ ap (λ ns. left (given + 1) (reached (sending (stamped (reads_in (means a)) bytes inc)) (route a.subs.subscriptions (message_id bytes)) pipes) (with_sent a.messages.part (sending (stamped (reads_in (means a)) bytes inc)) (route a.subs.subscriptions (message_id bytes))) ns)
        (moved a.nexts (message_id bytes) given inc ∙ sym counted)
        ∙ sym
        (ap (λ n. left n arrived part nexts) numbered
        ∙ ap (λ n. left (given + 1) n part nexts) arrives
        ∙ ap (λ p. left (given + 1) (reached (sending message) subs pipes) p nexts) is
        ∙ ap (λ text. by text subs) as_sent
        ∙ ap (λ ss. by (stamped (reads_in (means a)) bytes inc) ss) routed)

  -- Buffers. --

  module _ (buf : ℕ) where
    module _ (some : length subs ≡ 0 → ⊥) (message : List ℕ) (as_sent : message ≡ stamped (reads_in (means a)) (front_of bytes) inc) where
      abbrev passing : List ℕ → Sending
      passing text = passing_of a.messages.part app buf text

      some_there : length (route a.subs.subscriptions (message_id bytes)) ≡ 0 → ⊥
      some_there none = some (ap length routed ∙ none)

      abbrev left_by : ℕ → Messages → List NextCount → BusAnswer × Whole
      left_by arrived part nexts = (Sent buf arrived, record { bus = (means (record a { messages = record { part = part; uses = a.messages.uses } })).bus; nexts = nexts })

      pub passed_made : (arrived : ℕ) (part : Messages) (nexts : List NextCount) →
          arrived ≡ reached (passing message) subs a.messages.part.pipes → part ≡ with_passed a.messages.part (passing message) subs →
          nexts ≡ cond {A = List NextCount} (inc && leb 1 buf) (map (moved_on (message_id bytes)) a.nexts) a.nexts →
          completed (limits_in a) (means a) (TransmitBuffer buf bytes inc) (accept_with (reads_in (means a)) (limits_in a) (means a).bus app (TransmitBuffer buf bytes inc)) ≡ left_by arrived part nexts
      passed_made arrived part nexts arrives is counted =
          let pipes = a.messages.part.pipes in
          let text = stamped (reads_in (means a)) (front_of bytes) inc in
          let by : List ℕ → List Subscription → BusAnswer × Whole = λ t ss. left_by (reached (passing t) ss pipes) (with_passed a.messages.part (passing t) ss) nexts in
          ap (completed (limits_in a) (means a) (TransmitBuffer buf bytes inc))
          (passed (route a.subs.subscriptions (message_id bytes)) (passing text) (record (means a).bus { unsent = without_unsent a.messages.part.unsent app buf }) some_there)
          ∙ ap (λ ns. left_by (reached (passing text) (route a.subs.subscriptions (message_id bytes)) pipes) (with_passed a.messages.part (passing text) (route a.subs.subscriptions (message_id bytes))) ns) (sym counted)
          ∙ sym
          (ap (λ n. left_by n part nexts) arrives
          ∙ ap (λ p. left_by (reached (passing message) subs pipes) p nexts) is
          ∙ ap (λ t. by t subs) as_sent
          ∙ ap (λ ss. by text ss) routed)
