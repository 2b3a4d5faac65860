-- Send numbers are given as 1, 2, 3 and so on.
use Rattle.std.proofs.Common.{◌≡◌, ℕ, zero, suc, ◌+◌, ◌<◌, ◌&&◌, not, true, append-nil, append_assoc, List, [], ◌∷◌, ◌++◌, Option, Some, None, refl, ap, sym, ◌∙◌, subst, arith}
use Rattle.std.specs.Prelude.{All}
use Rattle.std.proofs.lemmas.List.Elements.{All-nil, All-cons}
use Rattle.fsw_base.specs.Limits.{Limits}
use Rattle.bus_words.specs.declared.calls.BusAnswer.{BusAnswer}
use Rattle.bus_words.specs.declared.calls.BusAnswer.TheVariants as answers
use Rattle.bus_words.specs.declared.history.Call.{Call}
use Rattle.bus_words.specs.declared.history.Call.TheVariants.{Create, Delete, SetOpts, GetOpts, Find, PipeName, Subscribe, Unsubscribe, Transmit, Receive, Pend, Look, Allocate, TransmitBuffer, Release, PoolCreate, PoolGet, PoolPut, PoolFigures, Register, SendEvent, ResetFilter, LogMode, ClearLog, Housekeeping, Figures, End}
use Rattle.bus_words.specs.declared.history.Entry.{Entry}
use Rattle.bus_words.specs.Refusals.{Refusal, OfBus, OfPools, OfEvents, refusal_answer}
use Rattle.bus_words.specs.Bus.{Subscription, State, Sending, Waiting, Active, opening, route, is_empty, is_subscribed, others_idle, reached, with_standing}
use Rattle.bus_words.specs.Held.{numbers_to}
use Rattle.ccsds_msg.specs.Message.{message_id}
use Rattle.bus_words.specs.Sends.{Reads, sending_from, sending_in, packet_in}
use Rattle.bus_words.specs.Machine.{LegalFrom, accept_with, buffer_gone, cause, decided_with, passed_along, reads_after, received, refused_state, sent_along, state_after, state_from, step, subscribed}
use Rattle.bus_words.specs.Numbers.{NumbersAreNew, NumbersInOrder, number_given, number_sent, numbers_in}
use Rattle.bus_words.proofs.Finds.{Each, Each-push, Each-drop}
use Rattle.bus_words.proofs.LegalSteps.{legal-front}
use Rattle.bus_words.proofs.OwnEntries.{legal_back}
use Rattle.bus_words.proofs.Steps.{after_choice, after_refusal, with_subscription}

-- what is answered and left is so that the number given, if any, is the next one
record Gives (s : State) (call : Call) (made : BusAnswer × State) : Type 0 where
  pub numbers : numbers_to (made.1).numbers_given ≡ numbers_to s.numbers_given ++ number_given call (made.0)
  pub next : Each (λ n. n ≡ s.numbers_given + 1) (number_given call (made.0))

-- no number
no_number : (s : State) (call : Call) (made : BusAnswer × State) → number_given call (made.0) ≡ [] → (made.1).numbers_given ≡ s.numbers_given → Gives s call made
no_number s call made none same = record {
  numbers = ap numbers_to same ∙ sym (append-nil (numbers_to s.numbers_given)) ∙ ap (λ given. numbers_to s.numbers_given ++ given) (sym none);
  next = subst (Each (λ n. n ≡ s.numbers_given + 1)) (sym none) tt;
}

-- the next number
next_is : (n : ℕ) → n + 1 ≡ suc n
next_is n = omega arith

numbers_more : (n : ℕ) → numbers_to (n + 1) ≡ numbers_to n ++ (n + 1) ∷ []
numbers_more n = ap numbers_to (next_is n) ∙ ap (λ m. numbers_to n ++ m ∷ []) (sym (next_is n))

number-sent : (n : ℕ) → number_sent (n + 1) ≡ (n + 1) ∷ []
number-sent n = ap number_sent (next_is n) ∙ ap (λ m. m ∷ []) (sym (next_is n))

-- Refusals. --

refused-none : (call : Call) (why : Refusal) → number_given call (refusal_answer why) ≡ []
refused-none (Create depth name) why = refl
refused-none (Delete pipe) why = refl
refused-none (SetOpts pipe bits) why = refl
refused-none (GetOpts pipe) why = refl
refused-none (Find name) why = refl
refused-none (PipeName pipe) why = refl
refused-none (Subscribe id pipe limit scope) why = refl
refused-none (Unsubscribe id pipe) why = refl
refused-none (Transmit bytes inc) (OfBus status) = refl
refused-none (Transmit bytes inc) (OfPools status) = refl
refused-none (Transmit bytes inc) (OfEvents status) = refl
refused-none (Receive pipe) why = refl
refused-none (Pend pipe) why = refl
refused-none (Look pipe) why = refl
refused-none (Allocate size) (OfBus status) = refl
refused-none (Allocate size) (OfPools status) = refl
refused-none (Allocate size) (OfEvents status) = refl
refused-none (TransmitBuffer buf bytes inc) why = refl
refused-none (Release buf) why = refl
refused-none (PoolCreate bytes) why = refl
refused-none (PoolGet pool size) why = refl
refused-none (PoolPut pool grant) why = refl
refused-none (PoolFigures pool) why = refl
refused-none (Register filters) why = refl
refused-none (SendEvent id kind text) why = refl
refused-none (ResetFilter id) why = refl
refused-none (LogMode mode) why = refl
refused-none ClearLog why = refl
refused-none Housekeeping (OfBus status) = refl
refused-none Housekeeping (OfPools status) = refl
refused-none Housekeeping (OfEvents status) = refl
refused-none Figures why = refl
refused-none End why = refl

refused-gives : (s : State) (call : Call) (why : Refusal) → Gives s call (refusal_answer why, refused_state s call why)
refused-gives s call why =
    no_number s call (refusal_answer why, refused_state s call why) (refused-none call why)
    (after_refusal (λ t. t.numbers_given ≡ s.numbers_given) s call why refl (λ pipe. refl) (λ next follows. refl))

-- Calls that aren't refused. --

along-gives : (limits : Limits) (subs : List Subscription) (sending : Sending) (s : State) (call : Call) → sending.number ≡ s.numbers_given + 1 →
    ((number reached : ℕ) → number_given call (answers.Sent number reached) ≡ number_sent number) → Gives s call (sent_along limits subs sending s)
along-gives limits [] sending s call number gives = no_number s call (sent_along limits [] sending s) (gives 0 0) refl
along-gives limits (sub ∷ subs) sending s call number gives =
    let given = s.numbers_given in
    let one = gives sending.number (reached sending (sub ∷ subs) s.pipes) ∙ ap number_sent number ∙ number-sent given in
    record {
      numbers = ap numbers_to number ∙ numbers_more given ∙ ap (λ ns. numbers_to given ++ ns) (sym one);
      next = subst (Each (λ n. n ≡ given + 1)) (sym one) (refl, tt);
    }

passing-same : (subs : List Subscription) (sending : Sending) (s : State) → ((passed_along subs sending s).1).numbers_given ≡ s.numbers_given
passing-same [] sending s = refl
passing-same (sub ∷ subs) sending s = refl

accepted-gives : (reads : Reads) (limits : Limits) (s : State) (app : ℕ) (call : Call) → Gives s call (accept_with reads limits s app call)
accepted-gives reads limits s app (Create depth name) = no_number s _ _ refl refl
accepted-gives reads limits s app (Delete pipe) = no_number s _ _ refl refl
accepted-gives reads limits s app (SetOpts pipe bits) = no_number s _ _ refl refl
accepted-gives reads limits s app (GetOpts pipe) = no_number s _ _ refl refl
accepted-gives reads limits s app (Find name) = no_number s _ _ refl refl
accepted-gives reads limits s app (PipeName pipe) = no_number s _ _ refl refl
accepted-gives reads limits s app (Subscribe id pipe limit scope) =
    no_number s _ (subscribed s id pipe limit scope) refl
    (after_choice Same (is_subscribed s.subscriptions id pipe) s (with_subscription s id pipe limit scope) refl refl)
  where
    Same : State → Type 0
    Same t = t.numbers_given ≡ s.numbers_given
accepted-gives reads limits s app (Unsubscribe id pipe) = no_number s _ _ refl refl
accepted-gives reads limits s app (Transmit bytes inc) =
    along-gives limits (route s.subscriptions (message_id bytes)) (sending_from reads s app bytes inc) s (Transmit bytes inc) refl (λ number reached. refl)
accepted-gives reads limits s app (Receive pipe) = no_number s _ _ refl refl
accepted-gives reads limits s app (Pend pipe) =
    no_number s _ _ refl
    (after_choice Same (is_empty s.pipes pipe && not (others_idle s app)) (with_standing (received s pipe) app (Waiting pipe)) (received s pipe) refl refl)
  where
    Same : State → Type 0
    Same t = t.numbers_given ≡ s.numbers_given
accepted-gives reads limits s app (Look pipe) =
    no_number s _ _ refl
    (after_choice Same (is_empty s.pipes pipe && not (others_idle s app)) s (with_standing (received s pipe) app Active) refl refl)
  where
    Same : State → Type 0
    Same t = t.numbers_given ≡ s.numbers_given
accepted-gives reads limits s app (Allocate size) = record { numbers = numbers_more s.numbers_given; next = (refl, tt) }
accepted-gives reads limits s app (TransmitBuffer buf bytes inc) =
    no_number s _ _ refl (passing-same (route s.subscriptions (message_id bytes)) (sending_in reads s app buf bytes inc) (buffer_gone s app buf))
accepted-gives reads limits s app (Release buf) = no_number s _ _ refl refl
accepted-gives reads limits s app (PoolCreate bytes) = no_number s _ _ refl refl
accepted-gives reads limits s app (PoolGet pool size) = no_number s _ _ refl refl
accepted-gives reads limits s app (PoolPut pool grant) = no_number s _ _ refl refl
accepted-gives reads limits s app (PoolFigures pool) = no_number s _ _ refl refl
accepted-gives reads limits s app (Register filters) = no_number s _ _ refl refl
accepted-gives reads limits s app (SendEvent id kind text) = no_number s _ _ refl refl
accepted-gives reads limits s app (ResetFilter id) = no_number s _ _ refl refl
accepted-gives reads limits s app (LogMode mode) = no_number s _ _ refl refl
accepted-gives reads limits s app ClearLog = no_number s _ _ refl refl
accepted-gives reads limits s app Housekeeping =
    along-gives limits (route s.subscriptions (message_id (packet_in limits s))) (sending_from reads s app (packet_in limits s) true) s Housekeeping refl (λ number reached. refl)
accepted-gives reads limits s app Figures = no_number s _ _ refl refl
accepted-gives reads limits s app End = no_number s _ _ refl refl

-- whatever the call, its number, if any, is the next one
step-gives : (limits : Limits) (history : List Entry) (s : State) (app : ℕ) (call : Call) → Gives s call (step limits history s app call)
step-gives limits history s app call =
    let gives = by_cause (cause limits s app call) in
    record { numbers = gives.numbers; next = gives.next }
  where
    reads : Reads
    reads = reads_after limits history

    by_cause : (why : Option Refusal) → Gives s call (decided_with reads limits s app call why)
    by_cause (Some why) = refused-gives s call why
    by_cause None = accepted-gives reads limits s app call

-- Histories. --

numbers-from : (limits : Limits) (history : List Entry) (s : State) (es : List Entry) → LegalFrom limits history s es →
    numbers_to (state_from limits history s es).numbers_given ≡ numbers_to s.numbers_given ++ numbers_in es
numbers-from limits history s [] legal = sym (append-nil (numbers_to s.numbers_given))
numbers-from limits history s (e ∷ es) legal =
    let after = (step limits history s e.app e.call).1 in
    let given = numbers_to s.numbers_given in
    numbers-from limits (history ++ e ∷ []) after es legal.4
    ∙ ap (λ ns. ns ++ numbers_in es) ((step-gives limits history s e.app e.call).numbers ∙ ap (λ answer. given ++ number_given e.call answer) (sym legal.1))
    ∙ append_assoc given (number_given e.call e.answer) (numbers_in es)

-- a history gives the numbers 1, 2, 3 and so on
pub numbers_in_order : NumbersInOrder
numbers_in_order limits apps history legal = sym (numbers-from limits [] (opening limits apps) history legal)

-- numbers up to one are below the next
numbers_below : (n : ℕ) → Each (λ m. m < n + 1) (numbers_to n)
numbers_below zero = tt
numbers_below (suc n) =
    Each-push (λ m. m < suc n + 1) (numbers_to n) (suc n)
    (Each-drop (λ m. m < n + 1) (λ m. m < suc n + 1) (numbers_to n) (λ m is. omega (arith, is)) (numbers_below n)) (omega arith)

-- and one more is greater than all before
pub numbers_are_new : NumbersAreNew
numbers_are_new limits apps history e legal =
    let s = state_after limits apps history in
    let front = legal-front limits [] (opening limits apps) history (e ∷ []) legal in
    let last = legal_back limits [] (opening limits apps) history (e ∷ []) legal in
    let IsNext : ℕ → Type 0 = λ n. n ≡ s.numbers_given + 1 in
    let Below : ℕ → ℕ → Type 0 = λ number before. before < number in
    let next : Each IsNext (number_given e.call e.answer) =
    subst (λ answer. Each IsNext (number_given e.call answer)) (sym last.1) (step-gives limits history s e.app e.call).next in
    each_all (λ number. All (Below number) (numbers_in history)) (number_given e.call e.answer)
    (Each-drop IsNext (λ number. All (Below number) (numbers_in history)) (number_given e.call e.answer)
    (λ n is. subst (All (Below n)) (sym (numbers_in_order limits apps history front))
    (each_all (Below n) (numbers_to s.numbers_given)
    (subst (λ m. Each (Below m) (numbers_to s.numbers_given)) (sym is) (numbers_below s.numbers_given)))) next)
  where
    each_all : (P : ℕ → Type 0) (ns : List ℕ) → Each P ns → All P ns
    each_all P [] each = All-nil P
    each_all P (n ∷ ns) each = All-cons P n ns each.0 (each_all P ns each.1)
