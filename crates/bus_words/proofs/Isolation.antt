-- Each pipe stands alone: through every legal history it stays alike the pipe alone that gets its inputs.
use Rattle.std.proofs.Common.{◌≡◌, ℕ, ◌+◌, ◌≤◌, ◌==◌, ◌&&◌, not, Bool, true, false, cond, true≢false, eqb-true, le-leb, append-nil, append_assoc, List, [], ◌∷◌, ◌++◌, length, Option, Some, None, is_some, IsTrue, refl, ap, sym, ◌∙◌, subst, arith}
use Rattle.std.specs.Prelude.{nat_le}
use Rattle.std.specs.Option.{option_map, option_map_or}
use Rattle.fsw_base.specs.declared.config.Scope.{Scope}
use Rattle.fsw_base.specs.declared.statuses.SbStatus.{SbStatus}
use Rattle.fsw_base.specs.declared.statuses.SbStatus.TheVariants.{BadArgument, MaxPipesMet, PipeCrErr, MaxMsgsMet, MaxDestsMet, MsgTooBig, BufAlocErr, NoMessage, BufferInvalid}
use Rattle.fsw_base.specs.Limits.{Limits}
use Rattle.ccsds_msg.specs.Message.{message_id}
use Rattle.housekeeping.proofs.PacketLemmas.{message_id-housekeeping_packet}
use Rattle.bus_words.specs.declared.calls.BusAnswer.{BusAnswer}
use Rattle.bus_words.specs.declared.calls.BusAnswer.TheVariants.{Done, Got, TimeOut, Pending, Sb}
use Rattle.bus_words.specs.declared.history.Call.{Call}
use Rattle.bus_words.specs.declared.history.Call.TheVariants.{Create, Delete, SetOpts, GetOpts, Find, PipeName, Subscribe, Unsubscribe, Transmit, Receive, Pend, Look, Allocate, TransmitBuffer, Release, PoolCreate, PoolGet, PoolPut, PoolFigures, Register, SendEvent, ResetFilter, LogMode, ClearLog, Housekeeping, Figures, End}
use Rattle.bus_words.specs.declared.history.Entry.{Entry}
use Rattle.bus_words.specs.Bus.{Item, Pipe, Subscription, State, Sending, Waiting, Active, opening, pipe_at, with_pipe, is_empty, is_subscribed, others_idle, owns, route, unsent_size, deliver, oldest, after_receive, with_standing}
use Rattle.bus_words.specs.Refusals.{Refusal, OfBus, OfPools, OfEvents, refusal_answer}
use Rattle.bus_words.specs.Held.{in_use}
use Rattle.bus_words.specs.Machine.{sending_from, packet_in, reads_after, delivered, front_of, refused_if, unowned_cause, receive_cause, transmit_buffer_cause, subscribed, sent_along, buffer_gone, passed_along, received, oldest_number, cause, accept, decided, refused_state, step, makes_entry, state_from, LegalFrom, IsLegal}
use Rattle.bus_words.specs.Alone.{Alone, Input, Send, Received, unmade, solo, solo_receipts, input_alone, given, inputs_of, gets_from, was_made, cut_from, cut, last_received, receipts_from, receipts, received_of, last_of, Gives}
use Rattle.bus_words.proofs.Steps.{AreNumbered, AreNumbered-step, with_subscription, by_bus-none, by_bus-some, transmit_buffer_cause-none}
use Rattle.bus_words.proofs.Firsts.{AreFirst, AreFirst-step, AreFirst-opening, first-of}
use Rattle.bus_words.proofs.Ties.{AreTied, AreTied-step}
use Rattle.bus_words.proofs.OnePipe.{newest_on, changed_here, Stand, Goes, goes_by, goes-create, goes-delete, goes-opts, goes-duplicate, goes-subscribe, goes-unsubscribe, goes-got, goes-empty, goes-send, goes-early, goes-end}

-- what holds of the bus by itself
pub record AreOrdered (s : State) : Type 0 where
  pub numbered : AreNumbered s
  pub tied : AreTied s
  pub buffers : AreFirst s

-- what this call, so answered, does to pipe p and to the pipe alone
abbrev Does : Limits → List Entry → State → ℕ → Alone → ℕ → Call → BusAnswer × State → Type 0
Does limits history s p a app call next =
    Goes p (inputs_of limits history s p (record { app = app; call = call; answer = next.0 })) (gets_from p (record { app = app; call = call; answer = next.0 }))
    next.1.subscriptions_made next.1.pipes next.1.subscriptions a

some_none : {A : Type 0} (x : A) → Some x ≡ None → ⊥
some_none x is = true≢false (ap is_some is)

is_same : (status other : SbStatus) → Some status ≡ Some other → status ≡ other
is_same status other is = ap (λ (o : Option SbStatus). option_map_or (λ x. x) o status) is

-- Refused calls. --

pub no_message : (s : State) (app pipe : ℕ) → receive_cause s app pipe ≡ Some NoMessage → is_empty s.pipes pipe ≡ true
no_message s app pipe is =
    by_tests (not (owns s.pipes app pipe)) (is_empty s.pipes pipe) is
  where
    is_no_message : SbStatus → Bool
    is_no_message BadArgument = false
    is_no_message MaxPipesMet = false
    is_no_message PipeCrErr = false
    is_no_message MaxMsgsMet = false
    is_no_message MaxDestsMet = false
    is_no_message MsgTooBig = false
    is_no_message BufAlocErr = false
    is_no_message NoMessage = true
    is_no_message BufferInvalid = false

    by_tests : (other empty : Bool) → refused_if other BadArgument (refused_if empty NoMessage None) ≡ Some NoMessage → empty ≡ true
    by_tests true empty is = absurd (true≢false (sym (ap is_no_message (is_same BadArgument NoMessage is))))
    by_tests false true is = refl
    by_tests false false is = absurd (some_none NoMessage (sym is))

-- a refusal of a pipe that isn't the caller's is a bad argument
bad_argument : (s : State) (app pipe : ℕ) (status : SbStatus) → unowned_cause s app pipe ≡ Some status → BadArgument ≡ status
bad_argument s app pipe status is = by_test (not (owns s.pipes app pipe)) is
  where
    by_test : (other : Bool) → refused_if other BadArgument None ≡ Some status → BadArgument ≡ status
    by_test true is = is_same BadArgument status is
    by_test false is = absurd (some_none status (sym is))

does-receive_refused : (limits : Limits) (history : List Entry) (s : State) (p : ℕ) (a : Alone) (own : ℕ → ℕ) (app pipe : ℕ) (status : SbStatus) →
    Stand own p s a → receive_cause s app pipe ≡ Some status → Does limits history s p a app (Receive pipe) (Sb status, refused_state s (Receive pipe) (OfBus status))
does-receive_refused limits history s p a own app pipe BadArgument alike is = goes_by own p s.subscriptions_made s.pipes s.subscriptions a alike
does-receive_refused limits history s p a own app pipe MaxPipesMet alike is = goes_by own p s.subscriptions_made s.pipes s.subscriptions a alike
does-receive_refused limits history s p a own app pipe PipeCrErr alike is = goes_by own p s.subscriptions_made s.pipes s.subscriptions a alike
does-receive_refused limits history s p a own app pipe MaxMsgsMet alike is = goes_by own p s.subscriptions_made s.pipes s.subscriptions a alike
does-receive_refused limits history s p a own app pipe MaxDestsMet alike is = goes_by own p s.subscriptions_made s.pipes s.subscriptions a alike
does-receive_refused limits history s p a own app pipe MsgTooBig alike is = goes_by own p s.subscriptions_made s.pipes s.subscriptions a alike
does-receive_refused limits history s p a own app pipe BufAlocErr alike is = goes_by own p s.subscriptions_made s.pipes s.subscriptions a alike
does-receive_refused limits history s p a own app pipe NoMessage alike is = goes-empty own p s.subscriptions_made pipe s.pipes s.subscriptions a (no_message s app pipe is) alike
does-receive_refused limits history s p a own app pipe BufferInvalid alike is = goes_by own p s.subscriptions_made s.pipes s.subscriptions a alike

does-refused : (limits : Limits) (history : List Entry) (s : State) (p : ℕ) (a : Alone) (own : ℕ → ℕ) (app : ℕ) (call : Call) (why : Refusal) →
    Stand own p s a → cause limits s app call ≡ Some why → Does limits history s p a app call (refusal_answer why, refused_state s call why)
does-refused limits history s p a own app (Create depth name) (OfBus status) alike is = goes_by own p s.subscriptions_made s.pipes s.subscriptions a alike
does-refused limits history s p a own app (Delete pipe) (OfBus status) alike is = goes_by own p s.subscriptions_made s.pipes s.subscriptions a alike
does-refused limits history s p a own app (SetOpts pipe bits) (OfBus status) alike is = goes_by own p s.subscriptions_made s.pipes s.subscriptions a alike
does-refused limits history s p a own app (GetOpts pipe) (OfBus status) alike is = goes_by own p s.subscriptions_made s.pipes s.subscriptions a alike
does-refused limits history s p a own app (Find name) (OfBus status) alike is = goes_by own p s.subscriptions_made s.pipes s.subscriptions a alike
does-refused limits history s p a own app (PipeName pipe) (OfBus status) alike is = goes_by own p s.subscriptions_made s.pipes s.subscriptions a alike
does-refused limits history s p a own app (Subscribe id pipe limit scope) (OfBus status) alike is = goes_by own p s.subscriptions_made s.pipes s.subscriptions a alike
does-refused limits history s p a own app (Unsubscribe id pipe) (OfBus status) alike is = goes_by own p s.subscriptions_made s.pipes s.subscriptions a alike
does-refused limits history s p a own app (Transmit bytes inc) (OfBus status) alike is = goes_by own p s.subscriptions_made s.pipes s.subscriptions a alike
does-refused limits history s p a own app (Receive pipe) (OfBus status) alike is = does-receive_refused limits history s p a own app pipe status alike (by_bus-some (receive_cause s app pipe) status is)
does-refused limits history s p a own app (Pend pipe) (OfBus status) alike is =
    subst (λ x. Does limits history s p a app (Pend pipe) (Sb x, s)) (bad_argument s app pipe status (by_bus-some (unowned_cause s app pipe) status is)) (goes_by own p s.subscriptions_made s.pipes s.subscriptions a alike)
does-refused limits history s p a own app (Look pipe) (OfBus status) alike is = absurd (some_none (OfBus status) (sym is))
does-refused limits history s p a own app (Allocate size) (OfBus status) alike is = goes_by own p s.subscriptions_made s.pipes s.subscriptions a alike
does-refused limits history s p a own app (TransmitBuffer buf bytes inc) (OfBus status) alike is = goes_by own p s.subscriptions_made s.pipes s.subscriptions a alike
does-refused limits history s p a own app (Release buf) (OfBus status) alike is = goes_by own p s.subscriptions_made s.pipes s.subscriptions a alike
does-refused limits history s p a own app (PoolCreate bytes) (OfBus status) alike is = goes_by own p s.subscriptions_made s.pipes s.subscriptions a alike
does-refused limits history s p a own app (PoolGet pool size) (OfBus status) alike is = goes_by own p s.subscriptions_made s.pipes s.subscriptions a alike
does-refused limits history s p a own app (PoolPut pool grant) (OfBus status) alike is = goes_by own p s.subscriptions_made s.pipes s.subscriptions a alike
does-refused limits history s p a own app (PoolFigures pool) (OfBus status) alike is = goes_by own p s.subscriptions_made s.pipes s.subscriptions a alike
does-refused limits history s p a own app (Register filters) (OfBus status) alike is = goes_by own p s.subscriptions_made s.pipes s.subscriptions a alike
does-refused limits history s p a own app (SendEvent event kind text) (OfBus status) alike is = goes_by own p s.subscriptions_made s.pipes s.subscriptions a alike
does-refused limits history s p a own app (ResetFilter event) (OfBus status) alike is = goes_by own p s.subscriptions_made s.pipes s.subscriptions a alike
does-refused limits history s p a own app (LogMode mode) (OfBus status) alike is = goes_by own p s.subscriptions_made s.pipes s.subscriptions a alike
does-refused limits history s p a own app ClearLog (OfBus status) alike is = goes_by own p s.subscriptions_made s.pipes s.subscriptions a alike
does-refused limits history s p a own app Housekeeping (OfBus status) alike is = goes_by own p s.subscriptions_made s.pipes s.subscriptions a alike
does-refused limits history s p a own app Figures (OfBus status) alike is = goes_by own p s.subscriptions_made s.pipes s.subscriptions a alike
does-refused limits history s p a own app End (OfBus status) alike is = absurd (some_none (OfBus status) (sym is))
does-refused limits history s p a own app (Create depth name) (OfPools status) alike is = goes_by own p s.subscriptions_made s.pipes s.subscriptions a alike
does-refused limits history s p a own app (Delete pipe) (OfPools status) alike is = goes_by own p s.subscriptions_made s.pipes s.subscriptions a alike
does-refused limits history s p a own app (SetOpts pipe bits) (OfPools status) alike is = goes_by own p s.subscriptions_made s.pipes s.subscriptions a alike
does-refused limits history s p a own app (GetOpts pipe) (OfPools status) alike is = goes_by own p s.subscriptions_made s.pipes s.subscriptions a alike
does-refused limits history s p a own app (Find name) (OfPools status) alike is = goes_by own p s.subscriptions_made s.pipes s.subscriptions a alike
does-refused limits history s p a own app (PipeName pipe) (OfPools status) alike is = goes_by own p s.subscriptions_made s.pipes s.subscriptions a alike
does-refused limits history s p a own app (Subscribe id pipe limit scope) (OfPools status) alike is = goes_by own p s.subscriptions_made s.pipes s.subscriptions a alike
does-refused limits history s p a own app (Unsubscribe id pipe) (OfPools status) alike is = goes_by own p s.subscriptions_made s.pipes s.subscriptions a alike
does-refused limits history s p a own app (Transmit bytes inc) (OfPools status) alike is = goes_by own p s.subscriptions_made s.pipes s.subscriptions a alike
does-refused limits history s p a own app (Receive pipe) (OfPools status) alike is = goes_by own p s.subscriptions_made s.pipes s.subscriptions a alike
does-refused limits history s p a own app (Pend pipe) (OfPools status) alike is = goes_by own p s.subscriptions_made s.pipes s.subscriptions a alike
does-refused limits history s p a own app (Look pipe) (OfPools status) alike is = goes_by own p s.subscriptions_made s.pipes s.subscriptions a alike
does-refused limits history s p a own app (Allocate size) (OfPools status) alike is = goes_by own p s.subscriptions_made s.pipes s.subscriptions a alike
does-refused limits history s p a own app (TransmitBuffer buf bytes inc) (OfPools status) alike is = goes_by own p s.subscriptions_made s.pipes s.subscriptions a alike
does-refused limits history s p a own app (Release buf) (OfPools status) alike is = goes_by own p s.subscriptions_made s.pipes s.subscriptions a alike
does-refused limits history s p a own app (PoolCreate bytes) (OfPools status) alike is = goes_by own p s.subscriptions_made s.pipes s.subscriptions a alike
does-refused limits history s p a own app (PoolGet pool size) (OfPools status) alike is = goes_by own p s.subscriptions_made s.pipes s.subscriptions a alike
does-refused limits history s p a own app (PoolPut pool grant) (OfPools status) alike is = goes_by own p s.subscriptions_made s.pipes s.subscriptions a alike
does-refused limits history s p a own app (PoolFigures pool) (OfPools status) alike is = goes_by own p s.subscriptions_made s.pipes s.subscriptions a alike
does-refused limits history s p a own app (Register filters) (OfPools status) alike is = goes_by own p s.subscriptions_made s.pipes s.subscriptions a alike
does-refused limits history s p a own app (SendEvent event kind text) (OfPools status) alike is = goes_by own p s.subscriptions_made s.pipes s.subscriptions a alike
does-refused limits history s p a own app (ResetFilter event) (OfPools status) alike is = goes_by own p s.subscriptions_made s.pipes s.subscriptions a alike
does-refused limits history s p a own app (LogMode mode) (OfPools status) alike is = goes_by own p s.subscriptions_made s.pipes s.subscriptions a alike
does-refused limits history s p a own app ClearLog (OfPools status) alike is = goes_by own p s.subscriptions_made s.pipes s.subscriptions a alike
does-refused limits history s p a own app Housekeeping (OfPools status) alike is = goes_by own p s.subscriptions_made s.pipes s.subscriptions a alike
does-refused limits history s p a own app Figures (OfPools status) alike is = goes_by own p s.subscriptions_made s.pipes s.subscriptions a alike
does-refused limits history s p a own app End (OfPools status) alike is = absurd (some_none (OfPools status) (sym is))
does-refused limits history s p a own app (Create depth name) (OfEvents status) alike is = goes_by own p s.subscriptions_made s.pipes s.subscriptions a alike
does-refused limits history s p a own app (Delete pipe) (OfEvents status) alike is = goes_by own p s.subscriptions_made s.pipes s.subscriptions a alike
does-refused limits history s p a own app (SetOpts pipe bits) (OfEvents status) alike is = goes_by own p s.subscriptions_made s.pipes s.subscriptions a alike
does-refused limits history s p a own app (GetOpts pipe) (OfEvents status) alike is = goes_by own p s.subscriptions_made s.pipes s.subscriptions a alike
does-refused limits history s p a own app (Find name) (OfEvents status) alike is = goes_by own p s.subscriptions_made s.pipes s.subscriptions a alike
does-refused limits history s p a own app (PipeName pipe) (OfEvents status) alike is = goes_by own p s.subscriptions_made s.pipes s.subscriptions a alike
does-refused limits history s p a own app (Subscribe id pipe limit scope) (OfEvents status) alike is = goes_by own p s.subscriptions_made s.pipes s.subscriptions a alike
does-refused limits history s p a own app (Unsubscribe id pipe) (OfEvents status) alike is = goes_by own p s.subscriptions_made s.pipes s.subscriptions a alike
does-refused limits history s p a own app (Transmit bytes inc) (OfEvents status) alike is = goes_by own p s.subscriptions_made s.pipes s.subscriptions a alike
does-refused limits history s p a own app (Receive pipe) (OfEvents status) alike is = goes_by own p s.subscriptions_made s.pipes s.subscriptions a alike
does-refused limits history s p a own app (Pend pipe) (OfEvents status) alike is = goes_by own p s.subscriptions_made s.pipes s.subscriptions a alike
does-refused limits history s p a own app (Look pipe) (OfEvents status) alike is = goes_by own p s.subscriptions_made s.pipes s.subscriptions a alike
does-refused limits history s p a own app (Allocate size) (OfEvents status) alike is = goes_by own p s.subscriptions_made s.pipes s.subscriptions a alike
does-refused limits history s p a own app (TransmitBuffer buf bytes inc) (OfEvents status) alike is = goes_by own p s.subscriptions_made s.pipes s.subscriptions a alike
does-refused limits history s p a own app (Release buf) (OfEvents status) alike is = goes_by own p s.subscriptions_made s.pipes s.subscriptions a alike
does-refused limits history s p a own app (PoolCreate bytes) (OfEvents status) alike is = goes_by own p s.subscriptions_made s.pipes s.subscriptions a alike
does-refused limits history s p a own app (PoolGet pool size) (OfEvents status) alike is = goes_by own p s.subscriptions_made s.pipes s.subscriptions a alike
does-refused limits history s p a own app (PoolPut pool grant) (OfEvents status) alike is = goes_by own p s.subscriptions_made s.pipes s.subscriptions a alike
does-refused limits history s p a own app (PoolFigures pool) (OfEvents status) alike is = goes_by own p s.subscriptions_made s.pipes s.subscriptions a alike
does-refused limits history s p a own app (Register filters) (OfEvents status) alike is = goes_by own p s.subscriptions_made s.pipes s.subscriptions a alike
does-refused limits history s p a own app (SendEvent event kind text) (OfEvents status) alike is = goes_by own p s.subscriptions_made s.pipes s.subscriptions a alike
does-refused limits history s p a own app (ResetFilter event) (OfEvents status) alike is = goes_by own p s.subscriptions_made s.pipes s.subscriptions a alike
does-refused limits history s p a own app (LogMode mode) (OfEvents status) alike is = goes_by own p s.subscriptions_made s.pipes s.subscriptions a alike
does-refused limits history s p a own app ClearLog (OfEvents status) alike is = goes_by own p s.subscriptions_made s.pipes s.subscriptions a alike
does-refused limits history s p a own app Housekeeping (OfEvents status) alike is = goes_by own p s.subscriptions_made s.pipes s.subscriptions a alike
does-refused limits history s p a own app Figures (OfEvents status) alike is = goes_by own p s.subscriptions_made s.pipes s.subscriptions a alike
does-refused limits history s p a own app End (OfEvents status) alike is = absurd (some_none (OfEvents status) (sym is))

-- Accepted calls. --

does-subscribe : (limits : Limits) (history : List Entry) (s : State) (p : ℕ) (a : Alone) (own : ℕ → ℕ) (app id pipe limit : ℕ) (scope : Scope) →
    Stand own p s a → Does limits history s p a app (Subscribe id pipe limit scope) (subscribed s id pipe limit scope)
does-subscribe limits history s p a own app id pipe limit scope alike =
    let more = with_subscription s id pipe limit scope in
    elim (is_subscribed s.subscriptions id pipe) as (λ b. is_subscribed s.subscriptions id pipe ≡ b → Does limits history s p a app (Subscribe id pipe limit scope) (Done, cond {A = State} b s more)) [
      | true ↦ λ live. goes-duplicate own p s.subscriptions_made id pipe limit s.pipes s.subscriptions a live alike
      | false ↦ λ none. goes-subscribe own p s.subscriptions_made id pipe limit scope s.pipes s.subscriptions a none alike
    ] refl

does-send : (limits : Limits) (history : List Entry) (s : State) (p : ℕ) (a : Alone) (own : ℕ → ℕ) (app : ℕ) (bytes : List ℕ) (inc : Bool) → AreOrdered s →
    Stand own p s a → (subs : List Subscription) → route s.subscriptions (message_id bytes) ≡ subs →
    Does limits history s p a app (Transmit bytes inc) (sent_along limits subs (record { sender = app; number = s.numbers_given + 1; asked = length bytes; message = delivered limits history bytes inc }) s)
does-send limits history s p a own app bytes inc ordered alike [] is = goes_by own p s.subscriptions_made s.pipes s.subscriptions a alike
does-send limits history s p a own app bytes inc ordered alike (sub ∷ subs) is =
    let sending : Sending = record { sender = app; number = s.numbers_given + 1; asked = length bytes; message = delivered limits history bytes inc } in
    let id = message_id bytes in
    let input : Input = Send app id (s.numbers_given + 1) (delivered limits history bytes inc) in
    let now = deliver sending (sub ∷ subs) s.pipes in
    let gave : (given : Bool) → Type 0 = λ given. Goes p (cond {A = List Input} (given && was_made s p) (input ∷ []) []) false s.subscriptions_made now s.subscriptions a in
    subst gave (sym (le-leb 1 (s.numbers_given + 1) (omega arith)))
    (subst (λ xs. Goes p (cond {A = List Input} (was_made s p) (input ∷ []) []) false s.subscriptions_made (deliver sending xs s.pipes) s.subscriptions a) is
    (elim (was_made s p) as (λ b. was_made s p ≡ b → Goes p (cond {A = List Input} b (input ∷ []) []) false s.subscriptions_made (deliver sending (route s.subscriptions id) s.pipes) s.subscriptions a) [
      | true ↦ λ made. goes-send own p s.subscriptions_made id sending s.pipes s.subscriptions a ordered.tied.pairs ordered.tied.live alike
      | false ↦ λ early. goes-early own p s.subscriptions_made s.pipes_created id sending s.pipes s.subscriptions a ordered.tied.pairs ordered.numbered.pipes early alike
    ] refl))

does-pass : (limits : Limits) (history : List Entry) (s : State) (p : ℕ) (a : Alone) (own : ℕ → ℕ) (app buf : ℕ) (bytes : List ℕ) (inc : Bool) → AreOrdered s → 1 ≤ buf →
    Stand own p s a → (subs : List Subscription) → route s.subscriptions (message_id bytes) ≡ subs →
    Does limits history s p a app (TransmitBuffer buf bytes inc)
    (passed_along subs (record { sender = app; number = buf; asked = unsent_size s.unsent app buf; message = delivered limits history (front_of bytes) inc }) (buffer_gone s app buf))
does-pass limits history s p a own app buf bytes inc ordered first alike [] is = goes_by own p s.subscriptions_made s.pipes s.subscriptions a alike
does-pass limits history s p a own app buf bytes inc ordered first alike (sub ∷ subs) is =
    let sending : Sending = record { sender = app; number = buf; asked = unsent_size s.unsent app buf; message = delivered limits history (front_of bytes) inc } in
    let id = message_id bytes in
    let input : Input = Send app id buf (delivered limits history (front_of bytes) inc) in
    let now = deliver sending (sub ∷ subs) s.pipes in
    let gave : (given : Bool) → Type 0 = λ given. Goes p (cond {A = List Input} (given && was_made s p) (input ∷ []) []) false s.subscriptions_made now s.subscriptions a in
    subst gave (sym (le-leb 1 buf first))
    (subst (λ xs. Goes p (cond {A = List Input} (was_made s p) (input ∷ []) []) false s.subscriptions_made (deliver sending xs s.pipes) s.subscriptions a) is
    (elim (was_made s p) as (λ b. was_made s p ≡ b → Goes p (cond {A = List Input} b (input ∷ []) []) false s.subscriptions_made (deliver sending (route s.subscriptions id) s.pipes) s.subscriptions a) [
      | true ↦ λ made. goes-send own p s.subscriptions_made id sending s.pipes s.subscriptions a ordered.tied.pairs ordered.tied.live alike
      | false ↦ λ early. goes-early own p s.subscriptions_made s.pipes_created id sending s.pipes s.subscriptions a ordered.tied.pairs ordered.numbered.pipes early alike
    ] refl))

-- housekeeping is a send of its packet
does-tell : (limits : Limits) (history : List Entry) (s : State) (p : ℕ) (a : Alone) (own : ℕ → ℕ) (app : ℕ) → AreOrdered s →
    Stand own p s a → (subs : List Subscription) → route s.subscriptions (message_id (packet_in limits s)) ≡ subs →
    Does limits history s p a app Housekeeping (sent_along limits subs (sending_from (reads_after limits history) s app (packet_in limits s) true) s)
does-tell limits history s p a own app ordered alike [] is = goes_by own p s.subscriptions_made s.pipes s.subscriptions a alike
does-tell limits history s p a own app ordered alike (sub ∷ subs) is =
    let sending : Sending = sending_from (reads_after limits history) s app (packet_in limits s) true in
    let input : ℕ → Input = λ id. Send app id (s.numbers_given + 1) sending.message in
    subst (λ id. Goes p (cond {A = List Input} (nat_le 1 (s.numbers_given + 1) && was_made s p) (input id ∷ []) []) false s.subscriptions_made (deliver sending (sub ∷ subs) s.pipes) s.subscriptions a)
    (message_id-housekeeping_packet s.statistics.counts (in_use limits s))
    (does-send limits history s p a own app (packet_in limits s) true ordered alike (sub ∷ subs) is)

does-pend : (limits : Limits) (history : List Entry) (s : State) (p : ℕ) (a : Alone) (own : ℕ → ℕ) (app pipe : ℕ) → Stand own p s a →
    Does limits history s p a app (Pend pipe) (accept limits history s app (Pend pipe))
does-pend limits history s p a own app pipe alike =
    let got = Got (oldest_number s.pipes pipe) in
    let waits = with_standing (received s pipe) app (Waiting pipe) in
    elim (is_empty s.pipes pipe) as (λ b. is_empty s.pipes pipe ≡ b → Does limits history s p a app (Pend pipe)
    (cond {A = BusAnswer} (not b) got (cond {A = BusAnswer} (others_idle s app) TimeOut Pending), cond {A = State} (b && not (others_idle s app)) waits (received s pipe))) [
      | true ↦ λ empty.
          let goes = goes-empty own p s.subscriptions_made pipe s.pipes s.subscriptions a empty alike in
          elim (others_idle s app) as (λ c. Does limits history s p a app (Pend pipe) (cond {A = BusAnswer} c TimeOut Pending, cond {A = State} (not c) waits (received s pipe))) [ true ↦ goes | false ↦ goes ]
      | false ↦ λ some. goes-got own p s.subscriptions_made pipe s.pipes s.subscriptions a alike
    ] refl

does-look : (limits : Limits) (history : List Entry) (s : State) (p : ℕ) (a : Alone) (own : ℕ → ℕ) (app pipe : ℕ) → Stand own p s a →
    IsTrue (makes_entry (Look pipe) ((accept limits history s app (Look pipe)).0)) → Does limits history s p a app (Look pipe) (accept limits history s app (Look pipe))
does-look limits history s p a own app pipe alike enters =
    let got = Got (oldest_number s.pipes pipe) in
    let active = with_standing (received s pipe) app Active in
    elim (is_empty s.pipes pipe) as (λ b. is_empty s.pipes pipe ≡ b → IsTrue (makes_entry (Look pipe) (cond {A = BusAnswer} (not b) got (cond {A = BusAnswer} (others_idle s app) TimeOut Pending))) →
    Does limits history s p a app (Look pipe)
    (cond {A = BusAnswer} (not b) got (cond {A = BusAnswer} (others_idle s app) TimeOut Pending), cond {A = State} (b && not (others_idle s app)) s active)) [
      | true ↦ λ empty enter.
          elim (others_idle s app) as (λ c. IsTrue (makes_entry (Look pipe) (cond {A = BusAnswer} c TimeOut Pending)) → Does limits history s p a app (Look pipe) (cond {A = BusAnswer} c TimeOut Pending, cond {A = State} (not c) s active)) [
            | true ↦ λ enter. goes-empty own p s.subscriptions_made pipe s.pipes s.subscriptions a empty alike
            | false ↦ λ enter. absurd (true≢false (sym enter))
          ] enter
      | false ↦ λ some enter. goes-got own p s.subscriptions_made pipe s.pipes s.subscriptions a alike
    ] refl enters

pub does-accepted : (limits : Limits) (history : List Entry) (s : State) (p : ℕ) (a : Alone) (own : ℕ → ℕ) (app : ℕ) (call : Call) → cause limits s app call ≡ None →
    AreOrdered s → Stand own p s a →
    IsTrue (makes_entry call ((accept limits history s app call).0)) → Does limits history s p a app call (accept limits history s app call)
does-accepted limits history s p a own app (Create depth name) none ordered alike enters =
    goes-create own p s.subscriptions_made app depth (s.pipes_created + 1) s.pipes_created name s.pipes s.subscriptions a ordered.numbered.pipes (omega arith) ordered.tied.live alike
does-accepted limits history s p a own app (Delete pipe) none ordered alike enters = goes-delete own p s.subscriptions_made pipe s.pipes s.subscriptions a alike
does-accepted limits history s p a own app (SetOpts pipe bits) none ordered alike enters = goes-opts own p s.subscriptions_made pipe bits s.pipes s.subscriptions a alike
does-accepted limits history s p a own app (GetOpts pipe) none ordered alike enters = goes_by own p s.subscriptions_made s.pipes s.subscriptions a alike
does-accepted limits history s p a own app (Find name) none ordered alike enters = goes_by own p s.subscriptions_made s.pipes s.subscriptions a alike
does-accepted limits history s p a own app (PipeName pipe) none ordered alike enters = goes_by own p s.subscriptions_made s.pipes s.subscriptions a alike
does-accepted limits history s p a own app (Subscribe id pipe limit scope) none ordered alike enters = does-subscribe limits history s p a own app id pipe limit scope alike
does-accepted limits history s p a own app (Unsubscribe id pipe) none ordered alike enters = goes-unsubscribe own p s.subscriptions_made id pipe s.pipes s.subscriptions a alike
does-accepted limits history s p a own app (Transmit bytes inc) none ordered alike enters = does-send limits history s p a own app bytes inc ordered alike (route s.subscriptions (message_id bytes)) refl
does-accepted limits history s p a own app (Receive pipe) none ordered alike enters = goes-got own p s.subscriptions_made pipe s.pipes s.subscriptions a alike
does-accepted limits history s p a own app (Pend pipe) none ordered alike enters = does-pend limits history s p a own app pipe alike
does-accepted limits history s p a own app (Look pipe) none ordered alike enters = does-look limits history s p a own app pipe alike enters
does-accepted limits history s p a own app (Allocate size) none ordered alike enters = goes_by own p s.subscriptions_made s.pipes s.subscriptions a alike
does-accepted limits history s p a own app (TransmitBuffer buf bytes inc) none ordered alike enters =
    let has = transmit_buffer_cause-none s app buf bytes (by_bus-none (transmit_buffer_cause s app buf bytes) none) in
    does-pass limits history s p a own app buf bytes inc ordered (first-of s app buf ordered.buffers has) alike (route s.subscriptions (message_id bytes)) refl
does-accepted limits history s p a own app (Release buf) none ordered alike enters = goes_by own p s.subscriptions_made s.pipes s.subscriptions a alike
does-accepted limits history s p a own app (PoolCreate bytes) none ordered alike enters = goes_by own p s.subscriptions_made s.pipes s.subscriptions a alike
does-accepted limits history s p a own app (PoolGet pool size) none ordered alike enters = goes_by own p s.subscriptions_made s.pipes s.subscriptions a alike
does-accepted limits history s p a own app (PoolPut pool grant) none ordered alike enters = goes_by own p s.subscriptions_made s.pipes s.subscriptions a alike
does-accepted limits history s p a own app (PoolFigures pool) none ordered alike enters = goes_by own p s.subscriptions_made s.pipes s.subscriptions a alike
does-accepted limits history s p a own app (Register filters) none ordered alike enters = goes_by own p s.subscriptions_made s.pipes s.subscriptions a alike
does-accepted limits history s p a own app (SendEvent event kind text) none ordered alike enters = goes_by own p s.subscriptions_made s.pipes s.subscriptions a alike
does-accepted limits history s p a own app (ResetFilter event) none ordered alike enters = goes_by own p s.subscriptions_made s.pipes s.subscriptions a alike
does-accepted limits history s p a own app (LogMode mode) none ordered alike enters = goes_by own p s.subscriptions_made s.pipes s.subscriptions a alike
does-accepted limits history s p a own app ClearLog none ordered alike enters = goes_by own p s.subscriptions_made s.pipes s.subscriptions a alike
does-accepted limits history s p a own app Housekeeping none ordered alike enters = does-tell limits history s p a own app ordered alike (route s.subscriptions (message_id (packet_in limits s))) refl
does-accepted limits history s p a own app Figures none ordered alike enters = goes_by own p s.subscriptions_made s.pipes s.subscriptions a alike
does-accepted limits history s p a own app End none ordered alike enters = goes-end own p s.subscriptions_made s.pipes_created app s.pipes s.subscriptions a ordered.numbered.pipes alike

does-decided : (limits : Limits) (history : List Entry) (s : State) (p : ℕ) (a : Alone) (own : ℕ → ℕ) (app : ℕ) (call : Call) (why : Option Refusal) →
    cause limits s app call ≡ why → AreOrdered s → Stand own p s a → IsTrue (makes_entry call ((decided limits history s app call why).0)) →
    Does limits history s p a app call (decided limits history s app call why)
does-decided limits history s p a own app call (Some why) is ordered alike enters = does-refused limits history s p a own app call why alike is
does-decided limits history s p a own app call None is ordered alike enters = does-accepted limits history s p a own app call is ordered alike enters

-- what an entry of a legal history does
does-step : (limits : Limits) (history : List Entry) (s : State) (p : ℕ) (a : Alone) (own : ℕ → ℕ) (e : Entry) → AreOrdered s → Stand own p s a →
    e.answer ≡ (step limits history s e.app e.call).0 → IsTrue (makes_entry e.call e.answer) →
    Goes p (inputs_of limits history s p e) (gets_from p e) ((step limits history s e.app e.call).1).subscriptions_made ((step limits history s e.app e.call).1).pipes ((step limits history s e.app e.call).1).subscriptions a
does-step limits history s p a own e ordered alike answered enters =
    subst (λ (x : BusAnswer). IsTrue (makes_entry e.call x) → Does limits history s p a e.app e.call (x, (step limits history s e.app e.call).1)) (sym answered)
    (does-decided limits history s p a own e.app e.call (cause limits s e.app e.call) refl ordered alike) enters

AreOrdered-step : (limits : Limits) (history : List Entry) (s : State) (e : Entry) → AreOrdered s → AreOrdered ((step limits history s e.app e.call).1)
AreOrdered-step limits history s e ordered = record {
  numbered = AreNumbered-step limits history s e.app e.call ordered.numbered;
  tied = AreTied-step limits history s e.app e.call ordered.tied;
  buffers = AreFirst-step limits history s e.app e.call ordered.buffers;
}

-- Histories. --

solo_receipts-append : (a : Alone) (inputs more : List Input) → solo_receipts a (inputs ++ more) ≡ solo_receipts a inputs ++ solo_receipts (solo a inputs) more
solo_receipts-append a [] more = refl
solo_receipts-append a (input ∷ inputs) more =
    ap (λ xs. given a input ++ xs) (solo_receipts-append (input_alone a input) inputs more)
    ∙ sym (append_assoc (given a input) (solo_receipts (input_alone a input) inputs) (solo_receipts (solo (input_alone a input) inputs) more))

-- from where the pipe and the pipe alone are alike, both give the same
alone_from : (limits : Limits) (history : List Entry) (s : State) (p : ℕ) (a : Alone) (own : ℕ → ℕ) (es : List Entry) → AreOrdered s → Stand own p s a → LegalFrom limits history s es →
    receipts_from limits history s p es ≡ solo_receipts a (cut_from limits history s p es)
alone_from limits history s p a own [] ordered alike legal = refl
alone_from limits history s p a own (e ∷ es) ordered alike legal =
    let next = (step limits history s e.app e.call).1 in
    let goes = does-step limits history s p a own e ordered alike legal.1 legal.2 in
    let inputs = inputs_of limits history s p e in
    let now = history ++ e ∷ [] in
    ap (λ xs. xs ++ receipts_from limits now next p es) (sym goes.given)
    ∙ ap (λ xs. solo_receipts a inputs ++ xs) (alone_from limits now next p (solo a inputs) goes.own es (AreOrdered-step limits history s e ordered) goes.alike legal.4)
    ∙ sym (solo_receipts-append a inputs (cut_from limits now next p es))

opening_ordered : (limits : Limits) (apps : ℕ) → AreOrdered (opening limits apps)
opening_ordered limits apps = record {
  numbered = record { pipes = omega arith; subscriptions = omega arith };
  tied = record { pairs = tt; live = tt };
  buffers = AreFirst-opening limits apps;
}

opening_alike : (limits : Limits) (apps p : ℕ) → Stand (λ n. 0) p (opening limits apps) unmade
opening_alike limits apps p = record {
  numbers = record { bounded = λ n. omega arith; apart = λ n m one. absurd (omega (arith, one)); fresh = λ n above. refl };
  pipe = (refl, refl);
  subscriptions = refl;
  known = tt;
}

-- a pipe's receipts are those of the pipe alone
pub stands_alone : (limits : Limits) (apps p : ℕ) (history : List Entry) → IsLegal limits apps history → receipts limits apps p history ≡ solo_receipts unmade (cut limits apps p history)
stands_alone limits apps p history legal = alone_from limits [] (opening limits apps) p unmade (λ n. 0) history (opening_ordered limits apps) (opening_alike limits apps p) legal

-- histories that are the same to a pipe give it the same receipts
pub stands_apart : (limits others : Limits) (apps many p : ℕ) (history another : List Entry) → IsLegal limits apps history → IsLegal others many another →
    cut limits apps p history ≡ cut others many p another → receipts limits apps p history ≡ receipts others many p another
stands_apart limits others apps many p history another legal lawful same =
    stands_alone limits apps p history legal ∙ ap (solo_receipts unmade) same ∙ sym (stands_alone others many p another lawful)

-- The newest message. --

-- a call so answered, that gives a message from pipe p, gives the pipe's last
abbrev Gave : ℕ → ℕ → Call → BusAnswer × State → Type 0
Gave p app call next = gets_from p (record { app = app; call = call; answer = next.0 }) ≡ true →
    (message : Received) × (next.0 ≡ Got message.number) × (newest_on next.1.pipes p ≡ message ∷ [])

gave_queued : (queue : List Item) → (length queue == 0) ≡ false →
    (message : Received) × (option_map_or (λ (item : Item). item.number) (oldest queue) 0 ≡ message.number) × (last_of (oldest queue) ≡ message ∷ [])
gave_queued [] some = absurd (true≢false some)
gave_queued (item ∷ queue) some = (received_of item, refl, refl)

gave_live : (live : Option Pipe) → option_map_or (λ (x : Pipe). length x.queue == 0) live true ≡ false →
    (message : Received) × (option_map_or (λ (x : Pipe). option_map_or (λ (item : Item). item.number) (oldest x.queue) 0) live 0 ≡ message.number)
    × (option_map_or (λ (x : Pipe). last_of x.last) (option_map after_receive live) [] ≡ message ∷ [])
gave_live None some = absurd (true≢false some)
gave_live (Some pipe) some = gave_queued pipe.queue some

gave_on : (pipes : List Pipe) (p pipe : ℕ) → is_empty pipes pipe ≡ false → (p == pipe) ≡ true →
    (message : Received) × (oldest_number pipes pipe ≡ message.number) × (newest_on (with_pipe after_receive pipe pipes) p ≡ message ∷ [])
gave_on pipes p pipe some is =
    let same : p ≡ pipe = eqb-true p pipe is in
    let gave = gave_live (pipe_at pipes p) (ap (is_empty pipes) same ∙ some) in (
      gave.0,
      ap (oldest_number pipes) (sym same) ∙ gave.1,
      ap (λ (o : Option Pipe). option_map_or (λ (x : Pipe). last_of x.last) o []) (changed_here after_receive (λ x. refl) p pipe pipes is) ∙ gave.2,
    )

gave_got : (pipes : List Pipe) (p pipe : ℕ) → is_empty pipes pipe ≡ false → (p == pipe) ≡ true →
    (message : Received) × (Got (oldest_number pipes pipe) ≡ Got message.number) × (newest_on (with_pipe after_receive pipe pipes) p ≡ message ∷ [])
gave_got pipes p pipe some is = let gave = gave_on pipes p pipe some is in (gave.0, ap (λ n. Got n) gave.1, gave.2)

not_empty : (s : State) (app pipe : ℕ) → receive_cause s app pipe ≡ None → is_empty s.pipes pipe ≡ false
not_empty s app pipe is = by_tests (not (owns s.pipes app pipe)) (is_empty s.pipes pipe) is
  where
    by_tests : (other empty : Bool) → refused_if other BadArgument (refused_if empty NoMessage None) ≡ None → empty ≡ false
    by_tests true empty is = absurd (some_none BadArgument is)
    by_tests false true is = absurd (some_none NoMessage is)
    by_tests false false is = refl

gave-refused : (s : State) (p app : ℕ) (call : Call) (why : Refusal) → Gave p app call (refusal_answer why, refused_state s call why)
gave-refused s p app (Create depth name) why gets = absurd (true≢false (sym gets))
gave-refused s p app (Delete pipe) why gets = absurd (true≢false (sym gets))
gave-refused s p app (SetOpts pipe bits) why gets = absurd (true≢false (sym gets))
gave-refused s p app (GetOpts pipe) why gets = absurd (true≢false (sym gets))
gave-refused s p app (Find name) why gets = absurd (true≢false (sym gets))
gave-refused s p app (PipeName pipe) why gets = absurd (true≢false (sym gets))
gave-refused s p app (Subscribe id pipe limit scope) why gets = absurd (true≢false (sym gets))
gave-refused s p app (Unsubscribe id pipe) why gets = absurd (true≢false (sym gets))
gave-refused s p app (Transmit bytes inc) why gets = absurd (true≢false (sym gets))
gave-refused s p app (Receive pipe) (OfBus status) gets = absurd (true≢false (sym gets))
gave-refused s p app (Receive pipe) (OfPools status) gets = absurd (true≢false (sym gets))
gave-refused s p app (Receive pipe) (OfEvents status) gets = absurd (true≢false (sym gets))
gave-refused s p app (Pend pipe) (OfBus status) gets = absurd (true≢false (sym gets))
gave-refused s p app (Pend pipe) (OfPools status) gets = absurd (true≢false (sym gets))
gave-refused s p app (Pend pipe) (OfEvents status) gets = absurd (true≢false (sym gets))
gave-refused s p app (Look pipe) (OfBus status) gets = absurd (true≢false (sym gets))
gave-refused s p app (Look pipe) (OfPools status) gets = absurd (true≢false (sym gets))
gave-refused s p app (Look pipe) (OfEvents status) gets = absurd (true≢false (sym gets))
gave-refused s p app (Allocate size) why gets = absurd (true≢false (sym gets))
gave-refused s p app (TransmitBuffer buf bytes inc) why gets = absurd (true≢false (sym gets))
gave-refused s p app (Release buf) why gets = absurd (true≢false (sym gets))
gave-refused s p app (PoolCreate bytes) why gets = absurd (true≢false (sym gets))
gave-refused s p app (PoolGet pool size) why gets = absurd (true≢false (sym gets))
gave-refused s p app (PoolPut pool grant) why gets = absurd (true≢false (sym gets))
gave-refused s p app (PoolFigures pool) why gets = absurd (true≢false (sym gets))
gave-refused s p app (Register filters) why gets = absurd (true≢false (sym gets))
gave-refused s p app (SendEvent event kind text) why gets = absurd (true≢false (sym gets))
gave-refused s p app (ResetFilter event) why gets = absurd (true≢false (sym gets))
gave-refused s p app (LogMode mode) why gets = absurd (true≢false (sym gets))
gave-refused s p app ClearLog why gets = absurd (true≢false (sym gets))
gave-refused s p app Housekeeping why gets = absurd (true≢false (sym gets))
gave-refused s p app Figures why gets = absurd (true≢false (sym gets))
gave-refused s p app End why gets = absurd (true≢false (sym gets))

gave-pend : (limits : Limits) (history : List Entry) (s : State) (p app pipe : ℕ) → Gave p app (Pend pipe) (accept limits history s app (Pend pipe))
gave-pend limits history s p app pipe =
    let got = Got (oldest_number s.pipes pipe) in
    let waits = with_standing (received s pipe) app (Waiting pipe) in
    elim (is_empty s.pipes pipe) as (λ b. is_empty s.pipes pipe ≡ b →
    Gave p app (Pend pipe) (cond {A = BusAnswer} (not b) got (cond {A = BusAnswer} (others_idle s app) TimeOut Pending), cond {A = State} (b && not (others_idle s app)) waits (received s pipe))) [
      | true ↦ λ empty. elim (others_idle s app) as (λ c. Gave p app (Pend pipe) (cond {A = BusAnswer} c TimeOut Pending, cond {A = State} (not c) waits (received s pipe))) [
        | true ↦ λ gets. absurd (true≢false (sym gets))
        | false ↦ λ gets. absurd (true≢false (sym gets))
      ]
      | false ↦ λ some gets. gave_got s.pipes p pipe some gets
    ] refl

gave-look : (limits : Limits) (history : List Entry) (s : State) (p app pipe : ℕ) → Gave p app (Look pipe) (accept limits history s app (Look pipe))
gave-look limits history s p app pipe =
    let got = Got (oldest_number s.pipes pipe) in
    let active = with_standing (received s pipe) app Active in
    elim (is_empty s.pipes pipe) as (λ b. is_empty s.pipes pipe ≡ b →
    Gave p app (Look pipe) (cond {A = BusAnswer} (not b) got (cond {A = BusAnswer} (others_idle s app) TimeOut Pending), cond {A = State} (b && not (others_idle s app)) s active)) [
      | true ↦ λ empty. elim (others_idle s app) as (λ c. Gave p app (Look pipe) (cond {A = BusAnswer} c TimeOut Pending, cond {A = State} (not c) s active)) [
        | true ↦ λ gets. absurd (true≢false (sym gets))
        | false ↦ λ gets. absurd (true≢false (sym gets))
      ]
      | false ↦ λ some gets. gave_got s.pipes p pipe some gets
    ] refl

gave-accepted : (limits : Limits) (history : List Entry) (s : State) (p app : ℕ) (call : Call) → cause limits s app call ≡ None → Gave p app call (accept limits history s app call)
gave-accepted limits history s p app (Create depth name) none gets = absurd (true≢false (sym gets))
gave-accepted limits history s p app (Delete pipe) none gets = absurd (true≢false (sym gets))
gave-accepted limits history s p app (SetOpts pipe bits) none gets = absurd (true≢false (sym gets))
gave-accepted limits history s p app (GetOpts pipe) none gets = absurd (true≢false (sym gets))
gave-accepted limits history s p app (Find name) none gets = absurd (true≢false (sym gets))
gave-accepted limits history s p app (PipeName pipe) none gets = absurd (true≢false (sym gets))
gave-accepted limits history s p app (Subscribe id pipe limit scope) none gets = absurd (true≢false (sym gets))
gave-accepted limits history s p app (Unsubscribe id pipe) none gets = absurd (true≢false (sym gets))
gave-accepted limits history s p app (Transmit bytes inc) none gets = absurd (true≢false (sym gets))
gave-accepted limits history s p app (Receive pipe) none gets = gave_got s.pipes p pipe (not_empty s app pipe (by_bus-none (receive_cause s app pipe) none)) gets
gave-accepted limits history s p app (Pend pipe) none gets = gave-pend limits history s p app pipe gets
gave-accepted limits history s p app (Look pipe) none gets = gave-look limits history s p app pipe gets
gave-accepted limits history s p app (Allocate size) none gets = absurd (true≢false (sym gets))
gave-accepted limits history s p app (TransmitBuffer buf bytes inc) none gets = absurd (true≢false (sym gets))
gave-accepted limits history s p app (Release buf) none gets = absurd (true≢false (sym gets))
gave-accepted limits history s p app (PoolCreate bytes) none gets = absurd (true≢false (sym gets))
gave-accepted limits history s p app (PoolGet pool size) none gets = absurd (true≢false (sym gets))
gave-accepted limits history s p app (PoolPut pool grant) none gets = absurd (true≢false (sym gets))
gave-accepted limits history s p app (PoolFigures pool) none gets = absurd (true≢false (sym gets))
gave-accepted limits history s p app (Register filters) none gets = absurd (true≢false (sym gets))
gave-accepted limits history s p app (SendEvent event kind text) none gets = absurd (true≢false (sym gets))
gave-accepted limits history s p app (ResetFilter event) none gets = absurd (true≢false (sym gets))
gave-accepted limits history s p app (LogMode mode) none gets = absurd (true≢false (sym gets))
gave-accepted limits history s p app ClearLog none gets = absurd (true≢false (sym gets))
gave-accepted limits history s p app Housekeeping none gets = absurd (true≢false (sym gets))
gave-accepted limits history s p app Figures none gets = absurd (true≢false (sym gets))
gave-accepted limits history s p app End none gets = absurd (true≢false (sym gets))

gave-decided : (limits : Limits) (history : List Entry) (s : State) (p app : ℕ) (call : Call) (why : Option Refusal) → cause limits s app call ≡ why → Gave p app call (decided limits history s app call why)
gave-decided limits history s p app call (Some why) is = gave-refused s p app call why
gave-decided limits history s p app call None is = gave-accepted limits history s p app call is

-- the message that an entry gives is the pipe's last
gave-step : (limits : Limits) (history : List Entry) (s : State) (p : ℕ) (e : Entry) → e.answer ≡ (step limits history s e.app e.call).0 → gets_from p e ≡ true →
    (message : Received) × (e.answer ≡ Got message.number) × (newest_on ((step limits history s e.app e.call).1).pipes p ≡ message ∷ [])
gave-step limits history s p e answered =
    subst (λ (x : BusAnswer). Gave p e.app e.call (x, (step limits history s e.app e.call).1)) (sym answered) (gave-decided limits history s p e.app e.call (cause limits s e.app e.call) refl)

-- an entry gives this message, from where a history goes on
record GivesFrom (limits : Limits) (history : List Entry) (s : State) (p : ℕ) (a : Alone) (es : List Entry) (e : Entry) (message : Received) : Type 0 where
  pub answer : e.answer ≡ Got message.number
  pub last : last_received (state_from limits history s (es ++ e ∷ [])) p ≡ message ∷ []
  pub newest : solo_receipts a (cut_from limits history s p (es ++ e ∷ [])) ≡ solo_receipts a (cut_from limits history s p es) ++ message ∷ []

gives_from : (limits : Limits) (history : List Entry) (s : State) (p : ℕ) (a : Alone) (own : ℕ → ℕ) (es : List Entry) (e : Entry) → AreOrdered s → Stand own p s a →
    LegalFrom limits history s (es ++ e ∷ []) → gets_from p e ≡ true → (message : Received) × GivesFrom limits history s p a es e message
gives_from limits history s p a own [] e ordered alike legal gets =
    let next = (step limits history s e.app e.call).1 in
    let goes = does-step limits history s p a own e ordered alike legal.1 legal.2 in
    let gave = gave-step limits history s p e legal.1 gets in (
      gave.0,
      record {
        answer = gave.1;
        last = gave.2;
        newest = ap (solo_receipts a) (append-nil (inputs_of limits history s p e)) ∙ goes.given ∙ ap (λ b. cond {A = List Received} b (newest_on next.pipes p) []) gets ∙ gave.2;
      },
    )
gives_from limits history s p a own (x ∷ es) e ordered alike legal gets =
    let next = (step limits history s x.app x.call).1 in
    let goes = does-step limits history s p a own x ordered alike legal.1 legal.2 in
    let inputs = inputs_of limits history s p x in
    let now = history ++ x ∷ [] in
    let gives = gives_from limits now next p (solo a inputs) goes.own es e (AreOrdered-step limits history s x ordered) goes.alike legal.4 gets in (
      gives.0,
      record {
        answer = gives.1.answer;
        last = gives.1.last;
        newest =
            solo_receipts-append a inputs (cut_from limits now next p (es ++ e ∷ []))
            ∙ ap (λ xs. solo_receipts a inputs ++ xs) gives.1.newest
            ∙ sym (append_assoc (solo_receipts a inputs) (solo_receipts (solo a inputs) (cut_from limits now next p es)) (gives.0 ∷ []))
            ∙ ap (λ xs. xs ++ gives.0 ∷ []) (sym (solo_receipts-append a inputs (cut_from limits now next p es)));
      },
    )

-- a message that an entry gives is the pipe's last, and the newest of the pipe alone
pub gives_newest : (limits : Limits) (apps p : ℕ) (history : List Entry) (e : Entry) → IsLegal limits apps (history ++ e ∷ []) → gets_from p e ≡ true →
    (message : Received) × Gives limits apps p history e message
gives_newest limits apps p history e legal gets =
    let gives = gives_from limits [] (opening limits apps) p unmade (λ n. 0) history e (opening_ordered limits apps) (opening_alike limits apps p) legal gets in
    (gives.0, record { answer = gives.1.answer; last = gives.1.last; newest = gives.1.newest })
