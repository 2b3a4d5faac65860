-- The last message of an application's pipe stays, with its number and its bytes, from the entry that gives it until the application lets go of it.
use Rattle.std.proofs.Common.{◌≡◌, ℕ, ◌+◌, ◌==◌, ◌&&◌, ◌||◌, not, Bool, true, false, cond, true≢false, eqb-true, eq-eqb, List, [], ◌∷◌, ◌++◌, append-nil, append_assoc, length, filter, All, Option, Some, None, refl, ap, sym, ◌∙◌, subst}
use Rattle.std.proofs.lemmas.List.Elements.{All-head, All-tail}
use Rattle.std.specs.Option.{option_map, option_map_or, option_and_then}
use Rattle.ccsds_msg.specs.Message.{message_id}
use Rattle.fsw_base.specs.declared.config.Scope.{Scope}
use Rattle.fsw_base.specs.declared.statuses.SbStatus.{SbStatus}
use Rattle.fsw_base.specs.declared.statuses.SbStatus.TheVariants.{BadArgument, MaxPipesMet, PipeCrErr, MaxMsgsMet, MaxDestsMet, MsgTooBig, BufAlocErr, NoMessage, BufferInvalid}
use Rattle.fsw_base.specs.Limits.{Limits}
use Rattle.bus_words.specs.declared.history.Call.{Call}
use Rattle.bus_words.specs.declared.history.Call.TheVariants.{Create, Delete, SetOpts, GetOpts, Find, PipeName, Subscribe, Unsubscribe, Transmit, Receive, Pend, Look, Allocate, TransmitBuffer, Release, PoolCreate, PoolGet, PoolPut, PoolFigures, Register, SendEvent, ResetFilter, LogMode, ClearLog, Housekeeping, Figures, End}
use Rattle.bus_words.specs.declared.history.Entry.{Entry}
use Rattle.bus_words.specs.Alone.{Received, gets_from, last_of, last_received, received_of}
use Rattle.bus_words.specs.Bus.{Item, Pipe, Subscription, State, Sending, Active, Waiting, opening, pipe_at, owns, with_pipe, with_bits, with_standing, is_empty, others_idle, is_subscribed, route, unsent_size, deliver, after_receive}
use Rattle.bus_words.specs.Refusals.{Refusal, OfBus}
use Rattle.bus_words.specs.Machine.{IsLegal, sending_from, packet_in, reads_after, by_bus, unowned_cause, receive_cause, delivered, front_of, received, sent_along, buffer_gone, passed_along, subscribed, cause, refused_state, decided, step, state_after}
use Rattle.bus_words.proofs.Finds.{same-sym, any-push, any-filter, find-filter}
use Rattle.bus_words.proofs.Isolation.{gives_newest}
use Rattle.bus_words.proofs.KeptPipes.{IsKept, kept-same, kept-deliver, kept-change, find-push_found, owns-with_pipe, changed_other}
use Rattle.bus_words.proofs.Lasts.{last_at, gets-owns}
use Rattle.bus_words.proofs.LegalSteps.{AreWaiters-after, legal-front, legal-last}
use Rattle.bus_words.proofs.Replay.{state_from-push}
use Rattle.bus_words.proofs.Steps.{with_subscription}
use Rattle.bus_words.proofs.Ties.{is_live-owns}
use Rattle.script_runs.specs.Stays.{MessagesStay, call_lets_go, lets_go}
use Rattle.script_runs.specs.Told.{own_last}
use Rattle.script_runs.proofs.LastMessages.{own_last-other}
use Rattle.script_runs.proofs.OwnLasts.{own_last-some}

-- Pipes. --

and-true : (a : Bool) → a ≡ (a && true)
and-true a = elim a as (λ a. a ≡ (a && true)) [ true ↦ refl | false ↦ refl ]

-- an application's pipe is its own still, with its last message
abbrev Keeps : List Pipe → List Pipe → ℕ → ℕ → Type 0
Keeps pipes now app number = owns pipes app number ≡ true → (owns now app number ≡ true) × (last_at now number ≡ last_at pipes number)

keeps-kept : (pipes now : List Pipe) (app number : ℕ) → IsKept pipes now app number → Keeps pipes now app number
keeps-kept pipes now app number kept own = (kept.owned ∙ own, kept.last own)

-- one pipe more
keeps-push : (pipes : List Pipe) (pipe : Pipe) (app number : ℕ) → Keeps pipes (pipes ++ pipe ∷ []) app number
keeps-push pipes pipe app number own = (
  any-push (λ (p : Pipe). p.number == number && p.owner == app) pipes pipe ∙ ap (λ b. b || (pipe.number == number && pipe.owner == app)) own,
  ap (option_and_then (λ (p : Pipe). p.last)) (find-push_found pipes pipe number (is_live-owns pipes app number own)),
)

-- a receive on another pipe
keeps-receive : (pipes : List Pipe) (app number at : ℕ) → (at == number) ≡ false → Keeps pipes (with_pipe after_receive at pipes) app number
keeps-receive pipes app number at differ own = (
  owns-with_pipe after_receive (λ p. refl) (λ p. refl) at pipes app number ∙ own,
  ap (option_and_then (λ (p : Pipe). p.last)) (changed_other after_receive (λ p. refl) number at pipes (same-sym number at ∙ differ)),
)

-- another pipe leaves
keeps-delete : (pipes : List Pipe) (app number at : ℕ) → (at == number) ≡ false → Keeps pipes (filter (λ other. not (other.number == at)) pipes) app number
keeps-delete pipes app number at differ own = (
  any-filter (λ (p : Pipe). p.number == number && p.owner == app) (λ p. not (p.number == at)) (λ p. p.number == number && p.owner == app) stays pipes ∙ own,
  ap (option_and_then (λ (p : Pipe). p.last)) (find-filter (λ (p : Pipe). p.number == number) (λ p. not (p.number == at)) (λ p is. ap not (other p is)) pipes),
)
  where
    other : (p : Pipe) → (p.number == number) ≡ true → (p.number == at) ≡ false
    other p is = ap (λ n. n == at) (eqb-true p.number number is) ∙ same-sym number at ∙ differ

    stays : (p : Pipe) → (p.number == number && p.owner == app) ≡ ((p.number == number && p.owner == app) && not (p.number == at))
    stays p =
        elim (p.number == number) as (λ b. (p.number == number) ≡ b → (b && p.owner == app) ≡ ((b && p.owner == app) && not (p.number == at))) [
          | true ↦ λ is. and-true (p.owner == app) ∙ ap (λ c. (p.owner == app) && not c) (sym (other p is))
          | false ↦ λ is. refl
        ] refl

-- The application's own calls. --

module _ (limits : Limits) (history : List Entry) (s : State) (number app : ℕ) where
  -- a call that doesn't let go of what the pipe gave last leaves it
  abbrev Stays : Call → Option Refusal → Type 0
  Stays call why = call_lets_go number call ≡ false → Keeps s.pipes ((decided limits history s app call why).1).pipes app number

  same : Keeps s.pipes s.pipes app number
  same = keeps-kept s.pipes s.pipes app number (kept-same s.pipes app number)

  stays-sent : (sending : Sending) (subs : List Subscription) → Keeps s.pipes ((sent_along limits subs sending s).1).pipes app number
  stays-sent sending [] = same
  stays-sent sending (sub ∷ subs) = keeps-kept s.pipes (deliver sending (sub ∷ subs) s.pipes) app number (kept-deliver sending (sub ∷ subs) s.pipes app number)

  stays-passed : (buf : ℕ) (sending : Sending) (subs : List Subscription) → Keeps s.pipes ((passed_along subs sending (buffer_gone s app buf)).1).pipes app number
  stays-passed buf sending [] = same
  stays-passed buf sending (sub ∷ subs) = keeps-kept s.pipes (deliver sending (sub ∷ subs) s.pipes) app number (kept-deliver sending (sub ∷ subs) s.pipes app number)

  stays-subscribed : (id pipe limit : ℕ) (scope : Scope) → Keeps s.pipes ((subscribed s id pipe limit scope).1).pipes app number
  stays-subscribed id pipe limit scope =
      elim (is_subscribed s.subscriptions id pipe) as (λ b. Keeps s.pipes (cond {A = State} b s (with_subscription s id pipe limit scope)).pipes app number) [
        | true ↦ same
        | false ↦ same
      ]

  stays-refused : (pipe : ℕ) (status : SbStatus) → (pipe == number) ≡ false → Keeps s.pipes (refused_state s (Receive pipe) (OfBus status)).pipes app number
  stays-refused pipe BadArgument differ = same
  stays-refused pipe MaxPipesMet differ = same
  stays-refused pipe PipeCrErr differ = same
  stays-refused pipe MaxMsgsMet differ = same
  stays-refused pipe MaxDestsMet differ = same
  stays-refused pipe MsgTooBig differ = same
  stays-refused pipe BufAlocErr differ = same
  stays-refused pipe NoMessage differ = keeps-receive s.pipes app number pipe differ
  stays-refused pipe BufferInvalid differ = same

  stays-receive : (pipe : ℕ) (why : Option SbStatus) → Stays (Receive pipe) (by_bus why)
  stays-receive pipe (Some status) differ = stays-refused pipe status differ
  stays-receive pipe None differ = keeps-receive s.pipes app number pipe differ

  stays-pend : (pipe : ℕ) (why : Option SbStatus) → Stays (Pend pipe) (by_bus why)
  stays-pend pipe (Some status) differ = same
  stays-pend pipe None differ = by_tests (is_empty s.pipes pipe && not (others_idle s app))
    where
      by_tests : (waits : Bool) → Keeps s.pipes (cond {A = State} waits (with_standing (received s pipe) app (Waiting pipe)) (received s pipe)).pipes app number
      by_tests true = keeps-receive s.pipes app number pipe differ
      by_tests false = keeps-receive s.pipes app number pipe differ

  stays-look : (pipe : ℕ) → Stays (Look pipe) None
  stays-look pipe differ = by_tests (is_empty s.pipes pipe && not (others_idle s app))
    where
      by_tests : (waits : Bool) → Keeps s.pipes (cond {A = State} waits s (with_standing (received s pipe) app Active)).pipes app number
      by_tests true = same
      by_tests false = keeps-receive s.pipes app number pipe differ

  stays : (call : Call) (why : Option Refusal) → cause limits s app call ≡ why → Stays call why
  stays (Create depth name) (Some why) is keeps = same
  stays (Create depth name) None is keeps = keeps-push s.pipes _ app number
  stays (Delete pipe) (Some why) is keeps = same
  stays (Delete pipe) None is keeps = keeps-delete s.pipes app number pipe keeps
  stays (SetOpts pipe bits) (Some why) is keeps = same
  stays (SetOpts pipe bits) None is keeps =
      keeps-kept s.pipes (with_pipe (with_bits bits) pipe s.pipes) app number (kept-change (with_bits bits) (λ x. refl) (λ x. refl) (λ x. refl) pipe s.pipes app number)
  stays (GetOpts pipe) (Some why) is keeps = same
  stays (GetOpts pipe) None is keeps = same
  stays (Find name) (Some why) is keeps = same
  stays (Find name) None is keeps = same
  stays (PipeName pipe) (Some why) is keeps = same
  stays (PipeName pipe) None is keeps = same
  stays (Subscribe id pipe limit scope) (Some why) is keeps = same
  stays (Subscribe id pipe limit scope) None is keeps = stays-subscribed id pipe limit scope
  stays (Unsubscribe id pipe) (Some why) is keeps = same
  stays (Unsubscribe id pipe) None is keeps = same
  stays (Transmit bytes inc) (Some why) is keeps = same
  stays (Transmit bytes inc) None is keeps =
      stays-sent (record { sender = app; number = s.numbers_given + 1; asked = length bytes; message = delivered limits history bytes inc }) (route s.subscriptions (message_id bytes))
  stays (Receive pipe) why is keeps = subst (Stays (Receive pipe)) is (stays-receive pipe (receive_cause s app pipe)) keeps
  stays (Pend pipe) why is keeps = subst (Stays (Pend pipe)) is (stays-pend pipe (unowned_cause s app pipe)) keeps
  stays (Look pipe) why is keeps = subst (Stays (Look pipe)) is (stays-look pipe) keeps
  stays (Allocate size) (Some why) is keeps = same
  stays (Allocate size) None is keeps = same
  stays (TransmitBuffer buf bytes inc) (Some why) is keeps = same
  stays (TransmitBuffer buf bytes inc) None is keeps =
      stays-passed buf (record { sender = app; number = buf; asked = unsent_size s.unsent app buf; message = delivered limits history (front_of bytes) inc })
      (route s.subscriptions (message_id bytes))
  stays (Release buf) (Some why) is keeps = same
  stays (Release buf) None is keeps = same
  stays (PoolCreate bytes) (Some why) is keeps = same
  stays (PoolCreate bytes) None is keeps = same
  stays (PoolGet pool size) (Some why) is keeps = same
  stays (PoolGet pool size) None is keeps = same
  stays (PoolPut pool grant) (Some why) is keeps = same
  stays (PoolPut pool grant) None is keeps = same
  stays (PoolFigures pool) (Some why) is keeps = same
  stays (PoolFigures pool) None is keeps = same
  stays (Register filters) (Some why) is keeps = same
  stays (Register filters) None is keeps = same
  stays (SendEvent event kind text) (Some why) is keeps = same
  stays (SendEvent event kind text) None is keeps = same
  stays (ResetFilter event) (Some why) is keeps = same
  stays (ResetFilter event) None is keeps = same
  stays (LogMode mode) (Some why) is keeps = same
  stays (LogMode mode) None is keeps = same
  stays ClearLog (Some why) is keeps = same
  stays ClearLog None is keeps = same
  stays Housekeeping (Some why) is keeps = same
  stays Housekeeping None is keeps =
      stays-sent (sending_from (reads_after limits history) s app (packet_in limits s) true) (route s.subscriptions (message_id (packet_in limits s)))
  stays Figures (Some why) is keeps = same
  stays Figures None is keeps = same
  stays End why is keeps = absurd (true≢false keeps)

  -- the last message of its own pipe, behind its own call
  stays-own : (call : Call) (item : Item) → call_lets_go number call ≡ false → own_last s.pipes app number ≡ Some item → own_last ((step limits history s app call).1).pipes app number ≡ Some item
  stays-own call item keeps held =
      let was = own_last-some s.pipes app number item held in
      let now = stays call (cause limits s app call) refl keeps was.0 in
      ap (λ b. cond {A = Option Item} b (last_at ((step limits history s app call).1).pipes number) None) now.0 ∙ now.1 ∙ was.1

  -- The call that gives a message leaves the pipe to its owner. --

  -- the call, so decided, gives a message from the pipe
  abbrev gives : Call → Option Refusal → Bool
  gives call why = gets_from number (record { app = app; call = call; answer = (decided limits history s app call why).0 })

  abbrev Owned : Call → Option Refusal → Type 0
  Owned call why = gives call why ≡ true → owns ((decided limits history s app call why).1).pipes app number ≡ owns s.pipes app number

  owned-after : (pipe : ℕ) → owns (with_pipe after_receive pipe s.pipes) app number ≡ owns s.pipes app number
  owned-after pipe = owns-with_pipe after_receive (λ p. refl) (λ p. refl) pipe s.pipes app number

  owned-receive : (pipe : ℕ) (why : Option SbStatus) → Owned (Receive pipe) (by_bus why)
  owned-receive pipe (Some status) gets = absurd (true≢false (sym gets))
  owned-receive pipe None gets = owned-after pipe

  owned-pend : (pipe : ℕ) (why : Option SbStatus) → Owned (Pend pipe) (by_bus why)
  owned-pend pipe (Some status) gets = absurd (true≢false (sym gets))
  owned-pend pipe None gets = by_tests (is_empty s.pipes pipe && not (others_idle s app))
    where
      by_tests : (waits : Bool) → owns (cond {A = State} waits (with_standing (received s pipe) app (Waiting pipe)) (received s pipe)).pipes app number ≡ owns s.pipes app number
      by_tests true = owned-after pipe
      by_tests false = owned-after pipe

  owned-look : (pipe : ℕ) → Owned (Look pipe) None
  owned-look pipe gets = by_tests (is_empty s.pipes pipe && not (others_idle s app))
    where
      by_tests : (waits : Bool) → owns (cond {A = State} waits s (with_standing (received s pipe) app Active)).pipes app number ≡ owns s.pipes app number
      by_tests true = refl
      by_tests false = owned-after pipe

  owned : (call : Call) (why : Option Refusal) → cause limits s app call ≡ why → Owned call why
  owned (Create depth name) why is gets = absurd (true≢false (sym gets))
  owned (Delete pipe) why is gets = absurd (true≢false (sym gets))
  owned (SetOpts pipe bits) why is gets = absurd (true≢false (sym gets))
  owned (GetOpts pipe) why is gets = absurd (true≢false (sym gets))
  owned (Find name) why is gets = absurd (true≢false (sym gets))
  owned (PipeName pipe) why is gets = absurd (true≢false (sym gets))
  owned (Subscribe id pipe limit scope) why is gets = absurd (true≢false (sym gets))
  owned (Unsubscribe id pipe) why is gets = absurd (true≢false (sym gets))
  owned (Transmit bytes inc) why is gets = absurd (true≢false (sym gets))
  owned (Receive pipe) why is gets = subst (Owned (Receive pipe)) is (owned-receive pipe (receive_cause s app pipe)) gets
  owned (Pend pipe) why is gets = subst (Owned (Pend pipe)) is (owned-pend pipe (unowned_cause s app pipe)) gets
  owned (Look pipe) why is gets = subst (Owned (Look pipe)) is (owned-look pipe) gets
  owned (Allocate size) why is gets = absurd (true≢false (sym gets))
  owned (TransmitBuffer buf bytes inc) why is gets = absurd (true≢false (sym gets))
  owned (Release buf) why is gets = absurd (true≢false (sym gets))
  owned (PoolCreate bytes) why is gets = absurd (true≢false (sym gets))
  owned (PoolGet pool size) why is gets = absurd (true≢false (sym gets))
  owned (PoolPut pool grant) why is gets = absurd (true≢false (sym gets))
  owned (PoolFigures pool) why is gets = absurd (true≢false (sym gets))
  owned (Register filters) why is gets = absurd (true≢false (sym gets))
  owned (SendEvent event kind text) why is gets = absurd (true≢false (sym gets))
  owned (ResetFilter event) why is gets = absurd (true≢false (sym gets))
  owned (LogMode mode) why is gets = absurd (true≢false (sym gets))
  owned ClearLog why is gets = absurd (true≢false (sym gets))
  owned Housekeeping why is gets = absurd (true≢false (sym gets))
  owned Figures why is gets = absurd (true≢false (sym gets))
  owned End why is gets = absurd (true≢false (sym gets))

-- Entries. --

-- the last message of the pipe, by its bytes and number
found-item : (found : Option Pipe) (message : Received) → option_map_or (λ (pipe : Pipe). last_of pipe.last) found [] ≡ message ∷ [] →
    (item : Item) × (option_and_then (λ (pipe : Pipe). pipe.last) found ≡ Some item) × (received_of item ≡ message)
found-item None message is = absurd (cc is)
found-item (Some pipe) message is = by_last pipe.last is
  where
    by_last : (last : Option Item) → last_of last ≡ message ∷ [] → (item : Item) × (last ≡ Some item) × (received_of item ≡ message)
    by_last None none = absurd (cc none)
    by_last (Some item) one = (item, refl, cc one)

-- an entry that gives a message leaves it the last one of a pipe of its application's
given-last : (limits : Limits) (apps pipe : ℕ) (history : List Entry) (e : Entry) (message : Received) → IsLegal limits apps (history ++ e ∷ []) → gets_from pipe e ≡ true →
    last_received (state_after limits apps (history ++ e ∷ [])) pipe ≡ message ∷ [] →
    (item : Item) × (own_last (state_after limits apps (history ++ e ∷ [])).pipes e.app pipe ≡ Some item) × (received_of item ≡ message)
given-last limits apps pipe history e message legal gets last =
    let parts = legal-last limits [] (opening limits apps) history e legal in
    let s = state_after limits apps history in
    let made : gets_from pipe (record { app = e.app; call = e.call; answer = (step limits history s e.app e.call).0 }) ≡ true =
    subst (λ a. gets_from pipe (record { app = e.app; call = e.call; answer = a }) ≡ true) parts.2 gets in
    let owns-now = owned limits history s pipe e.app e.call (cause limits s e.app e.call) refl made
    ∙ gets-owns limits history s pipe e.app e.call (AreWaiters-after limits apps history parts.0) parts.1 made in
    let now : owns (state_after limits apps (history ++ e ∷ [])).pipes e.app pipe ≡ true =
    ap (λ (t : State). owns t.pipes e.app pipe) (state_from-push limits [] (opening limits apps) history e) ∙ owns-now in
    let item = found-item (pipe_at (state_after limits apps (history ++ e ∷ [])).pipes pipe) message last in
    (item.0, ap (λ b. cond {A = Option Item} b (last_at (state_after limits apps (history ++ e ∷ [])).pipes pipe) None) now ∙ item.1, item.2)

-- an entry that doesn't let go of it, whoever's
kept-by : (limits : Limits) (apps app pipe : ℕ) (history : List Entry) (e : Entry) (item : Item) → IsLegal limits apps (history ++ e ∷ []) → lets_go app pipe e ≡ false →
    own_last (state_after limits apps history).pipes app pipe ≡ Some item → own_last (state_after limits apps (history ++ e ∷ [])).pipes app pipe ≡ Some item
kept-by limits apps app pipe history e item legal free held =
    ap (λ (t : State). own_last t.pipes app pipe) (state_from-push limits [] (opening limits apps) history e) ∙ by_app (e.app == app) refl
  where
    s : State
    s = state_after limits apps history

    by_app : (b : Bool) → (e.app == app) ≡ b → own_last ((step limits history s e.app e.call).1).pipes app pipe ≡ Some item
    by_app true is =
        let same : e.app ≡ app = eqb-true e.app app is in
        subst (λ a. own_last ((step limits history s a e.call).1).pipes app pipe ≡ Some item) (sym same)
        (stays-own limits history s pipe app e.call item (sym (ap (λ b. b && call_lets_go pipe e.call) is) ∙ free) held)
    by_app false differ =
        let parts = legal-last limits [] (opening limits apps) history e legal in
        own_last-other limits apps app pipe history e.app e.call parts.0 parts.1 (λ is. true≢false (sym (eq-eqb e.app app is) ∙ differ)) ∙ held

-- entries that don't let go of it
kept-between : (limits : Limits) (apps app pipe : ℕ) (history between : List Entry) (item : Item) → IsLegal limits apps (history ++ between) → All (λ other. lets_go app pipe other ≡ false) between →
    own_last (state_after limits apps history).pipes app pipe ≡ Some item → own_last (state_after limits apps (history ++ between)).pipes app pipe ≡ Some item
kept-between limits apps app pipe history [] item legal free held = subst (λ h. own_last (state_after limits apps h).pipes app pipe ≡ Some item) (sym (append-nil history)) held
kept-between limits apps app pipe history (e ∷ es) item legal free held =
    let whole : IsLegal limits apps ((history ++ e ∷ []) ++ es) = subst (IsLegal limits apps) (sym (append_assoc history (e ∷ []) es)) legal in
    subst (λ h. own_last (state_after limits apps h).pipes app pipe ≡ Some item) (append_assoc history (e ∷ []) es)
    (kept-between limits apps app pipe (history ++ e ∷ []) es item whole (All-tail (λ (other : Entry). lets_go app pipe other ≡ false) e es free)
    (kept-by limits apps app pipe history e item (legal-front limits [] (opening limits apps) (history ++ e ∷ []) es whole)
    (All-head (λ (other : Entry). lets_go app pipe other ≡ false) e es free) held))

-- from the entry that gives a message on, until its receiver lets go of it
pub messages_stay : (limits : Limits) (apps : ℕ) (history : List Entry) → IsLegal limits apps history → MessagesStay limits apps history
messages_stay limits apps history legal front between rest e pipe whole gets free =
    let all : IsLegal limits apps ((front ++ e ∷ between) ++ rest) =
    subst (IsLegal limits apps) (whole ∙ sym (append_assoc front (e ∷ between) rest)) legal in
    let until : IsLegal limits apps (front ++ e ∷ between) = legal-front limits [] (opening limits apps) (front ++ e ∷ between) rest all in
    let then : IsLegal limits apps ((front ++ e ∷ []) ++ between) = subst (IsLegal limits apps) (sym (append_assoc front (e ∷ []) between)) until in
    let first : IsLegal limits apps (front ++ e ∷ []) = legal-front limits [] (opening limits apps) (front ++ e ∷ []) between then in
    let given = gives_newest limits apps pipe front e first gets in
    let item = given-last limits apps pipe front e given.0 first gets given.1.last in
    let last : own_last (state_after limits apps (front ++ e ∷ between)).pipes e.app pipe ≡ Some item.0 =
    subst (λ h. own_last (state_after limits apps h).pipes e.app pipe ≡ Some item.0) (append_assoc front (e ∷ []) between)
    (kept-between limits apps e.app pipe (front ++ e ∷ []) between item.0 then free item.1) in
    record { message = given.0; gives = given.1; last = ap (option_map received_of) last ∙ ap Some item.2 }
