-- The last messages of pipes. Who gets a message has the pipe that gives it; no message comes to be a pipe's last but by the
-- entry that gives it; and how many of an application's pipes have one changes by its own calls alone.
use Rattle.std.proofs.Common.{◌≡◌, ℕ, ◌+◌, ◌==◌, ◌&&◌, not, Bool, true, false, cond, true≢false, eqb-true, ne_eqb, IsTrue, List, [], ◌∷◌, ◌++◌, length, filter, Option, Some, None, is_some, refl, ap, sym, ◌∙◌, subst, arith}
use Rattle.std.specs.Prelude.{count_by}
use Rattle.std.specs.Option.{option_map_or, option_and_then}
use Rattle.std.proofs.lemmas.List.Sums.{sum_by-cons, sum_by_push}
use Rattle.ccsds_msg.specs.Message.{message_id}
use Rattle.fsw_base.specs.declared.config.Scope.{Scope}
use Rattle.fsw_base.specs.declared.statuses.SbStatus.{SbStatus}
use Rattle.fsw_base.specs.declared.statuses.SbStatus.TheVariants.{BadArgument, MaxPipesMet, PipeCrErr, MaxMsgsMet, MaxDestsMet, MsgTooBig, BufAlocErr, NoMessage, BufferInvalid}
use Rattle.fsw_base.specs.Limits.{Limits}
use Rattle.bus_words.specs.declared.calls.BusAnswer.{BusAnswer}
use Rattle.bus_words.specs.declared.calls.BusAnswer.TheVariants.{Got, TimeOut, Pending}
use Rattle.bus_words.specs.declared.history.Call.{Call}
use Rattle.bus_words.specs.declared.history.Call.TheVariants.{Create, Delete, SetOpts, GetOpts, Find, PipeName, Subscribe, Unsubscribe, Transmit, Receive, Pend, Look, Allocate, TransmitBuffer, Release, PoolCreate, PoolGet, PoolPut, PoolFigures, Register, SendEvent, ResetFilter, LogMode, ClearLog, Housekeeping, Figures, End}
use Rattle.bus_words.specs.declared.history.Entry.{Entry}
use Rattle.bus_words.specs.Bus.{Item, Pipe, Subscription, State, Sending, Active, Waiting, standing_of, pipe_at, is_live, owns, with_pipe, with_bits, with_standing, is_empty, others_idle, is_subscribed, route, unsent_size, deliver, offered, oldest, after_receive}
use Rattle.bus_words.specs.Refusals.{Refusal, OfBus}
use Rattle.bus_words.specs.Machine.{sending_from, packet_in, reads_after, by_bus, unowned_cause, receive_cause, delivered, front_of, oldest_number, received, sent_along, buffer_gone, passed_along, subscribed, cause, refused_state, decided, step, may_call}
use Rattle.bus_words.specs.Alone.{gets_from}
use Rattle.bus_words.proofs.Finds.{neither, not_false, same-sym, Each, Each-drop, find-any, any-filter_none}
use Rattle.bus_words.proofs.Isolation.{no_message}
use Rattle.bus_words.proofs.LegalSteps.{AreWaiters, WaitsOwn, legal-step, received-owns, accepted-owns, waits_on}
use Rattle.bus_words.proofs.KeptPipes.{AreSingle, single-rising, and-false, owns-one, last-with_pipe, changed_other, owner-offered, last-offered}
use Rattle.bus_words.proofs.Steps.{AreNumbered, number-offered, with_subscription}

-- the last message of the pipe of this number
abbrev pub last_at : List Pipe → ℕ → Option Item
last_at pipes number = option_and_then (λ (pipe : Pipe). pipe.last) (pipe_at pipes number)

-- Who gets a message has the pipe that gives it. --

owns_here : (s : State) (app p pipe : ℕ) → (p == pipe) ≡ true → owns s.pipes app pipe ≡ true → owns s.pipes app p ≡ true
owns_here s app p pipe is own = ap (owns s.pipes app) (eqb-true p pipe is) ∙ own

-- what a receive that may wait answers
abbrev told : ℕ → Bool → Bool → BusAnswer
told number empty idle = cond {A = BusAnswer} (not empty) (Got number) (cond {A = BusAnswer} idle TimeOut Pending)

gets-pended : (p app pipe number : ℕ) (empty idle : Bool) → gets_from p (record { app = app; call = Pend pipe; answer = told number empty idle }) ≡ true → (p == pipe) ≡ true
gets-pended p app pipe number false idle gets = gets
gets-pended p app pipe number true true gets = absurd (true≢false (sym gets))
gets-pended p app pipe number true false gets = absurd (true≢false (sym gets))

gets-looked : (p app pipe number : ℕ) (empty idle : Bool) → gets_from p (record { app = app; call = Look pipe; answer = told number empty idle }) ≡ true → (p == pipe) ≡ true
gets-looked p app pipe number false idle gets = gets
gets-looked p app pipe number true true gets = absurd (true≢false (sym gets))
gets-looked p app pipe number true false gets = absurd (true≢false (sym gets))

module _ (limits : Limits) (history : List Entry) (s : State) (p app : ℕ) where
  -- whether the call gives a message from pipe p
  abbrev gives : Call → Option Refusal → Bool
  gives call why = gets_from p (record { app = app; call = call; answer = (decided limits history s app call why).0 })

  gets-receive : (pipe : ℕ) (why : Option SbStatus) → receive_cause s app pipe ≡ why → gives (Receive pipe) (by_bus why) ≡ true → owns s.pipes app p ≡ true
  gets-receive pipe (Some status) is gets = absurd (true≢false (sym gets))
  gets-receive pipe None is gets = owns_here s app p pipe gets (received-owns s app pipe is)

  gets-pend : (pipe : ℕ) (why : Option SbStatus) → unowned_cause s app pipe ≡ why → gives (Pend pipe) (by_bus why) ≡ true → owns s.pipes app p ≡ true
  gets-pend pipe (Some status) is gets = absurd (true≢false (sym gets))
  gets-pend pipe None is gets =
      owns_here s app p pipe (gets-pended p app pipe (oldest_number s.pipes pipe) (is_empty s.pipes pipe) (others_idle s app) gets) (accepted-owns s app pipe is)

  gets-look : (pipe : ℕ) → AreWaiters s → IsTrue (may_call (standing_of s app) (Look pipe)) → gives (Look pipe) None ≡ true → owns s.pipes app p ≡ true
  gets-look pipe waiters may gets =
      owns_here s app p pipe (gets-looked p app pipe (oldest_number s.pipes pipe) (is_empty s.pipes pipe) (others_idle s app) gets)
      (subst (WaitsOwn s.pipes app) (waits_on (standing_of s app) pipe may) (waiters.waits app))

  pub gets-owns : (call : Call) → AreWaiters s → IsTrue (may_call (standing_of s app) call) →
      gets_from p (record { app = app; call = call; answer = (step limits history s app call).0 }) ≡ true → owns s.pipes app p ≡ true
  gets-owns (Create depth name) waiters may gets = absurd (true≢false (sym gets))
  gets-owns (Delete pipe) waiters may gets = absurd (true≢false (sym gets))
  gets-owns (SetOpts pipe bits) waiters may gets = absurd (true≢false (sym gets))
  gets-owns (GetOpts pipe) waiters may gets = absurd (true≢false (sym gets))
  gets-owns (Find name) waiters may gets = absurd (true≢false (sym gets))
  gets-owns (PipeName pipe) waiters may gets = absurd (true≢false (sym gets))
  gets-owns (Subscribe id pipe limit scope) waiters may gets = absurd (true≢false (sym gets))
  gets-owns (Unsubscribe id pipe) waiters may gets = absurd (true≢false (sym gets))
  gets-owns (Transmit bytes inc) waiters may gets = absurd (true≢false (sym gets))
  gets-owns (Receive pipe) waiters may gets = gets-receive pipe (receive_cause s app pipe) refl gets
  gets-owns (Pend pipe) waiters may gets = gets-pend pipe (unowned_cause s app pipe) refl gets
  gets-owns (Look pipe) waiters may gets = gets-look pipe waiters may gets
  gets-owns (Allocate size) waiters may gets = absurd (true≢false (sym gets))
  gets-owns (TransmitBuffer buf bytes inc) waiters may gets = absurd (true≢false (sym gets))
  gets-owns (Release buf) waiters may gets = absurd (true≢false (sym gets))
  gets-owns (PoolCreate bytes) waiters may gets = absurd (true≢false (sym gets))
  gets-owns (PoolGet pool size) waiters may gets = absurd (true≢false (sym gets))
  gets-owns (PoolPut pool grant) waiters may gets = absurd (true≢false (sym gets))
  gets-owns (PoolFigures pool) waiters may gets = absurd (true≢false (sym gets))
  gets-owns (Register filters) waiters may gets = absurd (true≢false (sym gets))
  gets-owns (SendEvent event kind text) waiters may gets = absurd (true≢false (sym gets))
  gets-owns (ResetFilter event) waiters may gets = absurd (true≢false (sym gets))
  gets-owns (LogMode mode) waiters may gets = absurd (true≢false (sym gets))
  gets-owns ClearLog waiters may gets = absurd (true≢false (sym gets))
  gets-owns Housekeeping waiters may gets = absurd (true≢false (sym gets))
  gets-owns Figures waiters may gets = absurd (true≢false (sym gets))
  gets-owns End waiters may gets = absurd (true≢false (sym gets))

-- No message comes but by an entry that gives it. --

-- a message that is the pipe's last now was so before
abbrev pub IsFrom : List Pipe → List Pipe → ℕ → Type 0
IsFrom pipes now p = (item : Item) → last_at now p ≡ Some item → last_at pipes p ≡ Some item

from-same : (pipes now : List Pipe) (p : ℕ) → last_at now p ≡ last_at pipes p → IsFrom pipes now p
from-same pipes now p same item is = sym same ∙ is

-- one pipe more, with no message
pub last-push : (pipes : List Pipe) (pipe : Pipe) (p : ℕ) → pipe.last ≡ None → last_at (pipes ++ pipe ∷ []) p ≡ last_at pipes p
last-push [] pipe p none =
    elim (pipe.number == p) as (λ b. option_and_then (λ (x : Pipe). x.last) (cond {A = Option Pipe} b (Some pipe) None) ≡ None) [ true ↦ none | false ↦ refl ]
last-push (x ∷ pipes) pipe p none =
    elim (x.number == p) as (λ b. option_and_then (λ (y : Pipe). y.last) (cond {A = Option Pipe} b (Some x) (pipe_at (pipes ++ pipe ∷ []) p)) ≡ option_and_then (λ (y : Pipe). y.last) (cond {A = Option Pipe} b (Some x) (pipe_at pipes p))) [
      | true ↦ refl
      | false ↦ last-push pipes pipe p none
    ]

-- of pipes that leave none is found
from-filter : (keeps : Pipe → Bool) (pipes : List Pipe) (p : ℕ) → AreSingle pipes → IsFrom pipes (filter keeps pipes) p
from-filter keeps [] p single = λ item is. absurd (cc (is))
from-filter keeps (x ∷ pipes) p single = by_tests (x.number == p) refl (keeps x) (from-filter keeps pipes p single.1)
  where
    by_tests : (here : Bool) → (x.number == p) ≡ here → (kept : Bool) → IsFrom pipes (filter keeps pipes) p → (item : Item) →
        last_at (cond {A = List Pipe} kept (x ∷ filter keeps pipes) (filter keeps pipes)) p ≡ Some item →
        option_and_then (λ (y : Pipe). y.last) (cond {A = Option Pipe} here (Some x) (pipe_at pipes p)) ≡ Some item
    by_tests true e true ih item is = ap (λ b. option_and_then (λ (y : Pipe). y.last) (cond {A = Option Pipe} b (Some x) (pipe_at (filter keeps pipes) p))) (sym e) ∙ is
    by_tests true e false ih item is =
        let gone : pipe_at (filter keeps pipes) p ≡ None =
        find-any (λ (y : Pipe). y.number == p) (filter keeps pipes)
        (any-filter_none (λ (y : Pipe). y.number == p) keeps pipes (ap (is_live pipes) (sym (eqb-true x.number p e)) ∙ single.0)) in
        absurd (cc (sym is ∙ ap (option_and_then (λ (y : Pipe). y.last)) gone))
    by_tests false e true ih item is = ih item (ap (λ b. option_and_then (λ (y : Pipe). y.last) (cond {A = Option Pipe} b (Some x) (pipe_at (filter keeps pipes) p))) (sym e) ∙ is)
    by_tests false e false ih item is = ih item is

-- a receive on another pipe, and on one if nothing waits
from-other : (pipes : List Pipe) (p pipe : ℕ) → (p == pipe) ≡ false → IsFrom pipes (with_pipe after_receive pipe pipes) p
from-other pipes p pipe differ =
    from-same pipes (with_pipe after_receive pipe pipes) p (ap (option_and_then (λ (x : Pipe). x.last)) (changed_other after_receive (λ x. refl) p pipe pipes differ))

pub last-emptied : (pipes : List Pipe) (p : ℕ) → is_empty pipes p ≡ true → last_at (with_pipe after_receive p pipes) p ≡ None
last-emptied [] p empty = refl
last-emptied (x ∷ pipes) p empty = by_test (x.number == p) refl (last-emptied pipes p) empty
  where
    no_item : (queue : List Item) → (length queue == 0) ≡ true → oldest queue ≡ None
    no_item [] none = refl
    no_item (item ∷ queue) none = absurd (true≢false (sym none ∙ ne_eqb (length (item ∷ queue)) 0 (λ is. omega (arith, is))))

    by_test : (b : Bool) → (x.number == p) ≡ b → (is_empty pipes p ≡ true → last_at (with_pipe after_receive p pipes) p ≡ None) →
        option_map_or (λ (y : Pipe). length y.queue == 0) (cond {A = Option Pipe} b (Some x) (pipe_at pipes p)) true ≡ true →
        last_at (cond {A = Pipe} b (after_receive x) x ∷ with_pipe after_receive p pipes) p ≡ None
    by_test true e ih none =
        ap (λ b. option_and_then (λ (y : Pipe). y.last) (cond {A = Option Pipe} b (Some (after_receive x)) (pipe_at (with_pipe after_receive p pipes) p))) e ∙ no_item x.queue none
    by_test false e ih none =
        ap (λ b. option_and_then (λ (y : Pipe). y.last) (cond {A = Option Pipe} b (Some x) (pipe_at (with_pipe after_receive p pipes) p))) e ∙ ih none

from-empty : (pipes : List Pipe) (p pipe : ℕ) → is_empty pipes pipe ≡ true → IsFrom pipes (with_pipe after_receive pipe pipes) p
from-empty pipes p pipe empty =
    elim (p == pipe) as (λ b. (p == pipe) ≡ b → IsFrom pipes (with_pipe after_receive pipe pipes) p) [
      | true ↦ λ same item is.
          let none : last_at (with_pipe after_receive pipe pipes) p ≡ None =
          subst (λ n. last_at (with_pipe after_receive n pipes) p ≡ None) (eqb-true p pipe same) (last-emptied pipes p (ap (is_empty pipes) (eqb-true p pipe same) ∙ empty)) in
          absurd (cc (is, none))
      | false ↦ λ differ. from-other pipes p pipe differ
    ] refl

last-deliver : (sending : Sending) (subs : List Subscription) (pipes : List Pipe) (p : ℕ) → last_at (deliver sending subs pipes) p ≡ last_at pipes p
last-deliver sending [] pipes p = refl
last-deliver sending (sub ∷ subs) pipes p =
    last-deliver sending subs (with_pipe (offered sending sub) sub.pipe pipes) p
    ∙ last-with_pipe (offered sending sub) (number-offered sending sub) (last-offered sending sub) sub.pipe pipes p

from-sent : (limits : Limits) (s : State) (sending : Sending) (subs : List Subscription) (p : ℕ) → IsFrom s.pipes ((sent_along limits subs sending s).1).pipes p
from-sent limits s sending [] p = from-same s.pipes s.pipes p refl
from-sent limits s sending (sub ∷ subs) p = from-same s.pipes (deliver sending (sub ∷ subs) s.pipes) p (last-deliver sending (sub ∷ subs) s.pipes p)

from-passed : (s : State) (sending : Sending) (subs : List Subscription) (p : ℕ) → IsFrom s.pipes ((passed_along subs sending s).1).pipes p
from-passed s sending [] p = from-same s.pipes s.pipes p refl
from-passed s sending (sub ∷ subs) p = from-same s.pipes (deliver sending (sub ∷ subs) s.pipes) p (last-deliver sending (sub ∷ subs) s.pipes p)

from-subscribed : (s : State) (id pipe limit : ℕ) (scope : Scope) (p : ℕ) → IsFrom s.pipes ((subscribed s id pipe limit scope).1).pipes p
from-subscribed s id pipe limit scope p =
    elim (is_subscribed s.subscriptions id pipe) as (λ b. IsFrom s.pipes (cond {A = State} b s (with_subscription s id pipe limit scope)).pipes p) [
      | true ↦ from-same s.pipes s.pipes p refl
      | false ↦ from-same s.pipes s.pipes p refl
    ]

module _ (limits : Limits) (history : List Entry) (s : State) (p app : ℕ) (numbered : AreNumbered s) where
  -- the call gives no message from pipe p, and none comes
  abbrev Comes : Call → Option Refusal → Type 0
  Comes call why = gets_from p (record { app = app; call = call; answer = (decided limits history s app call why).0 }) ≡ false → IsFrom s.pipes ((decided limits history s app call why).1).pipes p

  same : IsFrom s.pipes s.pipes p
  same = from-same s.pipes s.pipes p refl

  single : AreSingle s.pipes
  single = single-rising 0 s.pipes_created s.pipes numbered.pipes

  refused-receive : (pipe : ℕ) (status : SbStatus) → receive_cause s app pipe ≡ Some status → IsFrom s.pipes (refused_state s (Receive pipe) (OfBus status)).pipes p
  refused-receive pipe BadArgument is = same
  refused-receive pipe MaxPipesMet is = same
  refused-receive pipe PipeCrErr is = same
  refused-receive pipe MaxMsgsMet is = same
  refused-receive pipe MaxDestsMet is = same
  refused-receive pipe MsgTooBig is = same
  refused-receive pipe BufAlocErr is = same
  refused-receive pipe NoMessage is = from-empty s.pipes p pipe (no_message s app pipe is)
  refused-receive pipe BufferInvalid is = same

  comes-receive : (pipe : ℕ) (why : Option SbStatus) → receive_cause s app pipe ≡ why → Comes (Receive pipe) (by_bus why)
  comes-receive pipe (Some status) is none = refused-receive pipe status is
  comes-receive pipe None is none = from-other s.pipes p pipe none

  comes-pend : (pipe : ℕ) (why : Option SbStatus) → Comes (Pend pipe) (by_bus why)
  comes-pend pipe (Some status) none = same
  comes-pend pipe None none = by_tests (is_empty s.pipes pipe) refl (others_idle s app) none
    where
      by_tests : (empty : Bool) → is_empty s.pipes pipe ≡ empty → (idle : Bool) → gets_from p (record { app = app; call = Pend pipe; answer = told (oldest_number s.pipes pipe) empty idle }) ≡ false →
          IsFrom s.pipes (cond {A = State} (empty && not idle) (with_standing (received s pipe) app (Waiting pipe)) (received s pipe)).pipes p
      by_tests false e idle none = from-other s.pipes p pipe none
      by_tests true e true none = from-empty s.pipes p pipe e
      by_tests true e false none = from-empty s.pipes p pipe e

  comes-look : (pipe : ℕ) → Comes (Look pipe) None
  comes-look pipe none = by_tests (is_empty s.pipes pipe) refl (others_idle s app) none
    where
      by_tests : (empty : Bool) → is_empty s.pipes pipe ≡ empty → (idle : Bool) → gets_from p (record { app = app; call = Look pipe; answer = told (oldest_number s.pipes pipe) empty idle }) ≡ false →
          IsFrom s.pipes (cond {A = State} (empty && not idle) s (with_standing (received s pipe) app Active)).pipes p
      by_tests false e idle none = from-other s.pipes p pipe none
      by_tests true e true none = from-empty s.pipes p pipe e
      by_tests true e false none = same

  comes : (call : Call) (why : Option Refusal) → cause limits s app call ≡ why → Comes call why
  comes (Create depth name) (Some why) is none = same
  comes (Create depth name) None is none = from-same s.pipes (s.pipes ++ _ ∷ []) p (last-push s.pipes _ p refl)
  comes (Delete pipe) (Some why) is none = same
  comes (Delete pipe) None is none = from-filter (λ other. not (other.number == pipe)) s.pipes p single
  comes (SetOpts pipe bits) (Some why) is none = same
  comes (SetOpts pipe bits) None is none = from-same s.pipes (with_pipe (with_bits bits) pipe s.pipes) p (last-with_pipe (with_bits bits) (λ x. refl) (λ x. refl) pipe s.pipes p)
  comes (GetOpts pipe) (Some why) is none = same
  comes (GetOpts pipe) None is none = same
  comes (Find name) (Some why) is none = same
  comes (Find name) None is none = same
  comes (PipeName pipe) (Some why) is none = same
  comes (PipeName pipe) None is none = same
  comes (Subscribe id pipe limit scope) (Some why) is none = same
  comes (Subscribe id pipe limit scope) None is none = from-subscribed s id pipe limit scope p
  comes (Unsubscribe id pipe) (Some why) is none = same
  comes (Unsubscribe id pipe) None is none = same
  comes (Transmit bytes inc) (Some why) is none = same
  comes (Transmit bytes inc) None is none =
      from-sent limits s (record { sender = app; number = s.numbers_given + 1; asked = length bytes; message = delivered limits history bytes inc }) (route s.subscriptions (message_id bytes)) p
  comes (Receive pipe) why is none = subst (Comes (Receive pipe)) is (comes-receive pipe (receive_cause s app pipe) refl) none
  comes (Pend pipe) why is none = subst (Comes (Pend pipe)) is (comes-pend pipe (unowned_cause s app pipe)) none
  comes (Look pipe) why is none = subst (Comes (Look pipe)) is (comes-look pipe) none
  comes (Allocate size) (Some why) is none = same
  comes (Allocate size) None is none = same
  comes (TransmitBuffer buf bytes inc) (Some why) is none = same
  comes (TransmitBuffer buf bytes inc) None is none =
      from-passed (buffer_gone s app buf) (record { sender = app; number = buf; asked = unsent_size s.unsent app buf; message = delivered limits history (front_of bytes) inc })
      (route s.subscriptions (message_id bytes)) p
  comes (Release buf) (Some why) is none = same
  comes (Release buf) None is none = same
  comes (PoolCreate bytes) (Some why) is none = same
  comes (PoolCreate bytes) None is none = same
  comes (PoolGet pool size) (Some why) is none = same
  comes (PoolGet pool size) None is none = same
  comes (PoolPut pool grant) (Some why) is none = same
  comes (PoolPut pool grant) None is none = same
  comes (PoolFigures pool) (Some why) is none = same
  comes (PoolFigures pool) None is none = same
  comes (Register filters) (Some why) is none = same
  comes (Register filters) None is none = same
  comes (SendEvent event kind text) (Some why) is none = same
  comes (SendEvent event kind text) None is none = same
  comes (ResetFilter event) (Some why) is none = same
  comes (ResetFilter event) None is none = same
  comes (LogMode mode) (Some why) is none = same
  comes (LogMode mode) None is none = same
  comes ClearLog (Some why) is none = same
  comes ClearLog None is none = same
  comes Housekeeping (Some why) is none = same
  comes Housekeeping None is none =
      from-sent limits s (sending_from (reads_after limits history) s app (packet_in limits s) true) (route s.subscriptions (message_id (packet_in limits s))) p
  comes Figures (Some why) is none = same
  comes Figures None is none = same
  comes End (Some why) is none = same
  comes End None is none = from-filter (λ pipe. not (pipe.owner == app)) s.pipes p single

  pub from-step : (call : Call) → gets_from p (record { app = app; call = call; answer = (step limits history s app call).0 }) ≡ false → IsFrom s.pipes ((step limits history s app call).1).pipes p
  from-step call none = comes call (cause limits s app call) refl none

-- How many pipes of an application have a last message. --

abbrev pub has_last : ℕ → Pipe → Bool
has_last app pipe = pipe.owner == app && is_some pipe.last

-- of pipes that change
count-change : (app : ℕ) (change : Pipe → Pipe) (at : ℕ) (pipes : List Pipe) → Each (λ pipe. (pipe.number == at) ≡ true → has_last app (change pipe) ≡ has_last app pipe) pipes →
    count_by (has_last app) (with_pipe change at pipes) ≡ count_by (has_last app) pipes
count-change app change at [] each = refl
count-change app change at (x ∷ pipes) each =
    let now = cond {A = Pipe} (x.number == at) (change x) x in
    sum_by-cons (λ (pipe : Pipe). cond {A = ℕ} (has_last app pipe) 1 0) now (with_pipe change at pipes)
    ∙ ap (λ b. cond {A = ℕ} b 1 0 + count_by (has_last app) (with_pipe change at pipes)) (by_test (x.number == at) refl)
    ∙ ap (λ n. cond {A = ℕ} (has_last app x) 1 0 + n) (count-change app change at pipes each.1)
    ∙ sym (sum_by-cons (λ (pipe : Pipe). cond {A = ℕ} (has_last app pipe) 1 0) x pipes)
  where
    by_test : (b : Bool) → (x.number == at) ≡ b → has_last app (cond {A = Pipe} b (change x) x) ≡ has_last app x
    by_test true is = each.0 is
    by_test false is = refl

-- of pipes some of which leave, none that is counted
count-filter : (app : ℕ) (keeps : Pipe → Bool) (pipes : List Pipe) → Each (λ pipe. keeps pipe ≡ false → has_last app pipe ≡ false) pipes →
    count_by (has_last app) (filter keeps pipes) ≡ count_by (has_last app) pipes
count-filter app keeps [] each = refl
count-filter app keeps (x ∷ pipes) each = by_test (keeps x) refl (count-filter app keeps pipes each.1)
  where
    by_test : (b : Bool) → keeps x ≡ b → count_by (has_last app) (filter keeps pipes) ≡ count_by (has_last app) pipes →
        count_by (has_last app) (cond {A = List Pipe} b (x ∷ filter keeps pipes) (filter keeps pipes)) ≡ count_by (has_last app) (x ∷ pipes)
    by_test true is ih =
        sum_by-cons (λ (pipe : Pipe). cond {A = ℕ} (has_last app pipe) 1 0) x (filter keeps pipes)
        ∙ ap (λ n. cond {A = ℕ} (has_last app x) 1 0 + n) ih
        ∙ sym (sum_by-cons (λ (pipe : Pipe). cond {A = ℕ} (has_last app pipe) 1 0) x pipes)
    by_test false is ih =
        let whole : count_by (has_last app) (x ∷ pipes) ≡ cond {A = ℕ} (has_last app x) 1 0 + count_by (has_last app) pipes =
        sum_by-cons (λ (pipe : Pipe). cond {A = ℕ} (has_last app pipe) 1 0) x pipes in
        let nothing : cond {A = ℕ} (has_last app x) 1 0 ≡ 0 = ap (λ b. cond {A = ℕ} b 1 0) (each.0 is) in
        omega (arith, ih, whole, nothing)

-- of one pipe more
count-push : (app : ℕ) (pipes : List Pipe) (pipe : Pipe) → has_last app pipe ≡ false → count_by (has_last app) (pipes ++ pipe ∷ []) ≡ count_by (has_last app) pipes
count-push app pipes pipe none =
    let more = sum_by_push (λ (x : Pipe). cond {A = ℕ} (has_last app x) 1 0) pipes pipe in
    let nothing = ap (λ b. cond {A = ℕ} b 1 0) none in
    omega (arith, more, nothing)

-- each pipe
every : (P : Pipe → Type 0) (pipes : List Pipe) → ((pipe : Pipe) → P pipe) → Each P pipes
every P [] all = tt
every P (x ∷ pipes) all = (all x, every P pipes all)

-- no pipe of a number that the application doesn't own is its own
not_own : (pipes : List Pipe) (app at : ℕ) → owns pipes app at ≡ false → Each (λ pipe. (pipe.number == at) ≡ true → (pipe.owner == app) ≡ false) pipes
not_own [] app at none = tt
not_own (x ∷ pipes) app at none =
    let parts = neither ((x.number == at) && (x.owner == app)) (owns pipes app at) none in
    (λ is. ap (λ b. b && (x.owner == app)) (sym is) ∙ parts.0, not_own pipes app at parts.1)

count-offered : (app : ℕ) (sending : Sending) (sub : Subscription) (pipes : List Pipe) →
    count_by (has_last app) (with_pipe (offered sending sub) sub.pipe pipes) ≡ count_by (has_last app) pipes
count-offered app sending sub pipes =
    count-change app (offered sending sub) sub.pipe pipes
    (every _ pipes (λ pipe is. ap (λ n. (n == app) && is_some (offered sending sub pipe).last) (owner-offered sending sub pipe) ∙ ap (λ l. (pipe.owner == app) && is_some l) (last-offered sending sub pipe)))

count-deliver : (app : ℕ) (sending : Sending) (subs : List Subscription) (pipes : List Pipe) → count_by (has_last app) (deliver sending subs pipes) ≡ count_by (has_last app) pipes
count-deliver app sending [] pipes = refl
count-deliver app sending (sub ∷ subs) pipes = count-deliver app sending subs (with_pipe (offered sending sub) sub.pipe pipes) ∙ count-offered app sending sub pipes

-- a step of another leaves it
pub count-step : (limits : Limits) (history : List Entry) (s : State) (who app : ℕ) (call : Call) → AreWaiters s → IsTrue (may_call (standing_of s who) call) → (app == who) ≡ false →
    count_by (has_last app) ((step limits history s who call).1).pipes ≡ count_by (has_last app) s.pipes
count-step limits history s who app call waiters may differ =
    legal-step (λ t. count_by (has_last app) t.pipes ≡ count_by (has_last app) s.pipes) limits history s who call may (record {
      same = refl;
      creates = λ depth name. count-push app s.pipes _ (and-false (who == app));
      subscribes = λ id at limit scope. refl;
      sends = λ sending id. count-deliver app sending (route s.subscriptions id) s.pipes;
      receives = takes;
      deletes = λ at own. count-filter app (λ other. not (other.number == at)) s.pipes (Each-drop _ _ s.pipes (λ x not_his gone. ap (λ b. b && is_some x.last) (not_his (not_false (x.number == at) gone))) (others at own));
      sets = λ at bits. count-change app (with_bits bits) at s.pipes (every _ s.pipes (λ pipe is. refl));
      unsubscribes = λ id at. refl;
      waits = takes;
      looks = λ at is. takes at (subst (WaitsOwn s.pipes who) is (waiters.waits who));
      ends = count-filter app (λ pipe. not (pipe.owner == who)) s.pipes
          (every _ s.pipes (λ pipe gone. ap (λ b. b && is_some pipe.last) (ap (λ n. n == app) (eqb-true pipe.owner who (not_false (pipe.owner == who) gone)) ∙ same-sym who app ∙ differ)));
      pools = λ pools. refl;
      allocates = λ size. refl;
      leaves = λ buf. refl;
      records = λ t desk statistics is. is;
      passes = λ sending id. count-deliver app sending (route s.subscriptions id) s.pipes;
    })
  where
    single : AreSingle s.pipes
    single = single-rising 0 s.pipes_created s.pipes waiters.numbered.pipes

    others : (at : ℕ) → owns s.pipes who at ≡ true → Each (λ pipe. (pipe.number == at) ≡ true → (pipe.owner == app) ≡ false) s.pipes
    others at own = not_own s.pipes app at (owns-one s.pipes who app at single differ own)

    takes : (at : ℕ) → owns s.pipes who at ≡ true → count_by (has_last app) (with_pipe after_receive at s.pipes) ≡ count_by (has_last app) s.pipes
    takes at own =
        count-change app after_receive at s.pipes
        (Each-drop _ _ s.pipes (λ x not_his is. ap (λ b. b && is_some (oldest x.queue)) (not_his is) ∙ ap (λ b. b && is_some x.last) (sym (not_his is))) (others at own))
