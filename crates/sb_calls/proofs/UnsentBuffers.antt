-- Which numbers are unsent buffers' after a step: those that were, and that of the buffer that it gives.
use Rattle.std.proofs.Common.{◌≡◌, ℕ, zero, suc, ◌+◌, ◌-◌, ◌<◌, ◌≤◌, ◌==◌, ◌&&◌, ◌||◌, not, Bool, true, false, cond, List, [], ◌∷◌, Option, Some, None, refl, ap, sym, ◌∙◌, true≢false, eqb-true, eq-eqb, length, find, replicate, is_some, arith}
use Rattle.ccsds_msg.specs.Message.{message_id}
use Rattle.fsw_base.specs.Limits.{Limits}
use Rattle.fsw_base.specs.declared.statuses.SbStatus.{SbStatus}
use Rattle.bus_words.specs.declared.calls.BusAnswer.{BusAnswer}
use Rattle.bus_words.specs.declared.calls.BusAnswer.TheVariants.{Done, Number, Sent, Sb}
use Rattle.bus_words.specs.declared.history.Call.{Call}
use Rattle.bus_words.specs.declared.history.Call.TheVariants as calls
use Rattle.bus_words.specs.declared.history.Entry.{Entry}
use Rattle.bus_words.specs.Bus.{Buffer, Sending, State, Subscription, Active, Waiting, with_standing, unsent_of, has_unsent, with_unsent, without_unsent, without_all_unsent, is_empty, is_subscribed, others_idle, route}
use Rattle.bus_words.specs.Held.{is_unsent, buffers_in, IsUnsentBuffer, AreUnsent}
use Rattle.bus_words.specs.Refusals.{Refusal, OfBus, OfPools, OfEvents, refusal_answer}
use Rattle.bus_words.specs.Machine.{packet_in, by_bus, allocate_cause, transmit_buffer_cause, release_cause, buffer_gone, received, sent_along, passed_along, accept, cause, decided, step}
use Rattle.std.specs.Prelude.{All}
use Rattle.std.specs.List.{list_any}
use Rattle.std.proofs.lemmas.List.{get_or-set_same}
use Rattle.std.proofs.lemmas.List.Elements.{All-head, All-tail}
use Rattle.bus_words.proofs.Buffers.{of_buffer, unsent_in, OtherBuffer, was_unsent, Each-with_unsent, Each-without_unsent, Each-without_all}
use Rattle.bus_words.proofs.Finds.{same-sym}
use Rattle.bus_words.proofs.Steps.{after_refusal, after_choice, transmit_buffer_cause-none, release_cause-none}
use Rattle.sb_calls.specs.Notes.{gives_buffer}

-- a number that is unsent then was so before
abbrev From : ℕ → State → State → Type 0
From n s t = is_unsent t.unsent n ≡ true → is_unsent s.unsent n ≡ true

from-sent : (n : ℕ) (limits : Limits) (s : State) (sending : Sending) (subs : List Subscription) → From n s ((sent_along limits subs sending s).1)
from-sent n limits s sending [] is = is
from-sent n limits s sending (sub ∷ subs) is = is

from-passed : (n : ℕ) (s t : State) (sending : Sending) (subs : List Subscription) → From n s t → From n s ((passed_along subs sending t).1)
from-passed n s t sending [] from = from
from-passed n s t sending (sub ∷ subs) from = from

from-gone : (n : ℕ) (s : State) (app buf : ℕ) → From n s (buffer_gone s app buf)
from-gone n s app buf = was_unsent n s.unsent (without_unsent s.unsent app buf) (Each-without_unsent (OtherBuffer n) s.unsent app buf)

module _ (limits : Limits) (history : List Entry) (s : State) (app n : ℕ) where
  -- by this call, if it gives no buffer of this number
  abbrev ByCall : Call → BusAnswer × State → Type 0
  ByCall call made = gives_buffer n (record { app = app; call = call; answer = made.0 }) ≡ false → From n s made.1

  accepted : (call : Call) → ByCall call (accept limits history s app call)
  accepted (calls.Create depth name) none = λ is. is
  accepted (calls.Delete pipe) none = λ is. is
  accepted (calls.SetOpts pipe bits) none = λ is. is
  accepted (calls.GetOpts pipe) none = λ is. is
  accepted (calls.Find name) none = λ is. is
  accepted (calls.PipeName pipe) none = λ is. is
  accepted (calls.Subscribe id pipe limit scope) none = after_choice (From n s) (is_subscribed s.subscriptions id pipe) s _ (λ is. is) (λ is. is)
  accepted (calls.Unsubscribe id pipe) none = λ is. is
  accepted (calls.Transmit bytes inc) none = from-sent n limits s _ (route s.subscriptions (message_id bytes))
  accepted (calls.Receive pipe) none = λ is. is
  accepted (calls.Pend pipe) none =
      after_choice (From n s) (is_empty s.pipes pipe && not (others_idle s app)) (with_standing (received s pipe) app (Waiting pipe)) (received s pipe) (λ is. is) (λ is. is)
  accepted (calls.Look pipe) none =
      after_choice (From n s) (is_empty s.pipes pipe && not (others_idle s app)) s (with_standing (received s pipe) app Active) (λ is. is) (λ is. is)
  accepted (calls.Allocate size) none =
      let new : Buffer = record { number = s.numbers_given + 1; size = size } in
      was_unsent n s.unsent (with_unsent s.unsent app new) (λ each. Each-with_unsent (OtherBuffer n) s.unsent app new each (same-sym (s.numbers_given + 1) n ∙ none))
  accepted (calls.TransmitBuffer buf bytes inc) none = from-passed n s (buffer_gone s app buf) _ (route s.subscriptions (message_id bytes)) (from-gone n s app buf)
  accepted (calls.Release buf) none = from-gone n s app buf
  accepted (calls.PoolCreate bytes) none = λ is. is
  accepted (calls.PoolGet pool size) none = λ is. is
  accepted (calls.PoolPut pool grant) none = λ is. is
  accepted (calls.PoolFigures pool) none = λ is. is
  accepted (calls.Register filters) none = λ is. is
  accepted (calls.SendEvent id kind text) none = λ is. is
  accepted (calls.ResetFilter id) none = λ is. is
  accepted (calls.LogMode mode) none = λ is. is
  accepted calls.ClearLog none = λ is. is
  accepted calls.Housekeeping none = from-sent n limits s _ (route s.subscriptions (message_id (packet_in limits s)))
  accepted calls.Figures none = λ is. is
  accepted calls.End none = was_unsent n s.unsent (without_all_unsent s.unsent app) (Each-without_all (OtherBuffer n) s.unsent app)

  pub unsent-from : (call : Call) → ByCall call (step limits history s app call)
  unsent-from call = by_cause (cause limits s app call)
    where
      by_cause : (why : Option Refusal) → ByCall call (decided limits history s app call why)
      by_cause (Some why) none = after_refusal (From n s) s call why (λ is. is) (λ pipe is. is) (λ next follows is. is)
      by_cause None none = accepted call none

-- The number of a buffer that a call gives is one more than were given before. --

module _ (limits : Limits) (history : List Entry) (s : State) (app n : ℕ) where
  refused-gives : (call : Call) (why : Refusal) → gives_buffer n (record { app = app; call = call; answer = refusal_answer why }) ≡ false
  refused-gives (calls.Allocate size) (OfBus status) = refl
  refused-gives (calls.Allocate size) (OfPools status) = refl
  refused-gives (calls.Allocate size) (OfEvents status) = refl
  refused-gives call why = refl

  next_given : (call : Call) → gives_buffer n (record { app = app; call = call; answer = (accept limits history s app call).0 }) ≡ true → n ≡ s.numbers_given + 1
  next_given (calls.Allocate size) gives = eqb-true n (s.numbers_given + 1) gives
  next_given call gives = absurd (true≢false (sym gives))

  pub gives-next : (call : Call) → gives_buffer n (record { app = app; call = call; answer = (step limits history s app call).0 }) ≡ true → n ≡ s.numbers_given + 1
  gives-next call = by_cause (cause limits s app call)
    where
      by_cause : (why : Option Refusal) → gives_buffer n (record { app = app; call = call; answer = (decided limits history s app call why).0 }) ≡ true → n ≡ s.numbers_given + 1
      by_cause (Some why) gives = absurd (true≢false (sym gives ∙ refused-gives call why))
      by_cause None gives = next_given call gives

-- the number of an unsent buffer was given
pub unsent-given : (limits : Limits) (apps : ℕ) (s : State) (n : ℕ) → AreUnsent limits apps s → is_unsent s.unsent n ≡ true → n ≤ s.numbers_given
unsent-given limits apps s n are is = among (buffers_in s.unsent) are.each (sym (unsent_in s.unsent n) ∙ is)
  where
    among : (buffers : List Buffer) → All (IsUnsentBuffer limits s) buffers → list_any (of_buffer n) buffers ≡ true → n ≤ s.numbers_given
    among [] each is = absurd (true≢false (sym is))
    among (buffer ∷ buffers) each is =
        elim (buffer.number == n) as (λ b. (buffer.number == n) ≡ b → (b || list_any (of_buffer n) buffers) ≡ true → n ≤ s.numbers_given) [
          | true ↦ λ here so.
              let one = All-head (IsUnsentBuffer limits s) buffer buffers each in
              omega (arith, one.given, eqb-true buffer.number n here)
          | false ↦ λ here so. among buffers (All-tail (IsUnsentBuffer limits s) buffer buffers each) so
        ] refl is

-- Accepted calls of buffers. --

abbrev is_number : BusAnswer → Bool
is_number (Number number) = true
is_number answer = false

abbrev number_in : BusAnswer → ℕ
number_in (Number number) = number
number_in answer = 0

abbrev is_refusal : BusAnswer → Bool
is_refusal (Sb status) = true
is_refusal answer = false

-- the application has the buffer that it was given
pub allocated-there : (limits : Limits) (history : List Entry) (s t : State) (app size number : ℕ) → app - 1 < length s.unsent →
    step limits history s app (calls.Allocate size) ≡ (Number number, t) → has_unsent t.unsent app number ≡ true
allocated-there limits history s t app size number known is =
    by_cause (allocate_cause limits s size) (ap (λ (p : BusAnswer × State). p.0) is) (ap (λ (p : BusAnswer × State). p.1.unsent) is)
  where
    by_cause : (why : Option SbStatus) → (decided limits history s app (calls.Allocate size) (by_bus why)).0 ≡ Number number →
        (decided limits history s app (calls.Allocate size) (by_bus why)).1.unsent ≡ t.unsent → has_unsent t.unsent app number ≡ true
    by_cause (Some status) told left = absurd (true≢false (sym (ap is_number told)))
    by_cause None told left =
        let given : s.numbers_given + 1 ≡ number = ap number_in told in
        let new : Buffer = record { number = s.numbers_given + 1; size = size } in
        ap (λ (u : List (List Buffer)). has_unsent u app number) (sym left)
        ∙ ap (λ (bs : List Buffer). is_some (find (λ (buffer : Buffer). buffer.number == number) bs)) (get_or-set_same s.unsent (app - 1) (new ∷ unsent_of s.unsent app) [] known)
        ∙ ap (λ b. is_some (cond {A = Option Buffer} b (Some new) (find (λ (buffer : Buffer). buffer.number == number) (unsent_of s.unsent app)))) (eq-eqb (s.numbers_given + 1) number given)

-- The buffer of this number was the application's, and left.
pub record HasLeft (s t : State) (app buf : ℕ) : Type 0 where
  pub had : has_unsent s.unsent app buf ≡ true
  pub left : t.unsent ≡ without_unsent s.unsent app buf

passed-unsent : (s : State) (sending : Sending) (subs : List Subscription) → ((passed_along subs sending s).1).unsent ≡ s.unsent
passed-unsent s sending [] = refl
passed-unsent s sending (sub ∷ subs) = refl

-- an accepted transmission takes the buffer
pub transmitted-left : (limits : Limits) (history : List Entry) (s t : State) (app buf number reached : ℕ) (bytes : List ℕ) (inc : Bool) →
    step limits history s app (calls.TransmitBuffer buf bytes inc) ≡ (Sent number reached, t) → HasLeft s t app buf
transmitted-left limits history s t app buf number reached bytes inc is =
    by_cause (transmit_buffer_cause s app buf bytes) refl (ap (λ (p : BusAnswer × State). p.0) is) (ap (λ (p : BusAnswer × State). p.1.unsent) is)
  where
    by_cause : (why : Option SbStatus) → transmit_buffer_cause s app buf bytes ≡ why →
        (decided limits history s app (calls.TransmitBuffer buf bytes inc) (by_bus why)).0 ≡ Sent number reached →
        (decided limits history s app (calls.TransmitBuffer buf bytes inc) (by_bus why)).1.unsent ≡ t.unsent → HasLeft s t app buf
    by_cause (Some status) is told left = absurd (true≢false (ap is_refusal told))
    by_cause None none told left = record {
      had = transmit_buffer_cause-none s app buf bytes none;
      left = sym left ∙ passed-unsent (buffer_gone s app buf) _ (route s.subscriptions (message_id bytes));
    }

-- and so does a release
pub released-left : (limits : Limits) (history : List Entry) (s t : State) (app buf : ℕ) → step limits history s app (calls.Release buf) ≡ (Done, t) → HasLeft s t app buf
released-left limits history s t app buf is =
    by_cause (release_cause s app buf) refl (ap (λ (p : BusAnswer × State). p.0) is) (ap (λ (p : BusAnswer × State). p.1.unsent) is)
  where
    by_cause : (why : Option SbStatus) → release_cause s app buf ≡ why → (decided limits history s app (calls.Release buf) (by_bus why)).0 ≡ Done →
        (decided limits history s app (calls.Release buf) (by_bus why)).1.unsent ≡ t.unsent → HasLeft s t app buf
    by_cause (Some status) is told left = absurd (true≢false (ap is_refusal told))
    by_cause None none told left = record { had = release_cause-none s app buf none; left = sym left }

-- no buffer is unsent before the first call
pub none-first : (apps n : ℕ) → is_unsent (replicate apps []) n ≡ false
none-first zero n = refl
none-first (suc apps) n = none-first apps n
