-- A call by the state alone changes nothing of how many applications there are.
use Rattle.std.proofs.Common.{◌≡◌, ℕ, ◌-◌, ◌&&◌, not, true, List, [], ◌∷◌, length, Option, Some, None, refl}
use Rattle.std.proofs.lemmas.List.{length-set}
use Rattle.ccsds_msg.specs.Message.{message_id}
use Rattle.fsw_base.specs.Limits.{Limits}
use Rattle.bus_words.specs.declared.history.Call.{Call}
use Rattle.bus_words.specs.declared.history.Call.TheVariants.{Create, Delete, SetOpts, GetOpts, Find, PipeName, Subscribe, Unsubscribe, Transmit, Receive, Pend, Look, Allocate, TransmitBuffer, Release, PoolCreate, PoolGet, PoolPut, PoolFigures, Register, SendEvent, ResetFilter, LogMode, ClearLog, Housekeeping, Figures, End}
use Rattle.bus_words.specs.Bus.{Subscription, State, Standing, Active, Waiting, Ended, Sending, with_standing, is_empty, others_idle, route, is_subscribed}
use Rattle.bus_words.specs.Refusals.{Refusal}
use Rattle.bus_words.specs.Machine.{Reads, sending_from, sending_in, packet_in, sent_along, buffer_gone, passed_along, received, accept_with, decided_with, cause}
use Rattle.bus_words.specs.Acts.{Whole, reads_in, act}
use Rattle.bus_words.proofs.Steps.{after_choice, after_refusal, with_subscription}

-- as many applications as there were
abbrev AsMany : State → State → Type 0
AsMany s t = length t.standings ≡ length s.standings

many_sent : (limits : Limits) (subs : List Subscription) (sending : Sending) (s : State) → AsMany s ((sent_along limits subs sending s).1)
many_sent limits [] sending s = refl
many_sent limits (sub ∷ subs) sending s = refl

many_passed : (subs : List Subscription) (sending : Sending) (s : State) → AsMany s ((passed_along subs sending s).1)
many_passed [] sending s = refl
many_passed (sub ∷ subs) sending s = refl

many_stand : (s : State) (pipe app : ℕ) (standing : Standing) → AsMany s (with_standing (received s pipe) app standing)
many_stand s pipe app standing = length-set s.standings (app - 1) standing

many_accepted : (reads : Reads) (limits : Limits) (s : State) (app : ℕ) (call : Call) → AsMany s ((accept_with reads limits s app call).1)
many_accepted reads limits s app (Create depth name) = refl
many_accepted reads limits s app (Delete pipe) = refl
many_accepted reads limits s app (SetOpts pipe bits) = refl
many_accepted reads limits s app (GetOpts pipe) = refl
many_accepted reads limits s app (Find name) = refl
many_accepted reads limits s app (PipeName pipe) = refl
many_accepted reads limits s app (Subscribe id pipe limit scope) =
    after_choice (AsMany s) (is_subscribed s.subscriptions id pipe) s (with_subscription s id pipe limit scope) refl refl
many_accepted reads limits s app (Unsubscribe id pipe) = refl
many_accepted reads limits s app (Transmit bytes inc) = many_sent limits (route s.subscriptions (message_id bytes)) (sending_from reads s app bytes inc) s
many_accepted reads limits s app (Receive pipe) = refl
many_accepted reads limits s app (Pend pipe) =
    after_choice (AsMany s) (is_empty s.pipes pipe && not (others_idle s app)) (with_standing (received s pipe) app (Waiting pipe)) (received s pipe)
    (many_stand s pipe app (Waiting pipe)) refl
many_accepted reads limits s app (Look pipe) =
    after_choice (AsMany s) (is_empty s.pipes pipe && not (others_idle s app)) s (with_standing (received s pipe) app Active)
    refl (many_stand s pipe app Active)
many_accepted reads limits s app (Allocate size) = refl
many_accepted reads limits s app (TransmitBuffer buf bytes inc) =
    many_passed (route s.subscriptions (message_id bytes)) (sending_in reads s app buf bytes inc) (buffer_gone s app buf)
many_accepted reads limits s app (Release buf) = refl
many_accepted reads limits s app (PoolCreate bytes) = refl
many_accepted reads limits s app (PoolGet pool size) = refl
many_accepted reads limits s app (PoolPut pool grant) = refl
many_accepted reads limits s app (PoolFigures pool) = refl
many_accepted reads limits s app (Register filters) = refl
many_accepted reads limits s app (SendEvent id kind text) = refl
many_accepted reads limits s app (ResetFilter id) = refl
many_accepted reads limits s app (LogMode mode) = refl
many_accepted reads limits s app ClearLog = refl
many_accepted reads limits s app Housekeeping =
    many_sent limits (route s.subscriptions (message_id (packet_in limits s))) (sending_from reads s app (packet_in limits s) true) s
many_accepted reads limits s app Figures = refl
many_accepted reads limits s app End = length-set s.standings (app - 1) Ended

pub applications_stay : (limits : Limits) (w : Whole) (app : ℕ) (call : Call) →
    length ((act limits w app call).1).bus.standings ≡ length w.bus.standings
applications_stay limits w app call = by_cause (cause limits w.bus app call)
  where
    by_cause : (why : Option Refusal) → AsMany w.bus ((decided_with (reads_in w) limits w.bus app call why).1)
    by_cause None = many_accepted (reads_in w) limits w.bus app call
    by_cause (Some why) = after_refusal (AsMany w.bus) w.bus call why refl (λ pipe. refl) (λ next follows. refl)
