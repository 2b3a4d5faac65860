-- Each unsent buffer has a number that was given, after every call. A call that an application's buffer goes with leaves none of its number.
use Rattle.std.proofs.Common.{◌≡◌, ℕ, ◌+◌, ◌-◌, ◌<◌, ◌≤◌, ◌⊎◌, inl, inr, ◌&&◌, not, Bool, true, false, cond, eqb, List, [], ◌∷◌, length, filter, find, slice_set, slice_index_or, Option, Some, None, is_some, refl, ap, sym, ◌∙◌, arith}
use Rattle.std.proofs.lemmas.Bool.{cases_lt, eqb-true}
use Rattle.std.proofs.lemmas.List.{get_or-set_same, get_or_past, length-set}
use Rattle.ccsds_msg.specs.Message.{message_id, front_fault}
use Rattle.fsw_base.specs.Limits.{Limits}
use Rattle.fsw_base.specs.declared.statuses.SbStatus.TheVariants.{BadArgument, BufferInvalid}
use Rattle.bus_words.specs.declared.calls.BusAnswer.{BusAnswer}
use Rattle.bus_words.specs.declared.calls.BusAnswer.TheVariants as answers
use Rattle.bus_words.specs.declared.history.Call.{Call}
use Rattle.bus_words.specs.declared.history.Call.TheVariants.{Create, Delete, SetOpts, GetOpts, Find, PipeName, Subscribe, Unsubscribe, Transmit, Receive, Pend, Look, Allocate, TransmitBuffer, Release, PoolCreate, PoolGet, PoolPut, PoolFigures, Register, SendEvent, ResetFilter, LogMode, ClearLog, Housekeeping, Figures, End}
use Rattle.bus_words.specs.Bus.{Buffer, Subscription, State, Active, Waiting, Sending, with_standing, is_empty, others_idle, route, is_subscribed, unsent_of, unsent_at, has_unsent, without_unsent}
use Rattle.bus_words.specs.Held.{buffers_in}
use Rattle.bus_words.specs.Refusals.{Refusal}
use Rattle.bus_words.specs.Machine.{Reads, refused_if, sending_from, sending_in, packet_in, sent_along, buffer_gone, passed_along, received, accept_with, decided_with, cause, by_bus}
use Rattle.bus_words.specs.Acts.{Whole, reads_in, act}
use Rattle.bus_words.proofs.Buffers.{Each-unsent_of, Each-with_unsent, Each-without_unsent, Each-without_all}
use Rattle.bus_words.proofs.Finds.{Each, Each-drop}
use Rattle.bus_words.proofs.Steps.{after_choice, after_refusal, with_subscription}

-- each unsent buffer has a number that was given
abbrev pub Given : State → Type 0
Given s = Each (λ (b : Buffer). b.number ≤ s.numbers_given) (buffers_in s.unsent)

more : (given now : ℕ) (buffers : List Buffer) → given ≤ now → Each (λ (b : Buffer). b.number ≤ given) buffers → Each (λ (b : Buffer). b.number ≤ now) buffers
more given now buffers above = Each-drop (λ (b : Buffer). b.number ≤ given) (λ (b : Buffer). b.number ≤ now) buffers (λ b is. omega (arith, above, is))

given_sent : (limits : Limits) (subs : List Subscription) (sending : Sending) (s : State) → sending.number ≡ s.numbers_given + 1 → Given s → Given ((sent_along limits subs sending s).1)
given_sent limits [] sending s next given = given
given_sent limits (sub ∷ subs) sending s next given = more s.numbers_given sending.number (buffers_in s.unsent) (omega (arith, next)) given

given_passed : (subs : List Subscription) (sending : Sending) (s : State) → Given s → Given ((passed_along subs sending s).1)
given_passed [] sending s given = given
given_passed (sub ∷ subs) sending s given = given

given_accepted : (reads : Reads) (limits : Limits) (s : State) (app : ℕ) (call : Call) → Given s → Given ((accept_with reads limits s app call).1)
given_accepted reads limits s app (Create depth name) given = given
given_accepted reads limits s app (Delete pipe) given = given
given_accepted reads limits s app (SetOpts pipe bits) given = given
given_accepted reads limits s app (GetOpts pipe) given = given
given_accepted reads limits s app (Find name) given = given
given_accepted reads limits s app (PipeName pipe) given = given
given_accepted reads limits s app (Subscribe id pipe limit scope) given =
    after_choice Given (is_subscribed s.subscriptions id pipe) s (with_subscription s id pipe limit scope) given given
given_accepted reads limits s app (Unsubscribe id pipe) given = given
given_accepted reads limits s app (Transmit bytes inc) given = given_sent limits (route s.subscriptions (message_id bytes)) (sending_from reads s app bytes inc) s refl given
given_accepted reads limits s app (Receive pipe) given = given
given_accepted reads limits s app (Pend pipe) given =
    after_choice Given (is_empty s.pipes pipe && not (others_idle s app)) (with_standing (received s pipe) app (Waiting pipe)) (received s pipe) given given
given_accepted reads limits s app (Look pipe) given =
    after_choice Given (is_empty s.pipes pipe && not (others_idle s app)) s (with_standing (received s pipe) app Active) given given
given_accepted reads limits s app (Allocate size) given =
    let next : ℕ = s.numbers_given + 1 in
    Each-with_unsent (λ (b : Buffer). b.number ≤ next) s.unsent app (record { number = next; size = size }) (more s.numbers_given next (buffers_in s.unsent) (omega arith) given) (omega arith)
given_accepted reads limits s app (TransmitBuffer buf bytes inc) given =
    given_passed (route s.subscriptions (message_id bytes)) (sending_in reads s app buf bytes inc) (buffer_gone s app buf)
    (Each-without_unsent (λ (b : Buffer). b.number ≤ s.numbers_given) s.unsent app buf given)
given_accepted reads limits s app (Release buf) given = Each-without_unsent (λ (b : Buffer). b.number ≤ s.numbers_given) s.unsent app buf given
given_accepted reads limits s app (PoolCreate bytes) given = given
given_accepted reads limits s app (PoolGet pool size) given = given
given_accepted reads limits s app (PoolPut pool grant) given = given
given_accepted reads limits s app (PoolFigures pool) given = given
given_accepted reads limits s app (Register filters) given = given
given_accepted reads limits s app (SendEvent id kind text) given = given
given_accepted reads limits s app (ResetFilter id) given = given
given_accepted reads limits s app (LogMode mode) given = given
given_accepted reads limits s app ClearLog given = given
given_accepted reads limits s app Housekeeping given =
    given_sent limits (route s.subscriptions (message_id (packet_in limits s))) (sending_from reads s app (packet_in limits s) true) s refl given
given_accepted reads limits s app Figures given = given
given_accepted reads limits s app End given = Each-without_all (λ (b : Buffer). b.number ≤ s.numbers_given) s.unsent app given

pub given_stays : (limits : Limits) (w : Whole) (app : ℕ) (call : Call) → Given w.bus → Given ((act limits w app call).1).bus
given_stays limits w app call given = by_cause (cause limits w.bus app call)
  where
    by_cause : (why : Option Refusal) → Given ((decided_with (reads_in w) limits w.bus app call why).1)
    by_cause None = given_accepted (reads_in w) limits w.bus app call given
    by_cause (Some why) = after_refusal Given w.bus call why given (λ pipe. given) (λ next follows. given)

-- the next number is of no unsent buffer
not_yet : (given n : ℕ) (buffers : List Buffer) → given < n → Each (λ (b : Buffer). b.number ≤ given) buffers → find (λ (b : Buffer). eqb b.number n) buffers ≡ None
not_yet given n [] above each = refl
not_yet given n (b ∷ bs) above each = by_test (not_yet given n bs above each.1) (eqb b.number n) refl
  where
    by_test : find (λ (o : Buffer). eqb o.number n) bs ≡ None → (t : Bool) → eqb b.number n ≡ t → cond t (Some b) (find (λ (o : Buffer). eqb o.number n) bs) ≡ None
    by_test rest true e = absurd (omega (arith, above, each.0, eqb-true b.number n e))
    by_test rest false e = rest

pub new_number : (s : State) (app : ℕ) → Given s → unsent_at s.unsent app (s.numbers_given + 1) ≡ None
new_number s app given = not_yet s.numbers_given (s.numbers_given + 1) (unsent_of s.unsent app) (omega arith) (Each-unsent_of (λ (b : Buffer). b.number ≤ s.numbers_given) s.unsent (app - 1) given)

-- A buffer that leaves. --

not_left : (n : ℕ) (bs : List Buffer) → find (λ (b : Buffer). eqb b.number n) (filter (λ (b : Buffer). not (eqb b.number n)) bs) ≡ None
not_left n [] = refl
not_left n (b ∷ bs) = by_test (not_left n bs) (eqb b.number n) refl
  where
    left : List Buffer
    left = filter (λ (o : Buffer). not (eqb o.number n)) bs

    by_test : find (λ (o : Buffer). eqb o.number n) left ≡ None → (t : Bool) → eqb b.number n ≡ t → find (λ (o : Buffer). eqb o.number n) (cond (not t) (b ∷ left) left) ≡ None
    by_test rest true e = rest
    by_test rest false e = ap (λ t. cond t (Some b) (find (λ (o : Buffer). eqb o.number n) left)) e ∙ rest

left_none : (unsent : List (List Buffer)) (app n : ℕ) → unsent_at (without_unsent unsent app n) app n ≡ None
left_none unsent app n = by_place (cases_lt (app - 1) (length unsent))
  where
    kept : List Buffer
    kept = filter (λ (b : Buffer). not (eqb b.number n)) (unsent_of unsent app)

    Has : List Buffer → Option Buffer
    Has bs = find (λ (b : Buffer). eqb b.number n) bs

    by_place : (app - 1 < length unsent) ⊎ (length unsent ≤ app - 1) → Has (slice_index_or (slice_set unsent (app - 1) kept) (app - 1) []) ≡ None
    by_place (inl within) = ap Has (get_or-set_same unsent (app - 1) kept [] within) ∙ not_left n (unsent_of unsent app)
    by_place (inr past) = ap Has (get_or_past (slice_set unsent (app - 1) kept) (app - 1) [] (omega (arith, past, length-set unsent (app - 1) kept)))

module _ (limits : Limits) (w : Whole) (app n : ℕ) where
  abbrev made : Call → Option Refusal → BusAnswer × State
  made call why = decided_with (reads_in w) limits w.bus app call why

  passed_none : (subs : List Subscription) (sending : Sending) → unsent_at ((passed_along subs sending (buffer_gone w.bus app n)).1).unsent app n ≡ None
  passed_none [] sending = left_none w.bus.unsent app n
  passed_none (sub ∷ subs) sending = left_none w.bus.unsent app n

  -- a send that is accepted
  pub sent_none : (bytes : List ℕ) (inc : Bool) (number reached : ℕ) → (act limits w app (TransmitBuffer n bytes inc)).0 ≡ answers.Sent number reached →
      unsent_at ((act limits w app (TransmitBuffer n bytes inc)).1).bus.unsent app n ≡ None
  sent_none bytes inc number reached is = by_cause (cause limits w.bus app (TransmitBuffer n bytes inc)) refl (has_unsent w.bus.unsent app n) refl (is_some (front_fault bytes)) refl is
    where
      of : Bool → Bool → Option Refusal
      of has fault = by_bus (refused_if (not has) BufferInvalid (refused_if fault BadArgument None))

      by_cause : (why : Option Refusal) → cause limits w.bus app (TransmitBuffer n bytes inc) ≡ why → (has : Bool) → has_unsent w.bus.unsent app n ≡ has → (fault : Bool) → is_some (front_fault bytes) ≡ fault →
          (made (TransmitBuffer n bytes inc) why).0 ≡ answers.Sent number reached → unsent_at ((made (TransmitBuffer n bytes inc) why).1).unsent app n ≡ None
      by_cause None e has h fault f told = passed_none (route w.bus.subscriptions (message_id bytes)) (sending_in (reads_in w) w.bus app n bytes inc)
      by_cause (Some why) e true h true f told = let same : Some why ≡ of true true = sym e ∙ ap (λ b. of b (is_some (front_fault bytes))) h ∙ ap (of true) f in absurd (cc (same, told))
      by_cause (Some why) e true h false f told = let same : Some why ≡ of true false = sym e ∙ ap (λ b. of b (is_some (front_fault bytes))) h ∙ ap (of true) f in absurd (cc (same))
      by_cause (Some why) e false h fault f told = let same : Some why ≡ of false fault = sym e ∙ ap (λ b. of b (is_some (front_fault bytes))) h ∙ ap (of false) f in absurd (cc (same, told))

  -- and a return
  pub released_none : (act limits w app (Release n)).0 ≡ answers.Done → unsent_at ((act limits w app (Release n)).1).bus.unsent app n ≡ None
  released_none is = by_cause (cause limits w.bus app (Release n)) refl (has_unsent w.bus.unsent app n) refl is
    where
      of : Bool → Option Refusal
      of has = by_bus (refused_if (not has) BufferInvalid None)

      by_cause : (why : Option Refusal) → cause limits w.bus app (Release n) ≡ why → (has : Bool) → has_unsent w.bus.unsent app n ≡ has →
          (made (Release n) why).0 ≡ answers.Done → unsent_at ((made (Release n) why).1).unsent app n ≡ None
      by_cause None e has h told = left_none w.bus.unsent app n
      by_cause (Some why) e true h told = let same : Some why ≡ of true = sym e ∙ ap of h in absurd (cc (same))
      by_cause (Some why) e false h told = let same : Some why ≡ of false = sym e ∙ ap of h in absurd (cc (same, told))

  -- without a buffer nothing is sent or returned
  abbrev invalid : BusAnswer
  invalid = answers.Sb BufferInvalid

  pub unsent_invalid : (bytes : List ℕ) (inc : Bool) → has_unsent w.bus.unsent app n ≡ false → (act limits w app (TransmitBuffer n bytes inc)).0 ≡ invalid
  unsent_invalid bytes inc none =
      ap (λ has. (made (TransmitBuffer n bytes inc) (by_bus (refused_if (not has) BufferInvalid (refused_if (is_some (front_fault bytes)) BadArgument None)))).0) none

  pub return_invalid : has_unsent w.bus.unsent app n ≡ false → (act limits w app (Release n)).0 ≡ invalid
  return_invalid none = ap (λ has. (made (Release n) (by_bus (refused_if (not has) BufferInvalid None))).0) none

-- no buffer of no bytes is given
pub no_empty : (limits : Limits) (w : Whole) (app : ℕ) → (act limits w app (Allocate 0)).0 ≡ answers.Sb BadArgument
no_empty limits w app = refl
