-- What a call of the bus leaves of the event desk and the statistics, for each shape of call: what the records' own calls leave.
-- If a call leaves the peaks as they are, what is in use afterwards has to be covered by them.
use Rattle.std.proofs.Common.{◌≡◌, ℕ, Bool, true, false, cond, List, [], ◌∷◌, ◌++◌, Option, refl, ap, sym, ◌∙◌}
use Rattle.std.specs.Prelude.{fold, flat_map}
use Rattle.ccsds_msg.specs.Message.{message_id}
use Rattle.fsw_base.specs.declared.config.Scope.{Scope}
use Rattle.fsw_base.specs.declared.events.EventKind.{EventKind}
use Rattle.fsw_base.specs.declared.statuses.SbStatus.{SbStatus}
use Rattle.fsw_base.specs.EventDesk.{Desk, registered, unregistered, sent, reset, with_mode, cleared}
use Rattle.fsw_base.specs.Limits.{Limits}
use Rattle.housekeeping.specs.declared.in_use.InUse.{InUse}
use Rattle.housekeeping.specs.declared.names.CounterName.{CounterName}
use Rattle.housekeeping.specs.Counters.{ticked}
use Rattle.housekeeping.specs.Peaks.{greater}
use Rattle.bus_events.specs.declared.event.ServiceEvent.{ServiceEvent}
use Rattle.bus_events.specs.declared.event.ServiceEvent.TheVariants.{DuplicateSubscription, NotSubscribed, NoSubscribers}
use Rattle.bus_words.specs.declared.calls.BusAnswer.{BusAnswer}
use Rattle.bus_words.specs.declared.calls.BusAnswer.TheVariants.{Done, Sent, Sb}
use Rattle.bus_words.specs.declared.history.Call.{Call}
use Rattle.bus_words.specs.declared.history.Call.TheVariants.{Create, Delete, SetOpts, GetOpts, Find, PipeName, Subscribe, Unsubscribe, Transmit, Receive, Pend, Look, Allocate, TransmitBuffer, Release, PoolCreate, PoolGet, PoolPut, PoolFigures, Register, SendEvent, ResetFilter, LogMode, ClearLog, Housekeeping, Figures, End}
use Rattle.bus_words.specs.Bus.{Subscription, State, is_subscribed, missed, route}
use Rattle.bus_words.specs.Held.{in_use}
use Rattle.bus_words.specs.Refusals.{Refusal}
use Rattle.bus_words.specs.Events.{miss_events, call_events, desk_by}
use Rattle.bus_words.specs.Counters.{event_counter, refusal_counter, statistics_by}
use Rattle.bus_words.specs.Machine.{Reads, sending_from, sending_in, cause, decided_with, recorded}
use Rattle.bus_words.specs.Acts.{Whole, reads_in, completed, act}
use Rattle.bus_words.proofs.EventDesks.{is_quiet, leaves_desk, quiet_events, quiet_desk}
use Rattle.bus_counts.specs.Records.{Recordings, counter_ticked, peaks_raised, told_event, told_all}
use Rattle.bus_counts.proofs.Misses.{told_all-is, send_events-misses, send_events-nobody}

-- the event desk and the statistics of a bus
abbrev pub recordings_of : State → Recordings
recordings_of s = record { events = s.events; statistics = s.statistics }

-- the bus with these
abbrev pub with_recordings : State → Recordings → State
with_recordings s records = record s { events = records.events; statistics = records.statistics }

-- all of the state with these
abbrev pub whole_with : Whole → Recordings → Whole
whole_with w records = record w { bus = with_recordings w.bus records }

-- with this event desk
abbrev pub with_events : Recordings → Desk → Recordings
with_events records desk = record records { events = desk }

-- a call that found this bus, is answered so, and leaves that bus but for these, leaves these
abbrev pub left : Limits → State → ℕ → Call → BusAnswer → State → Recordings
left limits s app call answer t = recordings_of ((recorded limits s app call (answer, t)).1)

-- The step. --

-- what a call answers and leaves: what its decision does, and of the records what `left` says
pub acts_with : (limits : Limits) (w : Whole) (app : ℕ) (call : Call) (why : Option Refusal) (answer : BusAnswer) (v : Whole) (records : Recordings) →
    cause limits w.bus app call ≡ why →
    completed limits w call (decided_with (reads_in w) limits w.bus app call why) ≡ (answer, v) →
    left limits w.bus app call answer v.bus ≡ records →
    act limits w app call ≡ (answer, whole_with v records)
acts_with limits w app call why answer v records cause made is =
    ap (λ o. completed limits w call (recorded limits w.bus app call (decided_with (reads_in w) limits w.bus app call o))) cause
    ∙ ap (λ (x : BusAnswer × Whole). (x.0, whole_with x.1 (left limits w.bus app call x.0 x.1.bus))) made
    ∙ ap (λ r. (answer, whole_with v r)) is

module _ (limits : Limits) (s : State) (app : ℕ) where
  abbrev records : Recordings
  records = recordings_of s

  -- whether the peaks cover what is in use on this bus
  abbrev IsCovered : State → Type 0
  IsCovered t = greater s.statistics.peak (in_use limits t) ≡ s.statistics.peak

  -- what is left, if the bus tells this of the call, and its refusal raises these counters
  left_by : (call : Call) (answer : BusAnswer) (t : State) (events : List ServiceEvent) (names : List CounterName) →
      call_events s app call answer ≡ events → refusal_counter call answer ≡ names →
      left limits s app call answer t
      ≡ record {
        events = desk_by s.events app call events;
        statistics = record {
          counts = fold ticked s.statistics.counts (names ++ flat_map event_counter events);
          peak = greater s.statistics.peak (in_use limits t);
        };
      }
  unfolding statistics_by
  left_by call answer t events names told raised =
      ap (λ (es : List ServiceEvent). record {
        events = desk_by s.events app call es;
        statistics = record {
          counts = fold ticked s.statistics.counts (refusal_counter call answer ++ flat_map event_counter es);
          peak = greater s.statistics.peak (in_use limits t);
        };
      }) told
      ∙ ap (λ (ns : List CounterName). record {
        events = desk_by s.events app call events;
        statistics = record {
          counts = fold ticked s.statistics.counts (ns ++ flat_map event_counter events);
          peak = greater s.statistics.peak (in_use limits t);
        };
      }) raised

  -- peaks that cover what is in use stay
  peaks_stay : (r : Recordings) (t : State) → r.statistics.peak ≡ s.statistics.peak → IsCovered t → peaks_raised r (in_use limits t) ≡ r
  peaks_stay r t same covered =
      ap (λ (peak : InUse). record r { statistics = record r.statistics { peak = peak } })
      (ap (λ (peak : InUse). greater peak (in_use limits t)) same ∙ covered ∙ sym same)

  -- Refused calls. --

  refused_events : (call : Call) (status : SbStatus) → call_events s app call (Sb status) ≡ []
  unfolding call_events
  refused_events (Create depth name) status = refl
  refused_events (Delete pipe) status = refl
  refused_events (SetOpts pipe bits) status = refl
  refused_events (GetOpts pipe) status = refl
  refused_events (Find name) status = refl
  refused_events (PipeName pipe) status = refl
  refused_events (Subscribe id pipe limit scope) status = refl
  refused_events (Unsubscribe id pipe) status = refl
  refused_events (Transmit bytes inc) status = refl
  refused_events (Receive pipe) status = refl
  refused_events (Pend pipe) status = refl
  refused_events (Look pipe) status = refl
  refused_events (Allocate size) status = refl
  refused_events (TransmitBuffer buf bytes inc) status = refl
  refused_events (Release buf) status = refl
  refused_events (PoolCreate bytes) status = refl
  refused_events (PoolGet pool size) status = refl
  refused_events (PoolPut pool grant) status = refl
  refused_events (PoolFigures pool) status = refl
  refused_events (Register filters) status = refl
  refused_events (SendEvent id kind text) status = refl
  refused_events (ResetFilter id) status = refl
  refused_events (LogMode mode) status = refl
  refused_events ClearLog status = refl
  refused_events Housekeeping status = refl
  refused_events Figures status = refl
  refused_events End status = refl

  -- a refused call counts its refusal
  pub refused_left : (call : Call) (status : SbStatus) (t : State) (which : CounterName) → leaves_desk call ≡ true →
      refusal_counter call (Sb status) ≡ which ∷ [] → IsCovered t →
      left limits s app call (Sb status) t ≡ counter_ticked records which
  refused_left call status t which leaves counter covered =
      left_by call (Sb status) t [] (which ∷ []) (refused_events call status) counter
      ∙ ap (λ (desk : Desk). peaks_raised (with_events (counter_ticked records which) desk) (in_use limits t)) (quiet_desk s.events app call leaves)
      ∙ peaks_stay (counter_ticked records which) t refl covered

  -- Quiet calls. --

  -- a call of which the bus tells nothing, and that counts no refusal, raises the peaks
  pub quiet_left : (call : Call) (answer : BusAnswer) (t : State) → is_quiet call ≡ true → leaves_desk call ≡ true → refusal_counter call answer ≡ [] →
      left limits s app call answer t ≡ peaks_raised records (in_use limits t)
  quiet_left call answer t quiet leaves none =
      left_by call answer t [] [] (quiet_events s app call answer quiet) none
      ∙ ap (λ (desk : Desk). peaks_raised (with_events records desk) (in_use limits t)) (quiet_desk s.events app call leaves)

  -- or leaves all as it is
  pub still_left : (call : Call) (answer : BusAnswer) (t : State) → is_quiet call ≡ true → leaves_desk call ≡ true → refusal_counter call answer ≡ [] →
      IsCovered t → left limits s app call answer t ≡ records
  still_left call answer t quiet leaves none covered = quiet_left call answer t quiet leaves none ∙ peaks_stay records t refl covered

  -- Subscriptions. --

  -- of a new subscription nothing is told
  pub subscribed_left : (id pipe limit : ℕ) (scope : Scope) (t : State) → is_subscribed s.subscriptions id pipe ≡ false →
      left limits s app (Subscribe id pipe limit scope) Done t ≡ peaks_raised records (in_use limits t)
  unfolding call_events desk_by
  subscribed_left id pipe limit scope t fresh =
      left_by (Subscribe id pipe limit scope) Done t [] []
      (ap (λ (b : Bool). cond {A = List ServiceEvent} b (DuplicateSubscription id pipe ∷ []) []) fresh) refl

  -- of one that stood already it is told that it did
  pub duplicate_left : (id pipe limit : ℕ) (scope : Scope) (t : State) → is_subscribed s.subscriptions id pipe ≡ true → IsCovered t →
      left limits s app (Subscribe id pipe limit scope) Done t ≡ told_event records (DuplicateSubscription id pipe)
  unfolding call_events desk_by
  duplicate_left id pipe limit scope t live covered =
      left_by (Subscribe id pipe limit scope) Done t (DuplicateSubscription id pipe ∷ []) []
      (ap (λ (b : Bool). cond {A = List ServiceEvent} b (DuplicateSubscription id pipe ∷ []) []) live) refl
      ∙ peaks_stay (told_event records (DuplicateSubscription id pipe)) t refl covered

  -- of the end of a subscription nothing is told
  pub unsubscribed_left : (id pipe : ℕ) (t : State) → is_subscribed s.subscriptions id pipe ≡ true →
      left limits s app (Unsubscribe id pipe) Done t ≡ peaks_raised records (in_use limits t)
  unfolding call_events desk_by
  unsubscribed_left id pipe t live =
      left_by (Unsubscribe id pipe) Done t [] []
      (ap (λ (b : Bool). cond {A = List ServiceEvent} b [] (NotSubscribed id pipe ∷ [])) live) refl

  -- if there was none, it is told
  pub not_subscribed_left : (id pipe : ℕ) (t : State) → is_subscribed s.subscriptions id pipe ≡ false →
      left limits s app (Unsubscribe id pipe) Done t ≡ peaks_raised (told_event records (NotSubscribed id pipe)) (in_use limits t)
  unfolding call_events desk_by
  not_subscribed_left id pipe t none =
      left_by (Unsubscribe id pipe) Done t (NotSubscribed id pipe ∷ []) []
      (ap (λ (b : Bool). cond {A = List ServiceEvent} b [] (NotSubscribed id pipe ∷ [])) none) refl

  -- Sends. --

  -- of a send to nobody it is told that nobody subscribes to its id
  pub unheard_left : (bytes : List ℕ) (inc : Bool) (number reached : ℕ) (t : State) → route s.subscriptions (message_id bytes) ≡ [] → IsCovered t →
      left limits s app (Transmit bytes inc) (Sent number reached) t ≡ told_event records (NoSubscribers (message_id bytes))
  unfolding call_events desk_by
  unheard_left bytes inc number reached t nobody covered =
      let event = NoSubscribers (message_id bytes) in
      left_by (Transmit bytes inc) (Sent number reached) t (event ∷ []) []
      (send_events-nobody (message_id bytes) app (route s.subscriptions (message_id bytes)) s.pipes nobody) refl
      ∙ peaks_stay (told_event records event) t refl covered

  -- of every other send the pipes are told that miss it
  pub sent_left : (reads : Reads) (bytes : List ℕ) (inc : Bool) (number reached : ℕ) (t : State) (first : Subscription) (more : List Subscription) →
      route s.subscriptions (message_id bytes) ≡ first ∷ more →
      left limits s app (Transmit bytes inc) (Sent number reached) t
      ≡ peaks_raised (told_all records (miss_events (message_id bytes) app (missed (sending_from reads s app bytes inc) (route s.subscriptions (message_id bytes)) s.pipes))) (in_use limits t)
  unfolding call_events desk_by
  sent_left reads bytes inc number reached t first more some =
      let sending = sending_from reads s app bytes inc in
      let subs = route s.subscriptions (message_id bytes) in
      let events = miss_events (message_id bytes) app (missed sending subs s.pipes) in
      left_by (Transmit bytes inc) (Sent number reached) t events []
      (send_events-misses (message_id bytes) sending subs s.pipes first more some) refl
      ∙ ap (λ (r : Recordings). peaks_raised r (in_use limits t)) (sym (told_all-is records events))

  -- the same of a buffer
  pub unheard_buffer_left : (buf : ℕ) (bytes : List ℕ) (inc : Bool) (number reached : ℕ) (t : State) → route s.subscriptions (message_id bytes) ≡ [] →
      left limits s app (TransmitBuffer buf bytes inc) (Sent number reached) t ≡ peaks_raised (told_event records (NoSubscribers (message_id bytes))) (in_use limits t)
  unfolding call_events desk_by
  unheard_buffer_left buf bytes inc number reached t nobody =
      left_by (TransmitBuffer buf bytes inc) (Sent number reached) t (NoSubscribers (message_id bytes) ∷ []) []
      (send_events-nobody (message_id bytes) app (route s.subscriptions (message_id bytes)) s.pipes nobody) refl

  pub sent_buffer_left : (reads : Reads) (buf : ℕ) (bytes : List ℕ) (inc : Bool) (number reached : ℕ) (t : State) (first : Subscription) (more : List Subscription) →
      route s.subscriptions (message_id bytes) ≡ first ∷ more →
      left limits s app (TransmitBuffer buf bytes inc) (Sent number reached) t
      ≡ peaks_raised (told_all records (miss_events (message_id bytes) app (missed (sending_in reads s app buf bytes inc) (route s.subscriptions (message_id bytes)) s.pipes))) (in_use limits t)
  unfolding call_events desk_by
  sent_buffer_left reads buf bytes inc number reached t first more some =
      let sending = sending_in reads s app buf bytes inc in
      let subs = route s.subscriptions (message_id bytes) in
      let events = miss_events (message_id bytes) app (missed sending subs s.pipes) in
      left_by (TransmitBuffer buf bytes inc) (Sent number reached) t events []
      (send_events-misses (message_id bytes) sending subs s.pipes first more some) refl
      ∙ ap (λ (r : Recordings). peaks_raised r (in_use limits t)) (sym (told_all-is records events))

  -- Event services, refused or not. --

  pub registered_left : (filters : List (ℕ × ℕ)) (answer : BusAnswer) (t : State) → IsCovered t →
      left limits s app (Register filters) answer t ≡ with_events records (registered s.events app filters)
  unfolding call_events desk_by
  registered_left filters answer t covered =
      left_by (Register filters) answer t [] [] refl refl ∙ peaks_stay (with_events records (registered s.events app filters)) t refl covered

  pub event_sent_left : (id : ℕ) (kind : EventKind) (text : List ℕ) (answer : BusAnswer) (t : State) → IsCovered t →
      left limits s app (SendEvent id kind text) answer t ≡ with_events records (sent s.events app id kind text)
  unfolding call_events desk_by
  event_sent_left id kind text answer t covered =
      left_by (SendEvent id kind text) answer t [] [] refl refl ∙ peaks_stay (with_events records (sent s.events app id kind text)) t refl covered

  pub filter_reset_left : (id : ℕ) (answer : BusAnswer) (t : State) → IsCovered t →
      left limits s app (ResetFilter id) answer t ≡ with_events records (reset s.events app id)
  unfolding call_events desk_by
  filter_reset_left id answer t covered =
      left_by (ResetFilter id) answer t [] [] refl refl ∙ peaks_stay (with_events records (reset s.events app id)) t refl covered

  pub mode_set_left : (mode : ℕ) (answer : BusAnswer) (t : State) → IsCovered t →
      left limits s app (LogMode mode) answer t ≡ with_events records (with_mode s.events mode)
  unfolding call_events desk_by
  mode_set_left mode answer t covered =
      left_by (LogMode mode) answer t [] [] refl refl ∙ peaks_stay (with_events records (with_mode s.events mode)) t refl covered

  pub log_cleared_left : (answer : BusAnswer) (t : State) → IsCovered t →
      left limits s app ClearLog answer t ≡ with_events records (cleared s.events)
  unfolding call_events desk_by
  log_cleared_left answer t covered =
      left_by ClearLog answer t [] [] refl refl ∙ peaks_stay (with_events records (cleared s.events)) t refl covered

  -- the last call ends the registration
  pub ended_left : (answer : BusAnswer) (t : State) →
      left limits s app End answer t ≡ peaks_raised (with_events records (unregistered s.events app)) (in_use limits t)
  unfolding call_events desk_by
  ended_left answer t = left_by End answer t [] [] refl refl
