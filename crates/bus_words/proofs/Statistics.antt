-- The statistics of a bus are those that its history tells, and housekeeping is a send of its packet.
use Rattle.std.proofs.Common.{◌≡◌, ℕ, true, cond, List, [], ◌∷◌, ◌++◌, map, Option, Some, None, refl, ap, sym, ◌∙◌, append-nil, append_assoc}
use Rattle.std.specs.Prelude.{fold, flat_map, nat_le}
use Rattle.ccsds_msg.specs.Message.{message_id}
use Rattle.fsw_base.specs.Limits.{Limits}
use Rattle.housekeeping.specs.declared.in_use.InUse.{InUse}
use Rattle.housekeeping.specs.declared.names.CounterName.{CounterName}
use Rattle.housekeeping.specs.Counters.{ticked}
use Rattle.housekeeping.specs.Peaks.{nothing_in_use, greater, peak_of}
use Rattle.housekeeping.specs.Statistics.{Statistics, statistics_of}
use Rattle.housekeeping.proofs.CounterLemmas.{counts_of-append}
use Rattle.housekeeping.proofs.PeakLemmas.{peak_of-push, greater-twice}
use Rattle.bus_events.specs.declared.event.ServiceEvent.{ServiceEvent}
use Rattle.bus_words.specs.declared.calls.BusAnswer.{BusAnswer}
use Rattle.bus_words.specs.declared.calls.BusAnswer.TheVariants.{Sent}
use Rattle.bus_words.specs.declared.history.Call.{Call}
use Rattle.bus_words.specs.declared.history.Call.TheVariants.{Transmit, Housekeeping}
use Rattle.bus_words.specs.declared.history.Entry.{Entry}
use Rattle.bus_words.specs.Bus.{Subscription, State, Sending, opening, route, reached}
use Rattle.bus_words.specs.Held.{in_use}
use Rattle.bus_words.specs.Refusals.{Refusal, OfBus, OfPools, OfEvents, refusal_answer}
use Rattle.bus_words.specs.Events.{Moment, sent_events, call_events, desk_by}
use Rattle.bus_events.specs.Events.{served_all}
use Rattle.bus_words.specs.Counters.{event_counter, counters_raised, statistics_by, statistics_then}
use Rattle.bus_words.specs.Machine.{sending_from, packet_in, sent_along, cause, decided_with, recorded, step, state_from, state_after, LegalFrom, IsLegal, moments_from, moments, statistics_after}
use Rattle.bus_words.specs.Acts.{NextCount, Whole, reads_in, moved_on, completed, act}
use Rattle.bus_words.proofs.Acts.{id-packet}
use Rattle.bus_words.proofs.HeldBlocks.{bytes_of_sends}
use Rattle.bus_words.proofs.Steps.{with_sent, state_from-keeps}

-- The history's statistics. --

statistics_from : (limits : Limits) (history : List Entry) (s : State) (es : List Entry) → LegalFrom limits history s es →
    (state_from limits history s es).statistics ≡ fold (statistics_then limits) s.statistics (moments_from limits history s es)
statistics_from limits history s [] legal = refl
statistics_from limits history s (e ∷ es) legal =
    let next = (step limits history s e.app e.call).1 in
    statistics_from limits (history ++ e ∷ []) next es legal.4
    ∙ ap (λ (a : BusAnswer). fold (statistics_then limits)
    (statistics_by s.statistics e.call a (call_events s e.app e.call a) (in_use limits next))
    (moments_from limits (history ++ e ∷ []) next es)) (sym legal.1)

-- one entry more of what was counted and seen
one_more : (limits : Limits) (names : List CounterName) (uses : List InUse) (m : Moment) →
    statistics_then limits (statistics_of names uses) m ≡ statistics_of (names ++ counters_raised m) (uses ++ in_use limits m.after ∷ [])
unfolding statistics_by
one_more limits names uses m =
    ap (λ counts. record { counts = counts; peak = greater (peak_of uses) (in_use limits m.after) }) (sym (counts_of-append names (counters_raised m)))
    ∙ ap (λ peak. record { counts = (statistics_of (names ++ counters_raised m) uses).counts; peak = peak }) (sym (peak_of-push uses (in_use limits m.after)))

told_from : (limits : Limits) (names : List CounterName) (uses : List InUse) (ms : List Moment) →
    fold (statistics_then limits) (statistics_of names uses) ms
    ≡ statistics_of (names ++ flat_map counters_raised ms) (uses ++ map (λ m. in_use limits m.after) ms)
told_from limits names uses [] =
    ap (λ ns. statistics_of ns uses) (sym (append-nil names)) ∙ ap (statistics_of (names ++ [])) (sym (append-nil uses))
told_from limits names uses (m ∷ ms) =
    let raised = counters_raised m in
    let now = in_use limits m.after in
    ap (λ statistics. fold (statistics_then limits) statistics ms) (one_more limits names uses m)
    ∙ told_from limits (names ++ raised) (uses ++ now ∷ []) ms
    ∙ ap (λ ns. statistics_of ns ((uses ++ now ∷ []) ++ map (λ (x : Moment). in_use limits x.after) ms)) (append_assoc names raised (flat_map counters_raised ms))
    ∙ ap (statistics_of (names ++ (raised ++ flat_map counters_raised ms))) (append_assoc uses (now ∷ []) (map (λ (x : Moment). in_use limits x.after) ms))

-- after every legal history
pub statistics_after-legal : (limits : Limits) (apps : ℕ) (history : List Entry) → IsLegal limits apps history →
    (state_after limits apps history).statistics ≡ statistics_after limits apps history
statistics_after-legal limits apps history legal =
    statistics_from limits [] (opening limits apps) history legal ∙ told_from limits [] [] (moments limits apps history)

-- Peaks. --

-- nothing in use is above its peak
abbrev pub AreCapped : Limits → State → Type 0
AreCapped limits s = greater s.statistics.peak (in_use limits s) ≡ s.statistics.peak

capped_by : (statistics : Statistics) (call : Call) (answer : BusAnswer) (events : List ServiceEvent) (now : InUse) →
    greater (statistics_by statistics call answer events now).peak now ≡ (statistics_by statistics call answer events now).peak
unfolding statistics_by
capped_by statistics call answer events now = greater-twice statistics.peak now

pub AreCapped-step : (limits : Limits) (history : List Entry) (s : State) (app : ℕ) (call : Call) → AreCapped limits ((step limits history s app call).1)
AreCapped-step limits history s app call =
    let made = step limits history s app call in
    capped_by s.statistics call made.0 (call_events s app call made.0) (in_use limits made.1)

AreCapped-opening : (limits : Limits) (apps : ℕ) → AreCapped limits (opening limits apps)
AreCapped-opening limits apps =
    ap (λ (n : ℕ). greater nothing_in_use (record { msgids = 0; pipes = 0; subs = 0; buffers = 0; bytes = n })) (bytes_of_sends limits (opening limits apps))

-- after every history
pub AreCapped-after : (limits : Limits) (apps : ℕ) (history : List Entry) → AreCapped limits (state_after limits apps history)
AreCapped-after limits apps history =
    state_from-keeps (AreCapped limits) limits (λ before s app call is. AreCapped-step limits before s app call) [] (opening limits apps) history (AreCapped-opening limits apps)

-- Housekeeping. --

module _ (limits : Limits) (w : Whole) (app : ℕ) where
  abbrev packet : List ℕ
  packet = packet_in limits w.bus

  abbrev sending : Sending
  sending = sending_from (reads_in w) w.bus app packet true

  -- what the call leaves, so answered
  abbrev left_by : Call → BusAnswer × State → BusAnswer × Whole
  left_by call made = completed limits w call (recorded limits w.bus app call made)

  -- what a send of this id leaves, so answered
  abbrev sent_as : ℕ → ℕ → ℕ → State → BusAnswer × Whole
  sent_as id number reached t = (
    Sent number reached,
    record {
      bus = record t {
        events = served_all w.bus.events (sent_events w.bus id app);
        statistics = record {
          counts = fold ticked w.bus.statistics.counts (flat_map event_counter (sent_events w.bus id app));
          peak = greater w.bus.statistics.peak (in_use limits t);
        };
      };
      nexts = cond {A = List NextCount} (nat_le 1 number) (map (moved_on id) w.nexts) w.nexts;
    },
  )

  leave_sent : (number reached : ℕ) (t : State) → left_by Housekeeping (Sent number reached, t) ≡ left_by (Transmit packet true) (Sent number reached, t)
  unfolding call_events desk_by statistics_by
  leave_sent number reached t = ap (λ id. sent_as id number reached t) (sym (id-packet limits w.bus))

  leave_refused : (why : Refusal) → left_by Housekeeping (refusal_answer why, w.bus) ≡ left_by (Transmit packet true) (refusal_answer why, w.bus)
  unfolding call_events desk_by statistics_by
  leave_refused (OfBus status) = refl
  leave_refused (OfPools status) = refl
  leave_refused (OfEvents status) = refl

  leave_route : (subs : List Subscription) → left_by Housekeeping (sent_along limits subs sending w.bus) ≡ left_by (Transmit packet true) (sent_along limits subs sending w.bus)
  leave_route [] = leave_sent 0 0 w.bus
  leave_route (first ∷ more) = leave_sent sending.number (reached sending (first ∷ more) w.bus.pipes) (with_sent limits w.bus sending (first ∷ more))

  by_cause : (why : Option Refusal) →
      left_by Housekeeping (decided_with (reads_in w) limits w.bus app Housekeeping why)
      ≡ left_by (Transmit packet true) (decided_with (reads_in w) limits w.bus app (Transmit packet true) why)
  by_cause (Some why) = leave_refused why
  by_cause None = leave_route (route w.bus.subscriptions (message_id packet))

  pub tells_as_sends : act limits w app Housekeeping ≡ act limits w app (Transmit (packet_in limits w.bus) true)
  tells_as_sends = by_cause (cause limits w.bus app Housekeeping)
