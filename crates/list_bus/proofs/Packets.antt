-- The housekeeping call is a send of its packet.
use Rattle.std.proofs.Common.{◌≡◌, ℕ, true, cond, leb, List, [], ◌∷◌, map, Option, Some, None, refl, ap, sym, ◌∙◌, subst}
use Rattle.ccsds_msg.specs.Message.{message_id}
use Rattle.housekeeping.specs.Packet.{housekeeping_id}
use Rattle.bus_events.specs.declared.event.ServiceEvent.{ServiceEvent}
use Rattle.bus_words.specs.declared.calls.BusAnswer.{BusAnswer}
use Rattle.bus_words.specs.declared.calls.BusAnswer.TheVariants.{Sent}
use Rattle.bus_words.specs.declared.history.Call.TheVariants.{Transmit, Housekeeping}
use Rattle.bus_words.specs.Acts.{Whole, NextCount, reads_in, moved_on, completed}
use Rattle.bus_words.specs.Bus.{State, Subscription, Sending, route, reached, deliver}
use Rattle.bus_words.specs.Events.{call_events, sent_events, unless_refused}
use Rattle.bus_words.specs.Held.{account_drawn}
use Rattle.bus_words.specs.Machine.{by_bus, transmit_cause, decided_with, sent_along, sending_from, packet_in}
use Rattle.bus_words.specs.Refusals.{Refusal, OfBus, OfPools, OfEvents}
use Rattle.list_bus.specs.Played.{Played}
use Rattle.list_bus.specs.Decided.{Decides, HasEvents}

module _ (now : Played) (app : ℕ) (is_id : message_id (packet_in now.limits now.whole.bus) ≡ housekeeping_id) where
  abbrev s : State
  s = now.whole.bus

  abbrev packet : List ℕ
  packet = packet_in now.limits s

  abbrev sending : Sending
  sending = sending_from (reads_in now.whole) s app packet true

  -- the next counts move alike
  by_route : (subs : List Subscription) →
      completed now.limits now.whole Housekeeping (sent_along now.limits subs sending s) ≡ completed now.limits now.whole (Transmit packet true) (sent_along now.limits subs sending s)
  by_route [] = refl
  by_route (sub ∷ subs) = ap left (sym is_id)
    where
      left : ℕ → BusAnswer × Whole
      left id = (
        Sent sending.number (reached sending (sub ∷ subs) s.pipes),
        record {
          bus = record s {
            pipes = deliver sending (sub ∷ subs) s.pipes;
            numbers_given = sending.number;
            made = (account_drawn now.limits s sending.asked).made;
            drawn = (account_drawn now.limits s sending.asked).requests;
          };
          nexts = cond {A = List NextCount} (leb 1 sending.number) (map (moved_on id) now.whole.nexts) now.whole.nexts;
        },
      )

  -- and so it is decided alike
  by_cause : (why : Option Refusal) →
      completed now.limits now.whole Housekeeping (decided_with (reads_in now.whole) now.limits s app Housekeeping why)
      ≡ completed now.limits now.whole (Transmit packet true) (decided_with (reads_in now.whole) now.limits s app (Transmit packet true) why)
  by_cause None = by_route (route s.subscriptions (message_id packet))
  by_cause (Some (OfBus status)) = refl
  by_cause (Some (OfPools status)) = refl
  by_cause (Some (OfEvents status)) = refl

  pub packet_decides : (new : Played) (bytes : List ℕ) (answer : BusAnswer) → bytes ≡ packet → Decides now new app (Transmit bytes true) answer → Decides now new app Housekeeping answer
  packet_decides new bytes answer is decides =
      let sent = subst (λ b. Decides now new app (Transmit b true) answer) is decides in
      record {
        made = by_cause (by_bus (transmit_cause now.limits s packet)) ∙ sent.made;
        limits = sent.limits;
        events = sent.events;
        statistics = sent.statistics;
        kept = sent.kept;
      }

  pub packet_events : (bytes : List ℕ) (answer : BusAnswer) (events : List ServiceEvent) → bytes ≡ packet → HasEvents now app (Transmit bytes true) answer events →
      HasEvents now app Housekeeping answer events
  unfolding call_events
  packet_events bytes answer events is has =
      has
      ∙ ap (λ b. unless_refused answer (sent_events s (message_id b) app)) is
      ∙ ap (λ id. unless_refused answer (sent_events s id app)) is_id
