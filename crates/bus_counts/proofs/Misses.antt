-- Events told one by one, and the pipes that miss a message.
use Rattle.std.proofs.Common.{◌≡◌, ℕ, List, [], ◌∷◌, refl, ap, sym, ◌∙◌}
use Rattle.std.specs.Prelude.{fold, flat_map}
use Rattle.std.proofs.lemmas.List.Sums.{fold-append}
use Rattle.housekeeping.specs.Counters.{Counts, ticked}
use Rattle.bus_events.specs.declared.event.ServiceEvent.{ServiceEvent}
use Rattle.bus_events.specs.Events.{served_event, served_all}
use Rattle.bus_words.specs.Bus.{Pipe, Subscription, Sending, missed}
use Rattle.bus_words.specs.Counters.{event_counter}
use Rattle.bus_words.specs.Events.{miss_events, send_events}
use Rattle.bus_words.proofs.MissedItems.{missed-any}
use Rattle.bus_counts.specs.Records.{Recordings, told_event, told_all}

-- Telling. --

-- told one by one, the events are all served to the desk, and raise their counters
pub told_all-is : (records : Recordings) (events : List ServiceEvent) →
    told_all records events
    ≡ record {
      events = served_all records.events events;
      statistics = record records.statistics { counts = fold ticked records.statistics.counts (flat_map event_counter events) };
    }
told_all-is records [] = refl
told_all-is records (event ∷ events) =
    told_all-is (told_event records event) events
    ∙ ap (λ (counts : Counts). record {
      events = served_all (served_event records.events event) events;
      statistics = record records.statistics { counts = counts };
    }) (sym (fold-append ticked records.statistics.counts (event_counter event) (flat_map event_counter events)))

-- Misses. --

-- what is told of a send that goes along subscriptions
pub send_events-misses : (id : ℕ) (sending : Sending) (subs : List Subscription) (pipes : List Pipe) (first : Subscription) (more : List Subscription) → subs ≡ first ∷ more →
    send_events id sending.sender subs pipes ≡ miss_events id sending.sender (missed sending subs pipes)
send_events-misses id sending [] pipes first more is = absurd (cc (is))
send_events-misses id sending (sub ∷ subs) pipes first more is = ap (miss_events id sending.sender) (sym (missed-any sending (sub ∷ subs) pipes))

-- and of one that goes nowhere
pub send_events-nobody : (id sender : ℕ) (subs : List Subscription) (pipes : List Pipe) → subs ≡ [] →
    send_events id sender subs pipes ≡ send_events id sender [] pipes
send_events-nobody id sender subs pipes is = ap (λ (l : List Subscription). send_events id sender l pipes) is
