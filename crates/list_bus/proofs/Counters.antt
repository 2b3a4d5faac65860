-- Counters raised event by event.
use Rattle.std.proofs.Common.{◌≡◌, List, [], ◌∷◌, refl, sym, ap, ◌∙◌}
use Rattle.std.specs.Prelude.{fold, flat_map}
use Rattle.std.proofs.lemmas.List.Sums.{fold-append}
use Rattle.housekeeping.specs.Counters.{Counts, ticked}
use Rattle.bus_events.specs.declared.event.ServiceEvent.{ServiceEvent}
use Rattle.housekeeping.specs.Peaks.{greater}
use Rattle.housekeeping.specs.Statistics.{Statistics}
use Rattle.housekeeping.specs.declared.in_use.InUse.{InUse}
use Rattle.bus_words.specs.declared.calls.BusAnswer.{BusAnswer}
use Rattle.bus_words.specs.declared.history.Call.{Call}
use Rattle.bus_words.specs.Counters.{event_counter, refusal_counter, statistics_by}
use Rattle.list_bus.specs.Decided.{all_counted}

-- they are those of all events, one after the other
pub counted-all : (counts : Counts) (events : List ServiceEvent) → all_counted counts events ≡ fold ticked counts (flat_map event_counter events)
counted-all counts [] = refl
counted-all counts (event ∷ events) =
    counted-all (fold ticked counts (event_counter event)) events ∙ sym (fold-append ticked counts (event_counter event) (flat_map event_counter events))

-- what is counted of a call, of its events and of what is in use makes up its statistics
pub counted_by : (statistics : Statistics) (call : Call) (answer : BusAnswer) (events : List ServiceEvent) (now : InUse) →
    (let made : Statistics = record { counts = all_counted (fold ticked statistics.counts (refusal_counter call answer)) events; peak = greater statistics.peak now } in made)
    ≡ statistics_by statistics call answer events now
unfolding statistics_by
counted_by statistics call answer events now =
    ap (λ counts. let made : Statistics = record { counts = counts; peak = greater statistics.peak now } in made)
    (counted-all (fold ticked statistics.counts (refusal_counter call answer)) events
    ∙ sym (fold-append ticked statistics.counts (refusal_counter call answer) (flat_map event_counter events)))
