-- A call is played: it is decided, the event desk changes with its events, and it is counted.
use Rattle.std.proofs.Common.{ℕ, List, sym, ap, ◌∙◌}
use Rattle.fsw_base.specs.EventDesk.{Desk}
use Rattle.fsw_base.specs.Limits.{Limits}
use Rattle.housekeeping.specs.Statistics.{Statistics}
use Rattle.bus_events.specs.declared.event.ServiceEvent.{ServiceEvent}
use Rattle.bus_words.specs.declared.calls.BusAnswer.{BusAnswer}
use Rattle.bus_words.specs.declared.history.Call.{Call}
use Rattle.bus_words.specs.Acts.{Whole}
use Rattle.bus_words.specs.Counters.{statistics_by}
use Rattle.bus_words.specs.Events.{desk_by, call_events}
use Rattle.bus_words.specs.Held.{in_use}
use Rattle.list_bus.specs.Played.{Played, Plays}
use Rattle.list_bus.specs.Decided.{Decides, HasEvents, with_desk, with_statistics}

module _ (old mid : Played) (app : ℕ) (call : Call) (answer : BusAnswer) (events : List ServiceEvent) where
  -- the answer, and the state with this desk and these statistics
  abbrev out : Limits → List ServiceEvent → Desk → Statistics → BusAnswer × Whole → BusAnswer × Whole
  out limits es desk statistics made = (
    made.0,
    record made.1 {
      bus = record made.1.bus {
        events = desk_by desk app call es;
        statistics = statistics_by statistics call made.0 es (in_use limits made.1.bus);
      };
    },
  )

  -- the same with the events of the call so answered
  abbrev all : BusAnswer × Whole → BusAnswer × Whole
  all made =
      let s = old.whole.bus in
      out old.limits (call_events s app call made.0) s.events s.statistics made

  -- the state with the desk changed
  abbrev served : Played
  served = with_desk mid (desk_by mid.whole.bus.events app call events)

  pub played : Decides old mid app call answer → HasEvents old app call answer events →
      Plays old (with_statistics served (statistics_by served.whole.bus.statistics call answer events (in_use served.limits served.whole.bus))) app call answer
  played decides has =
      let s = old.whole.bus in
      let now : BusAnswer × Whole = (answer, mid.whole) in
      record {
        made = ap all decides.made
            ∙ ap (λ es. out old.limits es s.events s.statistics now) (sym has)
            ∙ ap (λ desk. out old.limits events desk s.statistics now) (sym decides.events)
            ∙ ap (λ statistics. out old.limits events mid.whole.bus.events statistics now) (sym decides.statistics)
            ∙ ap (λ limits. out limits events mid.whole.bus.events mid.whole.bus.statistics now) (sym decides.limits);
        limits = decides.limits;
        kept = decides.kept;
      }
