use Rattle.std.proofs.Common.{ap, ◌∙◌}
use Rattle.housekeeping.specs.Peaks.{greater}
use Rattle.housekeeping.specs.Statistics.{Statistics}
use Rattle.bus_words.specs.Counters.{statistics_by}
use Rattle.bus_words.specs.Entries.{call_of}
use Rattle.list_bus.specs.Decided.{all_counted, with_statistics}
use Rattle.list_bus.specs.Inside.{played_in}
use Rattle.list_bus.specs.Played.{Played}
use Rattle.list_bus.proofs.Counters.{counted_by}
use Rattle.list_bus.proofs.bus.ListBus.count.Goals as goal

pub returns : goal.returns
returns c =
    let a = c.self.inside in
    let call = call_of c.args.call.now in
    let answer = c.args.answer.now in
    let events = c.args.events.now in
    let use_now = c.in_use-now.result in
    let counted =
    c.seen.ensures
    ∙ ap (λ (s : Statistics). let made : Statistics = record s { peak = greater s.peak use_now } in made) c.count_events.ensures
    ∙ ap (λ (s : Statistics). let made : Statistics = record { counts = all_counted s.counts events; peak = greater s.peak use_now } in made) c.count_refusal.ensures
    ∙ counted_by a.counters call answer events use_now in
    ap (λ (s : Statistics). played_in (record a { counters = s })) counted
    ∙ ap (λ (p : Played). with_statistics p (statistics_by p.whole.bus.statistics call answer events use_now)) c.self.view_is
    ∙ ap (λ n. with_statistics c.args.self.now (statistics_by c.args.self.now.whole.bus.statistics call answer events n)) c.in_use-now.ensures
