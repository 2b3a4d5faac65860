use Rattle.std.proofs.Common.{◌≡◌, length, ap, ◌∙◌, subst}
use Rattle.bus_words.specs.Bus.{State}
use Rattle.bus_words.specs.Machine.{statistics_after}
use Rattle.sb_calls.specs.Core.{Core, apps_of}
use Rattle.sb_calls.proofs.EntryLemma.{bus_is, bus_now}
use Rattle.sb_calls.proofs.journalled.BusCore.counters.Goals as goal

pub returns-clause-statistics : goal.returns-clause-statistics
returns-clause-statistics c = c.counters.ensures ∙ ap (λ (s : State). s.statistics) (bus_now c.self.inside c.args.self.now c.self.view_is c.self.invariant)

pub returns-clause-told : goal.returns-clause-told
returns-clause-told c =
    let a = c.self.inside in
    let P : Core → Type 0 = λ core. c.counters.result.now ≡ statistics_after core.limits (apps_of core) core.log.entries in
    subst P c.self.view_is
    (c.counters.ensures ∙ ap (λ (s : State). s.statistics) (bus_is a c.self.invariant)
    ∙ c.statistics_are_counted.ensures.statistics a.core.limits (length a.noted.log.budgets) a.noted.log.entries c.self.invariant.legal)
