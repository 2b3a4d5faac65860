use Rattle.std.proofs.Common.{◌≡◌, ap, ◌∙◌, subst}
use Rattle.housekeeping.specs.Peaks.{greater}
use Rattle.bus_words.specs.Bus.{State}
use Rattle.bus_words.specs.Held.{in_use}
use Rattle.sb_calls.specs.Core.{Core, state_of}
use Rattle.sb_calls.proofs.EntryLemma.{bus_is, bus_now}
use Rattle.sb_calls.proofs.journalled.BusCore.in_use.Goals as goal

pub returns-clause-now : goal.returns-clause-now
returns-clause-now c =
    let P : Core → Type 0 = λ core. c.in_use.result ≡ in_use core.limits (state_of core) in
    subst P c.self.view_is (c.in_use.ensures.now ∙ ap (λ (s : State). in_use c.self.inside.core.limits s) (bus_is c.self.inside c.self.invariant))

pub returns-clause-peaks : goal.returns-clause-peaks
returns-clause-peaks c =
    subst (λ (s : State). greater s.statistics.peak c.in_use.result ≡ s.statistics.peak) (bus_now c.self.inside c.args.self.now c.self.view_is c.self.invariant) c.in_use.ensures.peaks
