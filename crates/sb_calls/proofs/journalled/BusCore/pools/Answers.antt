use Rattle.std.proofs.Common.{ap, ◌∙◌}
use Rattle.bus_words.specs.Bus.{State}
use Rattle.sb_calls.proofs.EntryLemma.{bus_now}
use Rattle.sb_calls.proofs.journalled.BusCore.pools.Goals as goal

pub returns : goal.returns
returns c = c.pools.ensures ∙ ap (λ (s : State). s.pools) (bus_now c.self.inside c.args.self.now c.self.view_is c.self.invariant)
