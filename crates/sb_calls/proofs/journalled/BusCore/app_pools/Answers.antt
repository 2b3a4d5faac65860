use Rattle.std.proofs.Common.{length, ap, ◌∙◌}
use Rattle.bus_words.specs.Bus.{State}
use Rattle.sb_calls.proofs.EntryLemma.{bus_now}
use Rattle.sb_calls.proofs.journalled.BusCore.app_pools.Goals as goal

pub returns : goal.returns
returns c = c.app_pools.ensures ∙ ap (λ (s : State). length s.pools.pools) (bus_now c.self.inside c.args.self.now c.self.view_is c.self.invariant)
