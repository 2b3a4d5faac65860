use Rattle.std.proofs.Common.{refl, sym, ◌∙◌}
use Rattle.fsw_base.specs.Limits.{limits_of}
use Rattle.bus_words.specs.declared.calls.BusAnswer.TheVariants.{Done}
use Rattle.bus_words.specs.declared.history.Call.TheVariants.{Register}
use Rattle.bus_counts.proofs.Leaves.{registered_left}
use Rattle.bus_core.specs.Inside.{means}
use Rattle.bus_core.proofs.CallLaws.{acts_from}
use Rattle.bus_core.proofs.plain.PlainBus.evs_register.Goals as goal

pub returns-clause-does : goal.returns-clause-does
returns-clause-does c =
    let a = c.self.inside in
    let w = means a in
    acts_from a a.store a.activities a.pools c.args.self.now c.args.app (Register c.args.filters.now) Done c.self.view_is refl c.register.new.self
    (registered_left (limits_of a.config) w.bus c.args.app c.args.filters.now Done w.bus c.self.invariant.covered ∙ sym c.register.ensures)
