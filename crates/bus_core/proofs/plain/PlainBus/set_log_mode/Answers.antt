use Rattle.std.proofs.Common.{refl, sym, ◌∙◌}
use Rattle.fsw_base.specs.Limits.{limits_of}
use Rattle.bus_words.specs.declared.calls.BusAnswer.TheVariants.{Done}
use Rattle.bus_words.specs.declared.history.Call.TheVariants.{LogMode}
use Rattle.bus_counts.proofs.Leaves.{mode_set_left}
use Rattle.bus_core.specs.Inside.{means}
use Rattle.bus_core.proofs.CallLaws.{acts_from}
use Rattle.bus_core.proofs.plain.PlainBus.set_log_mode.Goals as goal

pub returns-clause-does : goal.returns-clause-does
returns-clause-does c =
    let a = c.self.inside in
    let w = means a in
    acts_from a a.store a.activities a.pools c.args.self.now c.args.app (LogMode c.args.mode) Done c.self.view_is refl c.set_log_mode.new.self
    (mode_set_left (limits_of a.config) w.bus c.args.app c.args.mode Done w.bus c.self.invariant.covered ∙ sym c.set_log_mode.ensures)
