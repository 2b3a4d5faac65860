use Rattle.std.proofs.Common.{sym, ◌∙◌}
use Rattle.fsw_base.specs.Limits.{limits_of}
use Rattle.bus_words.specs.declared.history.Call.TheVariants.{ResetFilter}
use Rattle.bus_counts.proofs.Leaves.{filter_reset_left}
use Rattle.bus_core.specs.Answers.{event_told}
use Rattle.bus_core.specs.Inside.{means}
use Rattle.bus_core.proofs.CallLaws.{acts_from}
use Rattle.bus_core.proofs.EventCalls.{reset_made}
use Rattle.bus_core.proofs.plain.PlainBus.reset_filter.Goals as goal

pub returns-clause-does : goal.returns-clause-does
returns-clause-does c =
    let a = c.self.inside in
    let w = means a in
    acts_from a a.store a.activities a.pools c.args.self.now c.args.app (ResetFilter c.args.id) (event_told c.reset_filter.result) c.self.view_is (reset_made a c.args.app c.args.id c.reset_filter.result c.reset_filter.ensures.refusal) c.reset_filter.new.self
    (filter_reset_left (limits_of a.config) w.bus c.args.app c.args.id (event_told c.reset_filter.result) w.bus c.self.invariant.covered ∙ sym c.reset_filter.ensures.records)
