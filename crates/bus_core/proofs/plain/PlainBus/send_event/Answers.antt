use Rattle.std.proofs.Common.{sym, ◌∙◌}
use Rattle.fsw_base.specs.Limits.{limits_of}
use Rattle.bus_words.specs.declared.history.Call.TheVariants.{SendEvent}
use Rattle.bus_counts.proofs.Leaves.{event_sent_left}
use Rattle.bus_core.specs.Answers.{event_told}
use Rattle.bus_core.specs.Inside.{means}
use Rattle.bus_core.proofs.CallLaws.{acts_from}
use Rattle.bus_core.proofs.EventCalls.{event_made}
use Rattle.bus_core.proofs.plain.PlainBus.send_event.Goals as goal

pub returns-clause-does : goal.returns-clause-does
returns-clause-does c =
    let a = c.self.inside in
    let w = means a in
    acts_from a a.store a.activities a.pools c.args.self.now c.args.app (SendEvent c.args.id c.args.kind c.args.text.now) (event_told c.send_event.result) c.self.view_is (event_made a c.args.app c.args.id c.args.kind c.args.text.now c.send_event.result c.send_event.ensures.refusal) c.send_event.new.self
    (event_sent_left (limits_of a.config) w.bus c.args.app c.args.id c.args.kind c.args.text.now (event_told c.send_event.result) w.bus c.self.invariant.covered ∙ sym c.send_event.ensures.records)
