use Rattle.std.proofs.Common.{rules, ◌≡◌, ◌&&◌, not, cond, eqb, ap, refl, sym, ◌∙◌}
use Rattle.fsw_base.specs.Limits.{limits_of}
use Rattle.housekeeping.specs.declared.names.CounterName.TheVariants as counters
use Rattle.bus_events.specs.declared.event.ServiceEvent.TheVariants.{NotSubscribed}
use Rattle.bus_words.specs.declared.calls.BusAnswer.TheVariants.{Done}
use Rattle.bus_words.specs.declared.history.Call.TheVariants.{Unsubscribe}
use Rattle.bus_words.specs.Bus.{Subscription}
use Rattle.bus_words.specs.Machine.{by_bus}
use Rattle.bus_counts.specs.Records.{Recordings, told_event, peaks_raised}
use Rattle.bus_core.specs.Inside.{means}
use Rattle.bus_core.specs.Rows.{in_use_at}
use Rattle.bus_core.proofs.CallLaws.{bare, acts_seen, seen_keeps, refused_acts}
use Rattle.bus_core.proofs.Changes.{unsubscribed_keeps}
use Rattle.bus_core.proofs.Subscribes.{unsubscribed_left}
use Rattle.bus_core.proofs.plain.PlainBus.unsubscribe.Goals as goal

pub returns-in-Some-clause-does : goal.returns-in-Some-clause-does
returns-in-Some-clause-does g c =
    refused_acts c.args.self.now c.refuse.new.self c.args.app (Unsubscribe c.args.id c.args.pipe) c.in-Some.status counters.Sub c.refuse.ensures.ticked c.refuse.ensures.covered
    (ap by_bus (sym c.unsubscribe_cause.ensures ∙ c.in-Some.is)) refl refl refl

pub invariant_of-self : goal.invariant_of-self
invariant_of-self g c =
    let a = c.self.inside in
    let order = unsubscribed_keeps a c.unsubscribe-there.new.self c.self.invariant.order (λ (sub : Subscription). not (eqb sub.id c.args.id && eqb sub.pipe c.args.pipe)) c.unsubscribe-there.ensures.after in
    seen_keeps (record a { store = c.unsubscribe-there.new.self; records = c.see.new.records }) c.tell_unless.new.records order c.see.ensures.seen c.see.ensures.held

pub returns-clause-does : goal.returns-clause-does
returns-clause-does g c =
    let a = c.self.inside in
    let next = c.unsubscribe-there.new.self in
    let there = c.unsubscribe-there.result in
    let call = Unsubscribe c.args.id c.args.pipe in
    let told : Recordings = cond there a.records (told_event a.records (NotSubscribed c.args.id c.args.pipe)) in
    let order = unsubscribed_keeps a next c.self.invariant.order (λ (sub : Subscription). not (eqb sub.id c.args.id && eqb sub.pipe c.args.pipe)) c.unsubscribe-there.ensures.after in
    let made : bare (limits_of a.config) (means a) c.args.app call ≡ (Done, means (record a { store = next })) = search rules in
    acts_seen a next a.activities a.pools c.args.self.now c.args.app call Done c.self.view_is made told c.see.new.records
    (unsubscribed_left a c.args.app c.args.id c.args.pipe (means (record a { store = next })).bus there c.unsubscribe-there.ensures.there)
    (c.see.ensures.seen ∙ ap (λ r. peaks_raised r (in_use_at next)) c.tell_unless.ensures) order.pool c.see.ensures.held
