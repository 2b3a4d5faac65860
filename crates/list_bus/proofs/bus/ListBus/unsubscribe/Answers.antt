use Rattle.std.proofs.Common.{refl, sym, ap, subst, cond, not, List, [], ◌∷◌, ◌∙◌}
use Rattle.bus_events.specs.declared.event.ServiceEvent.{ServiceEvent}
use Rattle.bus_events.specs.declared.event.ServiceEvent.TheVariants.{NotSubscribed}
use Rattle.bus_words.specs.declared.calls.BusAnswer.TheVariants.{Done}
use Rattle.bus_words.specs.declared.history.Call.TheVariants.{Unsubscribe}
use Rattle.bus_words.specs.Bus.{is_subscribed}
use Rattle.bus_words.specs.Machine.{by_bus}
use Rattle.bus_words.specs.Refusals.{OfBus}
use Rattle.list_pipes.specs.Subscribed.{Subscribed}
use Rattle.list_bus.specs.Decided.{HasEvents}
use Rattle.list_bus.specs.Inside.{means}
use Rattle.list_bus.specs.Played.{Played}
use Rattle.list_bus.proofs.DecidedCalls.{refused, accepted, kept_at}
use Rattle.list_bus.proofs.Subscriptions.{unsubscribe_events_are}
use Rattle.list_bus.proofs.bus.ListBus.unsubscribe.Goals as goal

pub returns-in-Some-clause-made : goal.returns-in-Some-clause-made
returns-in-Some-clause-made c =
    rw c.silent.ensures.answer
    (refused c.args.self.now c.args.app (Unsubscribe c.args.id c.args.pipe) (OfBus c.in-Some.why) (ap by_bus (sym c.unsubscribe_cause.ensures ∙ c.in-Some.is)) refl c.requires)

pub returns-clause-made : goal.returns-clause-made
returns-clause-made c =
    let a = c.self.inside in
    rw c.in_ok-decision.ensures.answer
    (accepted a (record a { subs = c.unsubscribe.new.self }) c.args.self.now c.self.view_is c.args.app (Unsubscribe c.args.id c.args.pipe)
    refl refl refl (kept_at a c.args.self.now c.self.view_is c.requires) Done (ap by_bus (sym c.unsubscribe_cause.ensures ∙ c.in_default.is))
    (sym (ap (λ (subs : Subscribed). (Done, means (record a { subs = subs }))) c.unsubscribe.ensures)))

pub returns-clause-events : goal.returns-clause-events
returns-clause-events c =
    let a = c.self.inside in
    rw (c.in_ok-decision.ensures.answer, c.in_ok-decision.ensures.events, c.is_subscribed-was_live.ensures)
    (subst
    (λ (p : Played). HasEvents p c.args.app (Unsubscribe c.args.id c.args.pipe) Done (cond {A = List ServiceEvent} (not (is_subscribed a.subs.subscriptions c.args.id c.args.pipe)) (NotSubscribed c.args.id c.args.pipe ∷ []) []))
    c.self.view_is (unsubscribe_events_are a c.args.app c.args.id c.args.pipe))
