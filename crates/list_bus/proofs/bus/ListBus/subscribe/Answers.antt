use Rattle.std.proofs.Common.{◌+◌, ◌%◌, refl, sym, ap, subst, cond, List, [], ◌∷◌, ◌++◌, ◌∙◌}
use Rattle.bus_events.specs.declared.event.ServiceEvent.{ServiceEvent}
use Rattle.bus_events.specs.declared.event.ServiceEvent.TheVariants.{DuplicateSubscription}
use Rattle.bus_words.specs.declared.calls.BusAnswer.TheVariants.{Done}
use Rattle.bus_words.specs.declared.history.Call.TheVariants.{Subscribe}
use Rattle.bus_words.specs.Acts.{NextCount, has_next}
use Rattle.bus_words.specs.Bus.{is_subscribed}
use Rattle.bus_words.specs.Machine.{by_bus}
use Rattle.bus_words.specs.Refusals.{OfBus}
use Rattle.list_pipes.specs.Subscribed.{Subscribed}
use Rattle.list_bus.specs.Decided.{HasEvents}
use Rattle.list_bus.specs.Played.{Played}
use Rattle.list_bus.proofs.DecidedCalls.{refused, accepted, kept_at}
use Rattle.list_bus.proofs.Subscriptions.{left, subscribed_made, subscribe_events_are}
use Rattle.list_bus.proofs.bus.ListBus.subscribe.Goals as goal

pub returns-in-Some-clause-made : goal.returns-in-Some-clause-made
returns-in-Some-clause-made c =
    rw c.silent.ensures.answer
    (refused c.args.self.now c.args.app (Subscribe c.args.id c.args.pipe c.args.limit c.args.scope) (OfBus c.in-Some.why) (ap by_bus (sym c.subscribe_cause.ensures ∙ c.in-Some.is)) refl c.requires)

pub returns-clause-made : goal.returns-clause-made
returns-clause-made c =
    let a = c.self.inside in
    let id = c.args.id in
    let counted =
    c.in_ok-start.ensures
    ∙ ap (λ n. cond {A = List NextCount} (has_next a.nexts id) a.nexts (a.nexts ++ record { id = id; next = (n + 1) % 16384 } ∷ [])) c.start_of-start.ensures.start in
    rw c.in_ok-decision.ensures.answer
    (accepted a (record a { subs = c.subscribe.new.self; nexts = c.start.new.self }) c.args.self.now c.self.view_is c.args.app (Subscribe id c.args.pipe c.args.limit c.args.scope)
    refl refl refl (kept_at a c.args.self.now c.self.view_is c.requires) Done (ap by_bus (sym c.subscribe_cause.ensures ∙ c.in_default.is))
    (subscribed_made a c.args.app id c.args.pipe c.args.limit c.args.scope c.start.new.self counted ∙ ap (λ (subs : Subscribed). left a c.args.app id c.args.pipe subs c.start.new.self) (sym c.in_ok-subscribe.ensures)))

pub returns-clause-events : goal.returns-clause-events
returns-clause-events c =
    let a = c.self.inside in
    rw (c.in_ok-decision.ensures.answer, c.in_ok-decision.ensures.events, c.is_subscribed-was_live.ensures)
    (subst
    (λ (p : Played). HasEvents p c.args.app (Subscribe c.args.id c.args.pipe c.args.limit c.args.scope) Done (cond {A = List ServiceEvent} (is_subscribed a.subs.subscriptions c.args.id c.args.pipe) (DuplicateSubscription c.args.id c.args.pipe ∷ []) []))
    c.self.view_is (subscribe_events_are a c.args.app c.args.id c.args.pipe c.args.limit c.args.scope))
