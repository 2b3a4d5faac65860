use Rattle.std.proofs.Common.{true, false, length, Some, None, refl, ap, sym, ◌∙◌, arith}
use Rattle.fsw_base.specs.Limits.{limits_of}
use Rattle.fsw_base.specs.declared.statuses.SbStatus.TheVariants.{MaxMsgsMet, MaxDestsMet}
use Rattle.bus_words.specs.Bus.{is_subscribed, route}
use Rattle.bus_words.specs.Machine.{subscribe_cause}
use Rattle.bus_core.specs.Core.{Plain}
use Rattle.bus_core.specs.Inside.{means}
use Rattle.bus_core.proofs.Refusals.{at_core, subscribe_checked, lacks_route, at_least, not_at_least}
use Rattle.bus_core.proofs.plain.PlainBus.subscribe_cause.Goals as goal

pub returns-then-lacks_route : goal.returns-then-lacks_route
returns-then-lacks_route c =
    let a = c.self.inside in
    let app = c.args.app in
    let id = c.args.id in
    let pipe = c.args.pipe in
    let bad =
    sym c.is_bad_subscription.ensures ∙ c.if-is_bad_subscription.false in
    let live = ap (λ (o : Plain). is_subscribed o.whole.bus.subscriptions id pipe) c.self.view_is ∙ sym c.requires ∙ c.if-there.false in
    let lacks =
    sym c.lacks_route.ensures ∙ c.if-lacks_route.true in
    at_core a c.args.self.now c.self.view_is (λ limits s. subscribe_cause limits s app id pipe) (Some MaxMsgsMet)
    (subscribe_checked (limits_of a.config) (means a).bus app id pipe false false true _ bad live (lacks_route a id true lacks) refl)

pub returns-then-dests_of-self : goal.returns-then-dests_of-self
returns-then-dests_of-self c =
    let a = c.self.inside in
    let app = c.args.app in
    let id = c.args.id in
    let pipe = c.args.pipe in
    let bad =
    sym c.is_bad_subscription.ensures ∙ c.if-is_bad_subscription.false in
    let live = ap (λ (o : Plain). is_subscribed o.whole.bus.subscriptions id pipe) c.self.view_is ∙ sym c.requires ∙ c.if-there.false in
    let lacks =
    sym c.lacks_route.ensures ∙ c.if-lacks_route.false in
    let full = at_least a.config.dests (length (route a.store.subscriptions id)) (omega (arith, c.dests_of.ensures, c.if-dests_of-self.true)) in
    at_core a c.args.self.now c.self.view_is (λ limits s. subscribe_cause limits s app id pipe) (Some MaxDestsMet)
    (subscribe_checked (limits_of a.config) (means a).bus app id pipe false false false true bad live (lacks_route a id false lacks) full)

pub returns : goal.returns
returns c =
    let a = c.self.inside in
    let app = c.args.app in
    let id = c.args.id in
    let pipe = c.args.pipe in
    let bad =
    sym c.is_bad_subscription.ensures ∙ c.if-is_bad_subscription.false in
    let live = ap (λ (o : Plain). is_subscribed o.whole.bus.subscriptions id pipe) c.self.view_is ∙ sym c.requires ∙ c.if-there.false in
    let lacks =
    sym c.lacks_route.ensures ∙ c.if-lacks_route.false in
    let full = not_at_least a.config.dests (length (route a.store.subscriptions id)) (omega (arith, c.dests_of.ensures, c.if-dests_of-self.false)) in
    at_core a c.args.self.now c.self.view_is (λ limits s. subscribe_cause limits s app id pipe) None
    (subscribe_checked (limits_of a.config) (means a).bus app id pipe false false false false bad live (lacks_route a id false lacks) full)
