use Rattle.std.proofs.Common.{None, ap, refl, sym, ◌∙◌, arith}
use Rattle.std.proofs.lemmas.List.{length-map}
use Rattle.fsw_base.specs.Limits.{limits_of}
use Rattle.housekeeping.specs.declared.names.CounterName.TheVariants as counters
use Rattle.bus_words.specs.declared.calls.BusAnswer.TheVariants.{Done}
use Rattle.bus_words.specs.declared.history.Call.TheVariants.{Subscribe}
use Rattle.bus_words.specs.Bus.{is_subscribed}
use Rattle.bus_words.specs.Machine.{by_bus, subscribe_cause}
use Rattle.bus_routes.specs.Rows.{RouteRow}
use Rattle.bus_routes.specs.Tables.{Room}
use Rattle.bus_counts.specs.Records.{Recordings}
use Rattle.bus_counts.proofs.Leaves.{subscribed_left, duplicate_left}
use Rattle.bus_core.specs.Core.{Plain}
use Rattle.bus_core.specs.Inside.{means}
use Rattle.bus_core.proofs.CallLaws.{acts_from, acts_seen, seen_keeps, told_keeps, refused_acts}
use Rattle.bus_core.proofs.Numbers.{subscription_left}
use Rattle.bus_core.proofs.Refusals.{at_fields, has_route-rows}
use Rattle.bus_core.proofs.Owners.{live_owned}
use Rattle.bus_core.proofs.Subscribes.{is_free, id_first, id_last, live_made, subscribed_keeps, subscribed_made}
use Rattle.bus_core.proofs.plain.PlainBus.subscribe.Goals as goal

pub subscribe_cause-requires : goal.subscribe_cause-requires
subscribe_cause-requires g c = c.is_subscribed-there.ensures.is ∙ ap (λ (o : Plain). is_subscribed o.whole.bus.subscriptions c.args.id c.args.pipe) c.self.view_is

pub subscribe-requires-clause-number : goal.subscribe-requires-clause-number
subscribe-requires-clause-number g c = subscription_left c.self.inside c.args.self.now c.self.view_is c.requires.number

pub returns-in-Some-clause-does : goal.returns-in-Some-clause-does
returns-in-Some-clause-does g c =
    refused_acts c.args.self.now c.refuse.new.self c.args.app (Subscribe c.args.id c.args.pipe c.args.limit c.args.scope) c.in-Some.status counters.Sub c.refuse.ensures.ticked c.refuse.ensures.covered
    (ap by_bus (sym c.subscribe_cause.ensures ∙ c.in-Some.is)) refl refl refl

pub invariant_of-self : goal.invariant_of-self
invariant_of-self g c =
    told_keeps c.self.inside c.tell.new.self (ap (λ (r : Recordings). r.statistics.peak) c.tell.ensures) c.self.invariant

pub returns-then-there-clause-does : goal.returns-then-there-clause-does
returns-then-there-clause-does g c =
    let a = c.self.inside in
    let limits = limits_of a.config in
    let w = means a in
    let live = sym c.is_subscribed-there.ensures.is ∙ c.if-there.true in
    let why = at_fields a c.args.self.now c.self.view_is (λ limits s. subscribe_cause limits s c.args.app c.args.id c.args.pipe) None (sym c.subscribe_cause.ensures ∙ c.in_default.is) in
    acts_from a a.store a.activities a.pools c.args.self.now c.args.app (Subscribe c.args.id c.args.pipe c.args.limit c.args.scope) Done c.self.view_is
    (live_made a c.args.app c.args.id c.args.pipe c.args.limit c.args.scope why c.self.invariant.order live) c.tell.new.self
    (duplicate_left limits w.bus c.args.app c.args.id c.args.pipe c.args.limit c.args.scope w.bus live c.self.invariant.covered ∙ sym c.tell.ensures)

pub subscribe-requires-clause-first : goal.subscribe-requires-clause-first
subscribe-requires-clause-first g c =
    let a = c.self.inside in
    let why = at_fields a c.args.self.now c.self.view_is (λ limits s. subscribe_cause limits s c.args.app c.args.id c.args.pipe) None (sym c.subscribe_cause.ensures ∙ c.in_default.is) in
    let fresh = sym c.is_subscribed-there.ensures.is ∙ c.if-there.false in
    let free = is_free (limits_of a.config) (means a).bus c.args.app c.args.id c.args.pipe why fresh in
    id_first c.args.id free.valid

pub subscribe-requires-clause-last : goal.subscribe-requires-clause-last
subscribe-requires-clause-last g c =
    let a = c.self.inside in
    let why = at_fields a c.args.self.now c.self.view_is (λ limits s. subscribe_cause limits s c.args.app c.args.id c.args.pipe) None (sym c.subscribe_cause.ensures ∙ c.in_default.is) in
    let fresh = sym c.is_subscribed-there.ensures.is ∙ c.if-there.false in
    let free = is_free (limits_of a.config) (means a).bus c.args.app c.args.id c.args.pipe why fresh in
    id_last c.args.id free.valid

pub subscribe-requires-clause-live : goal.subscribe-requires-clause-live
subscribe-requires-clause-live g c =
    let a = c.self.inside in
    let why = at_fields a c.args.self.now c.self.view_is (λ limits s. subscribe_cause limits s c.args.app c.args.id c.args.pipe) None (sym c.subscribe_cause.ensures ∙ c.in_default.is) in
    let fresh = sym c.is_subscribed-there.ensures.is ∙ c.if-there.false in
    let free = is_free (limits_of a.config) (means a).bus c.args.app c.args.id c.args.pipe why fresh in
    live_owned a.store.pipes c.args.app c.args.pipe free.own

pub subscribe-requires-clause-way : goal.subscribe-requires-clause-way
subscribe-requires-clause-way g c =
    let a = c.self.inside in
    let why = at_fields a c.args.self.now c.self.view_is (λ limits s. subscribe_cause limits s c.args.app c.args.id c.args.pipe) None (sym c.subscribe_cause.ensures ∙ c.in_default.is) in
    let fresh = sym c.is_subscribed-there.ensures.is ∙ c.if-there.false in
    let free = is_free (limits_of a.config) (means a).bus c.args.app c.args.id c.args.pipe why fresh in
    λ lacks.
    let n = length-map a.store.routes (λ (r : RouteRow). r.id) in
    let most = ap (λ (r : Room). r.msgids) c.self.invariant.order.room in
    let fits = free.ids (has_route-rows a.store.routes c.args.id ∙ lacks) in
    omega (arith, fits, n, most)

pub subscribe-requires-clause-dests : goal.subscribe-requires-clause-dests
subscribe-requires-clause-dests g c =
    let a = c.self.inside in
    let why = at_fields a c.args.self.now c.self.view_is (λ limits s. subscribe_cause limits s c.args.app c.args.id c.args.pipe) None (sym c.subscribe_cause.ensures ∙ c.in_default.is) in
    let fresh = sym c.is_subscribed-there.ensures.is ∙ c.if-there.false in
    let free = is_free (limits_of a.config) (means a).bus c.args.app c.args.id c.args.pipe why fresh in
    let most = ap (λ (r : Room). r.dests) c.self.invariant.order.room in
    omega (arith, free.dests, most)

pub invariant_of-self-2 : goal.invariant_of-self-2
invariant_of-self-2 g c =
    let a = c.self.inside in
    let next = c.subscribe.new.self in
    let why = at_fields a c.args.self.now c.self.view_is (λ limits s. subscribe_cause limits s c.args.app c.args.id c.args.pipe) None (sym c.subscribe_cause.ensures ∙ c.in_default.is) in
    let order = subscribed_keeps a c.args.app c.args.id c.args.pipe c.args.limit c.args.scope why c.self.invariant.order next c.subscribe.ensures.after in
    seen_keeps (record a { store = next; records = c.see.new.records }) a.records order c.see.ensures.seen c.see.ensures.held

pub returns-clause-does : goal.returns-clause-does
returns-clause-does g c =
    let a = c.self.inside in
    let limits = limits_of a.config in
    let w = means a in
    let next = c.subscribe.new.self in
    let why = at_fields a c.args.self.now c.self.view_is (λ limits s. subscribe_cause limits s c.args.app c.args.id c.args.pipe) None (sym c.subscribe_cause.ensures ∙ c.in_default.is) in
    let fresh = sym c.is_subscribed-there.ensures.is ∙ c.if-there.false in
    let order = subscribed_keeps a c.args.app c.args.id c.args.pipe c.args.limit c.args.scope why c.self.invariant.order next c.subscribe.ensures.after in
    acts_seen a next a.activities a.pools c.args.self.now c.args.app (Subscribe c.args.id c.args.pipe c.args.limit c.args.scope) Done c.self.view_is
    (subscribed_made a c.args.app c.args.id c.args.pipe c.args.limit c.args.scope why c.self.invariant.order next c.subscribe.ensures.after fresh) a.records c.see.new.records
    (subscribed_left limits w.bus c.args.app c.args.id c.args.pipe c.args.limit c.args.scope (means (record a { store = next })).bus fresh)
    c.see.ensures.seen order.pool c.see.ensures.held
