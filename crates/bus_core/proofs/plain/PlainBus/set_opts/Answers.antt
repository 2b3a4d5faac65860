use Rattle.std.proofs.Common.{rules, ◌≡◌, ap, refl, sym, ◌∙◌}
use Rattle.fsw_base.specs.Limits.{limits_of}
use Rattle.housekeeping.specs.declared.names.CounterName.TheVariants as counters
use Rattle.bus_words.specs.declared.calls.BusAnswer.TheVariants.{Done}
use Rattle.bus_words.specs.declared.history.Call.TheVariants.{SetOpts}
use Rattle.bus_words.specs.Machine.{by_bus}
use Rattle.bus_messages.specs.Store.{Store}
use Rattle.bus_core.specs.Inside.{means}
use Rattle.bus_core.proofs.CallLaws.{bare, acts_looked, seen_keeps, refused_acts}
use Rattle.bus_core.proofs.Bags.{bags_kept}
use Rattle.bus_core.proofs.Changes.{set_keeps}
use Rattle.bus_core.proofs.plain.PlainBus.set_opts.Goals as goal

pub returns-in-Some-clause-does : goal.returns-in-Some-clause-does
returns-in-Some-clause-does c =
    refused_acts c.args.self.now c.refuse.new.self c.args.app (SetOpts c.args.pipe c.args.bits) c.in-Some.status counters.Opts c.refuse.ensures.ticked c.refuse.ensures.covered
    (ap by_bus (sym c.set_opts_cause.ensures ∙ c.in-Some.is)) refl refl refl

pub invariant_of-self : goal.invariant_of-self
invariant_of-self c =
    let a = c.self.inside in
    seen_keeps (record a { store = c.set_bits.new.self; records = c.see.new.records }) a.records
    (set_keeps a c.set_bits.new.self c.self.invariant.order c.args.pipe c.args.bits c.set_bits.ensures.after) c.see.ensures.seen c.see.ensures.held

pub returns-clause-does : goal.returns-clause-does
returns-clause-does c =
    let a = c.self.inside in
    let next = c.set_bits.new.self in
    let order = set_keeps a next c.self.invariant.order c.args.pipe c.args.bits c.set_bits.ensures.after in
    let made : bare (limits_of a.config) (means a) c.args.app (SetOpts c.args.pipe c.args.bits) ≡ (Done, means (record a { store = next })) = search rules in
    acts_looked a next a.activities a.pools c.args.self.now c.args.app (SetOpts c.args.pipe c.args.bits) Done c.self.view_is made refl refl refl c.see.new.records c.see.ensures.seen order.pool c.see.ensures.held

pub returns-clause-bags : goal.returns-clause-bags
returns-clause-bags c =
    let a = c.self.inside in
    bags_kept a c.args.self.now c.self.view_is c.self.invariant.order (record a { store = c.set_bits.new.self; records = c.see.new.records }) refl (ap (λ (o : Store). o.room) c.set_bits.ensures.after)
    (record { unsent = ap (λ (o : Store). o.unsent) c.set_bits.ensures.after; descs = ap (λ (o : Store). o.descs) c.set_bits.ensures.after; sizes = ap (λ (o : Store). o.account.sizes) c.set_bits.ensures.after }) c.set_bits.ensures.bags
