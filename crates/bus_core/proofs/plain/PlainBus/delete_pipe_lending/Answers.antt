use Rattle.std.proofs.Common.{rules, ◌≡◌, None, ap, refl, sym, ◌∙◌}
use Rattle.fsw_base.specs.Limits.{limits_of}
use Rattle.housekeeping.specs.declared.names.CounterName.TheVariants as counters
use Rattle.bus_words.specs.declared.calls.BusAnswer.TheVariants.{Done}
use Rattle.bus_words.specs.declared.history.Call.TheVariants.{Delete}
use Rattle.bus_words.specs.Machine.{by_bus, unowned_cause}
use Rattle.bus_messages.specs.Bag.{with_lent}
use Rattle.bus_messages.specs.Store.{Store}
use Rattle.bus_core.specs.Inside.{means}
use Rattle.bus_core.proofs.Actives.{is_active, active_deletes}
use Rattle.bus_core.proofs.CallLaws.{bare, acts_looked, seen_keeps, refused_acts}
use Rattle.bus_core.proofs.Bags.{others_kept, part_viewed}
use Rattle.bus_core.proofs.Changes.{deleted_keeps}
use Rattle.bus_core.proofs.Refusals.{at_fields, not_unowned}
use Rattle.bus_core.proofs.plain.PlainBus.delete_pipe_lending.Goals as goal

pub returns-in-Some-clause-does : goal.returns-in-Some-clause-does
returns-in-Some-clause-does g c =
    refused_acts c.args.self.now c.refuse.new.self c.args.app (Delete c.args.pipe) c.in-Some.status counters.Create c.refuse.ensures.ticked c.refuse.ensures.covered
    (ap by_bus (sym c.unowned_cause.ensures ∙ c.in-Some.is)) refl refl refl

pub invariant_of-self : goal.invariant_of-self
invariant_of-self g c =
    let a = c.self.inside in
    let active = is_active a c.args.self.now c.args.app (Delete c.args.pipe) c.self.view_is c.requires.may (active_deletes c.args.pipe) in
    let why = at_fields a c.args.self.now c.self.view_is (λ limits s. unowned_cause s c.args.app c.args.pipe) None (sym c.unowned_cause.ensures ∙ c.in_default.is) in
    seen_keeps (record a { store = c.delete_pipe.new.self; records = c.see.new.records }) a.records
    (deleted_keeps a c.delete_pipe.new.self c.self.invariant.order c.args.app c.args.pipe c.recall_order.ensures (not_unowned (means a).bus c.args.app c.args.pipe why) c.delete_pipe.ensures.after active)
    c.see.ensures.seen c.see.ensures.held

pub returns-clause-does : goal.returns-clause-does
returns-clause-does g c =
    let a = c.self.inside in
    let next = c.delete_pipe.new.self in
    let active = is_active a c.args.self.now c.args.app (Delete c.args.pipe) c.self.view_is c.requires.may (active_deletes c.args.pipe) in
    let why = at_fields a c.args.self.now c.self.view_is (λ limits s. unowned_cause s c.args.app c.args.pipe) None (sym c.unowned_cause.ensures ∙ c.in_default.is) in
    let order = deleted_keeps a next c.self.invariant.order c.args.app c.args.pipe c.recall_order.ensures (not_unowned (means a).bus c.args.app c.args.pipe why) c.delete_pipe.ensures.after active in
    let made : bare (limits_of a.config) (means a) c.args.app (Delete c.args.pipe) ≡ (Done, means (record a { store = next })) = search rules in
    acts_looked a next a.activities a.pools c.args.self.now c.args.app (Delete c.args.pipe) Done c.self.view_is made refl refl refl c.see.new.records c.see.ensures.seen order.pool c.see.ensures.held

pub returns-clause-other_bags : goal.returns-clause-other_bags
returns-clause-other_bags g c =
    let a = c.self.inside in
    others_kept a c.args.self.now c.self.view_is c.self.invariant.order (record a { store = c.delete_pipe.new.self; records = c.see.new.records }) refl (ap (λ (o : Store). o.room) c.delete_pipe.ensures.after) c.args.app
    (record { unsent = ap (λ (o : Store). o.unsent) c.delete_pipe.ensures.after; descs = ap (λ (o : Store). o.descs) c.delete_pipe.ensures.after; sizes = ap (λ (o : Store). o.account.sizes) c.delete_pipe.ensures.after }) c.delete_pipe.ensures.other_bags

pub returns-in-Some-clause-bag : goal.returns-in-Some-clause-bag
returns-in-Some-clause-bag g c = λ lent has. c.refuse.ensures.bags c.args.app (with_lent c.args.held.now lent) has

pub returns-clause-bag : goal.returns-clause-bag
returns-clause-bag g c =
    let a = c.self.inside in
    let is = c.delete_pipe.ensures.after in
    part_viewed a c.args.self.now c.self.view_is c.self.invariant.order (record a { store = c.delete_pipe.new.self; records = c.see.new.records }) refl (ap (λ (o : Store). o.room) is)
    (record { unsent = ap (λ (o : Store). o.unsent) is; descs = ap (λ (o : Store). o.descs) is; sizes = ap (λ (o : Store). o.account.sizes) is }) c.args.app c.args.held.now c.delete_pipe.new.held c.delete_pipe.ensures.buffers c.delete_pipe.ensures.bag
