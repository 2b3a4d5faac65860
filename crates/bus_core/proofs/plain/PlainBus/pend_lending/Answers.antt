use Rattle.std.proofs.Common.{None, not, ap, refl, sym, ◌∙◌}
use Rattle.housekeeping.specs.declared.names.CounterName.TheVariants as counters
use Rattle.bus_words.specs.declared.history.Call.TheVariants.{Pend}
use Rattle.bus_words.specs.Bus.{owns}
use Rattle.bus_words.specs.Machine.{by_bus, pended_answer, unowned_cause}
use Rattle.bus_messages.specs.Bag.{with_lent}
use Rattle.bus_messages.specs.Store.{Store}
use Rattle.bus_core.specs.Answers.{waited}
use Rattle.bus_core.specs.Core.{Plain}
use Rattle.bus_core.specs.Inside.{means}
use Rattle.bus_core.proofs.Actives.{is_active, known_here, active_pends, active_first}
use Rattle.bus_core.proofs.CallLaws.{acts_looked, seen_keeps, refused_acts}
use Rattle.bus_core.proofs.Bags.{others_kept, part_viewed}
use Rattle.bus_core.proofs.Refusals.{at_fields, not_unowned}
use Rattle.bus_core.proofs.Looks.{pend_keeps, pend_made, pend_refused, pend_counts}
use Rattle.bus_core.proofs.plain.PlainBus.pend_lending.Goals as goal

pub returns-in-Some-clause-does : goal.returns-in-Some-clause-does
returns-in-Some-clause-does g c =
    refused_acts c.args.self.now c.refuse.new.self c.args.app (Pend c.args.pipe) c.in-Some.status counters.Recv c.refuse.ensures.ticked c.refuse.ensures.covered
    (ap by_bus (sym c.unowned_cause.ensures ∙ c.in-Some.is)) refl refl
    (pend_refused c.args.pipe (not (owns c.args.self.now.whole.bus.pipes c.args.app c.args.pipe)) c.in-Some.status (sym c.unowned_cause.ensures ∙ c.in-Some.is))

pub invariant_of-self : goal.invariant_of-self
invariant_of-self g c =
    let a = c.self.inside in
    let next = c.receive.new.self in
    let active = is_active a c.args.self.now c.args.app (Pend c.args.pipe) c.self.view_is c.requires.may (active_pends c.args.pipe) in
    let known = known_here a c.args.self.now c.args.app (Pend c.args.pipe) c.self.view_is c.requires.may in
    let why = at_fields a c.args.self.now c.self.view_is (λ limits s. unowned_cause s c.args.app c.args.pipe) None (sym c.unowned_cause.ensures ∙ c.in_default.is) in
    let answers = c.pended-answer.ensures.answer ∙ ap (λ (o : Plain). pended_answer o.whole.bus c.args.app c.args.pipe) (sym c.self.view_is) in
    let order = pend_keeps a next c.set_waiting.new.activities c.args.app c.args.pipe c.pended-answer.result c.receive.ensures.after c.set_waiting.ensures answers
    c.self.invariant.order c.recall_order.ensures (not_unowned (means a).bus c.args.app c.args.pipe why) active (active_first a.activities.items c.args.app active) known in
    seen_keeps (record a { store = next; activities = c.set_waiting.new.activities; records = c.see.new.records }) a.records order c.see.ensures.seen c.see.ensures.held

pub returns-clause-does : goal.returns-clause-does
returns-clause-does g c =
    let a = c.self.inside in
    let next = c.receive.new.self in
    let active = is_active a c.args.self.now c.args.app (Pend c.args.pipe) c.self.view_is c.requires.may (active_pends c.args.pipe) in
    let known = known_here a c.args.self.now c.args.app (Pend c.args.pipe) c.self.view_is c.requires.may in
    let why = at_fields a c.args.self.now c.self.view_is (λ limits s. unowned_cause s c.args.app c.args.pipe) None (sym c.unowned_cause.ensures ∙ c.in_default.is) in
    let answers = c.pended-answer.ensures.answer ∙ ap (λ (o : Plain). pended_answer o.whole.bus c.args.app c.args.pipe) (sym c.self.view_is) in
    let order = pend_keeps a next c.set_waiting.new.activities c.args.app c.args.pipe c.pended-answer.result c.receive.ensures.after c.set_waiting.ensures answers
    c.self.invariant.order c.recall_order.ensures (not_unowned (means a).bus c.args.app c.args.pipe why) active (active_first a.activities.items c.args.app active) known in
    acts_looked a next c.set_waiting.new.activities a.pools c.args.self.now c.args.app (Pend c.args.pipe) (waited c.pended-answer.result) c.self.view_is
    (pend_made a next c.set_waiting.new.activities c.args.app c.args.pipe c.pended-answer.result c.receive.ensures.after c.set_waiting.ensures answers why)
    refl refl (pend_counts c.args.pipe c.pended-answer.result) c.see.new.records c.see.ensures.seen order.pool c.see.ensures.held

pub returns-clause-other_bags : goal.returns-clause-other_bags
returns-clause-other_bags g c =
    let a = c.self.inside in
    let is = c.receive.ensures.after in
    others_kept a c.args.self.now c.self.view_is c.self.invariant.order (record a { store = c.receive.new.self; activities = c.set_waiting.new.activities; records = c.see.new.records }) refl
    (ap (λ (o : Store). o.room) is) c.args.app
    (record { unsent = ap (λ (o : Store). o.unsent) is; descs = ap (λ (o : Store). o.descs) is; sizes = ap (λ (o : Store). o.account.sizes) is }) c.receive.ensures.other_bags

pub returns-in-Some-clause-bag : goal.returns-in-Some-clause-bag
returns-in-Some-clause-bag g c = λ lent has. c.refuse.ensures.bags c.args.app (with_lent c.args.held.now lent) has

pub returns-clause-bag : goal.returns-clause-bag
returns-clause-bag g c =
    let a = c.self.inside in
    let is = c.receive.ensures.after in
    part_viewed a c.args.self.now c.self.view_is c.self.invariant.order (record a { store = c.receive.new.self; activities = c.set_waiting.new.activities; records = c.see.new.records }) refl (ap (λ (o : Store). o.room) is)
    (record { unsent = ap (λ (o : Store). o.unsent) is; descs = ap (λ (o : Store). o.descs) is; sizes = ap (λ (o : Store). o.account.sizes) is }) c.args.app c.args.held.now c.receive.new.held c.receive.ensures.buffers c.receive.ensures.bag
