use Rattle.std.proofs.Common.{◌-◌, ◌≤◌, set, ap, refl, sym, ◌∙◌, subst}
use Rattle.std.specs.Vec.{with_item}
use Rattle.bus_words.specs.declared.history.Call.TheVariants.{Look}
use Rattle.bus_words.specs.Machine.{pended_answer}
use Rattle.bus_messages.specs.Store.{Store}
use Rattle.bus_core.specs.declared.activities.Activity.TheVariants as activities
use Rattle.bus_core.specs.Answers.{waited}
use Rattle.bus_core.specs.Core.{Plain}
use Rattle.bus_core.proofs.Actives.{is_waiting, known_here}
use Rattle.bus_core.proofs.CallLaws.{acts_still, acts_looked, seen_keeps}
use Rattle.bus_core.proofs.Bags.{others_kept, part_viewed}
use Rattle.bus_core.proofs.Looks.{look_keeps, look_made, look_still}
use Rattle.bus_core.proofs.plain.PlainBus.look_lending.Goals as goal

pub returns-then-is_pending-clause-does : goal.returns-then-is_pending-clause-does
returns-then-is_pending-clause-does c =
    acts_still c.self.inside c.args.self.now c.args.app (Look c.args.pipe) (waited c.pended-answer.result) c.self.view_is c.self.invariant
    (look_still c.self.inside c.args.app c.args.pipe c.pended-answer.result (sym c.is_pending.ensures ∙ c.if-is_pending.true)
    (c.pended-answer.ensures.answer ∙ ap (λ (o : Plain). pended_answer o.whole.bus c.args.app c.args.pipe) (sym c.self.view_is))) refl refl refl

pub receive_first-requires-clause-own : goal.receive_first-requires-clause-own
receive_first-requires-clause-own c = (c.self.invariant.order.ready c.args.app c.args.pipe (is_waiting c.self.inside c.args.self.now c.args.app c.args.pipe c.self.view_is c.requires.may)).own

pub receive_first-requires-clause-none : goal.receive_first-requires-clause-none
receive_first-requires-clause-none c = (c.self.invariant.order.ready c.args.app c.args.pipe (is_waiting c.self.inside c.args.self.now c.args.app c.args.pipe c.self.view_is c.requires.may)).none

pub invariant_of-self : goal.invariant_of-self
invariant_of-self c =
    let a = c.self.inside in
    let next = c.receive_first.new.self in
    let acts = with_item a.activities (c.get.result - 1) activities.Active in
    let own = (c.self.invariant.order.ready c.args.app c.args.pipe (is_waiting a c.args.self.now c.args.app c.args.pipe c.self.view_is c.requires.may)).own in
    let known = known_here a c.args.self.now c.args.app (Look c.args.pipe) c.self.view_is c.requires.may in
    let order = look_keeps a next acts c.args.app c.args.pipe c.receive_first.ensures.after
    (ap (λ n. set a.activities.items (n - 1) activities.Active) c.get.ensures.value) c.self.invariant.order c.recall_order.ensures own (subst (λ n. 1 ≤ n) c.get.ensures.value c.get.ensures.first) known in
    seen_keeps (record a { store = next; activities = acts; records = c.see.new.records }) a.records order c.see.ensures.seen c.see.ensures.held

pub returns-clause-does : goal.returns-clause-does
returns-clause-does c =
    let a = c.self.inside in
    let next = c.receive_first.new.self in
    let acts = with_item a.activities (c.get.result - 1) activities.Active in
    let own = (c.self.invariant.order.ready c.args.app c.args.pipe (is_waiting a c.args.self.now c.args.app c.args.pipe c.self.view_is c.requires.may)).own in
    let known = known_here a c.args.self.now c.args.app (Look c.args.pipe) c.self.view_is c.requires.may in
    let active = ap (λ n. set a.activities.items (n - 1) activities.Active) c.get.ensures.value in
    let order = look_keeps a next acts c.args.app c.args.pipe c.receive_first.ensures.after active c.self.invariant.order c.recall_order.ensures own
    (subst (λ n. 1 ≤ n) c.get.ensures.value c.get.ensures.first) known in
    acts_looked a next acts a.pools c.args.self.now c.args.app (Look c.args.pipe) (waited c.pended-answer.result) c.self.view_is
    (look_made a next acts c.args.app c.args.pipe c.receive_first.ensures.after active c.pended-answer.result (sym c.is_pending.ensures ∙ c.if-is_pending.false)
    (c.pended-answer.ensures.answer ∙ ap (λ (o : Plain). pended_answer o.whole.bus c.args.app c.args.pipe) (sym c.self.view_is)))
    refl refl refl c.see.new.records c.see.ensures.seen order.pool c.see.ensures.held

pub returns-clause-other_bags : goal.returns-clause-other_bags
returns-clause-other_bags c =
    let a = c.self.inside in
    let is = c.receive_first.ensures.after in
    others_kept a c.args.self.now c.self.view_is c.self.invariant.order
    (record a { store = c.receive_first.new.self; activities = with_item a.activities (c.get.result - 1) activities.Active; records = c.see.new.records }) refl
    (ap (λ (o : Store). o.room) is) c.args.app
    (record { unsent = ap (λ (o : Store). o.unsent) is; descs = ap (λ (o : Store). o.descs) is; sizes = ap (λ (o : Store). o.account.sizes) is }) c.receive_first.ensures.other_bags

pub returns-clause-bag : goal.returns-clause-bag
returns-clause-bag c =
    let a = c.self.inside in
    let is = c.receive_first.ensures.after in
    part_viewed a c.args.self.now c.self.view_is c.self.invariant.order (record a { store = c.receive_first.new.self; activities = with_item a.activities (c.get.result - 1) activities.Active; records = c.see.new.records }) refl (ap (λ (o : Store). o.room) is)
    (record { unsent = ap (λ (o : Store). o.unsent) is; descs = ap (λ (o : Store). o.descs) is; sizes = ap (λ (o : Store). o.account.sizes) is }) c.args.app c.args.held.now c.receive_first.new.held c.receive_first.ensures.buffers c.receive_first.ensures.bag
