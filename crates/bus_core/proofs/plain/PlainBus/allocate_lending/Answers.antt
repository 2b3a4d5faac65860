use Rattle.std.proofs.Common.{◌+◌, true≢false, None, ap, refl, sym, ◌∙◌}
use Rattle.housekeeping.specs.declared.names.CounterName.TheVariants as counters
use Rattle.bus_words.specs.declared.calls.BusAnswer.TheVariants.{Number}
use Rattle.bus_words.specs.declared.history.Call.TheVariants.{Allocate}
use Rattle.bus_words.specs.Machine.{by_bus, allocate_cause}
use Rattle.bus_messages.specs.Bag.{with_lent}
use Rattle.bus_messages.specs.Store.{Store}
use Rattle.bus_core.proofs.CallLaws.{acts_looked, seen_keeps, refused_acts}
use Rattle.bus_core.proofs.Bags.{blocks_before, others_left, part_blocked, views_still}
use Rattle.bus_core.proofs.BufferCalls.{given_keeps, given_sizes, given_made, given_many}
use Rattle.bus_core.proofs.Numbers.{send_left}
use Rattle.bus_core.proofs.Peaks.{blocks_seen}
use Rattle.bus_core.proofs.Refusals.{at_fields}
use Rattle.bus_core.specs.Core.{Plain}
use Rattle.bus_core.proofs.plain.PlainBus.allocate_lending.Goals as goal

pub returns-then-not-has_send_number-clause-does : goal.returns-then-not-has_send_number-clause-does
returns-then-not-has_send_number-clause-does g c = λ left. absurd (true≢false (sym left ∙ sym c.has_send_number.ensures ∙ c.if-not-has_send_number.true))

pub returns-in-Some-clause-spent : goal.returns-in-Some-clause-spent
returns-in-Some-clause-spent g c = λ none. absurd (true≢false (sym (sym c.has_send_number.ensures ∙ c.if-not-has_send_number.false) ∙ none))

pub returns-clause-spent : goal.returns-clause-spent
returns-clause-spent g c = λ none. absurd (true≢false (sym (sym c.has_send_number.ensures ∙ c.if-not-has_send_number.false) ∙ none))

pub allocate-number-requires-clause-number : goal.allocate-number-requires-clause-number
allocate-number-requires-clause-number g c = send_left c.self.inside c.args.self.now c.self.view_is (sym c.has_send_number.ensures ∙ c.if-not-has_send_number.false)

pub allocate-number-requires-clause-bag : goal.allocate-number-requires-clause-bag
allocate-number-requires-clause-bag g c =
    let lent = c.requires.bag.lent in
    record {
      lent = lent;
      holds = blocks_before c.self.inside c.args.self.now c.self.view_is c.self.invariant.order c.args.app (with_lent c.args.held.now lent) c.requires.bag.has;
    }

pub returns-in-Some-clause-does : goal.returns-in-Some-clause-does
returns-in-Some-clause-does g c = λ left.
    refused_acts c.args.self.now c.refuse-in-Some.new.self c.args.app (Allocate c.args.size) c.in-Some.status counters.Send c.refuse-in-Some.ensures.ticked c.refuse-in-Some.ensures.covered
    (ap by_bus (sym c.allocate_cause.ensures ∙ c.in-Some.is)) refl refl refl

pub invariant_of-self : goal.invariant_of-self
invariant_of-self g c =
    let a = c.self.inside in
    let next = c.allocate-number.new.self in
    let order = given_keeps a next c.args.app c.args.size c.allocate-number.ensures.after c.self.invariant.order in
    let seen = c.see_blocks.ensures.seen ∙ blocks_seen a c.self.invariant c.recall_held.ensures a.records next refl (given_many a next c.args.app c.args.size c.allocate-number.ensures.after c.self.invariant.order) in
    seen_keeps (record a { store = next; records = c.see_blocks.new.records }) a.records order seen c.see_blocks.ensures.held

pub returns-clause-does : goal.returns-clause-does
returns-clause-does g c = λ left.
    let a = c.self.inside in
    let next = c.allocate-number.new.self in
    let is = c.allocate-number.ensures.after in
    let number = c.allocate-number.result in
    let order = given_keeps a next c.args.app c.args.size is c.self.invariant.order in
    let why = at_fields a c.args.self.now c.self.view_is (λ limits s. allocate_cause limits s c.args.size) None (sym c.allocate_cause.ensures ∙ c.in_default.is) in
    let seen = c.see_blocks.ensures.seen ∙ blocks_seen a c.self.invariant c.recall_held.ensures a.records next refl (given_many a next c.args.app c.args.size c.allocate-number.ensures.after c.self.invariant.order) in
    acts_looked a next a.activities a.pools c.args.self.now c.args.app (Allocate c.args.size) (Number number) c.self.view_is
    (given_made a next c.args.app c.args.size is c.self.invariant.order number why c.recall_held.ensures c.allocate-number.ensures.number) refl refl refl
    c.see_blocks.new.records seen order.pool c.see_blocks.ensures.held

pub returns-clause-other_bags : goal.returns-clause-other_bags
returns-clause-other_bags g c =
    let a = c.self.inside in
    let next = c.allocate-number.new.self in
    let is = c.allocate-number.ensures.after in
    others_left a c.args.self.now c.self.view_is c.self.invariant.order (record a { store = next; records = c.see_blocks.new.records }) refl (ap (λ (o : Store). o.room) is) c.args.app
    (given_sizes a next c.args.app c.args.size is c.self.invariant.order)
    (λ other bag apart. views_still a.store next other bag (ap (λ (o : Store). o.pipes) is) (ap (λ (o : Store). o.loans) is) (ap (λ (o : Store). o.room) is))
    c.allocate-number.ensures.other_bags

pub returns-clause-number : goal.returns-clause-number
returns-clause-number g c = c.allocate-number.ensures.number ∙ ap (λ (p : Plain). p.whole.bus.numbers_given + 1) c.self.view_is

pub returns-then-not-has_send_number-clause-bag : goal.returns-then-not-has_send_number-clause-bag
returns-then-not-has_send_number-clause-bag g c = λ lent has. c.refuse.ensures.bags c.args.app (with_lent c.args.held.now lent) has

pub returns-in-Some-clause-bag : goal.returns-in-Some-clause-bag
returns-in-Some-clause-bag g c = λ lent has. c.refuse-in-Some.ensures.bags c.args.app (with_lent c.args.held.now lent) has

pub returns-clause-bag : goal.returns-clause-bag
returns-clause-bag g c = λ lent.
    let a = c.self.inside in
    let next = c.allocate-number.new.self in
    let is = c.allocate-number.ensures.after in
    part_blocked a c.args.self.now c.self.view_is c.self.invariant.order (record a { store = next; records = c.see_blocks.new.records }) refl (ap (λ (o : Store). o.room) is)
    (given_sizes a next c.args.app c.args.size is c.self.invariant.order) c.args.app c.args.held.now c.allocate-number.new.held c.allocate-number.ensures.views
    (λ bag. views_still a.store next c.args.app bag (ap (λ (o : Store). o.pipes) is) (ap (λ (o : Store). o.loans) is) (ap (λ (o : Store). o.room) is)) lent (c.allocate-number.ensures.bag lent)
