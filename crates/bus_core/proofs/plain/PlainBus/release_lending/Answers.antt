use Rattle.std.proofs.Common.{◌≡◌, true, false, not, is_some, None, ap, refl, sym, ◌∙◌}
use Rattle.buf_desc.specs.Held.{buffer_at}
use Rattle.fsw_base.specs.declared.statuses.SbStatus.TheVariants.{BufferInvalid}
use Rattle.housekeeping.specs.declared.names.CounterName.TheVariants as counters
use Rattle.bus_words.specs.declared.calls.BusAnswer.TheVariants.{Done}
use Rattle.bus_words.specs.declared.history.Call.TheVariants.{Release}
use Rattle.bus_words.specs.Machine.{by_bus, release_cause}
use Rattle.bus_messages.specs.Bag.{with_lent}
use Rattle.bus_messages.specs.Store.{Store}
use Rattle.bus_core.proofs.CallLaws.{acts_looked, seen_keeps, refused_acts}
use Rattle.bus_core.proofs.Bags.{others_left, part_blocked, views_still}
use Rattle.bus_core.proofs.BufferCalls.{gone_keeps, released_made, release_told, looked_at}
use Rattle.bus_core.proofs.Refusals.{at_fields}
use Rattle.bus_core.proofs.plain.PlainBus.release_lending.Goals as goal

pub returns-then-is_none-clause-does : goal.returns-then-is_none-clause-does
returns-then-is_none-clause-does g c =
    let old = c.args.self.now in
    let none : is_some (buffer_at c.args.held.now c.args.buf) ≡ false =
    ap is_some (sym c.buffer.ensures) ∙ looked_at _ c.buffer.result ∙ c.is_none.ensures ∙ ap not c.if-is_none.true in
    refused_acts old c.refuse.new.self c.args.app (Release c.args.buf) BufferInvalid counters.Send c.refuse.ensures.ticked c.refuse.ensures.covered
    (ap by_bus (release_told old c.args.app c.args.buf c.args.held.now false c.requires.buffer none)) refl refl refl

pub invariant_of-self : goal.invariant_of-self
invariant_of-self g c =
    let a = c.self.inside in
    let next = c.release.new.self in
    let order = gone_keeps a next c.args.app c.args.buf c.release.ensures.after c.self.invariant.order in
    seen_keeps (record a { store = next; records = c.see.new.records }) a.records order c.see.ensures.seen c.see.ensures.held

pub returns-clause-does : goal.returns-clause-does
returns-clause-does g c =
    let a = c.self.inside in
    let next = c.release.new.self in
    let is = c.release.ensures.after in
    let order = gone_keeps a next c.args.app c.args.buf is c.self.invariant.order in
    let there : is_some (buffer_at c.args.held.now c.args.buf) ≡ true =
    ap is_some (sym c.buffer.ensures) ∙ looked_at _ c.buffer.result ∙ c.is_none.ensures ∙ ap not c.if-is_none.false in
    let why = at_fields a c.args.self.now c.self.view_is (λ limits s. release_cause s c.args.app c.args.buf) None (release_told c.args.self.now c.args.app c.args.buf c.args.held.now true c.requires.buffer there) in
    acts_looked a next a.activities a.pools c.args.self.now c.args.app (Release c.args.buf) Done c.self.view_is
    (released_made a next c.args.app c.args.buf is why) refl refl refl c.see.new.records c.see.ensures.seen order.pool c.see.ensures.held

pub returns-clause-other_bags : goal.returns-clause-other_bags
returns-clause-other_bags g c =
    let a = c.self.inside in
    let next = c.release.new.self in
    let is = c.release.ensures.after in
    others_left a c.args.self.now c.self.view_is c.self.invariant.order (record a { store = next; records = c.see.new.records }) refl (ap (λ (o : Store). o.room) is) c.args.app
    (ap (λ (o : Store). o.account.sizes) is)
    (λ other bag apart. views_still a.store next other bag (ap (λ (o : Store). o.pipes) is) (ap (λ (o : Store). o.loans) is) (ap (λ (o : Store). o.room) is))
    c.release.ensures.other_bags

pub returns-then-is_none-clause-bag : goal.returns-then-is_none-clause-bag
returns-then-is_none-clause-bag g c = λ lent none has. c.refuse.ensures.bags c.args.app (with_lent c.args.held.now lent) has

pub returns-clause-bag : goal.returns-clause-bag
returns-clause-bag g c = λ lent none.
    let a = c.self.inside in
    let next = c.release.new.self in
    let is = c.release.ensures.after in
    part_blocked a c.args.self.now c.self.view_is c.self.invariant.order (record a { store = next; records = c.see.new.records }) refl (ap (λ (o : Store). o.room) is)
    (ap (λ (o : Store). o.account.sizes) is) c.args.app c.args.held.now c.release.new.held c.release.ensures.views
    (λ bag. views_still a.store next c.args.app bag (ap (λ (o : Store). o.pipes) is) (ap (λ (o : Store). o.loans) is) (ap (λ (o : Store). o.room) is)) lent (c.release.ensures.bag lent none)
