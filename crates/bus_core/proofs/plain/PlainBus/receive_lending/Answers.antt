use Rattle.std.proofs.Common.{◌≡◌, Some, None, is_some, not, ap, refl, sym, ◌∙◌, subst}
use Rattle.fsw_base.specs.declared.statuses.SbStatus.TheVariants.{BadArgument, NoMessage}
use Rattle.housekeeping.specs.declared.names.CounterName.TheVariants as counters
use Rattle.lend_block.specs.Loan.{LentBytes}
use Rattle.buf_desc.specs.Held.{Holding}
use Rattle.bus_words.specs.declared.calls.BusAnswer.TheVariants.{Got, Sb}
use Rattle.bus_words.specs.declared.history.Call.TheVariants.{Receive}
use Rattle.bus_words.specs.Bus.{is_empty}
use Rattle.bus_words.specs.Machine.{by_bus, refused_if}
use Rattle.bus_words.specs.Refusals.{OfBus}
use Rattle.bus_messages.specs.Bag.{with_lent}
use Rattle.bus_messages.specs.Store.{Store}
use Rattle.bus_core.proofs.Actives.{is_active, active_receives}
use Rattle.bus_core.proofs.CallLaws.{acts_quiet, cause_told, refused_acts}
use Rattle.bus_core.proofs.Bags.{others_kept, part_viewed}
use Rattle.bus_core.proofs.Changes.{taken_keeps}
use Rattle.bus_core.proofs.Peaks.{AreNoMore, none_seen}
use Rattle.bus_core.proofs.Receives.{got_made, none_made, as_many}
use Rattle.bus_messages.specs.Blocks.{IsGiven}
use Rattle.bus_core.specs.Bags.{HasBag, KeepsBags, KeepsAllLoans, KeepsAllDescs}
use Rattle.bus_core.specs.Core.{Plain, with_tick}
use Rattle.bus_core.specs.Inside.{IsCovered, Keeps, plain_of}
use Rattle.bus_core.specs.declared.plain.PlainBus.TheInside.{Inside}
use Rattle.bus_core.proofs.Waits.{oldest_given}
use Rattle.bus_core.proofs.plain.PlainBus.receive_lending.Goals as goal

-- If the application has no such pipe. --

-- the bus is as before
back : (a : Inside) (now : Plain) (store : Store) → plain_of a ≡ now → store ≡ a.store → plain_of (record a { store = store }) ≡ now
back a now store is same = ap (λ (s : Store). plain_of (record a { store = s })) same ∙ is

pub invariant_of-self : goal.invariant_of-self
invariant_of-self g c =
    subst (λ (s : Store). Keeps (record c.self.inside { store = s })) (sym (c.receive_if_owned.ensures.same c.in_default.is)) c.self.invariant

pub returns-in_default-clause-does : goal.returns-in_default-clause-does
returns-in_default-clause-does g c =
    let a = c.self.inside in
    let old = c.args.self.now in
    let call = Receive c.args.pipe in
    let own = sym c.receive_if_owned.ensures.owned ∙ ap is_some c.in_default.is in
    let is = back a old c.receive_if_owned.new.self c.self.view_is (c.receive_if_owned.ensures.same c.in_default.is) in
    let why = cause_told a old c.args.app call (Some (OfBus BadArgument)) c.self.view_is
    (ap (λ b. by_bus (refused_if (not b) BadArgument (refused_if (is_empty a.store.pipes c.args.pipe) NoMessage None))) own) in
    refused_acts old c.refuse.new.self c.args.app call BadArgument counters.Recv
    (c.refuse.ensures.ticked ∙ ap (λ (p : Plain). with_tick p counters.Recv) is) (subst IsCovered is c.refuse.ensures.covered) why refl refl refl

pub returns-in_default-clause-unowned : goal.returns-in_default-clause-unowned
returns-in_default-clause-unowned g c = λ foreign.
    c.refuse.ensures.ticked
    ∙ ap (λ (p : Plain). with_tick p counters.Recv) (back c.self.inside c.args.self.now c.receive_if_owned.new.self c.self.view_is (c.receive_if_owned.ensures.same c.in_default.is))

pub returns-in_default-clause-bag_refused : goal.returns-in_default-clause-bag_refused
returns-in_default-clause-bag_refused g c = λ foreign. c.receive_if_owned.ensures.bag_same c.in_default.is

pub returns-in_default-clause-loans : goal.returns-in_default-clause-loans
returns-in_default-clause-loans g c = λ other apart.
    subst (λ (p : Plain). KeepsAllLoans p c.refuse.new.self) (back c.self.inside c.args.self.now c.receive_if_owned.new.self c.self.view_is (c.receive_if_owned.ensures.same c.in_default.is))
    c.refuse.ensures.loans other

pub returns-in_default-clause-descs : goal.returns-in_default-clause-descs
returns-in_default-clause-descs g c =
    subst (λ (p : Plain). KeepsAllDescs p c.refuse.new.self) (back c.self.inside c.args.self.now c.receive_if_owned.new.self c.self.view_is (c.receive_if_owned.ensures.same c.in_default.is))
    c.refuse.ensures.descs

pub returns-in_default-clause-bag : goal.returns-in_default-clause-bag
returns-in_default-clause-bag g c = λ lent has.
    subst (λ (p : Plain). KeepsBags p c.refuse.new.self) (back c.self.inside c.args.self.now c.receive_if_owned.new.self c.self.view_is (c.receive_if_owned.ensures.same c.in_default.is))
    c.refuse.ensures.bags c.args.app (with_lent c.receive_if_owned.new.held lent)
    (subst (λ (h : Holding LentBytes). HasBag c.args.self.now c.args.app (with_lent h lent)) (sym (c.receive_if_owned.ensures.bag_same c.in_default.is)) has)

pub returns-in_default-clause-other_bags : goal.returns-in_default-clause-other_bags
returns-in_default-clause-other_bags g c = λ other bag apart.
    subst (λ (p : Plain). KeepsBags p c.refuse.new.self) (back c.self.inside c.args.self.now c.receive_if_owned.new.self c.self.view_is (c.receive_if_owned.ensures.same c.in_default.is))
    c.refuse.ensures.bags other bag

-- If it has. --

pub invariant_of-self-2 : goal.invariant_of-self-2
invariant_of-self-2 g c =
    let a = c.self.inside in
    let next = c.receive_if_owned.new.self in
    let active = is_active a c.args.self.now c.args.app (Receive c.args.pipe) c.self.view_is c.requires.may (active_receives c.args.pipe) in
    let order = taken_keeps a next c.self.invariant.order c.args.app c.args.pipe c.recall_order.ensures (sym c.receive_if_owned.ensures.owned ∙ ap is_some c.in-Some.is) c.in-Some.ensures.after active in
    let many = as_many a next c.args.app c.args.pipe (sym c.receive_if_owned.ensures.owned ∙ ap is_some c.in-Some.is) c.in-Some.ensures.after in
    let fewer : AreNoMore a.store next = record { buffers = c.in-Some.ensures.held; bytes = c.in-Some.ensures.less } in
    record { order = order; covered = none_seen a c.self.invariant c.recall_held.ensures next c.recall_held-2.ensures order.pool many fewer }

pub returns-in_default-received-clause-does : goal.returns-in_default-received-clause-does
returns-in_default-received-clause-does g c =
    let a = c.self.inside in
    let next = c.receive_if_owned.new.self in
    let own = sym c.receive_if_owned.ensures.owned ∙ ap is_some c.in-Some.is in
    let active = is_active a c.args.self.now c.args.app (Receive c.args.pipe) c.self.view_is c.requires.may (active_receives c.args.pipe) in
    let order = taken_keeps a next c.self.invariant.order c.args.app c.args.pipe c.recall_order.ensures own c.in-Some.ensures.after active in
    let many = as_many a next c.args.app c.args.pipe own c.in-Some.ensures.after in
    let fewer : AreNoMore a.store next = record { buffers = c.in-Some.ensures.held; bytes = c.in-Some.ensures.less } in
    acts_quiet a next a.activities a.pools c.args.self.now c.args.app (Receive c.args.pipe) (Sb NoMessage) c.self.view_is
    (none_made a next c.args.app c.args.pipe own c.in-Some.ensures.after (sym c.in-Some.ensures.number ∙ c.in_default-received.is)) refl refl refl
    (none_seen a c.self.invariant c.recall_held.ensures next c.recall_held-2.ensures order.pool many fewer)

pub returns-in_default-received-clause-other_bags : goal.returns-in_default-received-clause-other_bags
returns-in_default-received-clause-other_bags g c =
    let a = c.self.inside in
    let is = c.in-Some.ensures.after in
    others_kept a c.args.self.now c.self.view_is c.self.invariant.order (record a { store = c.receive_if_owned.new.self }) refl (ap (λ (o : Store). o.room) is) c.args.app
    (record { unsent = ap (λ (o : Store). o.unsent) is; descs = ap (λ (o : Store). o.descs) is; sizes = ap (λ (o : Store). o.account.sizes) is }) c.in-Some.ensures.other_bags

pub invariant_of-self-in_default-received : goal.invariant_of-self-in_default-received
invariant_of-self-in_default-received g c =
    let a = c.self.inside in
    let next = c.receive_if_owned.new.self in
    let active = is_active a c.args.self.now c.args.app (Receive c.args.pipe) c.self.view_is c.requires.may (active_receives c.args.pipe) in
    let order = taken_keeps a next c.self.invariant.order c.args.app c.args.pipe c.recall_order.ensures (sym c.receive_if_owned.ensures.owned ∙ ap is_some c.in-Some.is) c.in-Some.ensures.after active in
    let many = as_many a next c.args.app c.args.pipe (sym c.receive_if_owned.ensures.owned ∙ ap is_some c.in-Some.is) c.in-Some.ensures.after in
    let fewer : AreNoMore a.store next = record { buffers = c.in-Some.ensures.held; bytes = c.in-Some.ensures.less } in
    record { order = order; covered = none_seen a c.self.invariant c.recall_held.ensures next c.recall_held-2.ensures order.pool many fewer }

pub returns-clause-does : goal.returns-clause-does
returns-clause-does g c =
    let a = c.self.inside in
    let next = c.receive_if_owned.new.self in
    let own = sym c.receive_if_owned.ensures.owned ∙ ap is_some c.in-Some.is in
    let active = is_active a c.args.self.now c.args.app (Receive c.args.pipe) c.self.view_is c.requires.may (active_receives c.args.pipe) in
    let order = taken_keeps a next c.self.invariant.order c.args.app c.args.pipe c.recall_order.ensures own c.in-Some.ensures.after active in
    let many = as_many a next c.args.app c.args.pipe own c.in-Some.ensures.after in
    let fewer : AreNoMore a.store next = record { buffers = c.in-Some.ensures.held; bytes = c.in-Some.ensures.less } in
    acts_quiet a next a.activities a.pools c.args.self.now c.args.app (Receive c.args.pipe) (Got c.in-Some-received.number) c.self.view_is
    (got_made a next c.args.app c.args.pipe own c.in-Some.ensures.after c.in-Some-received.number (sym c.in-Some.ensures.number ∙ c.in-Some-received.is)) refl refl refl
    (none_seen a c.self.invariant c.recall_held.ensures next c.recall_held-2.ensures order.pool many fewer)

pub returns-clause-other_bags : goal.returns-clause-other_bags
returns-clause-other_bags g c =
    let a = c.self.inside in
    let is = c.in-Some.ensures.after in
    others_kept a c.args.self.now c.self.view_is c.self.invariant.order (record a { store = c.receive_if_owned.new.self }) refl (ap (λ (o : Store). o.room) is) c.args.app
    (record { unsent = ap (λ (o : Store). o.unsent) is; descs = ap (λ (o : Store). o.descs) is; sizes = ap (λ (o : Store). o.account.sizes) is }) c.in-Some.ensures.other_bags

pub returns-clause-given : goal.returns-clause-given
returns-clause-given g c =
    let a = c.self.inside in
    subst (λ (p : Plain). IsGiven p.whole.bus.numbers_given c.in-Some-received.number) c.self.view_is
    (oldest_given a.store.numbers_given a.store.pipes c.args.pipe c.in-Some-received.number c.recall_sends.ensures.given (sym c.in-Some.ensures.number ∙ c.in-Some-received.is))

pub returns-in_default-received-clause-bag : goal.returns-in_default-received-clause-bag
returns-in_default-received-clause-bag g c =
    let a = c.self.inside in
    let is = c.in-Some.ensures.after in
    part_viewed a c.args.self.now c.self.view_is c.self.invariant.order (record a { store = c.receive_if_owned.new.self }) refl (ap (λ (o : Store). o.room) is)
    (record { unsent = ap (λ (o : Store). o.unsent) is; descs = ap (λ (o : Store). o.descs) is; sizes = ap (λ (o : Store). o.account.sizes) is }) c.args.app c.args.held.now c.receive_if_owned.new.held c.receive_if_owned.ensures.buffers c.in-Some.ensures.bag

pub returns-clause-bag : goal.returns-clause-bag
returns-clause-bag g c =
    let a = c.self.inside in
    let is = c.in-Some.ensures.after in
    part_viewed a c.args.self.now c.self.view_is c.self.invariant.order (record a { store = c.receive_if_owned.new.self }) refl (ap (λ (o : Store). o.room) is)
    (record { unsent = ap (λ (o : Store). o.unsent) is; descs = ap (λ (o : Store). o.descs) is; sizes = ap (λ (o : Store). o.account.sizes) is }) c.args.app c.args.held.now c.receive_if_owned.new.held c.receive_if_owned.ensures.buffers c.in-Some.ensures.bag
