use Rattle.std.proofs.Common.{rules, ◌≡◌, ◌+◌, [], None, ap, refl, sym, ◌∙◌}
use Rattle.fsw_base.specs.Limits.{limits_of}
use Rattle.housekeeping.specs.declared.names.CounterName.TheVariants as counters
use Rattle.bus_words.specs.declared.calls.BusAnswer.TheVariants.{Number}
use Rattle.bus_words.specs.declared.history.Call.TheVariants.{Create}
use Rattle.bus_words.specs.Machine.{by_bus}
use Rattle.bus_messages.specs.Store.{Store}
use Rattle.bus_messages.specs.Words.{loan_of}
use Rattle.bus_core.specs.Inside.{means}
use Rattle.bus_core.proofs.CallLaws.{bare, acts_looked, seen_keeps, refused_acts}
use Rattle.bus_core.proofs.Bags.{bags_kept, loan_before, loan_pushed}
use Rattle.bus_core.proofs.Changes.{created_keeps}
use Rattle.bus_core.proofs.Numbers.{pipe_left}
use Rattle.bus_core.proofs.plain.PlainBus.create_pipe.Goals as goal

pub create_pipe-number-requires-clause-number : goal.create_pipe-number-requires-clause-number
create_pipe-number-requires-clause-number c = pipe_left c.self.inside c.args.self.now c.self.view_is c.requires.number

pub returns-in-Some-clause-does : goal.returns-in-Some-clause-does
returns-in-Some-clause-does c =
    refused_acts c.args.self.now c.refuse.new.self c.args.app (Create c.args.depth c.args.name.now) c.in-Some.status counters.Create c.refuse.ensures.ticked c.refuse.ensures.covered
    (ap by_bus (sym c.create_cause.ensures ∙ c.in-Some.is)) refl refl refl

pub invariant_of-self : goal.invariant_of-self
invariant_of-self c =
    let a = c.self.inside in
    seen_keeps (record a { store = c.create_pipe-number.new.self; records = c.see.new.records }) a.records
    (created_keeps a c.create_pipe-number.new.self c.self.invariant.order
    (record { number = a.store.pipes_created + 1; name = c.unwrap-text.result; owner = c.args.app; depth = c.args.depth; bits = 0; queue = []; last = None })
    (a.store.pipes_created + 1) (record { pipe = a.store.pipes_created + 1; loan = 0 }) c.create_pipe-number.ensures.after)
    c.see.ensures.seen c.see.ensures.held

pub returns-clause-does : goal.returns-clause-does
returns-clause-does c =
    let a = c.self.inside in
    let next = c.create_pipe-number.new.self in
    let made : bare (limits_of a.config) (means a) c.args.app (Create c.args.depth c.args.name.now) ≡ (Number c.create_pipe-number.result, means (record a { store = next })) = search rules in
    acts_looked a next a.activities a.pools c.args.self.now c.args.app (Create c.args.depth c.args.name.now) (Number c.create_pipe-number.result) c.self.view_is made refl refl refl c.see.new.records c.see.ensures.seen
    (created_keeps a next c.self.invariant.order
    (record { number = a.store.pipes_created + 1; name = c.unwrap-text.result; owner = c.args.app; depth = c.args.depth; bits = 0; queue = []; last = None })
    (a.store.pipes_created + 1) (record { pipe = a.store.pipes_created + 1; loan = 0 }) c.create_pipe-number.ensures.after).pool
    c.see.ensures.held

pub returns-clause-bags : goal.returns-clause-bags
returns-clause-bags c =
    let a = c.self.inside in
    let next = c.create_pipe-number.new.self in
    bags_kept a c.args.self.now c.self.view_is c.self.invariant.order (record a { store = next; records = c.see.new.records }) refl (ap (λ (o : Store). o.room) c.create_pipe-number.ensures.after)
    (record { unsent = ap (λ (o : Store). o.unsent) c.create_pipe-number.ensures.after; descs = ap (λ (o : Store). o.descs) c.create_pipe-number.ensures.after; sizes = ap (λ (o : Store). o.account.sizes) c.create_pipe-number.ensures.after }) c.create_pipe-number.ensures.bags

pub returns-clause-loans : goal.returns-clause-loans
returns-clause-loans c = λ pipe.
    let a = c.self.inside in
    ap (λ (o : Store). loan_of o.loans pipe) c.create_pipe-number.ensures.after
    ∙ loan_pushed a.store.loans (a.store.pipes_created + 1) pipe
    ∙ loan_before a c.args.self.now c.self.view_is c.self.invariant.order pipe
