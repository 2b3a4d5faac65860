use Rattle.std.proofs.Common.{None, length, ap, refl, sym, ◌∙◌, arith}
use Rattle.std.proofs.lemmas.List.{nil_from_length}
use Rattle.fsw_base.specs.Limits.{limits_of}
use Rattle.ccsds_msg.specs.Message.{message_id}
use Rattle.housekeeping.specs.declared.names.CounterName.TheVariants as counters
use Rattle.bus_events.specs.declared.event.ServiceEvent.TheVariants.{NoSubscribers}
use Rattle.buf_desc.specs.Held.{bytes_at}
use Rattle.bus_words.specs.declared.calls.BusAnswer.TheVariants.{Sent}
use Rattle.bus_words.specs.declared.history.Call.TheVariants.{TransmitBuffer}
use Rattle.bus_words.specs.Acts.{reads_in}
use Rattle.bus_words.specs.Bus.{route}
use Rattle.bus_words.specs.Events.{miss_events}
use Rattle.bus_words.specs.Machine.{by_bus, transmit_buffer_cause}
use Rattle.bus_counts.specs.Records.{Recordings, told_event, peaks_raised}
use Rattle.bus_counts.proofs.Leaves.{unheard_buffer_left, sent_buffer_left}
use Rattle.bus_messages.specs.Bag.{with_lent}
use Rattle.bus_messages.specs.Store.{Store}
use Rattle.bus_messages.specs.Words.{passing_of}
use Rattle.bus_core.specs.Core.{Plain, drops_for}
use Rattle.bus_core.specs.Inside.{means}
use Rattle.bus_core.specs.Rows.{in_use_at}
use Rattle.bus_core.proofs.CallLaws.{acts_seen, seen_keeps, refused_acts}
use Rattle.bus_core.proofs.Bags.{others_left, part_blocked, views_still}
use Rattle.bus_core.proofs.BufferCalls.{gone_keeps, unheard_made, passed_keeps, passed_made, passed_told, passed_many, transmit_told}
use Rattle.bus_core.proofs.Drops.{drops_are}
use Rattle.bus_core.proofs.Peaks.{told_peak, blocks_seen}
use Rattle.bus_core.proofs.Refusals.{at_fields}
use Rattle.bus_core.proofs.Transmits.{way_of, some_of}
use Rattle.bus_core.proofs.plain.PlainBus.transmit_buffer_lending.Goals as goal

pub returns-in-Err-clause-does : goal.returns-in-Err-clause-does
returns-in-Err-clause-does g c =
    let old = c.args.self.now in
    let bytes = bytes_at c.args.held.now c.args.buf in
    refused_acts old c.refuse.new.self c.args.app (TransmitBuffer c.args.buf bytes c.args.inc) c.in-Err.status counters.Send c.refuse.ensures.ticked c.refuse.ensures.covered
    (ap by_bus (transmit_told old c.args.app c.args.buf c.args.held.now c.requires.buffer ∙ c.in-Err.ensures.why)) refl refl refl

pub invariant_of-self : goal.invariant_of-self
invariant_of-self g c =
    let a = c.self.inside in
    let next = c.release.new.self in
    let order = gone_keeps a next c.args.app c.args.buf c.release.ensures.after c.self.invariant.order in
    seen_keeps (record a { store = next; records = c.see.new.records }) c.tell.new.self order c.see.ensures.seen c.see.ensures.held

pub returns-then-dests_of-eq0-clause-does : goal.returns-then-dests_of-eq0-clause-does
returns-then-dests_of-eq0-clause-does g c =
    let a = c.self.inside in
    let old = c.args.self.now in
    let w = means a in
    let next = c.release.new.self in
    let is = c.release.ensures.after in
    let bytes = bytes_at c.args.held.now c.args.buf in
    let why = at_fields a old c.self.view_is (λ limits s. transmit_buffer_cause s c.args.app c.args.buf bytes) None
    (transmit_told old c.args.app c.args.buf c.args.held.now c.requires.buffer ∙ c.in-Ok.ensures.none) in
    let none = nil_from_length (route a.store.subscriptions (message_id bytes)) (ap (λ n. length (route a.store.subscriptions n)) (sym c.in-Ok.ensures.id) ∙ sym c.dests_of.ensures ∙ c.if-dests_of-eq0.true) in
    acts_seen a next a.activities a.pools old c.args.app (TransmitBuffer c.args.buf bytes c.args.inc) (Sent 0 0) c.self.view_is
    (unheard_made a next c.args.app c.args.buf is bytes c.args.inc why none)
    (told_event a.records (NoSubscribers (message_id bytes))) c.see.new.records
    (unheard_buffer_left (limits_of a.config) w.bus c.args.app c.args.buf bytes c.args.inc 0 0 (means (record a { store = next })).bus none)
    (c.see.ensures.seen ∙ ap (λ r. peaks_raised r (in_use_at next)) (c.tell.ensures ∙ ap (λ n. told_event a.records (NoSubscribers n)) c.in-Ok.ensures.id))
    (gone_keeps a next c.args.app c.args.buf is c.self.invariant.order).pool c.see.ensures.held

pub returns-then-dests_of-eq0-clause-other_bags : goal.returns-then-dests_of-eq0-clause-other_bags
returns-then-dests_of-eq0-clause-other_bags g c =
    let a = c.self.inside in
    let next = c.release.new.self in
    let is = c.release.ensures.after in
    others_left a c.args.self.now c.self.view_is c.self.invariant.order (record a { store = next; records = c.see.new.records }) refl (ap (λ (o : Store). o.room) is) c.args.app
    (ap (λ (o : Store). o.account.sizes) is)
    (λ other bag apart. views_still a.store next other bag (ap (λ (o : Store). o.pipes) is) (ap (λ (o : Store). o.loans) is) (ap (λ (o : Store). o.room) is))
    c.release.ensures.other_bags

pub transmit_buffer-sent-requires-clause-way : goal.transmit_buffer-sent-requires-clause-way
transmit_buffer-sent-requires-clause-way g c =
    let a = c.self.inside in
    let bytes = bytes_at c.args.held.now c.args.buf in
    let lengths = ap (λ n. length (route a.store.subscriptions n)) (sym c.in-Ok.ensures.id) ∙ sym c.dests_of.ensures in
    let someone = some_of (route a.store.subscriptions (message_id bytes)) (λ none. c.if-dests_of-eq0.false (sym lengths ∙ none)) in
    way_of a.store.routes a.store.subscriptions (message_id bytes) someone.first someone.more c.self.invariant.order.ways someone.is

pub invariant_of-self-2 : goal.invariant_of-self-2
invariant_of-self-2 g c =
    let a = c.self.inside in
    let next = c.transmit_buffer-sent.new.self in
    let order = passed_keeps a next c.args.app c.args.buf (bytes_at c.args.held.now c.args.buf) c.args.inc c.transmit_buffer-sent.ensures.after c.self.invariant.order in
    let same = ap (λ (r : Recordings). r.statistics.peak) c.tell_misses.ensures ∙ told_peak a.records (miss_events c.in-Ok.id c.args.app c.misses.result.now) in
    let many = passed_many a next c.args.app c.args.buf (bytes_at c.args.held.now c.args.buf) c.args.inc c.transmit_buffer-sent.ensures.after c.self.invariant.order in
    let seen = c.see_blocks.ensures.seen ∙ blocks_seen a c.self.invariant c.recall_held.ensures c.tell_misses.new.self next same many in
    seen_keeps (record a { store = next; records = c.see_blocks.new.records }) c.tell_misses.new.self order seen c.see_blocks.ensures.held

pub returns-clause-does : goal.returns-clause-does
returns-clause-does g c =
    let a = c.self.inside in
    let old = c.args.self.now in
    let w = means a in
    let next = c.transmit_buffer-sent.new.self in
    let is = c.transmit_buffer-sent.ensures.after in
    let number = c.transmit_buffer-sent.result.number in
    let arrived = c.transmit_buffer-sent.result.reached in
    let keeps = c.self.invariant.order in
    let bytes = bytes_at c.args.held.now c.args.buf in
    let lengths = ap (λ n. length (route a.store.subscriptions n)) (sym c.in-Ok.ensures.id) ∙ sym c.dests_of.ensures in
    let someone = some_of (route a.store.subscriptions (message_id bytes)) (λ none. c.if-dests_of-eq0.false (sym lengths ∙ none)) in
    let why = at_fields a old c.self.view_is (λ limits s. transmit_buffer_cause s c.args.app c.args.buf bytes) None
    (transmit_told old c.args.app c.args.buf c.args.held.now c.requires.buffer ∙ c.in-Ok.ensures.none) in
    let told = passed_told a next c.args.app c.args.buf bytes c.args.inc is keeps c.tell_misses.new.self c.in-Ok.id c.misses.result.now c.in-Ok.ensures.id c.misses.ensures c.tell_misses.ensures in
    let same = ap (λ (r : Recordings). r.statistics.peak) c.tell_misses.ensures ∙ told_peak a.records (miss_events c.in-Ok.id c.args.app c.misses.result.now) in
    let many = passed_many a next c.args.app c.args.buf (bytes_at c.args.held.now c.args.buf) c.args.inc c.transmit_buffer-sent.ensures.after c.self.invariant.order in
    let seen = c.see_blocks.ensures.seen ∙ blocks_seen a c.self.invariant c.recall_held.ensures c.tell_misses.new.self next same many in
    acts_seen a next a.activities a.pools old c.args.app (TransmitBuffer c.args.buf bytes c.args.inc) (Sent number arrived) c.self.view_is
    (passed_made a next c.args.app c.args.buf bytes c.args.inc is keeps someone.first someone.more number arrived someone.is why c.transmit_buffer-sent.ensures.first
    c.transmit_buffer-sent.ensures.number c.transmit_buffer-sent.ensures.reached)
    _ c.see_blocks.new.records
    (sent_buffer_left (limits_of a.config) w.bus c.args.app (reads_in w) c.args.buf bytes c.args.inc number arrived (means (record a { store = next })).bus someone.first someone.more someone.is)
    (seen ∙ ap (λ r. peaks_raised r (in_use_at next)) told)
    (passed_keeps a next c.args.app c.args.buf bytes c.args.inc is keeps).pool c.see_blocks.ensures.held

pub returns-clause-bag : goal.returns-clause-bag
returns-clause-bag g c = λ lent none.
    let a = c.self.inside in
    let next = c.transmit_buffer-sent.new.self in
    let is = c.transmit_buffer-sent.ensures.after in
    part_blocked a c.args.self.now c.self.view_is c.self.invariant.order (record a { store = next; records = c.see_blocks.new.records }) refl (ap (λ (o : Store). o.room) is)
    (ap (λ (o : Store). o.account.sizes) is) c.args.app c.args.held.now c.transmit_buffer-sent.new.held c.transmit_buffer-sent.ensures.views
    (c.transmit_buffer-sent.ensures.view_bags c.args.app) lent (c.transmit_buffer-sent.ensures.bag lent none)

pub returns-clause-other_bags : goal.returns-clause-other_bags
returns-clause-other_bags g c =
    let a = c.self.inside in
    let is = c.transmit_buffer-sent.ensures.after in
    others_left a c.args.self.now c.self.view_is c.self.invariant.order (record a { store = c.transmit_buffer-sent.new.self; records = c.see_blocks.new.records }) refl (ap (λ (o : Store). o.room) is) c.args.app
    (ap (λ (o : Store). o.account.sizes) is)
    (λ other bag apart. c.transmit_buffer-sent.ensures.view_bags other bag)
    c.transmit_buffer-sent.ensures.other_bags

pub returns-clause-cost : goal.returns-clause-cost
returns-clause-cost g c =
    let a = c.self.inside in
    let bytes = bytes_at c.args.held.now c.args.buf in
    let few =
    drops_are (passing_of a.store c.args.app c.args.buf bytes c.args.inc) (means a).bus (message_id bytes)
    ∙ ap (λ (p : Plain). drops_for p.whole.bus c.args.app (message_id bytes)) c.self.view_is in
    let same = ap (λ (p : Plain). length (route p.whole.bus.subscriptions (message_id bytes))) c.self.view_is in
    omega (arith, few, same, c.transmit_buffer-sent.ensures.cost)

pub returns-in-Err-clause-bag : goal.returns-in-Err-clause-bag
returns-in-Err-clause-bag g c = λ lent none has. c.refuse.ensures.bags c.args.app (with_lent c.args.held.now lent) has

pub returns-then-dests_of-eq0-clause-bag : goal.returns-then-dests_of-eq0-clause-bag
returns-then-dests_of-eq0-clause-bag g c = λ lent none.
    let a = c.self.inside in
    let next = c.release.new.self in
    let is = c.release.ensures.after in
    part_blocked a c.args.self.now c.self.view_is c.self.invariant.order (record a { store = next; records = c.see.new.records }) refl (ap (λ (o : Store). o.room) is)
    (ap (λ (o : Store). o.account.sizes) is) c.args.app c.args.held.now c.release.new.held c.release.ensures.views
    (λ bag. views_still a.store next c.args.app bag (ap (λ (o : Store). o.pipes) is) (ap (λ (o : Store). o.loans) is) (ap (λ (o : Store). o.room) is)) lent (c.release.ensures.bag lent none)
