use Rattle.std.proofs.Common.{◌≤◌, true≢false, length, None, refl, ap, sym, ◌∙◌, arith}
use Rattle.std.proofs.lemmas.List.{nil_from_length}
use Rattle.fsw_base.specs.Limits.{limits_of}
use Rattle.fsw_base.specs.PoolAccounts.{Account}
use Rattle.ccsds_msg.specs.Message.{message_id}
use Rattle.housekeeping.specs.declared.names.CounterName.TheVariants as counters
use Rattle.bus_events.specs.declared.event.ServiceEvent.TheVariants.{NoSubscribers}
use Rattle.bus_words.specs.declared.calls.BusAnswer.TheVariants.{Sent}
use Rattle.bus_words.specs.declared.history.Call.TheVariants.{Transmit}
use Rattle.bus_words.specs.Acts.{reads_in}
use Rattle.bus_words.specs.Bus.{route}
use Rattle.bus_words.specs.Events.{miss_events}
use Rattle.bus_words.specs.Machine.{by_bus, transmit_cause}
use Rattle.bus_counts.specs.Records.{Recordings, told_event, peaks_raised}
use Rattle.bus_counts.proofs.Leaves.{unheard_left, sent_left}
use Rattle.bus_messages.specs.Store.{Store}
use Rattle.bus_messages.specs.Words.{sending_of}
use Rattle.bus_core.specs.Core.{Plain, drops_for}
use Rattle.bus_core.specs.Inside.{means}
use Rattle.bus_core.specs.Rows.{in_use_at}
use Rattle.bus_core.proofs.CallLaws.{acts_from, acts_seen, seen_keeps, told_keeps, refused_acts}
use Rattle.bus_core.proofs.Bags.{bags_kept}
use Rattle.bus_core.proofs.Drops.{drops_are}
use Rattle.bus_core.proofs.Numbers.{send_left}
use Rattle.bus_core.proofs.Peaks.{told_peak, blocks_seen}
use Rattle.bus_core.proofs.Refusals.{at_fields}
use Rattle.bus_core.proofs.Transmits.{request_stays, long_enough, way_of, some_of, nobody_made, sent_keeps, sent_made, sent_told, sent_many}
use Rattle.bus_core.proofs.plain.PlainBus.transmit.Goals as goal

pub returns-then-not-has_send_number-clause-does : goal.returns-then-not-has_send_number-clause-does
returns-then-not-has_send_number-clause-does g c = λ left. absurd (true≢false (sym left ∙ sym c.has_send_number.ensures ∙ c.if-not-has_send_number.true))

pub returns-in-Some-clause-spent : goal.returns-in-Some-clause-spent
returns-in-Some-clause-spent g c = λ none. absurd (true≢false (sym (sym c.has_send_number.ensures ∙ c.if-not-has_send_number.false) ∙ none))

pub returns-then-dests_of-eq0-clause-spent : goal.returns-then-dests_of-eq0-clause-spent
returns-then-dests_of-eq0-clause-spent g c = λ none. absurd (true≢false (sym (sym c.has_send_number.ensures ∙ c.if-not-has_send_number.false) ∙ none))

pub returns-clause-spent : goal.returns-clause-spent
returns-clause-spent g c = λ none. absurd (true≢false (sym (sym c.has_send_number.ensures ∙ c.if-not-has_send_number.false) ∙ none))

pub send-sent-requires-clause-number : goal.send-sent-requires-clause-number
send-sent-requires-clause-number g c = send_left c.self.inside c.args.self.now c.self.view_is (sym c.has_send_number.ensures ∙ c.if-not-has_send_number.false)

pub returns-in-Some-clause-does : goal.returns-in-Some-clause-does
returns-in-Some-clause-does g c = λ left.
    refused_acts c.args.self.now c.refuse-in-Some.new.self c.args.app (Transmit c.args.bytes.now c.args.inc) c.in-Some.status counters.Send c.refuse-in-Some.ensures.ticked c.refuse-in-Some.ensures.covered
    (ap by_bus (sym c.transmit_cause.ensures ∙ c.in-Some.is)) refl refl refl

pub id_of-id-requires : goal.id_of-id-requires
id_of-id-requires g c =
    let a = c.self.inside in
    let bytes = c.args.bytes.now in
    let why = at_fields a c.args.self.now c.self.view_is (λ limits s. transmit_cause limits s bytes) None (sym c.transmit_cause.ensures ∙ c.in_default.is) in
    let long : 7 ≤ length bytes = long_enough (limits_of a.config) (means a).bus bytes why in
    omega (arith, long)

pub invariant_of-self : goal.invariant_of-self
invariant_of-self g c =
    told_keeps c.self.inside c.tell.new.self (ap (λ (r : Recordings). r.statistics.peak) c.tell.ensures) c.self.invariant

pub returns-then-dests_of-eq0-clause-does : goal.returns-then-dests_of-eq0-clause-does
returns-then-dests_of-eq0-clause-does g c = λ left.
    let a = c.self.inside in
    let limits = limits_of a.config in
    let w = means a in
    let bytes = c.args.bytes.now in
    let why = at_fields a c.args.self.now c.self.view_is (λ limits s. transmit_cause limits s bytes) None (sym c.transmit_cause.ensures ∙ c.in_default.is) in
    let none = nil_from_length (route a.store.subscriptions (message_id bytes)) (ap (λ n. length (route a.store.subscriptions n)) (sym c.id_of-id.ensures) ∙ sym c.dests_of.ensures ∙ c.if-dests_of-eq0.true) in
    acts_from a a.store a.activities a.pools c.args.self.now c.args.app (Transmit bytes c.args.inc) (Sent 0 0) c.self.view_is
    (nobody_made a c.args.app bytes c.args.inc why none) c.tell.new.self
    (unheard_left limits w.bus c.args.app bytes c.args.inc 0 0 w.bus none c.self.invariant.covered
    ∙ ap (λ n. told_event a.records (NoSubscribers n)) (sym c.id_of-id.ensures) ∙ sym c.tell.ensures)

pub send-sent-requires-clause-least : goal.send-sent-requires-clause-least
send-sent-requires-clause-least g c =
    let a = c.self.inside in
    let bytes = c.args.bytes.now in
    let why = at_fields a c.args.self.now c.self.view_is (λ limits s. transmit_cause limits s bytes) None (sym c.transmit_cause.ensures ∙ c.in_default.is) in
    long_enough (limits_of a.config) (means a).bus bytes why

pub send-sent-requires-clause-way : goal.send-sent-requires-clause-way
send-sent-requires-clause-way g c =
    let a = c.self.inside in
    let bytes = c.args.bytes.now in
    let lengths = ap (λ n. length (route a.store.subscriptions n)) (sym c.id_of-id.ensures) ∙ sym c.dests_of.ensures in
    let someone = some_of (route a.store.subscriptions (message_id bytes)) (λ none. c.if-dests_of-eq0.false (sym lengths ∙ none)) in
    way_of a.store.routes a.store.subscriptions (message_id bytes) someone.first someone.more c.self.invariant.order.ways someone.is

pub invariant_of-self-2 : goal.invariant_of-self-2
invariant_of-self-2 g c =
    let a = c.self.inside in
    let next = c.send-sent.new.self in
    let order = sent_keeps a next c.args.app c.args.bytes.now c.args.inc c.send-sent.ensures.after c.self.invariant.order in
    let same = ap (λ (r : Recordings). r.statistics.peak) c.tell_misses.ensures ∙ told_peak a.records (miss_events c.id_of-id.result c.args.app c.misses.result.now) in
    let seen = c.see_blocks.ensures.seen ∙ blocks_seen a c.self.invariant c.recall_held.ensures c.tell_misses.new.self next same (sent_many a next c.args.app c.args.bytes.now c.args.inc c.send-sent.ensures.after c.self.invariant.order) in
    seen_keeps (record a { store = next; records = c.see_blocks.new.records }) c.tell_misses.new.self order seen c.see_blocks.ensures.held

pub returns-clause-does : goal.returns-clause-does
returns-clause-does g c = λ left.
    let a = c.self.inside in
    let limits = limits_of a.config in
    let w = means a in
    let bytes = c.args.bytes.now in
    let next = c.send-sent.new.self in
    let is = c.send-sent.ensures.after in
    let number = c.send-sent.result.number in
    let arrived = c.send-sent.result.reached in
    let keeps = c.self.invariant.order in
    let why = at_fields a c.args.self.now c.self.view_is (λ limits s. transmit_cause limits s bytes) None (sym c.transmit_cause.ensures ∙ c.in_default.is) in
    let lengths = ap (λ n. length (route a.store.subscriptions n)) (sym c.id_of-id.ensures) ∙ sym c.dests_of.ensures in
    let someone = some_of (route a.store.subscriptions (message_id bytes)) (λ none. c.if-dests_of-eq0.false (sym lengths ∙ none)) in
    let told = sent_told a next c.args.app bytes c.args.inc is keeps c.tell_misses.new.self c.id_of-id.result c.misses.result.now c.id_of-id.ensures c.misses.ensures c.tell_misses.ensures in
    let same = ap (λ (r : Recordings). r.statistics.peak) c.tell_misses.ensures ∙ told_peak a.records (miss_events c.id_of-id.result c.args.app c.misses.result.now) in
    let seen = c.see_blocks.ensures.seen ∙ blocks_seen a c.self.invariant c.recall_held.ensures c.tell_misses.new.self next same (sent_many a next c.args.app c.args.bytes.now c.args.inc c.send-sent.ensures.after c.self.invariant.order) in
    acts_seen a next a.activities a.pools c.args.self.now c.args.app (Transmit bytes c.args.inc) (Sent number arrived) c.self.view_is
    (sent_made a next c.args.app bytes c.args.inc is keeps someone.first someone.more number arrived someone.is why c.recall_held.ensures c.send-sent.ensures.number c.send-sent.ensures.reached)
    _ c.see_blocks.new.records
    (sent_left limits w.bus c.args.app (reads_in w) bytes c.args.inc number arrived (means (record a { store = next })).bus someone.first someone.more someone.is)
    (seen ∙ ap (λ r. peaks_raised r (in_use_at next)) told)
    (sent_keeps a next c.args.app bytes c.args.inc is keeps).pool c.see_blocks.ensures.held

pub returns-clause-bags : goal.returns-clause-bags
returns-clause-bags g c =
    let a = c.self.inside in
    let is = c.send-sent.ensures.after in
    bags_kept a c.args.self.now c.self.view_is c.self.invariant.order (record a { store = c.send-sent.new.self; records = c.see_blocks.new.records }) refl (ap (λ (o : Store). o.room) is)
    (record { unsent = ap (λ (o : Store). o.unsent) is; descs = ap (λ (o : Store). o.descs) is; sizes = ap (λ (o : Store). o.account.sizes) is ∙ ap (λ (c : Account). c.sizes) (request_stays a.store.account (length c.args.bytes.now)) }) c.send-sent.ensures.bags

pub returns-clause-cost : goal.returns-clause-cost
returns-clause-cost g c =
    let a = c.self.inside in
    let id = message_id c.args.bytes.now in
    let few =
    drops_are (sending_of a.store c.args.app c.args.bytes.now c.args.inc) (means a).bus id
    ∙ ap (λ (p : Plain). drops_for p.whole.bus c.args.app id) c.self.view_is in
    let same = ap (λ (p : Plain). length (route p.whole.bus.subscriptions id)) c.self.view_is in
    omega (arith, few, same, c.send-sent.ensures.cost)

pub returns-clause-number : goal.returns-clause-number
returns-clause-number g c = omega (arith, c.send-sent.ensures.number, ap (λ (p : Plain). p.whole.bus.numbers_given) c.self.view_is)
