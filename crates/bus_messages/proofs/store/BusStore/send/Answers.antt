use Rattle.std.proofs.Common.{◌+◌, length, refl, ap, sym, ◌∙◌, subst, arith}
use Rattle.fsw_base.specs.PoolAccounts.{has_room}
use Rattle.buf_desc.specs.Slots.{slot_at}
use Rattle.ccsds_msg.specs.Message.{message_id}
use Rattle.bus_words.specs.Bus.{route}
use Rattle.bus_routes.specs.Tables.{Tables}
use Rattle.bus_messages.specs.Store.{Store}
use Rattle.bus_messages.specs.Inside.{AreLoose, all_dropped}
use Rattle.bus_messages.proofs.Pool.{room_counted}
use Rattle.bus_messages.proofs.Stores.{sent_keeps, sent_reached, sent_loose, sent_drops, sent_held, sent_bags}
use Rattle.bus_messages.proofs.Ties.{sealed_live}
use Rattle.bus_messages.proofs.store.BusStore.send.Goals as goal

pub put_message-desc-requires-clause-room : goal.put_message-desc-requires-clause-room
put_message-desc-requires-clause-room g c =
    let a = c.self.inside in
    room_counted a.desk.pool (length c.args.bytes.now) c.self.invariant.backed.tied.account
    ∙ ap (λ (o : Store). has_room o.account (length c.args.bytes.now)) c.self.view_is
    ∙ c.requires.room

pub invariant_of-self : goal.invariant_of-self
invariant_of-self g c =
    sent_keeps c.self.inside c.args.self.now c.args.sender c.args.bytes.now c.args.inc c.id_of-id.result (c.self.inside.given + 1) c.put_message-desc.result c.deliver-reached.result c.next_count-count.result
    c.put_message-desc.new.desk c.settle_message.new.desk c.next_count-count.new.tables c.deliver-reached.new.self c.deliver-reached.new.misses
    c.self.view_is c.self.invariant c.recall_order.ensures c.requires.least c.requires.room c.id_of-id.ensures c.next_count-count.ensures.count c.next_count-count.ensures.after refl
    c.put_message-desc.ensures.added c.recall_live.ensures.live c.put_message-desc.ensures.live
    c.deliver-reached.ensures.after c.deliver-reached.ensures.reached c.deliver-reached.ensures.missed c.settle_message.ensures.after
    (sealed_live (slot_at c.put_message-desc.new.desk.slots c.put_message-desc.result) c.put_message-desc.ensures.added.seals.sealed)
    c.drop_uses.new.desk c.settle_message.ensures.live (c.drop_uses.ensures.dropped ∙ ap (all_dropped c.settle_message.new.desk) c.dropped_messages.ensures)

pub returns-clause-reached : goal.returns-clause-reached
returns-clause-reached g c =
    sent_reached c.self.inside c.args.self.now c.args.sender c.args.bytes.now c.args.inc c.id_of-id.result (c.self.inside.given + 1) c.put_message-desc.result c.deliver-reached.result c.next_count-count.result
    c.put_message-desc.new.desk c.settle_message.new.desk c.next_count-count.new.tables c.deliver-reached.new.self c.deliver-reached.new.misses
    c.self.view_is c.self.invariant c.recall_order.ensures c.requires.least c.requires.room c.id_of-id.ensures c.next_count-count.ensures.count c.next_count-count.ensures.after refl
    c.put_message-desc.ensures.added c.recall_live.ensures.live c.put_message-desc.ensures.live
    c.deliver-reached.ensures.after c.deliver-reached.ensures.reached c.deliver-reached.ensures.missed c.settle_message.ensures.after
    (sealed_live (slot_at c.put_message-desc.new.desk.slots c.put_message-desc.result) c.put_message-desc.ensures.added.seals.sealed)

pub returns-clause-after : goal.returns-clause-after
returns-clause-after g c =
    sent_held c.self.inside c.args.self.now c.args.sender c.args.bytes.now c.args.inc c.id_of-id.result (c.self.inside.given + 1) c.put_message-desc.result c.deliver-reached.result c.next_count-count.result
    c.put_message-desc.new.desk c.settle_message.new.desk c.next_count-count.new.tables c.deliver-reached.new.self c.deliver-reached.new.misses
    c.self.view_is c.self.invariant c.recall_order.ensures c.requires.least c.requires.room c.id_of-id.ensures c.next_count-count.ensures.count c.next_count-count.ensures.after refl
    c.put_message-desc.ensures.added c.recall_live.ensures.live c.put_message-desc.ensures.live
    c.deliver-reached.ensures.after c.deliver-reached.ensures.reached c.deliver-reached.ensures.missed c.settle_message.ensures.after
    (sealed_live (slot_at c.put_message-desc.new.desk.slots c.put_message-desc.result) c.put_message-desc.ensures.added.seals.sealed)
    c.drop_uses.new.desk c.settle_message.ensures.live (c.drop_uses.ensures.dropped ∙ ap (all_dropped c.settle_message.new.desk) c.dropped_messages.ensures) c.drop_uses.ensures.live

pub returns-clause-bags : goal.returns-clause-bags
returns-clause-bags g c =
    sent_bags c.self.inside c.args.self.now c.args.sender c.args.bytes.now c.args.inc c.id_of-id.result (c.self.inside.given + 1) c.put_message-desc.result c.deliver-reached.result c.next_count-count.result
    c.put_message-desc.new.desk c.settle_message.new.desk c.next_count-count.new.tables c.deliver-reached.new.self c.deliver-reached.new.misses
    c.self.view_is c.self.invariant c.recall_order.ensures c.requires.least c.requires.room c.id_of-id.ensures c.next_count-count.ensures.count c.next_count-count.ensures.after refl
    c.put_message-desc.ensures.added c.recall_live.ensures.live c.put_message-desc.ensures.live
    c.deliver-reached.ensures.after c.deliver-reached.ensures.reached c.deliver-reached.ensures.missed c.settle_message.ensures.after
    (sealed_live (slot_at c.put_message-desc.new.desk.slots c.put_message-desc.result) c.put_message-desc.ensures.added.seals.sealed)
    c.drop_uses.new.desk c.settle_message.ensures.live (c.drop_uses.ensures.dropped ∙ ap (all_dropped c.settle_message.new.desk) c.dropped_messages.ensures)

pub drop_uses-requires : goal.drop_uses-requires
drop_uses-requires g c =
    record {
      loose = subst (AreLoose c.settle_message.new.desk) (sym c.dropped_messages.ensures)
          (sent_loose c.self.inside c.args.self.now c.args.sender c.args.bytes.now c.args.inc c.id_of-id.result (c.self.inside.given + 1) c.put_message-desc.result c.deliver-reached.result c.next_count-count.result
          c.put_message-desc.new.desk c.settle_message.new.desk c.next_count-count.new.tables c.deliver-reached.new.self c.deliver-reached.new.misses
          c.self.view_is c.self.invariant c.recall_order.ensures c.requires.least c.requires.room c.id_of-id.ensures c.next_count-count.ensures.count c.next_count-count.ensures.after refl
          c.put_message-desc.ensures.added c.recall_live.ensures.live c.put_message-desc.ensures.live
          c.deliver-reached.ensures.after c.deliver-reached.ensures.reached c.deliver-reached.ensures.missed c.settle_message.ensures.after
          (sealed_live (slot_at c.put_message-desc.new.desk.slots c.put_message-desc.result) c.put_message-desc.ensures.added.seals.sealed));
    }

pub returns-clause-cost : goal.returns-clause-cost
returns-clause-cost g c =
    let few =
    sent_drops c.self.inside c.args.self.now c.args.sender c.args.bytes.now c.args.inc c.id_of-id.result (c.self.inside.given + 1) c.put_message-desc.result c.deliver-reached.result c.next_count-count.result
    c.put_message-desc.new.desk c.settle_message.new.desk c.next_count-count.new.tables c.deliver-reached.new.self c.deliver-reached.new.misses
    c.self.view_is c.self.invariant c.recall_order.ensures c.requires.least c.requires.room c.id_of-id.ensures c.next_count-count.ensures.count c.next_count-count.ensures.after refl
    c.put_message-desc.ensures.added c.recall_live.ensures.live c.put_message-desc.ensures.live
    c.deliver-reached.ensures.after c.deliver-reached.ensures.reached c.deliver-reached.ensures.missed c.settle_message.ensures.after
    (sealed_live (slot_at c.put_message-desc.new.desk.slots c.put_message-desc.result) c.put_message-desc.ensures.added.seals.sealed) in
    let same =
    ap (λ (t : Tables). length (route t.subscriptions c.id_of-id.result)) c.next_count-count.ensures.after
    ∙ ap (λ i. length (route c.self.inside.tables.subscriptions i)) c.id_of-id.ensures
    ∙ ap (λ (o : Store). length (route o.subscriptions (message_id c.args.bytes.now))) c.self.view_is in
    omega (arith, few, same, ap length c.dropped_messages.ensures, c.drop_uses.ensures.cost, c.settle_message.ensures.cost, c.deliver-reached.ensures.cost, c.put_message-desc.ensures.cost)
