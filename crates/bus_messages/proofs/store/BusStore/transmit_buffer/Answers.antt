use Rattle.std.proofs.Common.{◌≡◌, ◌-◌, ◌<◌, ◌≤◌, set, length, List, ℕ, None, ap, sym, ◌∙◌, subst, arith}
use Rattle.ccsds_msg.specs.Message.{message_id, front_fault}
use Rattle.bucket_list.specs.Lists.{times_in}
use Rattle.zero_copy.specs.Held.{HeldDescs, held_by, without}
use Rattle.buf_desc.specs.Desk.{resealed, after_settle}
use Rattle.buf_desc.specs.Held.{bytes_at}
use Rattle.buf_desc.specs.Slots.{sealed_at}
use Rattle.bus_words.specs.Bus.{route, reached, drops}
use Rattle.bus_routes.specs.Missed.{Missed}
use Rattle.bus_routes.specs.Rows.{deliver_rows, reached_rows, missed_rows, dropped_rows}
use Rattle.bus_routes.specs.Tables.{Tables}
use Rattle.bus_messages.specs.Bag.{with_lent}
use Rattle.bus_messages.specs.Store.{Store}
use Rattle.bus_messages.specs.Words.{passing_of}
use Rattle.bus_messages.specs.Inside.{AreLoose, all_dropped}
use Rattle.bus_messages.proofs.BufferSends.{front_long, passed_keeps, passed_reached, passed_loose, passed_drops, passed_at, passed_views, passed_descs, passed_others, passed_bag}
use Rattle.bus_messages.proofs.LentBuffers.{seen_whole}
use Rattle.bus_messages.proofs.ListChanges.{list_of}
use Rattle.bus_messages.proofs.OwnBuffers.{given_number, own_block, in_list, numbered_block, size_block, bytes_are, seals_as}
use Rattle.bus_messages.proofs.store.BusStore.transmit_buffer.Goals as goal

pub let_go-requires-clause-held : goal.let_go-requires-clause-held
let_go-requires-clause-held g c =
    subst (λ n. 0 < times_in (list_of c.self.inside.lists.lists c.args.app) n) (sym c.desc.ensures)
    (in_list c.self.inside c.args.self.now c.args.app c.args.buf c.self.view_is c.self.invariant c.requires.has c.args.held.now c.requires.bag c.unwrap-block.result (sym c.unwrap-block.ensures ∙ c.take_buffer.ensures.found))

pub id_of-id-requires : goal.id_of-id-requires
id_of-id-requires g c =
    let long = front_long c.unwrap-block.result.bytes (subst (λ (l : List ℕ). front_fault l ≡ None) (bytes_are c.self.inside c.args.self.now c.args.app c.args.buf c.self.view_is c.self.invariant c.requires.has c.args.held.now c.requires.bag c.unwrap-block.result (sym c.unwrap-block.ensures ∙ c.take_buffer.ensures.found)) c.requires.message) in
    let same = ap length c.bytes.ensures in
    omega (arith, long.0, same)

pub seal_front-desc-requires-clause-own : goal.seal_front-desc-requires-clause-own
seal_front-desc-requires-clause-own g c = own_block c.self.inside c.args.self.now c.args.app c.args.buf c.self.view_is c.self.invariant c.requires.has c.args.held.now c.requires.bag c.unwrap-block.result (sym c.unwrap-block.ensures ∙ c.take_buffer.ensures.found)

pub seal_front-desc-requires-clause-header : goal.seal_front-desc-requires-clause-header
seal_front-desc-requires-clause-header g c = (front_long c.unwrap-block.result.bytes (subst (λ (l : List ℕ). front_fault l ≡ None) (bytes_are c.self.inside c.args.self.now c.args.app c.args.buf c.self.view_is c.self.invariant c.requires.has c.args.held.now c.requires.bag c.unwrap-block.result (sym c.unwrap-block.ensures ∙ c.take_buffer.ensures.found)) c.requires.message)).0

pub seal_front-desc-requires-clause-within : goal.seal_front-desc-requires-clause-within
seal_front-desc-requires-clause-within g c = (front_long c.unwrap-block.result.bytes (subst (λ (l : List ℕ). front_fault l ≡ None) (bytes_are c.self.inside c.args.self.now c.args.app c.args.buf c.self.view_is c.self.invariant c.requires.has c.args.held.now c.requires.bag c.unwrap-block.result (sym c.unwrap-block.ensures ∙ c.take_buffer.ensures.found)) c.requires.message)).1

pub invariant_of-self : goal.invariant_of-self
invariant_of-self g c =
    passed_keeps c.self.inside c.args.self.now c.args.app c.args.buf c.unwrap-block.result.bytes c.args.inc c.id_of-id.result c.unwrap-block.result.desc c.deliver-reached.result c.next_count-count.result
    c.seal_front-desc.new.desk c.settle_message.new.desk c.next_count-count.new.tables c.deliver-reached.new.self c.deliver-reached.new.misses c.let_go.new.self
    c.self.view_is c.self.invariant c.recall_order.ensures c.requires.bag.known (in_list c.self.inside c.args.self.now c.args.app c.args.buf c.self.view_is c.self.invariant c.requires.has c.args.held.now c.requires.bag c.unwrap-block.result (sym c.unwrap-block.ensures ∙ c.take_buffer.ensures.found)) (numbered_block c.self.inside c.args.self.now c.args.app c.args.buf c.self.view_is c.self.invariant c.requires.has c.args.held.now c.requires.bag c.unwrap-block.result (sym c.unwrap-block.ensures ∙ c.take_buffer.ensures.found)) (size_block c.self.inside c.args.self.now c.args.app c.args.buf c.self.view_is c.self.invariant c.requires.has c.args.held.now c.requires.bag c.unwrap-block.result (sym c.unwrap-block.ensures ∙ c.take_buffer.ensures.found))
    (c.let_go.ensures.after ∙ ap (λ n. let v : HeldDescs = record c.self.inside.lists { lists = set c.self.inside.lists.lists (c.args.app - 1) (without n (held_by c.self.inside.lists c.args.app)) } in v) c.desc.ensures)
    (c.id_of-id.ensures ∙ ap message_id c.bytes.ensures) c.next_count-count.ensures.count c.next_count-count.ensures.after
    (seals_as c.self.inside c.args.self.now c.args.app c.args.buf c.self.view_is c.self.invariant c.requires.has c.args.held.now c.requires.bag c.unwrap-block.result (sym c.unwrap-block.ensures ∙ c.take_buffer.ensures.found) c.seal_front-desc.new.desk _ c.seal_front-desc.ensures.seals)
    c.seal_front-desc.ensures.pool c.seal_front-desc.ensures.numbers c.seal_front-desc.ensures.live
    (c.deliver-reached.ensures.after ∙ ap (λ d. let v : Tables = record c.next_count-count.new.tables { pipes = deliver_rows (record { sender = c.args.app; number = c.args.buf; desc = d }) (route c.next_count-count.new.tables.subscriptions c.id_of-id.result) c.next_count-count.new.tables.pipes } in v) c.seal_front-desc.ensures.desc)
    (c.deliver-reached.ensures.reached ∙ ap (λ d. reached_rows (record { sender = c.args.app; number = c.args.buf; desc = d }) (route c.next_count-count.new.tables.subscriptions c.id_of-id.result) c.next_count-count.new.tables.pipes) c.seal_front-desc.ensures.desc)
    (c.deliver-reached.ensures.missed ∙ ap (λ d. let v : Missed = record c.self.inside.misses { items = missed_rows (record { sender = c.args.app; number = c.args.buf; desc = d }) (route c.next_count-count.new.tables.subscriptions c.id_of-id.result) c.next_count-count.new.tables.pipes; dropped = dropped_rows (record { sender = c.args.app; number = c.args.buf; desc = d }) (route c.next_count-count.new.tables.subscriptions c.id_of-id.result) c.next_count-count.new.tables.pipes } in v) c.seal_front-desc.ensures.desc)
    (c.settle_message.ensures.after ∙ ap (λ d. after_settle (resealed c.seal_front-desc.new.desk d (record (sealed_at c.seal_front-desc.new.desk.slots d) { uses = c.deliver-reached.result })) d) c.seal_front-desc.ensures.desc)
    c.drop_uses.new.desk c.settle_message.ensures.live (c.drop_uses.ensures.dropped ∙ ap (all_dropped c.settle_message.new.desk) c.dropped_messages.ensures)

pub returns-clause-reached : goal.returns-clause-reached
returns-clause-reached g c =
    subst (λ (l : List ℕ). c.deliver-reached.result ≡ reached (passing_of c.args.self.now c.args.app c.args.buf l c.args.inc) (route c.args.self.now.subscriptions (message_id l)) c.args.self.now.pipes) (sym (bytes_are c.self.inside c.args.self.now c.args.app c.args.buf c.self.view_is c.self.invariant c.requires.has c.args.held.now c.requires.bag c.unwrap-block.result (sym c.unwrap-block.ensures ∙ c.take_buffer.ensures.found)))
    (passed_reached c.self.inside c.args.self.now c.args.app c.args.buf c.unwrap-block.result.bytes c.args.inc c.id_of-id.result c.unwrap-block.result.desc c.deliver-reached.result c.next_count-count.result
    c.seal_front-desc.new.desk c.settle_message.new.desk c.next_count-count.new.tables c.deliver-reached.new.self c.deliver-reached.new.misses c.let_go.new.self
    c.self.view_is c.self.invariant c.recall_order.ensures c.requires.bag.known (in_list c.self.inside c.args.self.now c.args.app c.args.buf c.self.view_is c.self.invariant c.requires.has c.args.held.now c.requires.bag c.unwrap-block.result (sym c.unwrap-block.ensures ∙ c.take_buffer.ensures.found)) (numbered_block c.self.inside c.args.self.now c.args.app c.args.buf c.self.view_is c.self.invariant c.requires.has c.args.held.now c.requires.bag c.unwrap-block.result (sym c.unwrap-block.ensures ∙ c.take_buffer.ensures.found)) (size_block c.self.inside c.args.self.now c.args.app c.args.buf c.self.view_is c.self.invariant c.requires.has c.args.held.now c.requires.bag c.unwrap-block.result (sym c.unwrap-block.ensures ∙ c.take_buffer.ensures.found))
    (c.let_go.ensures.after ∙ ap (λ n. let v : HeldDescs = record c.self.inside.lists { lists = set c.self.inside.lists.lists (c.args.app - 1) (without n (held_by c.self.inside.lists c.args.app)) } in v) c.desc.ensures)
    (c.id_of-id.ensures ∙ ap message_id c.bytes.ensures) c.next_count-count.ensures.count c.next_count-count.ensures.after
    (seals_as c.self.inside c.args.self.now c.args.app c.args.buf c.self.view_is c.self.invariant c.requires.has c.args.held.now c.requires.bag c.unwrap-block.result (sym c.unwrap-block.ensures ∙ c.take_buffer.ensures.found) c.seal_front-desc.new.desk _ c.seal_front-desc.ensures.seals)
    c.seal_front-desc.ensures.pool c.seal_front-desc.ensures.numbers c.seal_front-desc.ensures.live
    (c.deliver-reached.ensures.after ∙ ap (λ d. let v : Tables = record c.next_count-count.new.tables { pipes = deliver_rows (record { sender = c.args.app; number = c.args.buf; desc = d }) (route c.next_count-count.new.tables.subscriptions c.id_of-id.result) c.next_count-count.new.tables.pipes } in v) c.seal_front-desc.ensures.desc)
    (c.deliver-reached.ensures.reached ∙ ap (λ d. reached_rows (record { sender = c.args.app; number = c.args.buf; desc = d }) (route c.next_count-count.new.tables.subscriptions c.id_of-id.result) c.next_count-count.new.tables.pipes) c.seal_front-desc.ensures.desc)
    (c.deliver-reached.ensures.missed ∙ ap (λ d. let v : Missed = record c.self.inside.misses { items = missed_rows (record { sender = c.args.app; number = c.args.buf; desc = d }) (route c.next_count-count.new.tables.subscriptions c.id_of-id.result) c.next_count-count.new.tables.pipes; dropped = dropped_rows (record { sender = c.args.app; number = c.args.buf; desc = d }) (route c.next_count-count.new.tables.subscriptions c.id_of-id.result) c.next_count-count.new.tables.pipes } in v) c.seal_front-desc.ensures.desc)
    (c.settle_message.ensures.after ∙ ap (λ d. after_settle (resealed c.seal_front-desc.new.desk d (record (sealed_at c.seal_front-desc.new.desk.slots d) { uses = c.deliver-reached.result })) d) c.seal_front-desc.ensures.desc))

pub returns-clause-after : goal.returns-clause-after
returns-clause-after g c =
    passed_at c.self.inside c.args.self.now c.args.app c.args.buf c.unwrap-block.result.bytes c.args.inc c.id_of-id.result c.unwrap-block.result.desc c.deliver-reached.result c.next_count-count.result
    c.seal_front-desc.new.desk c.settle_message.new.desk c.next_count-count.new.tables c.deliver-reached.new.self c.deliver-reached.new.misses c.let_go.new.self
    c.self.view_is c.self.invariant c.recall_order.ensures c.requires.bag.known (in_list c.self.inside c.args.self.now c.args.app c.args.buf c.self.view_is c.self.invariant c.requires.has c.args.held.now c.requires.bag c.unwrap-block.result (sym c.unwrap-block.ensures ∙ c.take_buffer.ensures.found)) (numbered_block c.self.inside c.args.self.now c.args.app c.args.buf c.self.view_is c.self.invariant c.requires.has c.args.held.now c.requires.bag c.unwrap-block.result (sym c.unwrap-block.ensures ∙ c.take_buffer.ensures.found)) (size_block c.self.inside c.args.self.now c.args.app c.args.buf c.self.view_is c.self.invariant c.requires.has c.args.held.now c.requires.bag c.unwrap-block.result (sym c.unwrap-block.ensures ∙ c.take_buffer.ensures.found))
    (c.let_go.ensures.after ∙ ap (λ n. let v : HeldDescs = record c.self.inside.lists { lists = set c.self.inside.lists.lists (c.args.app - 1) (without n (held_by c.self.inside.lists c.args.app)) } in v) c.desc.ensures)
    (c.id_of-id.ensures ∙ ap message_id c.bytes.ensures) c.next_count-count.ensures.count c.next_count-count.ensures.after
    (seals_as c.self.inside c.args.self.now c.args.app c.args.buf c.self.view_is c.self.invariant c.requires.has c.args.held.now c.requires.bag c.unwrap-block.result (sym c.unwrap-block.ensures ∙ c.take_buffer.ensures.found) c.seal_front-desc.new.desk _ c.seal_front-desc.ensures.seals)
    c.seal_front-desc.ensures.pool c.seal_front-desc.ensures.numbers c.seal_front-desc.ensures.live
    (c.deliver-reached.ensures.after ∙ ap (λ d. let v : Tables = record c.next_count-count.new.tables { pipes = deliver_rows (record { sender = c.args.app; number = c.args.buf; desc = d }) (route c.next_count-count.new.tables.subscriptions c.id_of-id.result) c.next_count-count.new.tables.pipes } in v) c.seal_front-desc.ensures.desc)
    (c.deliver-reached.ensures.reached ∙ ap (λ d. reached_rows (record { sender = c.args.app; number = c.args.buf; desc = d }) (route c.next_count-count.new.tables.subscriptions c.id_of-id.result) c.next_count-count.new.tables.pipes) c.seal_front-desc.ensures.desc)
    (c.deliver-reached.ensures.missed ∙ ap (λ d. let v : Missed = record c.self.inside.misses { items = missed_rows (record { sender = c.args.app; number = c.args.buf; desc = d }) (route c.next_count-count.new.tables.subscriptions c.id_of-id.result) c.next_count-count.new.tables.pipes; dropped = dropped_rows (record { sender = c.args.app; number = c.args.buf; desc = d }) (route c.next_count-count.new.tables.subscriptions c.id_of-id.result) c.next_count-count.new.tables.pipes } in v) c.seal_front-desc.ensures.desc)
    (c.settle_message.ensures.after ∙ ap (λ d. after_settle (resealed c.seal_front-desc.new.desk d (record (sealed_at c.seal_front-desc.new.desk.slots d) { uses = c.deliver-reached.result })) d) c.seal_front-desc.ensures.desc)
    c.drop_uses.new.desk c.settle_message.ensures.live (c.drop_uses.ensures.dropped ∙ ap (all_dropped c.settle_message.new.desk) c.dropped_messages.ensures)
    (bytes_at c.args.held.now c.args.buf) (bytes_are c.self.inside c.args.self.now c.args.app c.args.buf c.self.view_is c.self.invariant c.requires.has c.args.held.now c.requires.bag c.unwrap-block.result (sym c.unwrap-block.ensures ∙ c.take_buffer.ensures.found)) c.drop_uses.ensures.live

pub returns-clause-first : goal.returns-clause-first
returns-clause-first g c = given_number c.self.inside c.args.self.now c.args.app c.args.buf c.self.view_is c.self.invariant c.requires.has

pub returns-clause-descs : goal.returns-clause-descs
returns-clause-descs g c =
    passed_descs c.self.inside c.args.self.now c.args.app c.args.buf c.unwrap-block.result.bytes c.args.inc c.id_of-id.result c.unwrap-block.result.desc c.deliver-reached.result c.next_count-count.result
    c.seal_front-desc.new.desk c.settle_message.new.desk c.next_count-count.new.tables c.deliver-reached.new.self c.deliver-reached.new.misses c.let_go.new.self
    c.self.view_is c.self.invariant c.recall_order.ensures c.requires.bag.known (in_list c.self.inside c.args.self.now c.args.app c.args.buf c.self.view_is c.self.invariant c.requires.has c.args.held.now c.requires.bag c.unwrap-block.result (sym c.unwrap-block.ensures ∙ c.take_buffer.ensures.found)) (numbered_block c.self.inside c.args.self.now c.args.app c.args.buf c.self.view_is c.self.invariant c.requires.has c.args.held.now c.requires.bag c.unwrap-block.result (sym c.unwrap-block.ensures ∙ c.take_buffer.ensures.found)) (size_block c.self.inside c.args.self.now c.args.app c.args.buf c.self.view_is c.self.invariant c.requires.has c.args.held.now c.requires.bag c.unwrap-block.result (sym c.unwrap-block.ensures ∙ c.take_buffer.ensures.found))
    (c.let_go.ensures.after ∙ ap (λ n. let v : HeldDescs = record c.self.inside.lists { lists = set c.self.inside.lists.lists (c.args.app - 1) (without n (held_by c.self.inside.lists c.args.app)) } in v) c.desc.ensures)
    (c.id_of-id.ensures ∙ ap message_id c.bytes.ensures) c.next_count-count.ensures.count c.next_count-count.ensures.after
    (seals_as c.self.inside c.args.self.now c.args.app c.args.buf c.self.view_is c.self.invariant c.requires.has c.args.held.now c.requires.bag c.unwrap-block.result (sym c.unwrap-block.ensures ∙ c.take_buffer.ensures.found) c.seal_front-desc.new.desk _ c.seal_front-desc.ensures.seals)
    c.seal_front-desc.ensures.pool c.seal_front-desc.ensures.numbers c.seal_front-desc.ensures.live
    (c.deliver-reached.ensures.after ∙ ap (λ d. let v : Tables = record c.next_count-count.new.tables { pipes = deliver_rows (record { sender = c.args.app; number = c.args.buf; desc = d }) (route c.next_count-count.new.tables.subscriptions c.id_of-id.result) c.next_count-count.new.tables.pipes } in v) c.seal_front-desc.ensures.desc)
    (c.deliver-reached.ensures.reached ∙ ap (λ d. reached_rows (record { sender = c.args.app; number = c.args.buf; desc = d }) (route c.next_count-count.new.tables.subscriptions c.id_of-id.result) c.next_count-count.new.tables.pipes) c.seal_front-desc.ensures.desc)
    (c.deliver-reached.ensures.missed ∙ ap (λ d. let v : Missed = record c.self.inside.misses { items = missed_rows (record { sender = c.args.app; number = c.args.buf; desc = d }) (route c.next_count-count.new.tables.subscriptions c.id_of-id.result) c.next_count-count.new.tables.pipes; dropped = dropped_rows (record { sender = c.args.app; number = c.args.buf; desc = d }) (route c.next_count-count.new.tables.subscriptions c.id_of-id.result) c.next_count-count.new.tables.pipes } in v) c.seal_front-desc.ensures.desc)
    (c.settle_message.ensures.after ∙ ap (λ d. after_settle (resealed c.seal_front-desc.new.desk d (record (sealed_at c.seal_front-desc.new.desk.slots d) { uses = c.deliver-reached.result })) d) c.seal_front-desc.ensures.desc)
    c.drop_uses.new.desk c.settle_message.ensures.live (c.drop_uses.ensures.dropped ∙ ap (all_dropped c.settle_message.new.desk) c.dropped_messages.ensures)

pub returns-clause-bag : goal.returns-clause-bag
returns-clause-bag g c = λ lent none holds.
    passed_bag c.self.inside c.args.self.now c.args.app c.args.buf c.unwrap-block.result.bytes c.args.inc c.id_of-id.result c.unwrap-block.result.desc c.deliver-reached.result c.next_count-count.result
    c.seal_front-desc.new.desk c.settle_message.new.desk c.next_count-count.new.tables c.deliver-reached.new.self c.deliver-reached.new.misses c.let_go.new.self
    c.self.view_is c.self.invariant c.recall_order.ensures c.requires.bag.known (in_list c.self.inside c.args.self.now c.args.app c.args.buf c.self.view_is c.self.invariant c.requires.has c.args.held.now c.requires.bag c.unwrap-block.result (sym c.unwrap-block.ensures ∙ c.take_buffer.ensures.found)) (numbered_block c.self.inside c.args.self.now c.args.app c.args.buf c.self.view_is c.self.invariant c.requires.has c.args.held.now c.requires.bag c.unwrap-block.result (sym c.unwrap-block.ensures ∙ c.take_buffer.ensures.found)) (size_block c.self.inside c.args.self.now c.args.app c.args.buf c.self.view_is c.self.invariant c.requires.has c.args.held.now c.requires.bag c.unwrap-block.result (sym c.unwrap-block.ensures ∙ c.take_buffer.ensures.found))
    (c.let_go.ensures.after ∙ ap (λ n. let v : HeldDescs = record c.self.inside.lists { lists = set c.self.inside.lists.lists (c.args.app - 1) (without n (held_by c.self.inside.lists c.args.app)) } in v) c.desc.ensures)
    (c.id_of-id.ensures ∙ ap message_id c.bytes.ensures) c.next_count-count.ensures.count c.next_count-count.ensures.after
    (seals_as c.self.inside c.args.self.now c.args.app c.args.buf c.self.view_is c.self.invariant c.requires.has c.args.held.now c.requires.bag c.unwrap-block.result (sym c.unwrap-block.ensures ∙ c.take_buffer.ensures.found) c.seal_front-desc.new.desk _ c.seal_front-desc.ensures.seals)
    c.seal_front-desc.ensures.pool c.seal_front-desc.ensures.numbers c.seal_front-desc.ensures.live
    (c.deliver-reached.ensures.after ∙ ap (λ d. let v : Tables = record c.next_count-count.new.tables { pipes = deliver_rows (record { sender = c.args.app; number = c.args.buf; desc = d }) (route c.next_count-count.new.tables.subscriptions c.id_of-id.result) c.next_count-count.new.tables.pipes } in v) c.seal_front-desc.ensures.desc)
    (c.deliver-reached.ensures.reached ∙ ap (λ d. reached_rows (record { sender = c.args.app; number = c.args.buf; desc = d }) (route c.next_count-count.new.tables.subscriptions c.id_of-id.result) c.next_count-count.new.tables.pipes) c.seal_front-desc.ensures.desc)
    (c.deliver-reached.ensures.missed ∙ ap (λ d. let v : Missed = record c.self.inside.misses { items = missed_rows (record { sender = c.args.app; number = c.args.buf; desc = d }) (route c.next_count-count.new.tables.subscriptions c.id_of-id.result) c.next_count-count.new.tables.pipes; dropped = dropped_rows (record { sender = c.args.app; number = c.args.buf; desc = d }) (route c.next_count-count.new.tables.subscriptions c.id_of-id.result) c.next_count-count.new.tables.pipes } in v) c.seal_front-desc.ensures.desc)
    (c.settle_message.ensures.after ∙ ap (λ d. after_settle (resealed c.seal_front-desc.new.desk d (record (sealed_at c.seal_front-desc.new.desk.slots d) { uses = c.deliver-reached.result })) d) c.seal_front-desc.ensures.desc)
    c.drop_uses.new.desk c.settle_message.ensures.live (c.drop_uses.ensures.dropped ∙ ap (all_dropped c.settle_message.new.desk) c.dropped_messages.ensures)
    (with_lent c.args.held.now lent) (with_lent c.take_buffer.new.self lent) holds
    (seen_whole c.args.held.now c.take_buffer.new.self lent c.args.buf None none c.take_buffer.ensures.seen)

pub returns-clause-other_bags : goal.returns-clause-other_bags
returns-clause-other_bags g c =
    passed_others c.self.inside c.args.self.now c.args.app c.args.buf c.unwrap-block.result.bytes c.args.inc c.id_of-id.result c.unwrap-block.result.desc c.deliver-reached.result c.next_count-count.result
    c.seal_front-desc.new.desk c.settle_message.new.desk c.next_count-count.new.tables c.deliver-reached.new.self c.deliver-reached.new.misses c.let_go.new.self
    c.self.view_is c.self.invariant c.recall_order.ensures c.requires.bag.known (in_list c.self.inside c.args.self.now c.args.app c.args.buf c.self.view_is c.self.invariant c.requires.has c.args.held.now c.requires.bag c.unwrap-block.result (sym c.unwrap-block.ensures ∙ c.take_buffer.ensures.found)) (numbered_block c.self.inside c.args.self.now c.args.app c.args.buf c.self.view_is c.self.invariant c.requires.has c.args.held.now c.requires.bag c.unwrap-block.result (sym c.unwrap-block.ensures ∙ c.take_buffer.ensures.found)) (size_block c.self.inside c.args.self.now c.args.app c.args.buf c.self.view_is c.self.invariant c.requires.has c.args.held.now c.requires.bag c.unwrap-block.result (sym c.unwrap-block.ensures ∙ c.take_buffer.ensures.found))
    (c.let_go.ensures.after ∙ ap (λ n. let v : HeldDescs = record c.self.inside.lists { lists = set c.self.inside.lists.lists (c.args.app - 1) (without n (held_by c.self.inside.lists c.args.app)) } in v) c.desc.ensures)
    (c.id_of-id.ensures ∙ ap message_id c.bytes.ensures) c.next_count-count.ensures.count c.next_count-count.ensures.after
    (seals_as c.self.inside c.args.self.now c.args.app c.args.buf c.self.view_is c.self.invariant c.requires.has c.args.held.now c.requires.bag c.unwrap-block.result (sym c.unwrap-block.ensures ∙ c.take_buffer.ensures.found) c.seal_front-desc.new.desk _ c.seal_front-desc.ensures.seals)
    c.seal_front-desc.ensures.pool c.seal_front-desc.ensures.numbers c.seal_front-desc.ensures.live
    (c.deliver-reached.ensures.after ∙ ap (λ d. let v : Tables = record c.next_count-count.new.tables { pipes = deliver_rows (record { sender = c.args.app; number = c.args.buf; desc = d }) (route c.next_count-count.new.tables.subscriptions c.id_of-id.result) c.next_count-count.new.tables.pipes } in v) c.seal_front-desc.ensures.desc)
    (c.deliver-reached.ensures.reached ∙ ap (λ d. reached_rows (record { sender = c.args.app; number = c.args.buf; desc = d }) (route c.next_count-count.new.tables.subscriptions c.id_of-id.result) c.next_count-count.new.tables.pipes) c.seal_front-desc.ensures.desc)
    (c.deliver-reached.ensures.missed ∙ ap (λ d. let v : Missed = record c.self.inside.misses { items = missed_rows (record { sender = c.args.app; number = c.args.buf; desc = d }) (route c.next_count-count.new.tables.subscriptions c.id_of-id.result) c.next_count-count.new.tables.pipes; dropped = dropped_rows (record { sender = c.args.app; number = c.args.buf; desc = d }) (route c.next_count-count.new.tables.subscriptions c.id_of-id.result) c.next_count-count.new.tables.pipes } in v) c.seal_front-desc.ensures.desc)
    (c.settle_message.ensures.after ∙ ap (λ d. after_settle (resealed c.seal_front-desc.new.desk d (record (sealed_at c.seal_front-desc.new.desk.slots d) { uses = c.deliver-reached.result })) d) c.seal_front-desc.ensures.desc)
    c.drop_uses.new.desk c.settle_message.ensures.live (c.drop_uses.ensures.dropped ∙ ap (all_dropped c.settle_message.new.desk) c.dropped_messages.ensures)

pub returns-clause-view_bags : goal.returns-clause-view_bags
returns-clause-view_bags g c =
    passed_views c.self.inside c.args.self.now c.args.app c.args.buf c.unwrap-block.result.bytes c.args.inc c.id_of-id.result c.unwrap-block.result.desc c.deliver-reached.result c.next_count-count.result
    c.seal_front-desc.new.desk c.settle_message.new.desk c.next_count-count.new.tables c.deliver-reached.new.self c.deliver-reached.new.misses c.let_go.new.self
    c.self.view_is c.self.invariant c.recall_order.ensures c.requires.bag.known (in_list c.self.inside c.args.self.now c.args.app c.args.buf c.self.view_is c.self.invariant c.requires.has c.args.held.now c.requires.bag c.unwrap-block.result (sym c.unwrap-block.ensures ∙ c.take_buffer.ensures.found)) (numbered_block c.self.inside c.args.self.now c.args.app c.args.buf c.self.view_is c.self.invariant c.requires.has c.args.held.now c.requires.bag c.unwrap-block.result (sym c.unwrap-block.ensures ∙ c.take_buffer.ensures.found)) (size_block c.self.inside c.args.self.now c.args.app c.args.buf c.self.view_is c.self.invariant c.requires.has c.args.held.now c.requires.bag c.unwrap-block.result (sym c.unwrap-block.ensures ∙ c.take_buffer.ensures.found))
    (c.let_go.ensures.after ∙ ap (λ n. let v : HeldDescs = record c.self.inside.lists { lists = set c.self.inside.lists.lists (c.args.app - 1) (without n (held_by c.self.inside.lists c.args.app)) } in v) c.desc.ensures)
    (c.id_of-id.ensures ∙ ap message_id c.bytes.ensures) c.next_count-count.ensures.count c.next_count-count.ensures.after
    (seals_as c.self.inside c.args.self.now c.args.app c.args.buf c.self.view_is c.self.invariant c.requires.has c.args.held.now c.requires.bag c.unwrap-block.result (sym c.unwrap-block.ensures ∙ c.take_buffer.ensures.found) c.seal_front-desc.new.desk _ c.seal_front-desc.ensures.seals)
    c.seal_front-desc.ensures.pool c.seal_front-desc.ensures.numbers c.seal_front-desc.ensures.live
    (c.deliver-reached.ensures.after ∙ ap (λ d. let v : Tables = record c.next_count-count.new.tables { pipes = deliver_rows (record { sender = c.args.app; number = c.args.buf; desc = d }) (route c.next_count-count.new.tables.subscriptions c.id_of-id.result) c.next_count-count.new.tables.pipes } in v) c.seal_front-desc.ensures.desc)
    (c.deliver-reached.ensures.reached ∙ ap (λ d. reached_rows (record { sender = c.args.app; number = c.args.buf; desc = d }) (route c.next_count-count.new.tables.subscriptions c.id_of-id.result) c.next_count-count.new.tables.pipes) c.seal_front-desc.ensures.desc)
    (c.deliver-reached.ensures.missed ∙ ap (λ d. let v : Missed = record c.self.inside.misses { items = missed_rows (record { sender = c.args.app; number = c.args.buf; desc = d }) (route c.next_count-count.new.tables.subscriptions c.id_of-id.result) c.next_count-count.new.tables.pipes; dropped = dropped_rows (record { sender = c.args.app; number = c.args.buf; desc = d }) (route c.next_count-count.new.tables.subscriptions c.id_of-id.result) c.next_count-count.new.tables.pipes } in v) c.seal_front-desc.ensures.desc)
    (c.settle_message.ensures.after ∙ ap (λ d. after_settle (resealed c.seal_front-desc.new.desk d (record (sealed_at c.seal_front-desc.new.desk.slots d) { uses = c.deliver-reached.result })) d) c.seal_front-desc.ensures.desc)
    c.drop_uses.new.desk c.settle_message.ensures.live (c.drop_uses.ensures.dropped ∙ ap (all_dropped c.settle_message.new.desk) c.dropped_messages.ensures)

pub drop_uses-requires : goal.drop_uses-requires
drop_uses-requires g c =
    record {
      loose = subst (AreLoose c.settle_message.new.desk) (sym c.dropped_messages.ensures)
          (passed_loose c.self.inside c.args.self.now c.args.app c.args.buf c.unwrap-block.result.bytes c.args.inc c.id_of-id.result c.unwrap-block.result.desc c.deliver-reached.result c.next_count-count.result
          c.seal_front-desc.new.desk c.settle_message.new.desk c.next_count-count.new.tables c.deliver-reached.new.self c.deliver-reached.new.misses c.let_go.new.self
          c.self.view_is c.self.invariant c.recall_order.ensures c.requires.bag.known (in_list c.self.inside c.args.self.now c.args.app c.args.buf c.self.view_is c.self.invariant c.requires.has c.args.held.now c.requires.bag c.unwrap-block.result (sym c.unwrap-block.ensures ∙ c.take_buffer.ensures.found)) (numbered_block c.self.inside c.args.self.now c.args.app c.args.buf c.self.view_is c.self.invariant c.requires.has c.args.held.now c.requires.bag c.unwrap-block.result (sym c.unwrap-block.ensures ∙ c.take_buffer.ensures.found)) (size_block c.self.inside c.args.self.now c.args.app c.args.buf c.self.view_is c.self.invariant c.requires.has c.args.held.now c.requires.bag c.unwrap-block.result (sym c.unwrap-block.ensures ∙ c.take_buffer.ensures.found))
          (c.let_go.ensures.after ∙ ap (λ n. let v : HeldDescs = record c.self.inside.lists { lists = set c.self.inside.lists.lists (c.args.app - 1) (without n (held_by c.self.inside.lists c.args.app)) } in v) c.desc.ensures)
          (c.id_of-id.ensures ∙ ap message_id c.bytes.ensures) c.next_count-count.ensures.count c.next_count-count.ensures.after
          (seals_as c.self.inside c.args.self.now c.args.app c.args.buf c.self.view_is c.self.invariant c.requires.has c.args.held.now c.requires.bag c.unwrap-block.result (sym c.unwrap-block.ensures ∙ c.take_buffer.ensures.found) c.seal_front-desc.new.desk _ c.seal_front-desc.ensures.seals)
          c.seal_front-desc.ensures.pool c.seal_front-desc.ensures.numbers c.seal_front-desc.ensures.live
          (c.deliver-reached.ensures.after ∙ ap (λ d. let v : Tables = record c.next_count-count.new.tables { pipes = deliver_rows (record { sender = c.args.app; number = c.args.buf; desc = d }) (route c.next_count-count.new.tables.subscriptions c.id_of-id.result) c.next_count-count.new.tables.pipes } in v) c.seal_front-desc.ensures.desc)
          (c.deliver-reached.ensures.reached ∙ ap (λ d. reached_rows (record { sender = c.args.app; number = c.args.buf; desc = d }) (route c.next_count-count.new.tables.subscriptions c.id_of-id.result) c.next_count-count.new.tables.pipes) c.seal_front-desc.ensures.desc)
          (c.deliver-reached.ensures.missed ∙ ap (λ d. let v : Missed = record c.self.inside.misses { items = missed_rows (record { sender = c.args.app; number = c.args.buf; desc = d }) (route c.next_count-count.new.tables.subscriptions c.id_of-id.result) c.next_count-count.new.tables.pipes; dropped = dropped_rows (record { sender = c.args.app; number = c.args.buf; desc = d }) (route c.next_count-count.new.tables.subscriptions c.id_of-id.result) c.next_count-count.new.tables.pipes } in v) c.seal_front-desc.ensures.desc)
          (c.settle_message.ensures.after ∙ ap (λ d. after_settle (resealed c.seal_front-desc.new.desk d (record (sealed_at c.seal_front-desc.new.desk.slots d) { uses = c.deliver-reached.result })) d) c.seal_front-desc.ensures.desc));
    }

pub returns-clause-cost : goal.returns-clause-cost
returns-clause-cost g c =
    let few =
    subst (λ (l : List ℕ). length c.deliver-reached.new.misses.dropped ≤ drops (passing_of c.args.self.now c.args.app c.args.buf l c.args.inc) (route c.args.self.now.subscriptions (message_id l)) c.args.self.now.pipes) (sym (bytes_are c.self.inside c.args.self.now c.args.app c.args.buf c.self.view_is c.self.invariant c.requires.has c.args.held.now c.requires.bag c.unwrap-block.result (sym c.unwrap-block.ensures ∙ c.take_buffer.ensures.found)))
    (passed_drops c.self.inside c.args.self.now c.args.app c.args.buf c.unwrap-block.result.bytes c.args.inc c.id_of-id.result c.unwrap-block.result.desc c.deliver-reached.result c.next_count-count.result
    c.seal_front-desc.new.desk c.settle_message.new.desk c.next_count-count.new.tables c.deliver-reached.new.self c.deliver-reached.new.misses c.let_go.new.self
    c.self.view_is c.self.invariant c.recall_order.ensures c.requires.bag.known (in_list c.self.inside c.args.self.now c.args.app c.args.buf c.self.view_is c.self.invariant c.requires.has c.args.held.now c.requires.bag c.unwrap-block.result (sym c.unwrap-block.ensures ∙ c.take_buffer.ensures.found)) (numbered_block c.self.inside c.args.self.now c.args.app c.args.buf c.self.view_is c.self.invariant c.requires.has c.args.held.now c.requires.bag c.unwrap-block.result (sym c.unwrap-block.ensures ∙ c.take_buffer.ensures.found)) (size_block c.self.inside c.args.self.now c.args.app c.args.buf c.self.view_is c.self.invariant c.requires.has c.args.held.now c.requires.bag c.unwrap-block.result (sym c.unwrap-block.ensures ∙ c.take_buffer.ensures.found))
    (c.let_go.ensures.after ∙ ap (λ n. let v : HeldDescs = record c.self.inside.lists { lists = set c.self.inside.lists.lists (c.args.app - 1) (without n (held_by c.self.inside.lists c.args.app)) } in v) c.desc.ensures)
    (c.id_of-id.ensures ∙ ap message_id c.bytes.ensures) c.next_count-count.ensures.count c.next_count-count.ensures.after
    (seals_as c.self.inside c.args.self.now c.args.app c.args.buf c.self.view_is c.self.invariant c.requires.has c.args.held.now c.requires.bag c.unwrap-block.result (sym c.unwrap-block.ensures ∙ c.take_buffer.ensures.found) c.seal_front-desc.new.desk _ c.seal_front-desc.ensures.seals)
    c.seal_front-desc.ensures.pool c.seal_front-desc.ensures.numbers c.seal_front-desc.ensures.live
    (c.deliver-reached.ensures.after ∙ ap (λ d. let v : Tables = record c.next_count-count.new.tables { pipes = deliver_rows (record { sender = c.args.app; number = c.args.buf; desc = d }) (route c.next_count-count.new.tables.subscriptions c.id_of-id.result) c.next_count-count.new.tables.pipes } in v) c.seal_front-desc.ensures.desc)
    (c.deliver-reached.ensures.reached ∙ ap (λ d. reached_rows (record { sender = c.args.app; number = c.args.buf; desc = d }) (route c.next_count-count.new.tables.subscriptions c.id_of-id.result) c.next_count-count.new.tables.pipes) c.seal_front-desc.ensures.desc)
    (c.deliver-reached.ensures.missed ∙ ap (λ d. let v : Missed = record c.self.inside.misses { items = missed_rows (record { sender = c.args.app; number = c.args.buf; desc = d }) (route c.next_count-count.new.tables.subscriptions c.id_of-id.result) c.next_count-count.new.tables.pipes; dropped = dropped_rows (record { sender = c.args.app; number = c.args.buf; desc = d }) (route c.next_count-count.new.tables.subscriptions c.id_of-id.result) c.next_count-count.new.tables.pipes } in v) c.seal_front-desc.ensures.desc)
    (c.settle_message.ensures.after ∙ ap (λ d. after_settle (resealed c.seal_front-desc.new.desk d (record (sealed_at c.seal_front-desc.new.desk.slots d) { uses = c.deliver-reached.result })) d) c.seal_front-desc.ensures.desc)) in
    let same =
    ap (λ (t : Tables). length (route t.subscriptions c.id_of-id.result)) c.next_count-count.ensures.after
    ∙ ap (λ i. length (route c.self.inside.tables.subscriptions i)) (c.id_of-id.ensures ∙ ap message_id c.bytes.ensures)
    ∙ ap (λ (o : Store). length (route o.subscriptions (message_id c.unwrap-block.result.bytes))) c.self.view_is
    ∙ ap (λ (l : List ℕ). length (route c.args.self.now.subscriptions (message_id l))) (sym (bytes_are c.self.inside c.args.self.now c.args.app c.args.buf c.self.view_is c.self.invariant c.requires.has c.args.held.now c.requires.bag c.unwrap-block.result (sym c.unwrap-block.ensures ∙ c.take_buffer.ensures.found))) in
    omega (arith, few, same, ap length c.dropped_messages.ensures, c.drop_uses.ensures.cost, c.settle_message.ensures.cost, c.deliver-reached.ensures.cost, c.let_go.ensures.cost)
