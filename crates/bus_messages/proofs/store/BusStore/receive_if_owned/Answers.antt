-- As `receive`, if the application owns the pipe.
use Rattle.std.proofs.Common.{◌≤◌, length, is_some, ap, refl, subst, sym, ◌∙◌}
use Rattle.lend_block.specs.Loan.{LentBytes}
use Rattle.buf_desc.specs.Held.{Holding}
use Rattle.buf_desc.specs.Desk.{Buffers}
use Rattle.bus_words.specs.Bus.{owns}
use Rattle.bus_words.proofs.PipeItems.{owns-map}
use Rattle.bus_words.specs.Held.{held, bytes_in_use}
use Rattle.bus_messages.specs.Store.{Store}
use Rattle.bus_messages.specs.Inside.{item_in, let_go, store_of}
use Rattle.bus_messages.proofs.BlockReturns.{IsLess, less_exchanged, holds_less}
use Rattle.bus_messages.proofs.ReceiverBags.{last_sealed, last_used, last_viewed, last_lent, last_seen, room_left, front_sealed, next_few, received_keeps, received_held, received_loans, received_bag, received_others, received_number}
use Rattle.bus_messages.proofs.store.BusStore.receive_if_owned.Goals as goal

pub show_next-number-requires-clause-seen : goal.show_next-number-requires-clause-seen
show_next-number-requires-clause-seen g c =
    let own = sym (c.in_ok-items.ensures.owned ∙ sym (owns-map (item_in c.self.inside.desk.slots) c.self.inside.tables.pipes c.args.app c.args.pipe) ∙ ap (λ (o : Store). owns o.pipes c.args.app c.args.pipe) c.self.view_is) in
    last_seen c.self.inside c.args.self.now c.args.app c.args.pipe c.in_ok-items.items.before c.in_ok-items.items.after c.take_if_owned.new.self c.self.inside.desk c.self.inside.desk
    c.self.view_is c.self.invariant c.recall_order.ensures c.recall_live.ensures.live c.in_ok-items.ensures.before c.in_ok-items.ensures.oldest c.in_ok-items.ensures.rows own c.args.held.now c.requires.bag

pub show_next-number-requires-clause-room : goal.show_next-number-requires-clause-room
show_next-number-requires-clause-room g c =
    let own = sym (c.in_ok-items.ensures.owned ∙ sym (owns-map (item_in c.self.inside.desk.slots) c.self.inside.tables.pipes c.args.app c.args.pipe) ∙ ap (λ (o : Store). owns o.pipes c.args.app c.args.pipe) c.self.view_is) in
    room_left c.self.inside c.args.self.now c.args.app c.args.pipe c.in_ok-items.items.before c.in_ok-items.items.after c.take_if_owned.new.self c.self.inside.desk c.self.inside.desk
    c.self.view_is c.self.invariant c.recall_order.ensures c.recall_live.ensures.live c.in_ok-items.ensures.before c.in_ok-items.ensures.oldest c.in_ok-items.ensures.rows own c.args.held.now c.requires.bag

pub show_next-number-requires-clause-sealed : goal.show_next-number-requires-clause-sealed
show_next-number-requires-clause-sealed g c =
    last_sealed c.self.inside c.args.self.now c.args.app c.args.pipe c.in_ok-items.items.before c.in_ok-items.items.after c.take_if_owned.new.self c.self.inside.desk c.self.inside.desk
    c.self.view_is c.self.invariant c.recall_order.ensures c.recall_live.ensures.live c.in_ok-items.ensures.before c.in_ok-items.ensures.oldest c.in_ok-items.ensures.rows

pub show_next-number-requires-clause-used : goal.show_next-number-requires-clause-used
show_next-number-requires-clause-used g c =
    last_used c.self.inside c.args.self.now c.args.app c.args.pipe c.in_ok-items.items.before c.in_ok-items.items.after c.take_if_owned.new.self c.self.inside.desk c.self.inside.desk
    c.self.view_is c.self.invariant c.recall_order.ensures c.recall_live.ensures.live c.in_ok-items.ensures.before c.in_ok-items.ensures.oldest c.in_ok-items.ensures.rows

pub show_next-number-requires-clause-viewed : goal.show_next-number-requires-clause-viewed
show_next-number-requires-clause-viewed g c =
    last_viewed c.self.inside c.args.self.now c.args.app c.args.pipe c.in_ok-items.items.before c.in_ok-items.items.after c.take_if_owned.new.self c.self.inside.desk c.self.inside.desk
    c.self.view_is c.self.invariant c.recall_order.ensures c.recall_live.ensures.live c.in_ok-items.ensures.before c.in_ok-items.ensures.oldest c.in_ok-items.ensures.rows

pub show_next-number-requires-clause-lent : goal.show_next-number-requires-clause-lent
show_next-number-requires-clause-lent g c =
    last_lent c.self.inside c.args.self.now c.args.app c.args.pipe c.in_ok-items.items.before c.in_ok-items.items.after c.take_if_owned.new.self c.self.inside.desk c.self.inside.desk
    c.self.view_is c.self.invariant c.recall_order.ensures c.recall_live.ensures.live c.in_ok-items.ensures.before c.in_ok-items.ensures.oldest c.in_ok-items.ensures.rows

pub show_next-number-requires-clause-next_sealed : goal.show_next-number-requires-clause-next_sealed
show_next-number-requires-clause-next_sealed g c =
    front_sealed c.self.inside c.args.self.now c.args.app c.args.pipe c.in_ok-items.items.before c.in_ok-items.items.after c.take_if_owned.new.self (let_go c.self.inside.desk c.in_ok-items.items.before) c.self.inside.desk
    c.self.view_is c.self.invariant c.recall_order.ensures c.recall_live.ensures.live c.in_ok-items.ensures.before c.in_ok-items.ensures.oldest c.in_ok-items.ensures.rows refl

pub show_next-number-requires-clause-few : goal.show_next-number-requires-clause-few
show_next-number-requires-clause-few g c =
    next_few c.self.inside c.args.self.now c.args.app c.args.pipe c.in_ok-items.items.before c.in_ok-items.items.after c.take_if_owned.new.self c.self.inside.desk c.self.inside.desk
    c.self.view_is c.self.invariant c.recall_order.ensures c.recall_live.ensures.live c.in_ok-items.ensures.before c.in_ok-items.ensures.oldest c.in_ok-items.ensures.rows

pub invariant_of-self-2 : goal.invariant_of-self-2
invariant_of-self-2 g c =
    received_keeps c.self.inside c.args.self.now c.args.app c.args.pipe c.in_ok-items.items.before c.in_ok-items.items.after c.take_if_owned.new.self (let_go c.self.inside.desk c.in_ok-items.items.before) c.show_next-number.new.desk
    c.self.view_is c.self.invariant c.recall_order.ensures c.recall_live.ensures.live c.in_ok-items.ensures.before c.in_ok-items.ensures.oldest c.in_ok-items.ensures.rows refl c.show_next-number.ensures.desk

pub returns-clause-number : goal.returns-clause-number
returns-clause-number g c =
    received_number c.self.inside c.args.self.now c.args.app c.args.pipe c.in_ok-items.items.before c.in_ok-items.items.after c.take_if_owned.new.self (let_go c.self.inside.desk c.in_ok-items.items.before) c.show_next-number.new.desk
    c.self.view_is c.self.invariant c.recall_order.ensures c.recall_live.ensures.live c.in_ok-items.ensures.before c.in_ok-items.ensures.oldest c.in_ok-items.ensures.rows c.show_next-number.result c.show_next-number.ensures.number

pub returns-clause-after : goal.returns-clause-after
returns-clause-after g c =
    received_held c.self.inside c.args.self.now c.args.app c.args.pipe c.in_ok-items.items.before c.in_ok-items.items.after c.take_if_owned.new.self (let_go c.self.inside.desk c.in_ok-items.items.before) c.show_next-number.new.desk
    c.self.view_is c.self.invariant c.recall_order.ensures c.recall_live.ensures.live c.in_ok-items.ensures.before c.in_ok-items.ensures.oldest c.in_ok-items.ensures.rows refl c.show_next-number.ensures.desk c.recall_live-2.ensures.live

pub returns-clause-loans : goal.returns-clause-loans
returns-clause-loans g c =
    received_loans c.self.inside c.args.self.now c.args.app c.args.pipe c.in_ok-items.items.before c.in_ok-items.items.after c.take_if_owned.new.self (let_go c.self.inside.desk c.in_ok-items.items.before) c.show_next-number.new.desk
    c.self.view_is c.self.invariant c.recall_order.ensures c.recall_live.ensures.live c.in_ok-items.ensures.before c.in_ok-items.ensures.oldest c.in_ok-items.ensures.rows refl c.show_next-number.ensures.desk

pub returns-clause-bag : goal.returns-clause-bag
returns-clause-bag g c =
    let own = sym (c.in_ok-items.ensures.owned ∙ sym (owns-map (item_in c.self.inside.desk.slots) c.self.inside.tables.pipes c.args.app c.args.pipe) ∙ ap (λ (o : Store). owns o.pipes c.args.app c.args.pipe) c.self.view_is) in
    received_bag c.self.inside c.args.self.now c.args.app c.args.pipe c.in_ok-items.items.before c.in_ok-items.items.after c.take_if_owned.new.self (let_go c.self.inside.desk c.in_ok-items.items.before) c.show_next-number.new.desk
    c.self.view_is c.self.invariant c.recall_order.ensures c.recall_live.ensures.live c.in_ok-items.ensures.before c.in_ok-items.ensures.oldest c.in_ok-items.ensures.rows refl c.show_next-number.ensures.desk own c.args.held.now c.show_next-number.new.held c.requires.bag
    c.show_next-number.ensures.seen c.show_next-number.ensures.counted (ap (λ (h : Holding LentBytes). h.view_room) c.show_next-number.ensures.same)

pub returns-clause-other_bags : goal.returns-clause-other_bags
returns-clause-other_bags g c = λ other bag not_own.
    let own = sym (c.in_ok-items.ensures.owned ∙ sym (owns-map (item_in c.self.inside.desk.slots) c.self.inside.tables.pipes c.args.app c.args.pipe) ∙ ap (λ (o : Store). owns o.pipes c.args.app c.args.pipe) c.self.view_is) in
    received_others c.self.inside c.args.self.now c.args.app c.args.pipe c.in_ok-items.items.before c.in_ok-items.items.after c.take_if_owned.new.self (let_go c.self.inside.desk c.in_ok-items.items.before) c.show_next-number.new.desk
    c.self.view_is c.self.invariant c.recall_order.ensures c.recall_live.ensures.live c.in_ok-items.ensures.before c.in_ok-items.ensures.oldest c.in_ok-items.ensures.rows refl c.show_next-number.ensures.desk own other not_own bag

pub returns-clause-held : goal.returns-clause-held
returns-clause-held g c =
    let a = c.self.inside in
    let b = record a { tables = c.take_if_owned.new.self; desk = c.show_next-number.new.desk } in
    let kept =
    received_keeps a c.args.self.now c.args.app c.args.pipe c.in_ok-items.items.before c.in_ok-items.items.after c.take_if_owned.new.self (let_go a.desk c.in_ok-items.items.before) c.show_next-number.new.desk
    c.self.view_is c.self.invariant c.recall_order.ensures c.recall_live.ensures.live c.in_ok-items.ensures.before c.in_ok-items.ensures.oldest c.in_ok-items.ensures.rows refl c.show_next-number.ensures.desk in
    let less = subst (λ (d : Buffers). IsLess d.pool a.desk.pool) (sym c.show_next-number.ensures.desk) (less_exchanged a.desk c.in_ok-items.items.before c.in_ok-items.items.after) in
    subst (λ (o : Store). length (held (store_of b).pipes (store_of b).unsent (store_of b).numbers_given) ≤ length (held o.pipes o.unsent o.numbers_given)) c.self.view_is
    (holds_less a b c.self.invariant kept c.recall_live.ensures.live c.recall_live-2.ensures.live less).held

pub returns-clause-less : goal.returns-clause-less
returns-clause-less g c =
    let a = c.self.inside in
    let b = record a { tables = c.take_if_owned.new.self; desk = c.show_next-number.new.desk } in
    let kept =
    received_keeps a c.args.self.now c.args.app c.args.pipe c.in_ok-items.items.before c.in_ok-items.items.after c.take_if_owned.new.self (let_go a.desk c.in_ok-items.items.before) c.show_next-number.new.desk
    c.self.view_is c.self.invariant c.recall_order.ensures c.recall_live.ensures.live c.in_ok-items.ensures.before c.in_ok-items.ensures.oldest c.in_ok-items.ensures.rows refl c.show_next-number.ensures.desk in
    let less = subst (λ (d : Buffers). IsLess d.pool a.desk.pool) (sym c.show_next-number.ensures.desk) (less_exchanged a.desk c.in_ok-items.items.before c.in_ok-items.items.after) in
    subst (λ (o : Store). bytes_in_use (store_of b).account ≤ bytes_in_use o.account) c.self.view_is
    (holds_less a b c.self.invariant kept c.recall_live.ensures.live c.recall_live-2.ensures.live less).bytes

pub returns-clause-owned : goal.returns-clause-owned
returns-clause-owned g c =
    let a = c.self.inside in
    c.in_ok-items.ensures.owned
    ∙ sym (owns-map (item_in a.desk.slots) a.tables.pipes c.args.app c.args.pipe)
    ∙ ap (λ (o : Store). owns o.pipes c.args.app c.args.pipe) c.self.view_is

pub returns-in_err-items-clause-owned : goal.returns-in_err-items-clause-owned
returns-in_err-items-clause-owned g c =
    let a = c.self.inside in
    ap is_some c.from_residual.ensures
    ∙ c.in_err-items.ensures.owned
    ∙ sym (owns-map (item_in a.desk.slots) a.tables.pipes c.args.app c.args.pipe)
    ∙ ap (λ (o : Store). owns o.pipes c.args.app c.args.pipe) c.self.view_is
