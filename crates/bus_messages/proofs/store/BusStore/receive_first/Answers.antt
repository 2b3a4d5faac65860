use Rattle.std.proofs.Common.{length, None, refl, ap, ◌∙◌, add-zero, arith}
use Rattle.lend_block.specs.Loan.{LentBytes}
use Rattle.buf_desc.specs.Held.{Holding}
use Rattle.bus_messages.proofs.FirstReceives.{nothing_last}
use Rattle.bus_messages.proofs.ReceiverBags.{room_left, front_sealed, next_few, received_keeps, received_held, received_loans, received_bag, received_others, received_number}
use Rattle.bus_messages.proofs.store.BusStore.receive_first.Goals as goal

pub show-number-requires-clause-room : goal.show-number-requires-clause-room
show-number-requires-clause-room c =
    omega (
      arith,
      room_left c.self.inside c.args.self.now c.args.app c.args.pipe None c.take-oldest.result.after c.take-oldest.new.self c.self.inside.desk c.self.inside.desk
          c.self.view_is c.self.invariant c.recall_order.ensures c.recall_live.ensures.live (nothing_last c.self.inside c.args.self.now c.args.app c.args.pipe c.self.view_is c.requires.none) c.take-oldest.ensures.oldest c.take-oldest.ensures.rows c.requires.own c.args.held.now c.requires.bag,
    )

pub show-number-requires-clause-sealed : goal.show-number-requires-clause-sealed
show-number-requires-clause-sealed c =
    front_sealed c.self.inside c.args.self.now c.args.app c.args.pipe None c.take-oldest.result.after c.take-oldest.new.self c.self.inside.desk c.self.inside.desk
    c.self.view_is c.self.invariant c.recall_order.ensures c.recall_live.ensures.live (nothing_last c.self.inside c.args.self.now c.args.app c.args.pipe c.self.view_is c.requires.none) c.take-oldest.ensures.oldest c.take-oldest.ensures.rows refl

pub show-number-requires-clause-few : goal.show-number-requires-clause-few
show-number-requires-clause-few c =
    next_few c.self.inside c.args.self.now c.args.app c.args.pipe None c.take-oldest.result.after c.take-oldest.new.self c.self.inside.desk c.self.inside.desk
    c.self.view_is c.self.invariant c.recall_order.ensures c.recall_live.ensures.live (nothing_last c.self.inside c.args.self.now c.args.app c.args.pipe c.self.view_is c.requires.none) c.take-oldest.ensures.oldest c.take-oldest.ensures.rows

pub invariant_of-self : goal.invariant_of-self
invariant_of-self c =
    received_keeps c.self.inside c.args.self.now c.args.app c.args.pipe None c.take-oldest.result.after c.take-oldest.new.self c.self.inside.desk c.show-number.new.desk
    c.self.view_is c.self.invariant c.recall_order.ensures c.recall_live.ensures.live (nothing_last c.self.inside c.args.self.now c.args.app c.args.pipe c.self.view_is c.requires.none) c.take-oldest.ensures.oldest c.take-oldest.ensures.rows refl c.show-number.ensures.desk

pub returns-clause-number : goal.returns-clause-number
returns-clause-number c =
    received_number c.self.inside c.args.self.now c.args.app c.args.pipe None c.take-oldest.result.after c.take-oldest.new.self c.self.inside.desk c.show-number.new.desk
    c.self.view_is c.self.invariant c.recall_order.ensures c.recall_live.ensures.live (nothing_last c.self.inside c.args.self.now c.args.app c.args.pipe c.self.view_is c.requires.none) c.take-oldest.ensures.oldest c.take-oldest.ensures.rows c.show-number.result c.show-number.ensures.number

pub returns-clause-after : goal.returns-clause-after
returns-clause-after c =
    received_held c.self.inside c.args.self.now c.args.app c.args.pipe None c.take-oldest.result.after c.take-oldest.new.self c.self.inside.desk c.show-number.new.desk
    c.self.view_is c.self.invariant c.recall_order.ensures c.recall_live.ensures.live (nothing_last c.self.inside c.args.self.now c.args.app c.args.pipe c.self.view_is c.requires.none) c.take-oldest.ensures.oldest c.take-oldest.ensures.rows refl c.show-number.ensures.desk c.recall_live-2.ensures.live

pub returns-clause-loans : goal.returns-clause-loans
returns-clause-loans c =
    received_loans c.self.inside c.args.self.now c.args.app c.args.pipe None c.take-oldest.result.after c.take-oldest.new.self c.self.inside.desk c.show-number.new.desk
    c.self.view_is c.self.invariant c.recall_order.ensures c.recall_live.ensures.live (nothing_last c.self.inside c.args.self.now c.args.app c.args.pipe c.self.view_is c.requires.none) c.take-oldest.ensures.oldest c.take-oldest.ensures.rows refl c.show-number.ensures.desk

pub returns-clause-bag : goal.returns-clause-bag
returns-clause-bag c =
    received_bag c.self.inside c.args.self.now c.args.app c.args.pipe None c.take-oldest.result.after c.take-oldest.new.self c.self.inside.desk c.show-number.new.desk
    c.self.view_is c.self.invariant c.recall_order.ensures c.recall_live.ensures.live (nothing_last c.self.inside c.args.self.now c.args.app c.args.pipe c.self.view_is c.requires.none) c.take-oldest.ensures.oldest c.take-oldest.ensures.rows refl c.show-number.ensures.desk c.requires.own c.args.held.now c.show-number.new.held c.requires.bag
    c.show-number.ensures.seen (add-zero (length c.show-number.new.held.views) ∙ c.show-number.ensures.more) (ap (λ (h : Holding LentBytes). h.view_room) c.show-number.ensures.same)

pub returns-clause-other_bags : goal.returns-clause-other_bags
returns-clause-other_bags c = λ other bag not_own.
    received_others c.self.inside c.args.self.now c.args.app c.args.pipe None c.take-oldest.result.after c.take-oldest.new.self c.self.inside.desk c.show-number.new.desk
    c.self.view_is c.self.invariant c.recall_order.ensures c.recall_live.ensures.live (nothing_last c.self.inside c.args.self.now c.args.app c.args.pipe c.self.view_is c.requires.none) c.take-oldest.ensures.oldest c.take-oldest.ensures.rows refl c.show-number.ensures.desk c.requires.own other not_own bag
