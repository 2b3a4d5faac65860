use Rattle.std.proofs.Common.{ap, sym, ◌∙◌}
use Rattle.zero_copy.specs.Held.{held_by}
use Rattle.buf_desc.specs.Desk.{freed}
use Rattle.bus_words.specs.Bus.{has_unsent}
use Rattle.bus_messages.proofs.BufferReleases.{is_freed, without_newest, newest_mine, newest_has, newest_block, has_apart}
use Rattle.bus_messages.proofs.OwnBuffers.{one_held, own_block, number_is}
use Rattle.bus_messages.proofs.store.BusStore.release_newest.Goals as goal

pub give_up-requires : goal.give_up-requires
give_up-requires g c = record {
  own = own_block c.self.inside c.args.self.now c.args.app c.number-buf.result c.self.view_is c.self.invariant
      (ap (has_unsent c.args.self.now.unsent c.args.app) c.number-buf.ensures ∙ newest_has c.self.inside c.args.self.now c.args.app c.in_ok-desc.desc (held_by c.take_first.new.self c.args.app) c.self.view_is c.self.invariant c.in_ok-desc.ensures.first) c.args.held.now (one_held _ _ _ _ _ _ c.requires.bag) c.unwrap-block.result (sym c.unwrap-block.ensures ∙ c.take_buffer.ensures.found);
}

pub invariant_of-self-2 : goal.invariant_of-self-2
invariant_of-self-2 g c =
    let done =
    is_freed c.self.inside c.args.self.now c.args.app c.number-buf.result c.in_ok-desc.desc c.give_up.new.self c.take_first.new.self c.self.view_is c.self.invariant c.requires.bag.known
    (newest_mine c.self.inside c.args.self.now c.args.app c.in_ok-desc.desc (held_by c.take_first.new.self c.args.app) c.self.view_is c.self.invariant c.in_ok-desc.ensures.first) (sym c.number-buf.ensures)
    (without_newest c.self.inside c.args.app c.in_ok-desc.desc c.take_first.new.self c.self.invariant c.in_ok-desc.ensures.first c.take_first.ensures.after)
    c.recall_live.ensures.live
    (c.give_up.ensures.after
    ∙ ap (freed c.self.inside.desk)
    (newest_block c.self.inside c.args.self.now c.args.app c.in_ok-desc.desc (held_by c.take_first.new.self c.args.app) c.self.view_is c.self.invariant c.in_ok-desc.ensures.first c.unwrap-block.result
    (own_block c.self.inside c.args.self.now c.args.app c.number-buf.result c.self.view_is c.self.invariant
    (ap (has_unsent c.args.self.now.unsent c.args.app) c.number-buf.ensures ∙ newest_has c.self.inside c.args.self.now c.args.app c.in_ok-desc.desc (held_by c.take_first.new.self c.args.app) c.self.view_is c.self.invariant c.in_ok-desc.ensures.first) c.args.held.now (one_held _ _ _ _ _ _ c.requires.bag) c.unwrap-block.result (sym c.unwrap-block.ensures ∙ c.take_buffer.ensures.found))
    (number_is c.self.inside c.args.self.now c.args.app c.number-buf.result c.self.view_is c.self.invariant
    (ap (has_unsent c.args.self.now.unsent c.args.app) c.number-buf.ensures ∙ newest_has c.self.inside c.args.self.now c.args.app c.in_ok-desc.desc (held_by c.take_first.new.self c.args.app) c.self.view_is c.self.invariant c.in_ok-desc.ensures.first) c.args.held.now (one_held _ _ _ _ _ _ c.requires.bag) c.unwrap-block.result (sym c.unwrap-block.ensures ∙ c.take_buffer.ensures.found) ∙ c.number-buf.ensures))) in
    done.keeps

pub returns-clause-after : goal.returns-clause-after
returns-clause-after g c =
    let done =
    is_freed c.self.inside c.args.self.now c.args.app c.number-buf.result c.in_ok-desc.desc c.give_up.new.self c.take_first.new.self c.self.view_is c.self.invariant c.requires.bag.known
    (newest_mine c.self.inside c.args.self.now c.args.app c.in_ok-desc.desc (held_by c.take_first.new.self c.args.app) c.self.view_is c.self.invariant c.in_ok-desc.ensures.first) (sym c.number-buf.ensures)
    (without_newest c.self.inside c.args.app c.in_ok-desc.desc c.take_first.new.self c.self.invariant c.in_ok-desc.ensures.first c.take_first.ensures.after)
    c.recall_live.ensures.live
    (c.give_up.ensures.after
    ∙ ap (freed c.self.inside.desk)
    (newest_block c.self.inside c.args.self.now c.args.app c.in_ok-desc.desc (held_by c.take_first.new.self c.args.app) c.self.view_is c.self.invariant c.in_ok-desc.ensures.first c.unwrap-block.result
    (own_block c.self.inside c.args.self.now c.args.app c.number-buf.result c.self.view_is c.self.invariant
    (ap (has_unsent c.args.self.now.unsent c.args.app) c.number-buf.ensures ∙ newest_has c.self.inside c.args.self.now c.args.app c.in_ok-desc.desc (held_by c.take_first.new.self c.args.app) c.self.view_is c.self.invariant c.in_ok-desc.ensures.first) c.args.held.now (one_held _ _ _ _ _ _ c.requires.bag) c.unwrap-block.result (sym c.unwrap-block.ensures ∙ c.take_buffer.ensures.found))
    (number_is c.self.inside c.args.self.now c.args.app c.number-buf.result c.self.view_is c.self.invariant
    (ap (has_unsent c.args.self.now.unsent c.args.app) c.number-buf.ensures ∙ newest_has c.self.inside c.args.self.now c.args.app c.in_ok-desc.desc (held_by c.take_first.new.self c.args.app) c.self.view_is c.self.invariant c.in_ok-desc.ensures.first) c.args.held.now (one_held _ _ _ _ _ _ c.requires.bag) c.unwrap-block.result (sym c.unwrap-block.ensures ∙ c.take_buffer.ensures.found) ∙ c.number-buf.ensures))) in
    done.store c.recall_live-2.ensures.live

pub returns-clause-descs : goal.returns-clause-descs
returns-clause-descs g c = λ other none.
    let done =
    is_freed c.self.inside c.args.self.now c.args.app c.number-buf.result c.in_ok-desc.desc c.give_up.new.self c.take_first.new.self c.self.view_is c.self.invariant c.requires.bag.known
    (newest_mine c.self.inside c.args.self.now c.args.app c.in_ok-desc.desc (held_by c.take_first.new.self c.args.app) c.self.view_is c.self.invariant c.in_ok-desc.ensures.first) (sym c.number-buf.ensures)
    (without_newest c.self.inside c.args.app c.in_ok-desc.desc c.take_first.new.self c.self.invariant c.in_ok-desc.ensures.first c.take_first.ensures.after)
    c.recall_live.ensures.live
    (c.give_up.ensures.after
    ∙ ap (freed c.self.inside.desk)
    (newest_block c.self.inside c.args.self.now c.args.app c.in_ok-desc.desc (held_by c.take_first.new.self c.args.app) c.self.view_is c.self.invariant c.in_ok-desc.ensures.first c.unwrap-block.result
    (own_block c.self.inside c.args.self.now c.args.app c.number-buf.result c.self.view_is c.self.invariant
    (ap (has_unsent c.args.self.now.unsent c.args.app) c.number-buf.ensures ∙ newest_has c.self.inside c.args.self.now c.args.app c.in_ok-desc.desc (held_by c.take_first.new.self c.args.app) c.self.view_is c.self.invariant c.in_ok-desc.ensures.first) c.args.held.now (one_held _ _ _ _ _ _ c.requires.bag) c.unwrap-block.result (sym c.unwrap-block.ensures ∙ c.take_buffer.ensures.found))
    (number_is c.self.inside c.args.self.now c.args.app c.number-buf.result c.self.view_is c.self.invariant
    (ap (has_unsent c.args.self.now.unsent c.args.app) c.number-buf.ensures ∙ newest_has c.self.inside c.args.self.now c.args.app c.in_ok-desc.desc (held_by c.take_first.new.self c.args.app) c.self.view_is c.self.invariant c.in_ok-desc.ensures.first) c.args.held.now (one_held _ _ _ _ _ _ c.requires.bag) c.unwrap-block.result (sym c.unwrap-block.ensures ∙ c.take_buffer.ensures.found) ∙ c.number-buf.ensures))) in
    done.descs other (has_apart c.args.self.now.unsent c.args.app c.number-buf.result other (ap (has_unsent c.args.self.now.unsent c.args.app) c.number-buf.ensures ∙ newest_has c.self.inside c.args.self.now c.args.app c.in_ok-desc.desc (held_by c.take_first.new.self c.args.app) c.self.view_is c.self.invariant c.in_ok-desc.ensures.first) none)

pub returns-clause-bag : goal.returns-clause-bag
returns-clause-bag g c =
    let done =
    is_freed c.self.inside c.args.self.now c.args.app c.number-buf.result c.in_ok-desc.desc c.give_up.new.self c.take_first.new.self c.self.view_is c.self.invariant c.requires.bag.known
    (newest_mine c.self.inside c.args.self.now c.args.app c.in_ok-desc.desc (held_by c.take_first.new.self c.args.app) c.self.view_is c.self.invariant c.in_ok-desc.ensures.first) (sym c.number-buf.ensures)
    (without_newest c.self.inside c.args.app c.in_ok-desc.desc c.take_first.new.self c.self.invariant c.in_ok-desc.ensures.first c.take_first.ensures.after)
    c.recall_live.ensures.live
    (c.give_up.ensures.after
    ∙ ap (freed c.self.inside.desk)
    (newest_block c.self.inside c.args.self.now c.args.app c.in_ok-desc.desc (held_by c.take_first.new.self c.args.app) c.self.view_is c.self.invariant c.in_ok-desc.ensures.first c.unwrap-block.result
    (own_block c.self.inside c.args.self.now c.args.app c.number-buf.result c.self.view_is c.self.invariant
    (ap (has_unsent c.args.self.now.unsent c.args.app) c.number-buf.ensures ∙ newest_has c.self.inside c.args.self.now c.args.app c.in_ok-desc.desc (held_by c.take_first.new.self c.args.app) c.self.view_is c.self.invariant c.in_ok-desc.ensures.first) c.args.held.now (one_held _ _ _ _ _ _ c.requires.bag) c.unwrap-block.result (sym c.unwrap-block.ensures ∙ c.take_buffer.ensures.found))
    (number_is c.self.inside c.args.self.now c.args.app c.number-buf.result c.self.view_is c.self.invariant
    (ap (has_unsent c.args.self.now.unsent c.args.app) c.number-buf.ensures ∙ newest_has c.self.inside c.args.self.now c.args.app c.in_ok-desc.desc (held_by c.take_first.new.self c.args.app) c.self.view_is c.self.invariant c.in_ok-desc.ensures.first) c.args.held.now (one_held _ _ _ _ _ _ c.requires.bag) c.unwrap-block.result (sym c.unwrap-block.ensures ∙ c.take_buffer.ensures.found) ∙ c.number-buf.ensures))) in
    done.bag c.args.held.now c.take_buffer.new.self c.requires.bag c.take_buffer.ensures.seen

pub returns-clause-other_bags : goal.returns-clause-other_bags
returns-clause-other_bags g c =
    let done =
    is_freed c.self.inside c.args.self.now c.args.app c.number-buf.result c.in_ok-desc.desc c.give_up.new.self c.take_first.new.self c.self.view_is c.self.invariant c.requires.bag.known
    (newest_mine c.self.inside c.args.self.now c.args.app c.in_ok-desc.desc (held_by c.take_first.new.self c.args.app) c.self.view_is c.self.invariant c.in_ok-desc.ensures.first) (sym c.number-buf.ensures)
    (without_newest c.self.inside c.args.app c.in_ok-desc.desc c.take_first.new.self c.self.invariant c.in_ok-desc.ensures.first c.take_first.ensures.after)
    c.recall_live.ensures.live
    (c.give_up.ensures.after
    ∙ ap (freed c.self.inside.desk)
    (newest_block c.self.inside c.args.self.now c.args.app c.in_ok-desc.desc (held_by c.take_first.new.self c.args.app) c.self.view_is c.self.invariant c.in_ok-desc.ensures.first c.unwrap-block.result
    (own_block c.self.inside c.args.self.now c.args.app c.number-buf.result c.self.view_is c.self.invariant
    (ap (has_unsent c.args.self.now.unsent c.args.app) c.number-buf.ensures ∙ newest_has c.self.inside c.args.self.now c.args.app c.in_ok-desc.desc (held_by c.take_first.new.self c.args.app) c.self.view_is c.self.invariant c.in_ok-desc.ensures.first) c.args.held.now (one_held _ _ _ _ _ _ c.requires.bag) c.unwrap-block.result (sym c.unwrap-block.ensures ∙ c.take_buffer.ensures.found))
    (number_is c.self.inside c.args.self.now c.args.app c.number-buf.result c.self.view_is c.self.invariant
    (ap (has_unsent c.args.self.now.unsent c.args.app) c.number-buf.ensures ∙ newest_has c.self.inside c.args.self.now c.args.app c.in_ok-desc.desc (held_by c.take_first.new.self c.args.app) c.self.view_is c.self.invariant c.in_ok-desc.ensures.first) c.args.held.now (one_held _ _ _ _ _ _ c.requires.bag) c.unwrap-block.result (sym c.unwrap-block.ensures ∙ c.take_buffer.ensures.found) ∙ c.number-buf.ensures))) in
    done.others
