use Rattle.std.proofs.Common.{◌+◌, ◌-◌, ◌∷◌, Some, set, refl, ap, ◌∙◌}
use Rattle.fsw_base.specs.PoolAccounts.{has_room}
use Rattle.zero_copy.specs.Held.{HeldDescs, held_by}
use Rattle.bus_messages.specs.Bag.{with_lent}
use Rattle.bus_messages.specs.Store.{Store}
use Rattle.bus_messages.proofs.LentBuffers.{none_held, none_lent, seen_whole}
use Rattle.bus_messages.proofs.Pool.{room_counted}
use Rattle.bus_messages.proofs.NewBuffers.{none_there, given_keeps, given_held, given_descs, given_others, given_bag}
use Rattle.bus_messages.proofs.store.BusStore.allocate.Goals as goal

pub drawn_empty-block-requires : goal.drawn_empty-block-requires
drawn_empty-block-requires g c =
    let a = c.self.inside in
    record {
      room =
          room_counted a.desk.pool c.args.size c.self.invariant.backed.tied.account
          ∙ ap (λ (o : Store). has_room o.account c.args.size) c.self.view_is
          ∙ c.requires.room;
    }

pub put_buffer-requires-clause-new : goal.put_buffer-requires-clause-new
put_buffer-requires-clause-new g c =
    none_held c.args.held.now c.requires.bag.lent c.drawn_empty-block.result.number
    (none_there c.self.inside c.args.self.now c.args.app c.args.size (c.self.inside.given + 1) c.drawn_empty-block.result c.drawn_empty-block.new.desk c.self.inside.lists c.self.view_is c.self.invariant c.requires.bag.holds.known c.requires.app c.requires.room refl c.drawn_empty-block.ensures.taken c.drawn_empty-block.ensures.own c.recall_live.ensures.live (with_lent c.args.held.now c.requires.bag.lent) c.requires.bag.holds c.drawn_empty-block.ensures.taken.sent_as)

pub invariant_of-self : goal.invariant_of-self
invariant_of-self g c =
    given_keeps c.self.inside c.args.self.now c.args.app c.args.size (c.self.inside.given + 1) c.drawn_empty-block.result c.drawn_empty-block.new.desk c.hold.new.self c.self.view_is c.self.invariant c.requires.bag.holds.known c.requires.app c.requires.room refl c.drawn_empty-block.ensures.taken c.drawn_empty-block.ensures.own c.recall_live.ensures.live (c.hold.ensures.after ∙ ap (λ n. let v : HeldDescs = record c.self.inside.lists { lists = set c.self.inside.lists.lists (c.args.app - 1) (n ∷ held_by c.self.inside.lists c.args.app) } in v) c.desc.ensures)

pub returns-clause-after : goal.returns-clause-after
returns-clause-after g c =
    given_held c.self.inside c.args.self.now c.args.app c.args.size (c.self.inside.given + 1) c.drawn_empty-block.result c.drawn_empty-block.new.desk c.hold.new.self c.self.view_is c.self.invariant c.requires.bag.holds.known c.requires.app c.requires.room refl c.drawn_empty-block.ensures.taken c.drawn_empty-block.ensures.own c.recall_live.ensures.live (c.hold.ensures.after ∙ ap (λ n. let v : HeldDescs = record c.self.inside.lists { lists = set c.self.inside.lists.lists (c.args.app - 1) (n ∷ held_by c.self.inside.lists c.args.app) } in v) c.desc.ensures) c.recall_live-2.ensures.live

pub returns-clause-descs : goal.returns-clause-descs
returns-clause-descs g c =
    given_descs c.self.inside c.args.self.now c.args.app c.args.size (c.self.inside.given + 1) c.drawn_empty-block.result c.drawn_empty-block.new.desk c.hold.new.self c.self.view_is c.self.invariant c.requires.bag.holds.known c.requires.app c.requires.room refl c.drawn_empty-block.ensures.taken c.drawn_empty-block.ensures.own c.recall_live.ensures.live (c.hold.ensures.after ∙ ap (λ n. let v : HeldDescs = record c.self.inside.lists { lists = set c.self.inside.lists.lists (c.args.app - 1) (n ∷ held_by c.self.inside.lists c.args.app) } in v) c.desc.ensures)

pub returns-clause-bag : goal.returns-clause-bag
returns-clause-bag g c = λ lent holds.
    given_bag c.self.inside c.args.self.now c.args.app c.args.size (c.self.inside.given + 1) c.drawn_empty-block.result c.drawn_empty-block.new.desk c.hold.new.self c.self.view_is c.self.invariant c.requires.bag.holds.known c.requires.app c.requires.room refl c.drawn_empty-block.ensures.taken c.drawn_empty-block.ensures.own c.recall_live.ensures.live (c.hold.ensures.after ∙ ap (λ n. let v : HeldDescs = record c.self.inside.lists { lists = set c.self.inside.lists.lists (c.args.app - 1) (n ∷ held_by c.self.inside.lists c.args.app) } in v) c.desc.ensures) (with_lent c.args.held.now lent) (with_lent c.put_buffer.new.self lent) holds
    (seen_whole c.args.held.now c.put_buffer.new.self lent c.drawn_empty-block.result.number (Some c.drawn_empty-block.result)
    (none_lent c.args.held.now lent c.drawn_empty-block.result.number
    (none_there c.self.inside c.args.self.now c.args.app c.args.size (c.self.inside.given + 1) c.drawn_empty-block.result c.drawn_empty-block.new.desk c.self.inside.lists c.self.view_is c.self.invariant c.requires.bag.holds.known c.requires.app c.requires.room refl c.drawn_empty-block.ensures.taken c.drawn_empty-block.ensures.own c.recall_live.ensures.live (with_lent c.args.held.now lent) holds c.drawn_empty-block.ensures.taken.sent_as))
    c.put_buffer.ensures.seen)

pub returns-clause-other_bags : goal.returns-clause-other_bags
returns-clause-other_bags g c = λ other bag apart.
    given_others c.self.inside c.args.self.now c.args.app c.args.size (c.self.inside.given + 1) c.drawn_empty-block.result c.drawn_empty-block.new.desk c.hold.new.self c.self.view_is c.self.invariant c.requires.bag.holds.known c.requires.app c.requires.room refl c.drawn_empty-block.ensures.taken c.drawn_empty-block.ensures.own c.recall_live.ensures.live (c.hold.ensures.after ∙ ap (λ n. let v : HeldDescs = record c.self.inside.lists { lists = set c.self.inside.lists.lists (c.args.app - 1) (n ∷ held_by c.self.inside.lists c.args.app) } in v) c.desc.ensures) other bag apart
