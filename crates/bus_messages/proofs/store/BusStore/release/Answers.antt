use Rattle.std.proofs.Common.{◌-◌, ◌<◌, None, set, ap, sym, ◌∙◌, subst}
use Rattle.bucket_list.specs.Lists.{times_in}
use Rattle.zero_copy.specs.Held.{HeldDescs, held_by, without}
use Rattle.bus_messages.specs.Bag.{with_lent}
use Rattle.bus_messages.proofs.BufferReleases.{is_freed}
use Rattle.bus_messages.proofs.LentBuffers.{seen_whole}
use Rattle.bus_messages.proofs.ListChanges.{list_of}
use Rattle.bus_messages.proofs.OwnBuffers.{own_block, in_list, numbered_block}
use Rattle.bus_messages.proofs.store.BusStore.release.Goals as goal

pub let_go-requires-clause-held : goal.let_go-requires-clause-held
let_go-requires-clause-held g c =
    subst (λ n. 0 < times_in (list_of c.self.inside.lists.lists c.args.app) n) (sym c.desc.ensures)
    (in_list c.self.inside c.args.self.now c.args.app c.args.buf c.self.view_is c.self.invariant c.requires.has c.args.held.now c.requires.bag c.unwrap-block.result (sym c.unwrap-block.ensures ∙ c.take_buffer.ensures.found))

pub give_up-requires : goal.give_up-requires
give_up-requires g c = record { own = own_block c.self.inside c.args.self.now c.args.app c.args.buf c.self.view_is c.self.invariant c.requires.has c.args.held.now c.requires.bag c.unwrap-block.result (sym c.unwrap-block.ensures ∙ c.take_buffer.ensures.found) }

pub invariant_of-self : goal.invariant_of-self
invariant_of-self g c =
    let freed =
    is_freed c.self.inside c.args.self.now c.args.app c.args.buf c.unwrap-block.result.desc c.give_up.new.self c.let_go.new.self c.self.view_is c.self.invariant c.requires.bag.known
    (in_list c.self.inside c.args.self.now c.args.app c.args.buf c.self.view_is c.self.invariant c.requires.has c.args.held.now c.requires.bag c.unwrap-block.result (sym c.unwrap-block.ensures ∙ c.take_buffer.ensures.found))
    (numbered_block c.self.inside c.args.self.now c.args.app c.args.buf c.self.view_is c.self.invariant c.requires.has c.args.held.now c.requires.bag c.unwrap-block.result (sym c.unwrap-block.ensures ∙ c.take_buffer.ensures.found))
    (c.let_go.ensures.after ∙ ap (λ n. let v : HeldDescs = record c.self.inside.lists { lists = set c.self.inside.lists.lists (c.args.app - 1) (without n (held_by c.self.inside.lists c.args.app)) } in v) c.desc.ensures)
    c.recall_live.ensures.live c.give_up.ensures.after in
    freed.keeps

pub returns-clause-after : goal.returns-clause-after
returns-clause-after g c =
    let freed =
    is_freed c.self.inside c.args.self.now c.args.app c.args.buf c.unwrap-block.result.desc c.give_up.new.self c.let_go.new.self c.self.view_is c.self.invariant c.requires.bag.known
    (in_list c.self.inside c.args.self.now c.args.app c.args.buf c.self.view_is c.self.invariant c.requires.has c.args.held.now c.requires.bag c.unwrap-block.result (sym c.unwrap-block.ensures ∙ c.take_buffer.ensures.found))
    (numbered_block c.self.inside c.args.self.now c.args.app c.args.buf c.self.view_is c.self.invariant c.requires.has c.args.held.now c.requires.bag c.unwrap-block.result (sym c.unwrap-block.ensures ∙ c.take_buffer.ensures.found))
    (c.let_go.ensures.after ∙ ap (λ n. let v : HeldDescs = record c.self.inside.lists { lists = set c.self.inside.lists.lists (c.args.app - 1) (without n (held_by c.self.inside.lists c.args.app)) } in v) c.desc.ensures)
    c.recall_live.ensures.live c.give_up.ensures.after in
    freed.store c.recall_live-2.ensures.live

pub returns-clause-descs : goal.returns-clause-descs
returns-clause-descs g c =
    let freed =
    is_freed c.self.inside c.args.self.now c.args.app c.args.buf c.unwrap-block.result.desc c.give_up.new.self c.let_go.new.self c.self.view_is c.self.invariant c.requires.bag.known
    (in_list c.self.inside c.args.self.now c.args.app c.args.buf c.self.view_is c.self.invariant c.requires.has c.args.held.now c.requires.bag c.unwrap-block.result (sym c.unwrap-block.ensures ∙ c.take_buffer.ensures.found))
    (numbered_block c.self.inside c.args.self.now c.args.app c.args.buf c.self.view_is c.self.invariant c.requires.has c.args.held.now c.requires.bag c.unwrap-block.result (sym c.unwrap-block.ensures ∙ c.take_buffer.ensures.found))
    (c.let_go.ensures.after ∙ ap (λ n. let v : HeldDescs = record c.self.inside.lists { lists = set c.self.inside.lists.lists (c.args.app - 1) (without n (held_by c.self.inside.lists c.args.app)) } in v) c.desc.ensures)
    c.recall_live.ensures.live c.give_up.ensures.after in
    freed.descs

pub returns-clause-bag : goal.returns-clause-bag
returns-clause-bag g c = λ lent none holds.
    let freed =
    is_freed c.self.inside c.args.self.now c.args.app c.args.buf c.unwrap-block.result.desc c.give_up.new.self c.let_go.new.self c.self.view_is c.self.invariant c.requires.bag.known
    (in_list c.self.inside c.args.self.now c.args.app c.args.buf c.self.view_is c.self.invariant c.requires.has c.args.held.now c.requires.bag c.unwrap-block.result (sym c.unwrap-block.ensures ∙ c.take_buffer.ensures.found))
    (numbered_block c.self.inside c.args.self.now c.args.app c.args.buf c.self.view_is c.self.invariant c.requires.has c.args.held.now c.requires.bag c.unwrap-block.result (sym c.unwrap-block.ensures ∙ c.take_buffer.ensures.found))
    (c.let_go.ensures.after ∙ ap (λ n. let v : HeldDescs = record c.self.inside.lists { lists = set c.self.inside.lists.lists (c.args.app - 1) (without n (held_by c.self.inside.lists c.args.app)) } in v) c.desc.ensures)
    c.recall_live.ensures.live c.give_up.ensures.after in
    freed.bag (with_lent c.args.held.now lent) (with_lent c.take_buffer.new.self lent) holds
    (seen_whole c.args.held.now c.take_buffer.new.self lent c.args.buf None none c.take_buffer.ensures.seen)

pub returns-clause-other_bags : goal.returns-clause-other_bags
returns-clause-other_bags g c =
    let freed =
    is_freed c.self.inside c.args.self.now c.args.app c.args.buf c.unwrap-block.result.desc c.give_up.new.self c.let_go.new.self c.self.view_is c.self.invariant c.requires.bag.known
    (in_list c.self.inside c.args.self.now c.args.app c.args.buf c.self.view_is c.self.invariant c.requires.has c.args.held.now c.requires.bag c.unwrap-block.result (sym c.unwrap-block.ensures ∙ c.take_buffer.ensures.found))
    (numbered_block c.self.inside c.args.self.now c.args.app c.args.buf c.self.view_is c.self.invariant c.requires.has c.args.held.now c.requires.bag c.unwrap-block.result (sym c.unwrap-block.ensures ∙ c.take_buffer.ensures.found))
    (c.let_go.ensures.after ∙ ap (λ n. let v : HeldDescs = record c.self.inside.lists { lists = set c.self.inside.lists.lists (c.args.app - 1) (without n (held_by c.self.inside.lists c.args.app)) } in v) c.desc.ensures)
    c.recall_live.ensures.live c.give_up.ensures.after in
    freed.others
