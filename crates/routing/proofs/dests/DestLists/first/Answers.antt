use Rattle.std.proofs.Common.{◌+◌, ◌<◌, ◌*◌, ◌∙◌, length, get_or, ap, sym, arith}
use Rattle.routing.specs.Dests.{dests_in, first_dest}
use Rattle.routing.specs.Inside.{rings}
use Rattle.routing.proofs.Links.{first_shown, shown}
use Rattle.routing.proofs.Nodes.{length-rings, ring, below}
use Rattle.routing.proofs.ListViews.{length-seen, get_or-seen, shown_exists, seen_room}
use Rattle.routing.proofs.dests.DestLists.first.Goals as goal

pub overflow_add-anchor : goal.overflow_add-anchor
overflow_add-anchor g c =
    let s = c.self.inside in
    omega (arith, c.self.invariant.few, length-seen s.subs.items (rings s.links s.nodes s.lens.items), length-rings s.links s.nodes s.lens.items, ap (λ v. length v.lists) c.self.view_is)

pub dest_behind-requires-clause-place : goal.dest_behind-requires-clause-place
dest_behind-requires-clause-place g c =
    let s = c.self.inside in
    omega (arith, c.self.invariant.links_all, length-seen s.subs.items (rings s.links s.nodes s.lens.items), length-rings s.links s.nodes s.lens.items, ap (λ v. length v.lists) c.self.view_is)

pub returns-clause-first : goal.returns-clause-first
returns-clause-first g c =
    let s = c.self.inside in
    let list = c.args.list in
    let lists = rings s.links s.nodes s.lens.items in
    let h : list < length s.lens.items = omega (arith, length-seen s.subs.items lists, length-rings s.links s.nodes s.lens.items, ap (λ v. length v.lists) c.self.view_is) in
    c.dest_behind.ensures.answer
    ∙ (ap (λ ss. shown ss s.nodes (get_or s.links (s.nodes + list) 0)) c.deref.ensures.value
    ∙ (first_shown s.links s.subs.items s.nodes (s.nodes + list) (ring s.links s.nodes s.lens.items list) (s.nodes + list) (c.self.invariant.linked list h) (omega arith) (below s.links s.tails s.lens.items s.subs.items s.nodes s.limit s.free c.self.invariant list h)
    ∙ (ap first_dest (sym (get_or-seen s.subs.items lists list))
    ∙ ap (λ v. first_dest (dests_in v list)) c.self.view_is)))

pub returns-clause-exists : goal.returns-clause-exists
returns-clause-exists g c =
    let s = c.self.inside in
    shown_exists c.deref.result.now s.nodes (get_or s.links (s.nodes + c.args.list) 0) c.dest_behind.result (length c.args.self.now.lists * c.args.self.now.limit)
    (seen_room s.links s.tails s.lens.items s.subs.items s.nodes s.limit s.free c.self.invariant c.args.self.now c.self.view_is) c.dest_behind.ensures.answer
