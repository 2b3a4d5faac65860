use Rattle.std.proofs.Common.{◌+◌, ◌<◌, ◌*◌, ◌∙◌, length, get_or, ap, sym, arith}
use Rattle.routing.specs.Dests.{dests_in}
use Rattle.routing.specs.Inside.{rings}
use Rattle.routing.proofs.Links.{behind_shown, shown}
use Rattle.routing.proofs.Nodes.{length-rings, ring, below}
use Rattle.routing.proofs.ListViews.{length-seen, get_or-seen, shown_exists, seen_room}
use Rattle.routing.proofs.dests.DestLists.next.Goals as goal

pub dest_behind-requires-clause-place : goal.dest_behind-requires-clause-place
dest_behind-requires-clause-place g c =
    let s = c.self.inside in
    omega (arith, c.self.invariant.links_all, c.requires, seen_room s.links s.tails s.lens.items s.subs.items s.nodes s.limit s.free c.self.invariant c.args.self.now c.self.view_is)

pub returns-clause-behind : goal.returns-clause-behind
returns-clause-behind g c = λ list before behind sub h e.
    let s = c.self.inside in
    let lists = rings s.links s.nodes s.lens.items in
    let within : list < length s.lens.items = omega (arith, h, length-seen s.subs.items lists, length-rings s.links s.nodes s.lens.items, ap (λ v. length v.lists) c.self.view_is) in
    c.dest_behind.ensures.answer
    ∙ (ap (λ ss. shown ss s.nodes (get_or s.links c.args.node 0)) c.deref.ensures.value
    ∙ behind_shown s.links s.subs.items s.nodes (s.nodes + list) (ring s.links s.nodes s.lens.items list) (s.nodes + list) c.args.node before behind sub (c.self.invariant.linked list within) (omega arith)
    (below s.links s.tails s.lens.items s.subs.items s.nodes s.limit s.free c.self.invariant list within)
    (sym (get_or-seen s.subs.items lists list) ∙ (ap (λ v. dests_in v list) c.self.view_is ∙ e)))

pub returns-clause-exists : goal.returns-clause-exists
returns-clause-exists g c =
    let s = c.self.inside in
    shown_exists c.deref.result.now s.nodes (get_or s.links c.args.node 0) c.dest_behind.result (length c.args.self.now.lists * c.args.self.now.limit)
    (seen_room s.links s.tails s.lens.items s.subs.items s.nodes s.limit s.free c.self.invariant c.args.self.now c.self.view_is) c.dest_behind.ensures.answer
