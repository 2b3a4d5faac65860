use Rattle.std.proofs.Common.{◌≡◌, ◌+◌, ◌<◌, ◌∙◌, ◌++◌, ◌∷◌, [], length, get_or, set, refl, ap, sym, subst, arith}
use Rattle.std.proofs.lemmas.List.{get_or_read, length-set}
use Rattle.routing.specs.Dests.{DestTable, dests_in, last_node, has_node}
use Rattle.routing.specs.Inside.{rings, dests_seen}
use Rattle.routing.proofs.Nodes.{Changed, ring, inside, adds, taken_loose, last_inside}
use Rattle.routing.proofs.Room.{node_left}
use Rattle.routing.proofs.ListViews.{list_inside, list_long, adds_seen}
use Rattle.routing.proofs.dests.DestLists.add.Goals as goal

pub overflow_add-anchor : goal.overflow_add-anchor
overflow_add-anchor g c =
    let s = c.self.inside in
    let list = c.args.list in
    let h : list < length s.lens.items = list_inside s.subs.items s.links s.nodes s.lens.items s.limit c.args.self.now c.self.view_is list c.requires.list in
    omega (arith, h, c.self.invariant.few)

pub index-requires : goal.index-requires
index-requires g c =
    let s = c.self.inside in
    let list = c.args.list in
    let h : list < length s.lens.items = list_inside s.subs.items s.links s.nodes s.lens.items s.limit c.args.self.now c.self.view_is list c.requires.list in
    omega (arith, h, s.lens.ok)

pub last_place-last-requires : goal.last_place-last-requires
last_place-last-requires g c =
    let s = c.self.inside in
    let list = c.args.list in
    let h : list < length s.lens.items = list_inside s.subs.items s.links s.nodes s.lens.items s.limit c.args.self.now c.self.view_is list c.requires.list in
    omega (arith, h, c.self.invariant.tails_all)

pub take_node-node-requires-clause-left : goal.take_node-node-requires-clause-left
take_node-node-requires-clause-left g c =
    let s = c.self.inside in
    let list = c.args.list in
    let h : list < length s.lens.items = list_inside s.subs.items s.links s.nodes s.lens.items s.limit c.args.self.now c.self.view_is list c.requires.list in
    node_left s.links s.tails s.lens.items s.subs.items s.nodes s.limit s.free list c.self.invariant h (omega (arith, c.requires.room, list_long s.subs.items s.links s.nodes s.lens.items s.limit c.args.self.now c.self.view_is list h, ap (λ v. v.limit) c.self.view_is))

pub write-requires-2 : goal.write-requires-2
write-requires-2 g c =
    let s = c.self.inside in
    let list = c.args.list in
    let h : list < length s.lens.items = list_inside s.subs.items s.links s.nodes s.lens.items s.limit c.args.self.now c.self.view_is list c.requires.list in
    let len = get_or_read s.lens.items list c.index.result.now h c.index.ensures 0 in
    omega (arith, last_inside s.links s.tails s.lens.items s.subs.items s.nodes s.limit s.free list c.last_place-last.result (s.nodes + list) c.index.result.now c.self.invariant h len refl c.last_place-last.ensures.last, ap (λ ls. length ls) c.write.ensures.after, length-set s.links c.take_node-node.result (s.nodes + list))

pub write-requires-3 : goal.write-requires-3
write-requires-3 g c =
    let s = c.self.inside in
    let list = c.args.list in
    let h : list < length s.lens.items = list_inside s.subs.items s.links s.nodes s.lens.items s.limit c.args.self.now c.self.view_is list c.requires.list in
    omega (arith, h, c.self.invariant.tails_all)

pub index_mut-requires-2 : goal.index_mut-requires-2
index_mut-requires-2 g c =
    let s = c.self.inside in
    let list = c.args.list in
    let h : list < length s.lens.items = list_inside s.subs.items s.links s.nodes s.lens.items s.limit c.args.self.now c.self.view_is list c.requires.list in
    omega (arith, h, s.lens.ok)

pub overflow_add-index_mut : goal.overflow_add-index_mut
overflow_add-index_mut g c =
    let s = c.self.inside in
    let list = c.args.list in
    let h : list < length s.lens.items = list_inside s.subs.items s.links s.nodes s.lens.items s.limit c.args.self.now c.self.view_is list c.requires.list in
    let len = get_or_read s.lens.items list c.index.result.now h c.index.ensures 0 in
    let len2 : c.index_mut-2.result.now ≡ c.index.result.now = get_or_read s.lens.items list c.index_mut-2.result.now h c.index_mut-2.ensures.value 0 ∙ sym len in
    let short : c.index.result.now < s.limit = omega (arith, len, c.requires.room, list_long s.subs.items s.links s.nodes s.lens.items s.limit c.args.self.now c.self.view_is list h, ap (λ v. v.limit) c.self.view_is) in
    omega (arith, len2, short)

pub invariant_of-self : goal.invariant_of-self
invariant_of-self g c =
    let s = c.self.inside in
    let list = c.args.list in
    let h : list < length s.lens.items = list_inside s.subs.items s.links s.nodes s.lens.items s.limit c.args.self.now c.self.view_is list c.requires.list in
    let len = get_or_read s.lens.items list c.index.result.now h c.index.ensures 0 in
    let len2 : c.index_mut-2.result.now ≡ c.index.result.now = get_or_read s.lens.items list c.index_mut-2.result.now h c.index_mut-2.ensures.value 0 ∙ sym len in
    let short : c.index.result.now < s.limit = omega (arith, len, c.requires.room, list_long s.subs.items s.links s.nodes s.lens.items s.limit c.args.self.now c.self.view_is list h, ap (λ v. v.limit) c.self.view_is) in
    let subs' = set s.subs.items c.take_node-node.result c.args.sub in
    let done : Changed s.links s.lens.items c.write-2.new.self c.write-3.new.self (set s.lens.items list (c.index_mut-2.result.now + 1)) subs' s.nodes s.limit c.take_node-node.new.free list (ring s.links s.nodes s.lens.items list ++ c.take_node-node.result ∷ []) =
    subst (λ n. Changed s.links s.lens.items c.write-2.new.self c.write-3.new.self (set s.lens.items list (n + 1)) subs' s.nodes s.limit c.take_node-node.new.free list (ring s.links s.nodes s.lens.items list ++ c.take_node-node.result ∷ [])) (sym len2)
    (adds s.links c.write.new.self c.write-2.new.self s.tails c.write-3.new.self s.lens.items s.subs.items subs' s.nodes s.limit s.free c.take_node-node.new.free list c.take_node-node.result c.last_place-last.result (s.nodes + list) c.index.result.now
    c.self.invariant h len short c.take_node-node.ensures.takes refl c.last_place-last.ensures.last c.write.ensures.after c.write-2.ensures.after c.write-3.ensures.after (length-set s.subs.items c.take_node-node.result c.args.sub)) in
    done.kept

pub returns-clause-after : goal.returns-clause-after
returns-clause-after g c =
    let s = c.self.inside in
    let list = c.args.list in
    let h : list < length s.lens.items = list_inside s.subs.items s.links s.nodes s.lens.items s.limit c.args.self.now c.self.view_is list c.requires.list in
    let len = get_or_read s.lens.items list c.index.result.now h c.index.ensures 0 in
    let len2 : c.index_mut-2.result.now ≡ c.index.result.now = get_or_read s.lens.items list c.index_mut-2.result.now h c.index_mut-2.ensures.value 0 ∙ sym len in
    let short : c.index.result.now < s.limit = omega (arith, len, c.requires.room, list_long s.subs.items s.links s.nodes s.lens.items s.limit c.args.self.now c.self.view_is list h, ap (λ v. v.limit) c.self.view_is) in
    let subs' = set s.subs.items c.take_node-node.result c.args.sub in
    let done : Changed s.links s.lens.items c.write-2.new.self c.write-3.new.self (set s.lens.items list (c.index_mut-2.result.now + 1)) subs' s.nodes s.limit c.take_node-node.new.free list (ring s.links s.nodes s.lens.items list ++ c.take_node-node.result ∷ []) =
    subst (λ n. Changed s.links s.lens.items c.write-2.new.self c.write-3.new.self (set s.lens.items list (n + 1)) subs' s.nodes s.limit c.take_node-node.new.free list (ring s.links s.nodes s.lens.items list ++ c.take_node-node.result ∷ [])) (sym len2)
    (adds s.links c.write.new.self c.write-2.new.self s.tails c.write-3.new.self s.lens.items s.subs.items subs' s.nodes s.limit s.free c.take_node-node.new.free list c.take_node-node.result c.last_place-last.result (s.nodes + list) c.index.result.now
    c.self.invariant h len short c.take_node-node.ensures.takes refl c.last_place-last.ensures.last c.write.ensures.after c.write-2.ensures.after c.write-3.ensures.after (length-set s.subs.items c.take_node-node.result c.args.sub)) in
    let low : c.take_node-node.result < length s.subs.items = omega (arith, c.take_node-node.ensures.takes.exists, c.take_node-node.ensures.takes.made, c.self.invariant.free_room, c.self.invariant.subs_all) in
    let seen = adds_seen s.subs.items subs' (rings s.links s.nodes s.lens.items) (rings c.write-2.new.self s.nodes (set s.lens.items list (c.index_mut-2.result.now + 1))) list c.take_node-node.result c.args.sub (inside s.links s.tails s.lens.items s.subs.items s.nodes s.limit s.free c.self.invariant list h)
    (taken_loose s.links s.tails s.lens.items s.subs.items s.nodes s.limit s.free c.take_node-node.new.free c.take_node-node.result c.self.invariant c.take_node-node.ensures.takes) low refl done.after in
    let now = dests_seen subs' (rings c.write-2.new.self s.nodes (set s.lens.items list (c.index_mut-2.result.now + 1))) in
    ap (λ lists. let t : DestTable = record { limit = s.limit; lists = lists } in t) seen.added
    ∙ ap (λ (v : DestTable). let t : DestTable = record { limit = v.limit; lists = set v.lists list (dests_in v list ++ (last_node (get_or now list []), c.args.sub) ∷ []) } in t) c.self.view_is

pub returns-clause-fresh : goal.returns-clause-fresh
returns-clause-fresh g c = λ other ho.
    let s = c.self.inside in
    let list = c.args.list in
    let h : list < length s.lens.items = list_inside s.subs.items s.links s.nodes s.lens.items s.limit c.args.self.now c.self.view_is list c.requires.list in
    let len = get_or_read s.lens.items list c.index.result.now h c.index.ensures 0 in
    let len2 : c.index_mut-2.result.now ≡ c.index.result.now = get_or_read s.lens.items list c.index_mut-2.result.now h c.index_mut-2.ensures.value 0 ∙ sym len in
    let short : c.index.result.now < s.limit = omega (arith, len, c.requires.room, list_long s.subs.items s.links s.nodes s.lens.items s.limit c.args.self.now c.self.view_is list h, ap (λ v. v.limit) c.self.view_is) in
    let subs' = set s.subs.items c.take_node-node.result c.args.sub in
    let done : Changed s.links s.lens.items c.write-2.new.self c.write-3.new.self (set s.lens.items list (c.index_mut-2.result.now + 1)) subs' s.nodes s.limit c.take_node-node.new.free list (ring s.links s.nodes s.lens.items list ++ c.take_node-node.result ∷ []) =
    subst (λ n. Changed s.links s.lens.items c.write-2.new.self c.write-3.new.self (set s.lens.items list (n + 1)) subs' s.nodes s.limit c.take_node-node.new.free list (ring s.links s.nodes s.lens.items list ++ c.take_node-node.result ∷ [])) (sym len2)
    (adds s.links c.write.new.self c.write-2.new.self s.tails c.write-3.new.self s.lens.items s.subs.items subs' s.nodes s.limit s.free c.take_node-node.new.free list c.take_node-node.result c.last_place-last.result (s.nodes + list) c.index.result.now
    c.self.invariant h len short c.take_node-node.ensures.takes refl c.last_place-last.ensures.last c.write.ensures.after c.write-2.ensures.after c.write-3.ensures.after (length-set s.subs.items c.take_node-node.result c.args.sub)) in
    let low : c.take_node-node.result < length s.subs.items = omega (arith, c.take_node-node.ensures.takes.exists, c.take_node-node.ensures.takes.made, c.self.invariant.free_room, c.self.invariant.subs_all) in
    let seen = adds_seen s.subs.items subs' (rings s.links s.nodes s.lens.items) (rings c.write-2.new.self s.nodes (set s.lens.items list (c.index_mut-2.result.now + 1))) list c.take_node-node.result c.args.sub (inside s.links s.tails s.lens.items s.subs.items s.nodes s.limit s.free c.self.invariant list h)
    (taken_loose s.links s.tails s.lens.items s.subs.items s.nodes s.limit s.free c.take_node-node.new.free c.take_node-node.result c.self.invariant c.take_node-node.ensures.takes) low refl done.after in
    let now = dests_seen subs' (rings c.write-2.new.self s.nodes (set s.lens.items list (c.index_mut-2.result.now + 1))) in
    sym (ap (λ v. has_node (last_node (get_or now list [])) (dests_in v other)) c.self.view_is) ∙ seen.fresh other (omega (arith, ho, ap (λ v. length v.lists) c.self.view_is))
