use Rattle.std.proofs.Common.{◌≡◌, ◌+◌, ◌-◌, ◌<◌, ◌∙◌, length, get_or, set, refl, ap, sym, subst, arith}
use Rattle.std.proofs.lemmas.List.{get_or_read}
use Rattle.bucket_list.specs.Lists.{times_in}
use Rattle.bucket_list.specs.Chains.{chain}
use Rattle.routing.specs.Dests.{DestTable, dests_in, has_sub, without}
use Rattle.routing.specs.Inside.{rings, place_before}
use Rattle.routing.proofs.Links.{Has, left_of}
use Rattle.routing.proofs.Nodes.{Changed, ring, ring_chain, below, removed, removes}
use Rattle.routing.proofs.ListViews.{list_inside, list_seen, list_long, removes_seen}
use Rattle.routing.proofs.dests.DestLists.remove.Goals as goal

pub overflow_add-anchor : goal.overflow_add-anchor
overflow_add-anchor g c =
    let s = c.self.inside in
    let list = c.args.list in
    let h : list < length s.lens.items = list_inside s.subs.items s.links s.nodes s.lens.items s.limit c.args.self.now c.self.view_is list c.requires.list in
    omega (arith, h, c.self.invariant.few)

pub index-len-requires : goal.index-len-requires
index-len-requires g c =
    let s = c.self.inside in
    let list = c.args.list in
    let h : list < length s.lens.items = list_inside s.subs.items s.links s.nodes s.lens.items s.limit c.args.self.now c.self.view_is list c.requires.list in
    omega (arith, h, s.lens.ok)

pub find_before-before-requires-clause-anchor : goal.find_before-before-requires-clause-anchor
find_before-before-requires-clause-anchor g c =
    let s = c.self.inside in
    let list = c.args.list in
    let h : list < length s.lens.items = list_inside s.subs.items s.links s.nodes s.lens.items s.limit c.args.self.now c.self.view_is list c.requires.list in
    omega (arith, h, c.self.invariant.links_all)

pub find_before-before-requires-clause-within : goal.find_before-before-requires-clause-within
find_before-before-requires-clause-within g c = λ node some.
    let s = c.self.inside in
    let list = c.args.list in
    let h : list < length s.lens.items = list_inside s.subs.items s.links s.nodes s.lens.items s.limit c.args.self.now c.self.view_is list c.requires.list in
    let len = get_or_read s.lens.items list c.index-len.result.now h c.index-len.ensures 0 in
    let chain_is = ring_chain s.links s.nodes s.lens.items list (s.nodes + list) c.index-len.result.now h len refl in
    omega (arith, below s.links s.tails s.lens.items s.subs.items s.nodes s.limit s.free c.self.invariant list h node (subst (λ xs. 0 < times_in xs node) chain_is some), c.self.invariant.subs_all, ap (λ ss. length ss) c.deref.ensures.value)

pub read-node-requires : goal.read-node-requires
read-node-requires g c =
    let s = c.self.inside in
    let list = c.args.list in
    let h : list < length s.lens.items = list_inside s.subs.items s.links s.nodes s.lens.items s.limit c.args.self.now c.self.view_is list c.requires.list in
    let len = get_or_read s.lens.items list c.index-len.result.now h c.index-len.ensures 0 in
    let chain_is = ring_chain s.links s.nodes s.lens.items list (s.nodes + list) c.index-len.result.now h len refl in
    let has : Has s.subs.items c.args.sub (ring s.links s.nodes s.lens.items list) = ap (has_sub c.args.sub) (list_seen s.subs.items s.links s.nodes s.lens.items s.limit c.args.self.now c.self.view_is list) ∙ c.requires.there in
    let before : c.find_before-before.result ≡ place_before s.subs.items c.args.sub (s.nodes + list) (ring s.links s.nodes s.lens.items list) =
    c.find_before-before.ensures.before ∙ (ap (λ ss. place_before ss c.args.sub (s.nodes + list) (chain s.links (get_or s.links (s.nodes + list) 0) c.index-len.result.now)) c.deref.ensures.value ∙ ap (place_before s.subs.items c.args.sub (s.nodes + list)) chain_is) in
    let gone = removed s.links s.tails s.lens.items s.subs.items s.nodes s.limit s.free list c.args.sub c.find_before-before.result (get_or s.links c.find_before-before.result 0) (s.nodes + list) c.self.invariant h has refl before refl in
    gone.before_in

pub read-behind-requires : goal.read-behind-requires
read-behind-requires g c =
    let s = c.self.inside in
    let list = c.args.list in
    let h : list < length s.lens.items = list_inside s.subs.items s.links s.nodes s.lens.items s.limit c.args.self.now c.self.view_is list c.requires.list in
    let len = get_or_read s.lens.items list c.index-len.result.now h c.index-len.ensures 0 in
    let chain_is = ring_chain s.links s.nodes s.lens.items list (s.nodes + list) c.index-len.result.now h len refl in
    let has : Has s.subs.items c.args.sub (ring s.links s.nodes s.lens.items list) = ap (has_sub c.args.sub) (list_seen s.subs.items s.links s.nodes s.lens.items s.limit c.args.self.now c.self.view_is list) ∙ c.requires.there in
    let before : c.find_before-before.result ≡ place_before s.subs.items c.args.sub (s.nodes + list) (ring s.links s.nodes s.lens.items list) =
    c.find_before-before.ensures.before ∙ (ap (λ ss. place_before ss c.args.sub (s.nodes + list) (chain s.links (get_or s.links (s.nodes + list) 0) c.index-len.result.now)) c.deref.ensures.value ∙ ap (place_before s.subs.items c.args.sub (s.nodes + list)) chain_is) in
    let gone = removed s.links s.tails s.lens.items s.subs.items s.nodes s.limit s.free list c.args.sub c.find_before-before.result c.read-node.result (s.nodes + list) c.self.invariant h has refl before c.read-node.ensures.value in
    gone.node_in

pub write-requires : goal.write-requires
write-requires g c =
    let s = c.self.inside in
    let list = c.args.list in
    let h : list < length s.lens.items = list_inside s.subs.items s.links s.nodes s.lens.items s.limit c.args.self.now c.self.view_is list c.requires.list in
    let len = get_or_read s.lens.items list c.index-len.result.now h c.index-len.ensures 0 in
    let chain_is = ring_chain s.links s.nodes s.lens.items list (s.nodes + list) c.index-len.result.now h len refl in
    let has : Has s.subs.items c.args.sub (ring s.links s.nodes s.lens.items list) = ap (has_sub c.args.sub) (list_seen s.subs.items s.links s.nodes s.lens.items s.limit c.args.self.now c.self.view_is list) ∙ c.requires.there in
    let before : c.find_before-before.result ≡ place_before s.subs.items c.args.sub (s.nodes + list) (ring s.links s.nodes s.lens.items list) =
    c.find_before-before.ensures.before ∙ (ap (λ ss. place_before ss c.args.sub (s.nodes + list) (chain s.links (get_or s.links (s.nodes + list) 0) c.index-len.result.now)) c.deref.ensures.value ∙ ap (place_before s.subs.items c.args.sub (s.nodes + list)) chain_is) in
    let gone = removed s.links s.tails s.lens.items s.subs.items s.nodes s.limit s.free list c.args.sub c.find_before-before.result c.read-node.result (s.nodes + list) c.self.invariant h has refl before c.read-node.ensures.value in
    gone.before_in

pub note_last-requires : goal.note_last-requires
note_last-requires g c =
    let s = c.self.inside in
    let list = c.args.list in
    let h : list < length s.lens.items = list_inside s.subs.items s.links s.nodes s.lens.items s.limit c.args.self.now c.self.view_is list c.requires.list in
    omega (arith, h, c.self.invariant.tails_all)

pub index_mut-requires : goal.index_mut-requires
index_mut-requires g c =
    let s = c.self.inside in
    let list = c.args.list in
    let h : list < length s.lens.items = list_inside s.subs.items s.links s.nodes s.lens.items s.limit c.args.self.now c.self.view_is list c.requires.list in
    omega (arith, h, s.lens.ok)

pub overflow_sub-index_mut : goal.overflow_sub-index_mut
overflow_sub-index_mut g c =
    let s = c.self.inside in
    let list = c.args.list in
    let h : list < length s.lens.items = list_inside s.subs.items s.links s.nodes s.lens.items s.limit c.args.self.now c.self.view_is list c.requires.list in
    let len = get_or_read s.lens.items list c.index-len.result.now h c.index-len.ensures 0 in
    let chain_is = ring_chain s.links s.nodes s.lens.items list (s.nodes + list) c.index-len.result.now h len refl in
    let has : Has s.subs.items c.args.sub (ring s.links s.nodes s.lens.items list) = ap (has_sub c.args.sub) (list_seen s.subs.items s.links s.nodes s.lens.items s.limit c.args.self.now c.self.view_is list) ∙ c.requires.there in
    let before : c.find_before-before.result ≡ place_before s.subs.items c.args.sub (s.nodes + list) (ring s.links s.nodes s.lens.items list) =
    c.find_before-before.ensures.before ∙ (ap (λ ss. place_before ss c.args.sub (s.nodes + list) (chain s.links (get_or s.links (s.nodes + list) 0) c.index-len.result.now)) c.deref.ensures.value ∙ ap (place_before s.subs.items c.args.sub (s.nodes + list)) chain_is) in
    let gone = removed s.links s.tails s.lens.items s.subs.items s.nodes s.limit s.free list c.args.sub c.find_before-before.result c.read-node.result (s.nodes + list) c.self.invariant h has refl before c.read-node.ensures.value in
    omega (arith, gone.some, get_or_read s.lens.items list c.index_mut.result.now h c.index_mut.ensures.value 0)

pub push-requires-clause-node : goal.push-requires-clause-node
push-requires-clause-node g c =
    let s = c.self.inside in
    let list = c.args.list in
    let h : list < length s.lens.items = list_inside s.subs.items s.links s.nodes s.lens.items s.limit c.args.self.now c.self.view_is list c.requires.list in
    let len = get_or_read s.lens.items list c.index-len.result.now h c.index-len.ensures 0 in
    let chain_is = ring_chain s.links s.nodes s.lens.items list (s.nodes + list) c.index-len.result.now h len refl in
    let has : Has s.subs.items c.args.sub (ring s.links s.nodes s.lens.items list) = ap (has_sub c.args.sub) (list_seen s.subs.items s.links s.nodes s.lens.items s.limit c.args.self.now c.self.view_is list) ∙ c.requires.there in
    let before : c.find_before-before.result ≡ place_before s.subs.items c.args.sub (s.nodes + list) (ring s.links s.nodes s.lens.items list) =
    c.find_before-before.ensures.before ∙ (ap (λ ss. place_before ss c.args.sub (s.nodes + list) (chain s.links (get_or s.links (s.nodes + list) 0) c.index-len.result.now)) c.deref.ensures.value ∙ ap (place_before s.subs.items c.args.sub (s.nodes + list)) chain_is) in
    let gone = removed s.links s.tails s.lens.items s.subs.items s.nodes s.limit s.free list c.args.sub c.find_before-before.result c.read-node.result (s.nodes + list) c.self.invariant h has refl before c.read-node.ensures.value in
    gone.made

pub push-requires-clause-loose : goal.push-requires-clause-loose
push-requires-clause-loose g c =
    let s = c.self.inside in
    let list = c.args.list in
    let h : list < length s.lens.items = list_inside s.subs.items s.links s.nodes s.lens.items s.limit c.args.self.now c.self.view_is list c.requires.list in
    let len = get_or_read s.lens.items list c.index-len.result.now h c.index-len.ensures 0 in
    let chain_is = ring_chain s.links s.nodes s.lens.items list (s.nodes + list) c.index-len.result.now h len refl in
    let has : Has s.subs.items c.args.sub (ring s.links s.nodes s.lens.items list) = ap (has_sub c.args.sub) (list_seen s.subs.items s.links s.nodes s.lens.items s.limit c.args.self.now c.self.view_is list) ∙ c.requires.there in
    let before : c.find_before-before.result ≡ place_before s.subs.items c.args.sub (s.nodes + list) (ring s.links s.nodes s.lens.items list) =
    c.find_before-before.ensures.before ∙ (ap (λ ss. place_before ss c.args.sub (s.nodes + list) (chain s.links (get_or s.links (s.nodes + list) 0) c.index-len.result.now)) c.deref.ensures.value ∙ ap (place_before s.subs.items c.args.sub (s.nodes + list)) chain_is) in
    let gone = removed s.links s.tails s.lens.items s.subs.items s.nodes s.limit s.free list c.args.sub c.find_before-before.result c.read-node.result (s.nodes + list) c.self.invariant h has refl before c.read-node.ensures.value in
    gone.loose

pub invariant_of-self : goal.invariant_of-self
invariant_of-self g c =
    let s = c.self.inside in
    let list = c.args.list in
    let h : list < length s.lens.items = list_inside s.subs.items s.links s.nodes s.lens.items s.limit c.args.self.now c.self.view_is list c.requires.list in
    let len = get_or_read s.lens.items list c.index-len.result.now h c.index-len.ensures 0 in
    let chain_is = ring_chain s.links s.nodes s.lens.items list (s.nodes + list) c.index-len.result.now h len refl in
    let has : Has s.subs.items c.args.sub (ring s.links s.nodes s.lens.items list) = ap (has_sub c.args.sub) (list_seen s.subs.items s.links s.nodes s.lens.items s.limit c.args.self.now c.self.view_is list) ∙ c.requires.there in
    let before : c.find_before-before.result ≡ place_before s.subs.items c.args.sub (s.nodes + list) (ring s.links s.nodes s.lens.items list) =
    c.find_before-before.ensures.before ∙ (ap (λ ss. place_before ss c.args.sub (s.nodes + list) (chain s.links (get_or s.links (s.nodes + list) 0) c.index-len.result.now)) c.deref.ensures.value ∙ ap (place_before s.subs.items c.args.sub (s.nodes + list)) chain_is) in
    let len2 : c.index_mut.result.now ≡ c.index-len.result.now = get_or_read s.lens.items list c.index_mut.result.now h c.index_mut.ensures.value 0 ∙ sym len in
    let done : Changed s.links s.lens.items c.write.new.self c.note_last.new.tails (set s.lens.items list (c.index_mut.result.now - 1)) s.subs.items s.nodes s.limit c.push.new.self list (left_of s.subs.items c.args.sub (ring s.links s.nodes s.lens.items list)) =
    subst (λ n. Changed s.links s.lens.items c.write.new.self c.note_last.new.tails (set s.lens.items list (n - 1)) s.subs.items s.nodes s.limit c.push.new.self list (left_of s.subs.items c.args.sub (ring s.links s.nodes s.lens.items list))) (sym len2)
    (removes s.links c.write.new.self s.tails c.note_last.new.tails s.lens.items s.subs.items s.nodes s.limit s.free c.push.new.self list c.args.sub c.find_before-before.result c.read-node.result c.read-behind.result (s.nodes + list) c.index-len.result.now
    c.self.invariant h len has refl before c.read-node.ensures.value c.read-behind.ensures.value c.write.ensures.after c.note_last.ensures.last
    (ap (λ f. f.room) c.push.ensures.after) (ap (λ f. f.nodes) c.push.ensures.after) (ap (λ f. f.lists) c.push.ensures.after)) in
    done.kept

pub returns-clause-after : goal.returns-clause-after
returns-clause-after g c =
    let s = c.self.inside in
    let list = c.args.list in
    let h : list < length s.lens.items = list_inside s.subs.items s.links s.nodes s.lens.items s.limit c.args.self.now c.self.view_is list c.requires.list in
    let len = get_or_read s.lens.items list c.index-len.result.now h c.index-len.ensures 0 in
    let chain_is = ring_chain s.links s.nodes s.lens.items list (s.nodes + list) c.index-len.result.now h len refl in
    let has : Has s.subs.items c.args.sub (ring s.links s.nodes s.lens.items list) = ap (has_sub c.args.sub) (list_seen s.subs.items s.links s.nodes s.lens.items s.limit c.args.self.now c.self.view_is list) ∙ c.requires.there in
    let before : c.find_before-before.result ≡ place_before s.subs.items c.args.sub (s.nodes + list) (ring s.links s.nodes s.lens.items list) =
    c.find_before-before.ensures.before ∙ (ap (λ ss. place_before ss c.args.sub (s.nodes + list) (chain s.links (get_or s.links (s.nodes + list) 0) c.index-len.result.now)) c.deref.ensures.value ∙ ap (place_before s.subs.items c.args.sub (s.nodes + list)) chain_is) in
    let len2 : c.index_mut.result.now ≡ c.index-len.result.now = get_or_read s.lens.items list c.index_mut.result.now h c.index_mut.ensures.value 0 ∙ sym len in
    let done : Changed s.links s.lens.items c.write.new.self c.note_last.new.tails (set s.lens.items list (c.index_mut.result.now - 1)) s.subs.items s.nodes s.limit c.push.new.self list (left_of s.subs.items c.args.sub (ring s.links s.nodes s.lens.items list)) =
    subst (λ n. Changed s.links s.lens.items c.write.new.self c.note_last.new.tails (set s.lens.items list (n - 1)) s.subs.items s.nodes s.limit c.push.new.self list (left_of s.subs.items c.args.sub (ring s.links s.nodes s.lens.items list))) (sym len2)
    (removes s.links c.write.new.self s.tails c.note_last.new.tails s.lens.items s.subs.items s.nodes s.limit s.free c.push.new.self list c.args.sub c.find_before-before.result c.read-node.result c.read-behind.result (s.nodes + list) c.index-len.result.now
    c.self.invariant h len has refl before c.read-node.ensures.value c.read-behind.ensures.value c.write.ensures.after c.note_last.ensures.last
    (ap (λ f. f.room) c.push.ensures.after) (ap (λ f. f.nodes) c.push.ensures.after) (ap (λ f. f.lists) c.push.ensures.after)) in
    ap (λ lists. let t : DestTable = record { limit = s.limit; lists = lists } in t) (removes_seen s.subs.items (rings s.links s.nodes s.lens.items) (rings c.write.new.self s.nodes (set s.lens.items list (c.index_mut.result.now - 1))) list c.args.sub done.after)
    ∙ ap (λ (v : DestTable). let t : DestTable = record { limit = v.limit; lists = set v.lists list (without c.args.sub (dests_in v list)) } in t) c.self.view_is

pub returns-clause-cost : goal.returns-clause-cost
returns-clause-cost g c =
    let s = c.self.inside in
    let list = c.args.list in
    let h : list < length s.lens.items = list_inside s.subs.items s.links s.nodes s.lens.items s.limit c.args.self.now c.self.view_is list c.requires.list in
    let len = get_or_read s.lens.items list c.index-len.result.now h c.index-len.ensures 0 in
    omega (arith, len, list_long s.subs.items s.links s.nodes s.lens.items s.limit c.args.self.now c.self.view_is list h, c.find_before-before.ensures.cost, c.read-node.ensures.cost, c.read-behind.ensures.cost, c.write.ensures.cost, c.note_last.ensures.cost, c.push.ensures.cost)
