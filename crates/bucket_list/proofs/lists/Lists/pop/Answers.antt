use Rattle.std.proofs.Common.{◌≡◌, ◌<◌, ◌∙◌, [], ap, sym, refl, length, set, get_or, drop, arith}
use Rattle.std.proofs.lemmas.List.{get_or_read, set-get_or, nil_from_length}
use Rattle.bucket_list.specs.Lists.{Listed, listed_at}
use Rattle.bucket_list.proofs.Chains.{length-chain, length-chains, get_or-chains}
use Rattle.bucket_list.proofs.ListInvariant.{pops_read, front_exists, empty_or_not}
use Rattle.bucket_list.proofs.lists.Lists.pop.Goals as goal

pub index-requires : goal.index-requires
index-requires g c =
    let s = c.self.inside in
    omega (arith, s.counts.ok, c.self.invariant.0.heads_all, length-chains s.links.links s.heads s.counts.items c.self.invariant.0.heads_all, ap (λ v. length v.lists) c.self.view_is)

pub returns-then-index-eq0-clause-none : goal.returns-then-index-eq0-clause-none
returns-then-index-eq0-clause-none g c =
    let s = c.self.inside in
    let l = c.args.list in
    let inside : l < length s.heads = omega (arith, length-chains s.links.links s.heads s.counts.items c.self.invariant.0.heads_all, ap (λ v. length v.lists) c.self.view_is) in
    let counted : l < length s.counts.items = omega (arith, inside, c.self.invariant.0.heads_all) in
    let none : length (listed_at c.args.self.now l) ≡ 0 = omega (arith, get_or_read s.counts.items l c.index.result.now counted c.index.ensures 0, ap (λ v. length (listed_at v l)) c.self.view_is, ap length (get_or-chains s.links.links s.heads s.counts.items l c.self.invariant.0.heads_all inside), length-chain s.links.links (get_or s.heads l 0) (get_or s.counts.items l 0), c.if-index-eq0.true) in
    ((λ _. nil_from_length (listed_at c.args.self.now l) none), (λ _. refl))

pub returns-then-index-eq0-clause-after : goal.returns-then-index-eq0-clause-after
returns-then-index-eq0-clause-after g c =
    let s = c.self.inside in
    let l = c.args.list in
    let inside : l < length s.heads = omega (arith, length-chains s.links.links s.heads s.counts.items c.self.invariant.0.heads_all, ap (λ v. length v.lists) c.self.view_is) in
    let counted : l < length s.counts.items = omega (arith, inside, c.self.invariant.0.heads_all) in
    let none : length (listed_at c.args.self.now l) ≡ 0 = omega (arith, get_or_read s.counts.items l c.index.result.now counted c.index.ensures 0, ap (λ v. length (listed_at v l)) c.self.view_is, ap length (get_or-chains s.links.links s.heads s.counts.items l c.self.invariant.0.heads_all inside), length-chain s.links.links (get_or s.heads l 0) (get_or s.counts.items l 0), c.if-index-eq0.true) in
    let empty = nil_from_length (listed_at c.args.self.now l) none in
    let same : c.args.self.now.lists ≡ set c.args.self.now.lists l (drop 1 (listed_at c.args.self.now l)) =
    sym (set-get_or c.args.self.now.lists l []) ∙ ap (set c.args.self.now.lists l) (empty ∙ sym (ap (drop 1) empty)) in
    ap (λ lists. let w : Listed = record { room = c.args.self.now.room; nodes = c.args.self.now.nodes; lists = lists } in w) same

pub read-node-requires : goal.read-node-requires
read-node-requires g c =
    let s = c.self.inside in
    omega (arith, length-chains s.links.links s.heads s.counts.items c.self.invariant.0.heads_all, ap (λ v. length v.lists) c.self.view_is)

pub read-behind-requires : goal.read-behind-requires
read-behind-requires g c =
    let s = c.self.inside in
    let l = c.args.list in
    let inside : l < length s.heads = omega (arith, length-chains s.links.links s.heads s.counts.items c.self.invariant.0.heads_all, ap (λ v. length v.lists) c.self.view_is) in
    let counted : l < length s.counts.items = omega (arith, inside, c.self.invariant.0.heads_all) in
    let some : 0 < c.index.result.now = omega (arith, c.if-index-eq0.false) in
    let counts_is = get_or_read s.counts.items l c.index.result.now counted c.index.ensures 0 in
    front_exists s.links.links s.heads s.counts.items s.nodes l c.read-node.result c.index.result.now c.self.invariant.0 inside some counts_is c.read-node.ensures.value

pub write-requires : goal.write-requires
write-requires g c =
    let s = c.self.inside in
    omega (arith, length-chains s.links.links s.heads s.counts.items c.self.invariant.0.heads_all, ap (λ v. length v.lists) c.self.view_is)

pub index_mut-requires : goal.index_mut-requires
index_mut-requires g c =
    let s = c.self.inside in
    omega (arith, s.counts.ok, c.self.invariant.0.heads_all, length-chains s.links.links s.heads s.counts.items c.self.invariant.0.heads_all, ap (λ v. length v.lists) c.self.view_is)

pub overflow_sub-index_mut : goal.overflow_sub-index_mut
overflow_sub-index_mut g c =
    let s = c.self.inside in
    let l = c.args.list in
    let inside : l < length s.heads = omega (arith, length-chains s.links.links s.heads s.counts.items c.self.invariant.0.heads_all, ap (λ v. length v.lists) c.self.view_is) in
    let counted : l < length s.counts.items = omega (arith, inside, c.self.invariant.0.heads_all) in
    omega (arith, c.if-index-eq0.false, get_or_read s.counts.items l c.index_mut.result.now counted c.index_mut.ensures.value 0, get_or_read s.counts.items l c.index.result.now counted c.index.ensures 0)

pub invariant_of-self : goal.invariant_of-self
invariant_of-self g c =
    let s = c.self.inside in
    let l = c.args.list in
    let inside : l < length s.heads = omega (arith, length-chains s.links.links s.heads s.counts.items c.self.invariant.0.heads_all, ap (λ v. length v.lists) c.self.view_is) in
    let counted : l < length s.counts.items = omega (arith, inside, c.self.invariant.0.heads_all) in
    let counts_is = get_or_read s.counts.items l c.index_mut.result.now counted c.index_mut.ensures.value 0 in
    let some : 0 < c.index_mut.result.now = omega (arith, c.if-index-eq0.false, counts_is, get_or_read s.counts.items l c.index.result.now counted c.index.ensures 0) in
    let done = pops_read s.links.links s.heads c.write.new.self s.counts.items s.nodes l c.read-node.result c.read-behind.result c.index_mut.result.now c.self.invariant.0 inside some counts_is c.read-node.ensures.value c.read-behind.ensures.value c.write.ensures.after in
    (done.linked, c.self.invariant.1)

pub returns-clause-none : goal.returns-clause-none
returns-clause-none g c =
    let s = c.self.inside in
    let l = c.args.list in
    let inside : l < length s.heads = omega (arith, length-chains s.links.links s.heads s.counts.items c.self.invariant.0.heads_all, ap (λ v. length v.lists) c.self.view_is) in
    let counted : l < length s.counts.items = omega (arith, inside, c.self.invariant.0.heads_all) in
    let counts_is = get_or_read s.counts.items l c.index_mut.result.now counted c.index_mut.ensures.value 0 in
    let some : 0 < c.index_mut.result.now = omega (arith, c.if-index-eq0.false, counts_is, get_or_read s.counts.items l c.index.result.now counted c.index.ensures 0) in
    let done = pops_read s.links.links s.heads c.write.new.self s.counts.items s.nodes l c.read-node.result c.read-behind.result c.index_mut.result.now c.self.invariant.0 inside some counts_is c.read-node.ensures.value c.read-behind.ensures.value c.write.ensures.after in
    let front = ap (λ v. listed_at v l) (sym c.self.view_is) ∙ done.front in
    ((λ no. cc), (λ none. absurd (empty_or_not _ _ _ front none)))

pub returns-clause-front : goal.returns-clause-front
returns-clause-front g c =
    let s = c.self.inside in
    let l = c.args.list in
    let inside : l < length s.heads = omega (arith, length-chains s.links.links s.heads s.counts.items c.self.invariant.0.heads_all, ap (λ v. length v.lists) c.self.view_is) in
    let counted : l < length s.counts.items = omega (arith, inside, c.self.invariant.0.heads_all) in
    let counts_is = get_or_read s.counts.items l c.index_mut.result.now counted c.index_mut.ensures.value 0 in
    let some : 0 < c.index_mut.result.now = omega (arith, c.if-index-eq0.false, counts_is, get_or_read s.counts.items l c.index.result.now counted c.index.ensures 0) in
    let done = pops_read s.links.links s.heads c.write.new.self s.counts.items s.nodes l c.read-node.result c.read-behind.result c.index_mut.result.now c.self.invariant.0 inside some counts_is c.read-node.ensures.value c.read-behind.ensures.value c.write.ensures.after in
    ap (λ v. listed_at v l) (sym c.self.view_is) ∙ done.front

pub returns-clause-after : goal.returns-clause-after
returns-clause-after g c =
    let s = c.self.inside in
    let l = c.args.list in
    let inside : l < length s.heads = omega (arith, length-chains s.links.links s.heads s.counts.items c.self.invariant.0.heads_all, ap (λ v. length v.lists) c.self.view_is) in
    let counted : l < length s.counts.items = omega (arith, inside, c.self.invariant.0.heads_all) in
    let counts_is = get_or_read s.counts.items l c.index_mut.result.now counted c.index_mut.ensures.value 0 in
    let some : 0 < c.index_mut.result.now = omega (arith, c.if-index-eq0.false, counts_is, get_or_read s.counts.items l c.index.result.now counted c.index.ensures 0) in
    let done = pops_read s.links.links s.heads c.write.new.self s.counts.items s.nodes l c.read-node.result c.read-behind.result c.index_mut.result.now c.self.invariant.0 inside some counts_is c.read-node.ensures.value c.read-behind.ensures.value c.write.ensures.after in
    ap (λ lists. let w : Listed = record { room = s.links.room; nodes = s.nodes; lists = lists } in w) done.after
    ∙ ap (λ (v : Listed). let w : Listed = record { room = v.room; nodes = v.nodes; lists = set v.lists l (drop 1 (listed_at v l)) } in w) c.self.view_is

pub returns-clause-loose : goal.returns-clause-loose
returns-clause-loose g c =
    let s = c.self.inside in
    let l = c.args.list in
    let inside : l < length s.heads = omega (arith, length-chains s.links.links s.heads s.counts.items c.self.invariant.0.heads_all, ap (λ v. length v.lists) c.self.view_is) in
    let counted : l < length s.counts.items = omega (arith, inside, c.self.invariant.0.heads_all) in
    let counts_is = get_or_read s.counts.items l c.index_mut.result.now counted c.index_mut.ensures.value 0 in
    let some : 0 < c.index_mut.result.now = omega (arith, c.if-index-eq0.false, counts_is, get_or_read s.counts.items l c.index.result.now counted c.index.ensures 0) in
    let done = pops_read s.links.links s.heads c.write.new.self s.counts.items s.nodes l c.read-node.result c.read-behind.result c.index_mut.result.now c.self.invariant.0 inside some counts_is c.read-node.ensures.value c.read-behind.ensures.value c.write.ensures.after in
    done.loose

pub returns-clause-exists : goal.returns-clause-exists
returns-clause-exists g c =
    let s = c.self.inside in
    let l = c.args.list in
    let inside : l < length s.heads = omega (arith, length-chains s.links.links s.heads s.counts.items c.self.invariant.0.heads_all, ap (λ v. length v.lists) c.self.view_is) in
    let counted : l < length s.counts.items = omega (arith, inside, c.self.invariant.0.heads_all) in
    let counts_is = get_or_read s.counts.items l c.index_mut.result.now counted c.index_mut.ensures.value 0 in
    let some : 0 < c.index_mut.result.now = omega (arith, c.if-index-eq0.false, counts_is, get_or_read s.counts.items l c.index.result.now counted c.index.ensures 0) in
    let done = pops_read s.links.links s.heads c.write.new.self s.counts.items s.nodes l c.read-node.result c.read-behind.result c.index_mut.result.now c.self.invariant.0 inside some counts_is c.read-node.ensures.value c.read-behind.ensures.value c.write.ensures.after in
    done.exists
