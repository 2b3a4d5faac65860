use Rattle.std.proofs.Common.{◌+◌, ◌<◌, ◌^◌, ◌∙◌, ◌∷◌, List, ℕ, ap, length, set, arith}
use Rattle.std.proofs.lemmas.List.{get_or_read}
use Rattle.bucket_list.specs.Lists.{Listed, listed_at, times}
use Rattle.bucket_list.specs.Inside.{chains}
use Rattle.bucket_list.proofs.Chains.{length-chains}
use Rattle.bucket_list.proofs.ListInvariant.{pushes_read, count_fits}
use Rattle.bucket_list.proofs.lists.Lists.push.Goals as goal

pub read-behind-requires : goal.read-behind-requires
read-behind-requires g c =
    let s = c.self.inside in
    omega (arith, length-chains s.links.links s.heads s.counts.items c.self.invariant.0.heads_all, ap (λ v. length v.lists) c.self.view_is)

pub write-requires-2 : goal.write-requires-2
write-requires-2 g c =
    let s = c.self.inside in
    omega (arith, length-chains s.links.links s.heads s.counts.items c.self.invariant.0.heads_all, ap (λ v. length v.lists) c.self.view_is)

pub index_mut-requires : goal.index_mut-requires
index_mut-requires g c =
    let s = c.self.inside in
    omega (arith, s.counts.ok, c.self.invariant.0.heads_all, length-chains s.links.links s.heads s.counts.items c.self.invariant.0.heads_all, ap (λ v. length v.lists) c.self.view_is)

pub overflow_add-index_mut : goal.overflow_add-index_mut
overflow_add-index_mut g c =
    let s = c.self.inside in
    let l = c.args.list in
    let inside : l < length s.heads = omega (arith, length-chains s.links.links s.heads s.counts.items c.self.invariant.0.heads_all, ap (λ v. length v.lists) c.self.view_is) in
    let counted : l < length s.counts.items = omega (arith, inside, c.self.invariant.0.heads_all) in
    let few : c.index_mut.result.now + 1 < 2 ^ 32 = count_fits s.links.links s.heads s.counts.items s.nodes l c.args.node c.index_mut.result.now c.self.invariant.0 inside
    (omega (arith, c.requires.node, ap (λ v. v.nodes) c.self.view_is))
    (ap (λ v. times v.lists c.args.node) c.self.view_is ∙ c.requires.loose)
    (get_or_read s.counts.items l c.index_mut.result.now counted c.index_mut.ensures.value 0) in
    omega (arith, few)

pub invariant_of-self : goal.invariant_of-self
invariant_of-self g c =
    let s = c.self.inside in
    let l = c.args.list in
    let inside : l < length s.heads = omega (arith, length-chains s.links.links s.heads s.counts.items c.self.invariant.0.heads_all, ap (λ v. length v.lists) c.self.view_is) in
    let counted : l < length s.counts.items = omega (arith, inside, c.self.invariant.0.heads_all) in
    let done = pushes_read s.links.links c.write.new.self.links s.heads c.write-2.new.self s.counts.items s.nodes l c.args.node c.read-behind.result c.index_mut.result.now c.self.invariant.0 inside
    (omega (arith, c.requires.node, ap (λ v. v.nodes) c.self.view_is))
    (ap (λ v. times v.lists c.args.node) c.self.view_is ∙ c.requires.loose)
    (get_or_read s.counts.items l c.index_mut.result.now counted c.index_mut.ensures.value 0)
    c.read-behind.ensures.value (ap (λ r. r.links) c.write.ensures.after) c.write-2.ensures.after in
    (done.linked, omega (arith, c.self.invariant.1, ap (λ r. r.room) c.write.ensures.after))

pub returns-clause-after : goal.returns-clause-after
returns-clause-after g c =
    let s = c.self.inside in
    let l = c.args.list in
    let inside : l < length s.heads = omega (arith, length-chains s.links.links s.heads s.counts.items c.self.invariant.0.heads_all, ap (λ v. length v.lists) c.self.view_is) in
    let counted : l < length s.counts.items = omega (arith, inside, c.self.invariant.0.heads_all) in
    let done = pushes_read s.links.links c.write.new.self.links s.heads c.write-2.new.self s.counts.items s.nodes l c.args.node c.read-behind.result c.index_mut.result.now c.self.invariant.0 inside
    (omega (arith, c.requires.node, ap (λ v. v.nodes) c.self.view_is))
    (ap (λ v. times v.lists c.args.node) c.self.view_is ∙ c.requires.loose)
    (get_or_read s.counts.items l c.index_mut.result.now counted c.index_mut.ensures.value 0)
    c.read-behind.ensures.value (ap (λ r. r.links) c.write.ensures.after) c.write-2.ensures.after in
    let listed : ℕ → List (List ℕ) → Listed = λ room lists. record { room = room; nodes = s.nodes; lists = lists } in
    ap (λ n. listed n (chains c.write.new.self.links c.write-2.new.self (set s.counts.items l (c.index_mut.result.now + 1)))) (ap (λ r. r.room) c.write.ensures.after) ∙ (ap (listed s.links.room) done.after
    ∙ ap (λ (v : Listed). let w : Listed = record { room = v.room; nodes = v.nodes; lists = set v.lists l (c.args.node ∷ listed_at v l) } in w) c.self.view_is)
