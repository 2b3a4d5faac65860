use Rattle.std.proofs.Common.{◌∙◌, ◌<◌, sym, ap, length, arith}
use Rattle.std.proofs.lemmas.List.{get_or_read}
use Rattle.bucket_list.specs.Lists.{listed_at}
use Rattle.bucket_list.proofs.Chains.{length-chain, length-chains, get_or-chains}
use Rattle.bucket_list.proofs.lists.Lists.len.Goals as goal

pub index-requires : goal.index-requires
index-requires c =
    let s = c.self.inside in
    omega (arith, s.counts.ok, length-chains s.links.links s.heads s.counts.items c.self.invariant.0.heads_all, ap (λ v. length v.lists) c.self.view_is)

pub returns : goal.returns
returns c =
    let s = c.self.inside in
    let l = c.args.list in
    let inside : l < length s.heads = omega (arith, length-chains s.links.links s.heads s.counts.items c.self.invariant.0.heads_all, ap (λ v. length v.lists) c.self.view_is) in
    let counted : l < length s.counts.items = omega (arith, inside, c.self.invariant.0.heads_all) in
    get_or_read s.counts.items l c.index.result.now counted c.index.ensures 0
    ∙ (sym (length-chain s.links.links _ _)
    ∙ (ap length (sym (get_or-chains s.links.links s.heads s.counts.items l c.self.invariant.0.heads_all inside))
    ∙ ap (λ v. length (listed_at v l)) c.self.view_is))
