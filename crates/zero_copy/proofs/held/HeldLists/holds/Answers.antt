use Rattle.std.proofs.Common.{◌≡◌, ◌-◌, ◌<◌, ◌∙◌, [], length, get_or, ap, arith}
use Rattle.std.proofs.lemmas.List.{get_or_read}
use Rattle.bucket_list.specs.Lists.{times_in}
use Rattle.zero_copy.specs.Inside.{rings}
use Rattle.zero_copy.specs.Held.{held_by}
use Rattle.zero_copy.proofs.Changes.{length-rings, owner_test}
use Rattle.zero_copy.proofs.held.HeldLists.holds.Goals as goal

pub index-requires : goal.index-requires
index-requires c =
    let s = c.self.inside in
    omega (arith, s.owners.ok, c.self.invariant.owners_all, c.requires.desc, ap (λ v. v.descs) c.self.view_is)

pub returns : goal.returns
returns c =
    let s = c.self.inside in
    let place : c.get.result - 1 < length s.counts.items = omega (arith, c.requires.app, c.get.ensures.first, c.get.ensures.value, length-rings s.next s.descs s.counts.items, ap (λ v. length v.lists) c.self.view_is) in
    let owner : c.index.result.now ≡ get_or s.owners.items c.args.desc 0 = get_or_read s.owners.items c.args.desc c.index.result.now (omega (arith, c.self.invariant.owners_all, c.requires.desc, ap (λ v. v.descs) c.self.view_is)) c.index.ensures 0 in
    let test = owner_test s.owners.items (c.get.result - 1) c.args.desc c.index.result.now c.get.result owner (omega (arith, c.get.ensures.first)) _ (c.self.invariant.owned (c.get.result - 1) c.args.desc place) in
    let same : times_in (get_or (rings s.next s.descs s.counts.items) (c.get.result - 1) []) c.args.desc ≡ times_in (held_by c.args.self.now c.args.app) c.args.desc =
    ap (λ n. times_in (get_or (rings s.next s.descs s.counts.items) (n - 1) []) c.args.desc) c.get.ensures.value ∙ ap (λ v. times_in (held_by v c.args.app) c.args.desc) c.self.view_is in
    ((λ yes. omega (arith, test.0 yes, same)), (λ held. test.1 (omega (arith, held, same))))
