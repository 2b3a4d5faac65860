use Rattle.std.proofs.Common.{◌<◌, ◌∙◌, length, ap, sym, arith}
use Rattle.std.proofs.lemmas.List.{get_or_read}
use Rattle.routing.specs.Dests.{dests_in}
use Rattle.routing.specs.Inside.{rings}
use Rattle.routing.proofs.Nodes.{length-rings, length-ring}
use Rattle.routing.proofs.ListViews.{length-seen, get_or-seen, length-dests}
use Rattle.routing.proofs.dests.DestLists.len.Goals as goal

pub index-requires : goal.index-requires
index-requires c =
    let s = c.self.inside in
    let lists = rings s.links s.nodes s.lens.items in
    omega (arith, s.lens.ok, length-seen s.subs.items lists, length-rings s.links s.nodes s.lens.items, ap (λ v. length v.lists) c.self.view_is)

pub returns : goal.returns
returns c =
    let s = c.self.inside in
    let list = c.args.list in
    let lists = rings s.links s.nodes s.lens.items in
    let h : list < length s.lens.items = omega (arith, length-seen s.subs.items lists, length-rings s.links s.nodes s.lens.items, ap (λ v. length v.lists) c.self.view_is) in
    get_or_read s.lens.items list c.index.result.now h c.index.ensures 0
    ∙ (sym (length-ring s.links s.nodes s.lens.items list h)
    ∙ (sym (length-dests s.subs.items _)
    ∙ (ap (λ ds. length ds) (sym (get_or-seen s.subs.items lists list))
    ∙ ap (λ v. length (dests_in v list)) c.self.view_is)))
