use Rattle.std.proofs.Common.{◌≡◌, ◌<◌, length, get_or, ap, sym, ◌∙◌, arith}
use Rattle.routing.specs.Dests.{dests_in}
use Rattle.routing.specs.Inside.{rings}
use Rattle.routing.proofs.Nodes.{length-rings, length-ring}
use Rattle.routing.proofs.ListViews.{length-seen, get_or-seen, length-dests}
use Rattle.routing.proofs.dests.DestLists.recall_limit.Goals as goal

pub returns : goal.returns
returns c = λ list below.
    let s = c.self.inside in
    let lists = rings s.links s.nodes s.lens.items in
    let h : list < length s.lens.items = omega (arith, below, length-seen s.subs.items lists, length-rings s.links s.nodes s.lens.items, ap (λ v. length v.lists) c.self.view_is) in
    let many : length (dests_in c.args.self.now list) ≡ get_or s.lens.items list 0 =
    sym (ap (λ v. length (dests_in v list)) c.self.view_is) ∙ (ap (λ ds. length ds) (get_or-seen s.subs.items lists list) ∙ (length-dests s.subs.items _ ∙ length-ring s.links s.nodes s.lens.items list h)) in
    omega (arith, many, c.self.invariant.within list h, ap (λ v. v.limit) c.self.view_is)
