use Rattle.std.proofs.Common.{◌+◌, ◌*◌, refl, ap, arith}
use Rattle.routing.specs.Dests.{DestTable}
use Rattle.routing.proofs.NewLists.{made}
use Rattle.routing.proofs.dests.DestLists.new.Goals as goal

pub invariant_of-result : goal.invariant_of-result
invariant_of-result c =
    (made c.in_ok-links.links c.in_ok-tails.tails c.in_ok-lens.lens.items c.in_ok-subs.subs.items (c.args.lists * c.args.limit) c.args.limit c.args.lists (c.args.lists * c.args.limit + c.args.lists) c.in_ok-free.free
    c.in_ok-links.ensures c.in_ok-tails.ensures c.in_ok-lens.ensures c.in_ok-subs.ensures (ap (λ f. f.room) c.in_ok-free.ensures) (ap (λ f. f.nodes) c.in_ok-free.ensures) (ap (λ f. f.lists) c.in_ok-free.ensures)
    refl (omega (arith, c.requires)) refl).0

pub returns : goal.returns
returns c =
    ap (λ lists. let t : DestTable = record { limit = c.args.limit; lists = lists } in t)
    (made c.in_ok-links.links c.in_ok-tails.tails c.in_ok-lens.lens.items c.in_ok-subs.subs.items (c.args.lists * c.args.limit) c.args.limit c.args.lists (c.args.lists * c.args.limit + c.args.lists) c.in_ok-free.free
    c.in_ok-links.ensures c.in_ok-tails.ensures c.in_ok-lens.ensures c.in_ok-subs.ensures (ap (λ f. f.room) c.in_ok-free.ensures) (ap (λ f. f.nodes) c.in_ok-free.ensures) (ap (λ f. f.lists) c.in_ok-free.ensures)
    refl (omega (arith, c.requires)) refl).1
