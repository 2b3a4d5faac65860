use Rattle.std.proofs.Common.{◌+◌, ap, refl}
use Rattle.zero_copy.specs.Held.{HeldDescs}
use Rattle.zero_copy.proofs.Changes.{held_new}
use Rattle.zero_copy.proofs.held.HeldLists.new.Goals as goal

pub invariant_of-result : goal.invariant_of-result
invariant_of-result c =
    (held_new c.in_ok-next.next c.in_ok-prev.prev c.in_ok-counts.counts.items c.in_ok-owners.owners.items c.args.descs c.args.apps (c.args.descs + c.args.apps)
    c.in_ok-next.ensures c.in_ok-prev.ensures c.in_ok-counts.ensures c.in_ok-owners.ensures refl c.requires).0

pub returns : goal.returns
returns c =
    ap (λ lists. let v : HeldDescs = record { descs = c.args.descs; lists = lists } in v)
    (held_new c.in_ok-next.next c.in_ok-prev.prev c.in_ok-counts.counts.items c.in_ok-owners.owners.items c.args.descs c.args.apps (c.args.descs + c.args.apps)
    c.in_ok-next.ensures c.in_ok-prev.ensures c.in_ok-counts.ensures c.in_ok-owners.ensures refl c.requires).1
