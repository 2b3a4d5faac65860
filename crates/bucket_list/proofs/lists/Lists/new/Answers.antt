use Rattle.std.proofs.Common.{◌∙◌, ap, arith}
use Rattle.bucket_list.specs.Lists.{Listed}
use Rattle.bucket_list.specs.Inside.{chains}
use Rattle.bucket_list.proofs.ListInvariant.{linked-new, chains-new}
use Rattle.bucket_list.proofs.lists.Lists.new.Goals as goal

pub invariant_of-result : goal.invariant_of-result
invariant_of-result c = (
  linked-new c.in_ok-links.links.links c.in_ok-heads.heads c.in_ok-counts.counts.items c.args.lists (ap (λ r. r.links) c.in_ok-links.ensures) c.in_ok-heads.ensures c.in_ok-counts.ensures,
  omega (arith, ap (λ r. r.room) c.in_ok-links.ensures),
)

pub returns : goal.returns
returns c =
    ap (λ n. let w : Listed = record { room = n; nodes = 0; lists = chains c.in_ok-links.links.links c.in_ok-heads.heads c.in_ok-counts.counts.items } in w) (ap (λ r. r.room) c.in_ok-links.ensures)
    ∙ ap (λ lists. let w : Listed = record { room = c.args.nodes; nodes = 0; lists = lists } in w) (chains-new c.in_ok-links.links.links c.in_ok-heads.heads c.in_ok-counts.counts.items c.args.lists c.in_ok-heads.ensures c.in_ok-counts.ensures)
