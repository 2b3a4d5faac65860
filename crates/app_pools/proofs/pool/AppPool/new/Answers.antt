use Rattle.std.proofs.Common.{sym, subst, ap, ◌∙◌, vec_capacity, arith}
use Rattle.app_pools.specs.Inside.{grants_of, AreKept}
use Rattle.app_pools.proofs.Keeps.{kept_new, new_is}
use Rattle.app_pools.proofs.pool.AppPool.new.Goals as goal

pub invariant_of-result : goal.invariant_of-result
invariant_of-result c =
    subst (λ lent. AreKept c.in_ok-pool.pool 0 lent (vec_capacity c.in_ok-lent.lent)) (sym c.in_ok-lent.ensures.items)
    (kept_new c.in_ok-pool.pool c.args.bytes (vec_capacity c.in_ok-lent.lent) c.args.sizes c.in_ok-pool.ensures (omega (arith, c.most_blocks.ensures, c.in_ok-lent.ensures.exact)))

pub returns : goal.returns
returns c = ap (grants_of c.in_ok-pool.pool 0) c.in_ok-lent.ensures.items ∙ new_is c.in_ok-pool.pool c.args.bytes c.args.sizes c.in_ok-pool.ensures
