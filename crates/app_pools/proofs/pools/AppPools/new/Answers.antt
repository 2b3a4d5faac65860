use Rattle.std.proofs.Common.{sym, subst}
use Rattle.app_pools.specs.Inside.{AreOpened}
use Rattle.app_pools.proofs.Places.{opened_new}
use Rattle.app_pools.proofs.pools.AppPools.new.Goals as goal

pub invariant_of-result : goal.invariant_of-result
invariant_of-result c =
    let places = c.in_ok-places.places.items in
    subst (λ sizes. AreOpened c.args.config.now.apppool sizes 0 places) (sym c.again.ensures)
    (opened_new c.args.config.now.apppool c.args.config.now.sizes places c.in_ok-places.ensures)
