use Rattle.std.proofs.Common.{All, subst}
use Rattle.std.proofs.lemmas.List.Elements.{All-take}
use Rattle.fsw_base.specs.Grants.{Pools, IsNumbered}
use Rattle.app_pools.proofs.pools.AppPools.recall_numbered.Goals as goal

pub returns : goal.returns
returns c =
    let a = c.self.inside in
    subst (λ (s : Pools). All IsNumbered s.pools) c.self.view_is (All-take IsNumbered a.made a.places.items c.self.invariant.numbered)
