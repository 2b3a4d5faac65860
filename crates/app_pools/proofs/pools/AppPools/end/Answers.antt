use Rattle.std.proofs.Common.{ap, arith}
use Rattle.fsw_base.specs.Grants.{held_in}
use Rattle.app_pools.proofs.Places.{ended_is, opened_ended}
use Rattle.app_pools.proofs.pools.AppPools.end.Goals as goal

pub invariant_of-self : goal.invariant_of-self
invariant_of-self g c =
    let a = c.self.inside in
    opened_ended a.most a.made a.sizes a.places.items c.self.invariant c.args.app c.end_all.new.places.items c.end_all.ensures.after

pub returns-clause-after : goal.returns-clause-after
returns-clause-after g c =
    let a = c.self.inside in
    ended_is a.most a.made a.sizes a.places.items c.self.invariant c.args.app c.end_all.new.places.items c.end_all.ensures.after c.args.self.now c.self.view_is

pub end_all-requires : goal.end_all-requires
end_all-requires g c = omega (arith, c.self.invariant.within, c.self.invariant.eight)

pub returns-clause-cost : goal.returns-clause-cost
returns-clause-cost g c = omega (arith, c.end_all.ensures.cost, ap (λ s. held_in s c.args.app) c.self.view_is)
