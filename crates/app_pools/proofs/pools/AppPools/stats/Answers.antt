use Rattle.std.proofs.Common.{Ok, refl, ap, ◌∙◌, arith}
use Rattle.fsw_base.specs.Grants.{pool_in, figures_of}
use Rattle.app_pools.proofs.Places.{inside, reads, answer_there, answer_nowhere}
use Rattle.app_pools.proofs.pools.AppPools.stats.Goals as goal

pub index-requires : goal.index-requires
index-requires c =
    let a = c.self.inside in
    omega (arith, inside a.most a.made a.sizes a.places.items c.self.invariant c.args.self.now c.self.view_is c.args.pool c.in-Some.place c.in-Some.ensures.some, a.places.ok.0)

pub returns-in-Some : goal.returns-in-Some
returns-in-Some c =
    let a = c.self.inside in
    let s = c.args.self.now in
    let there = c.index.ensures ∙ reads a.most a.made a.sizes a.places.items c.self.invariant s c.self.view_is c.args.pool c.in-Some.place c.in-Some.ensures.some _ in
    answer_there s c.args.pool (Ok c.stats.result) (Ok (figures_of (pool_in s c.args.pool))) c.in-Some.ensures.some.there (ap Ok (c.stats.ensures ∙ ap figures_of there))

pub returns-in-None : goal.returns-in-None
returns-in-None c = answer_nowhere c.args.self.now c.args.pool (Ok (figures_of (pool_in c.args.self.now c.args.pool))) (c.in-None.ensures.none refl)
