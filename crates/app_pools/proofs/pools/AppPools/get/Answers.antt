use Rattle.std.proofs.Common.{◌^◌, ◌-◌, ◌<◌, refl, sym, ap, subst, ◌∙◌, arith}
use Rattle.fsw_base.specs.Grants.{PoolGrants, pool_in, with_pool, get_answer, after_get}
use Rattle.app_pools.proofs.Places.{inside, reads, changes, opened_get, numbers_there, answer_there, answer_nowhere, unchanged_nowhere}
use Rattle.app_pools.proofs.pools.AppPools.get.Goals as goal

pub index_mut-requires : goal.index_mut-requires
index_mut-requires g c =
    let a = c.self.inside in
    omega (arith, inside a.most a.made a.sizes a.places.items c.self.invariant c.args.self.now c.self.view_is c.args.pool c.in-Some.place c.in-Some.ensures.some, a.places.ok.0)

pub get-requires : goal.get-requires
get-requires g c =
    let a = c.self.inside in
    let there = c.index_mut.ensures.value ∙ reads a.most a.made a.sizes a.places.items c.self.invariant c.args.self.now c.self.view_is c.args.pool c.in-Some.place c.in-Some.ensures.some _ in
    record { numbers_left = subst (λ (p : PoolGrants). p.given < 2 ^ 64 - 1) (sym there) (numbers_there c.args.self.now c.args.pool c.in-Some.ensures.some.there c.requires.numbers_left) }

pub invariant_of-self : goal.invariant_of-self
invariant_of-self g c =
    let a = c.self.inside in
    let s = c.args.self.now in
    let there = c.index_mut.ensures.value ∙ reads a.most a.made a.sizes a.places.items c.self.invariant s c.self.view_is c.args.pool c.in-Some.place c.in-Some.ensures.some _ in
    opened_get a.most a.made a.sizes a.places.items c.self.invariant s c.self.view_is c.args.pool c.in-Some.place c.in-Some.ensures.some c.get.new.self c.args.app c.args.size
    (c.get.ensures.after ∙ ap (λ p. after_get p c.args.app c.args.size) there)

pub returns-in-Some-clause-answer : goal.returns-in-Some-clause-answer
returns-in-Some-clause-answer g c =
    let a = c.self.inside in
    let s = c.args.self.now in
    let there = c.index_mut.ensures.value ∙ reads a.most a.made a.sizes a.places.items c.self.invariant s c.self.view_is c.args.pool c.in-Some.place c.in-Some.ensures.some _ in
    answer_there s c.args.pool c.get.result (get_answer (pool_in s c.args.pool) c.args.size) c.in-Some.ensures.some.there (c.get.ensures.answer ∙ ap (λ p. get_answer p c.args.size) there)

pub returns-in-Some-clause-after : goal.returns-in-Some-clause-after
returns-in-Some-clause-after g c =
    let a = c.self.inside in
    let s = c.args.self.now in
    let there = c.index_mut.ensures.value ∙ reads a.most a.made a.sizes a.places.items c.self.invariant s c.self.view_is c.args.pool c.in-Some.place c.in-Some.ensures.some _ in
    changes a.most a.made a.sizes a.places.items c.self.invariant s c.self.view_is c.args.pool c.in-Some.place c.in-Some.ensures.some c.get.new.self
    ∙ ap (with_pool s c.args.pool) (c.get.ensures.after ∙ ap (λ p. after_get p c.args.app c.args.size) there)

pub returns-in-None-clause-answer : goal.returns-in-None-clause-answer
returns-in-None-clause-answer g c = answer_nowhere c.args.self.now c.args.pool (get_answer (pool_in c.args.self.now c.args.pool) c.args.size) (c.in-None.ensures.none refl)

pub returns-in-None-clause-after : goal.returns-in-None-clause-after
returns-in-None-clause-after g c = unchanged_nowhere c.args.self.now c.args.pool (after_get (pool_in c.args.self.now c.args.pool) c.args.app c.args.size) (c.in-None.ensures.none refl)
