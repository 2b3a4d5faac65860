use Rattle.std.proofs.Common.{refl, ap, ◌∙◌, arith}
use Rattle.fsw_base.specs.Grants.{pool_in, with_pool, put_answer, after_put}
use Rattle.app_pools.proofs.Places.{inside, reads, changes, opened_put, answer_there, answer_nowhere, unchanged_nowhere}
use Rattle.app_pools.proofs.pools.AppPools.put.Goals as goal

pub index_mut-requires : goal.index_mut-requires
index_mut-requires g c =
    let a = c.self.inside in
    omega (arith, inside a.most a.made a.sizes a.places.items c.self.invariant c.args.self.now c.self.view_is c.args.pool c.in-Some.place c.in-Some.ensures.some, a.places.ok.0)

pub invariant_of-self : goal.invariant_of-self
invariant_of-self g c =
    let a = c.self.inside in
    let s = c.args.self.now in
    let there = c.index_mut.ensures.value ∙ reads a.most a.made a.sizes a.places.items c.self.invariant s c.self.view_is c.args.pool c.in-Some.place c.in-Some.ensures.some _ in
    opened_put a.most a.made a.sizes a.places.items c.self.invariant s c.self.view_is c.args.pool c.in-Some.place c.in-Some.ensures.some c.put.new.self c.args.grant
    (c.put.ensures.after ∙ ap (λ p. after_put p c.args.grant) there)

pub returns-in-Some-clause-answer : goal.returns-in-Some-clause-answer
returns-in-Some-clause-answer g c =
    let a = c.self.inside in
    let s = c.args.self.now in
    let there = c.index_mut.ensures.value ∙ reads a.most a.made a.sizes a.places.items c.self.invariant s c.self.view_is c.args.pool c.in-Some.place c.in-Some.ensures.some _ in
    answer_there s c.args.pool c.put.result (put_answer (pool_in s c.args.pool) c.args.grant) c.in-Some.ensures.some.there (c.put.ensures.answer ∙ ap (λ p. put_answer p c.args.grant) there)

pub returns-in-Some-clause-after : goal.returns-in-Some-clause-after
returns-in-Some-clause-after g c =
    let a = c.self.inside in
    let s = c.args.self.now in
    let there = c.index_mut.ensures.value ∙ reads a.most a.made a.sizes a.places.items c.self.invariant s c.self.view_is c.args.pool c.in-Some.place c.in-Some.ensures.some _ in
    changes a.most a.made a.sizes a.places.items c.self.invariant s c.self.view_is c.args.pool c.in-Some.place c.in-Some.ensures.some c.put.new.self
    ∙ ap (with_pool s c.args.pool) (c.put.ensures.after ∙ ap (λ p. after_put p c.args.grant) there)

pub returns-in-None-clause-answer : goal.returns-in-None-clause-answer
returns-in-None-clause-answer g c = answer_nowhere c.args.self.now c.args.pool (put_answer (pool_in c.args.self.now c.args.pool) c.args.grant) (c.in-None.ensures.none refl)

pub returns-in-None-clause-after : goal.returns-in-None-clause-after
returns-in-None-clause-after g c = unchanged_nowhere c.args.self.now c.args.pool (after_put (pool_in c.args.self.now c.args.pool) c.args.grant) (c.in-None.ensures.none refl)
