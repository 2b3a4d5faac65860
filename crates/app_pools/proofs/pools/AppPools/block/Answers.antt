-- Where the block of a grant of a pool lies.
use Rattle.std.proofs.Common.{◌≡◌, ◌+◌, ◌≤◌, Option, IfOk, get_or, refl, ap, subst, ◌∙◌, arith}
use Rattle.std.specs.Result.{result_err}
use Rattle.fsw_base.specs.declared.statuses.EsStatus.{EsStatus}
use Rattle.fsw_base.specs.Grants.{PoolGrants, pool_in, put_answer, class_under}
use Rattle.app_pools.specs.declared.pool.GrantBlock.{GrantBlock}
use Rattle.app_pools.proofs.Places.{inside, reads, refusal_there, refusal_nowhere}
use Rattle.app_pools.proofs.pools.AppPools.block.Goals as goal

pub index-requires : goal.index-requires
index-requires c =
    let a = c.self.inside in
    omega (arith, inside a.most a.made a.sizes a.places.items c.self.invariant c.args.self.now c.self.view_is c.args.pool c.in-Some.place c.in-Some.ensures.some, a.places.ok.0)

pub returns-in-Some-clause-refused : goal.returns-in-Some-clause-refused
returns-in-Some-clause-refused c =
    let a = c.self.inside in
    let s = c.args.self.now in
    let there = c.index.ensures ∙ reads a.most a.made a.sizes a.places.items c.self.invariant s c.self.view_is c.args.pool c.in-Some.place c.in-Some.ensures.some _ in
    refusal_there s c.args.pool c.block.result (put_answer (pool_in s c.args.pool) c.args.grant) c.in-Some.ensures.some.there
    (c.block.ensures.refused ∙ ap (λ (p : PoolGrants). let told : Option EsStatus = result_err (put_answer p c.args.grant) in told) there)

pub returns-in-Some-clause-within : goal.returns-in-Some-clause-within
returns-in-Some-clause-within c =
    let a = c.self.inside in
    let s = c.args.self.now in
    let there = c.index.ensures ∙ reads a.most a.made a.sizes a.places.items c.self.invariant s c.self.view_is c.args.pool c.in-Some.place c.in-Some.ensures.some _ in
    subst (λ (p : PoolGrants). IfOk c.block.result (λ (block : GrantBlock). block.offset + block.size ≤ p.bytes)) there c.block.ensures.within

pub returns-in-Some-clause-size : goal.returns-in-Some-clause-size
returns-in-Some-clause-size c =
    let a = c.self.inside in
    let s = c.args.self.now in
    let there = c.index.ensures ∙ reads a.most a.made a.sizes a.places.items c.self.invariant s c.self.view_is c.args.pool c.in-Some.place c.in-Some.ensures.some _ in
    subst (λ (p : PoolGrants). IfOk c.block.result (λ (block : GrantBlock). block.size ≡ get_or p.sizes (class_under p.out c.args.grant) 0)) there c.block.ensures.size

pub returns-in-None-clause-refused : goal.returns-in-None-clause-refused
returns-in-None-clause-refused c = refusal_nowhere c.args.self.now c.args.pool (put_answer (pool_in c.args.self.now c.args.pool) c.args.grant) (c.in-None.ensures.none refl)
