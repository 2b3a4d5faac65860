use Rattle.std.proofs.Common.{◌≤◌, sym, ap, subst, ◌∙◌, arith}
use Rattle.fsw_base.specs.Grants.{PoolGrants}
use Rattle.app_pools.proofs.Places.{few, open_place, within_most, fresh, created, opened_more, created_number}
use Rattle.app_pools.proofs.pools.AppPools.create.Goals as goal

pub index_mut-requires : goal.index_mut-requires
index_mut-requires c =
    let a = c.self.inside in
    omega (arith, open_place a.most a.made a.sizes a.places.items c.self.invariant c.args.self.now c.self.view_is c.args.bytes (sym c.refuses.ensures ∙ c.if-refuses.false), a.places.ok.0)

pub open-requires : goal.open-requires
open-requires c =
    let a = c.self.inside in
    let allowed = sym c.refuses.ensures ∙ c.if-refuses.false in
    let old = c.index_mut.ensures.value ∙ fresh a.most a.made a.sizes a.places.items c.self.invariant c.args.self.now c.self.view_is c.args.bytes allowed _ in
    record {
      unused = ap (λ (p : PoolGrants). p.given) old;
      within = subst (λ (p : PoolGrants). c.args.bytes ≤ p.bytes) (sym old) (within_most a.most a.made a.sizes a.places.items c.self.invariant c.args.self.now c.self.view_is c.args.bytes allowed);
    }

pub overflow_add-self : goal.overflow_add-self
overflow_add-self c =
    let a = c.self.inside in
    omega (arith, few a.most a.made a.sizes a.places.items c.self.invariant c.args.self.now c.self.view_is c.args.bytes (sym c.refuses.ensures ∙ c.if-refuses.false))

pub invariant_of-self : goal.invariant_of-self
invariant_of-self c =
    let a = c.self.inside in
    let allowed = sym c.refuses.ensures ∙ c.if-refuses.false in
    let old = c.index_mut.ensures.value ∙ fresh a.most a.made a.sizes a.places.items c.self.invariant c.args.self.now c.self.view_is c.args.bytes allowed _ in
    let new = c.open.ensures ∙ ap (λ (p : PoolGrants). record p { bytes = c.args.bytes }) old in
    opened_more a.most a.made a.sizes a.places.items c.self.invariant c.args.self.now c.self.view_is c.args.bytes allowed c.open.new.self new

pub returns-clause-answer : goal.returns-clause-answer
returns-clause-answer c =
    let a = c.self.inside in
    created_number a.most a.made a.sizes a.places.items c.self.invariant c.args.self.now c.self.view_is c.args.bytes (sym c.refuses.ensures ∙ c.if-refuses.false)

pub returns-clause-after : goal.returns-clause-after
returns-clause-after c =
    let a = c.self.inside in
    let allowed = sym c.refuses.ensures ∙ c.if-refuses.false in
    let old = c.index_mut.ensures.value ∙ fresh a.most a.made a.sizes a.places.items c.self.invariant c.args.self.now c.self.view_is c.args.bytes allowed _ in
    let new = c.open.ensures ∙ ap (λ (p : PoolGrants). record p { bytes = c.args.bytes }) old in
    created a.most a.made a.sizes a.places.items c.self.invariant c.args.self.now c.self.view_is c.args.bytes allowed c.open.new.self new
