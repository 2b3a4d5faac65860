-- Where the block of a grant lies.
use Rattle.std.proofs.Common.{◌≢◌, ◌+◌, ◌%◌, ◌≤◌, ℕ, All, Option, Result, get_or, refl, sym, ap, subst, ◌∙◌, vec_capacity, arith}
use Rattle.std.specs.Result.{result_err}
use Rattle.std.proofs.lemmas.List.{get_or_read}
use Rattle.fsw_base.specs.declared.statuses.EsStatus.{EsStatus}
use Rattle.es_pool.specs.Pool.{given_back}
use Rattle.es_pool.proofs.Keeps.{inside_from_out}
use Rattle.fsw_base.specs.Grants.{PoolGrants, put_answer, class_under}
use Rattle.app_pools.specs.Inside.{grants_of, IsLent, HasNumber}
use Rattle.app_pools.specs.declared.pool.Lent.{Lent}
use Rattle.app_pools.proofs.Keeps.{removed_answer, answer_back}
use Rattle.app_pools.proofs.Rows.{among_none, class_here}
use Rattle.app_pools.proofs.pool.AppPool.block.Goals as goal

abbrev refusal_of : Result Unit EsStatus → Option EsStatus
refusal_of r = result_err r

-- a grant that isn't out any more
pub returns-in-None-clause-refused : goal.returns-in-None-clause-refused
returns-in-None-clause-refused c =
    let s = c.self.inside in
    let none = among_none s.lent.items c.args.grant (subst (All (λ grant. grant.number ≢ c.args.grant)) c.deref.ensures.value (c.in-None.ensures.none refl)) in
    sym (ap refusal_of (answer_back (grants_of s.pool s.given s.lent.items) c.args.grant (sym c.was_given.ensures ∙ c.if-not-was_given.false) none))
    ∙ ap (λ (p : PoolGrants). refusal_of (put_answer p c.args.grant)) c.self.view_is

-- a grant that is out
pub index-requires : goal.index-requires
index-requires c =
    let s = c.self.inside in
    let here = subst (λ l. HasNumber l c.args.grant c.in-Some.place) c.deref.ensures.value c.in-Some.ensures.some in
    omega (arith, here.0, s.lent.ok)

pub offset_of-requires : goal.offset_of-requires
offset_of-requires c =
    let s = c.self.inside in
    let row = c.index.result.now in
    let here = subst (λ l. HasNumber l c.args.grant c.in-Some.place) c.deref.ensures.value c.in-Some.ensures.some in
    let lent = subst (IsLent s.pool) (sym (get_or_read s.lent.items c.in-Some.place row here.0 c.index.ensures row)) (c.self.invariant.blocks.each c.in-Some.place row here.0) in
    inside_from_out s.pool.blocks row.block lent.0

pub size_of-requires : goal.size_of-requires
size_of-requires c =
    let s = c.self.inside in
    let row = c.index.result.now in
    let here = subst (λ l. HasNumber l c.args.grant c.in-Some.place) c.deref.ensures.value c.in-Some.ensures.some in
    let lent = subst (IsLent s.pool) (sym (get_or_read s.lent.items c.in-Some.place row here.0 c.index.ensures row)) (c.self.invariant.blocks.each c.in-Some.place row here.0) in
    inside_from_out s.pool.blocks row.block lent.0

pub returns-in-Some-clause-refused : goal.returns-in-Some-clause-refused
returns-in-Some-clause-refused c =
    let s = c.self.inside in
    let row = c.index.result.now in
    let here = subst (λ l. HasNumber l c.args.grant c.in-Some.place) c.deref.ensures.value c.in-Some.ensures.some in
    sym (ap refusal_of (removed_answer s.pool (given_back s.pool (get_or s.lent.items c.in-Some.place row).block) s.given (vec_capacity s.lent) s.lent.items c.self.invariant c.args.grant c.in-Some.place here row refl))
    ∙ ap (λ (p : PoolGrants). refusal_of (put_answer p c.args.grant)) c.self.view_is

pub returns-in-Some-clause-aligned : goal.returns-in-Some-clause-aligned
returns-in-Some-clause-aligned c =
    ap (λ (n : ℕ). n % 8) c.offset_of.ensures.offset
    ∙ c.blocks_lie_apart.ensures.aligned c.self.inside.pool c.index.result.now.block c.recall_whole.ensures

pub returns-in-Some-clause-within : goal.returns-in-Some-clause-within
returns-in-Some-clause-within c =
    subst (λ (p : PoolGrants). c.offset_of.result + c.size_of.result ≤ p.bytes) c.self.view_is (omega (arith, c.offset_of.ensures.within, c.size_of.ensures))

pub returns-in-Some-clause-size : goal.returns-in-Some-clause-size
returns-in-Some-clause-size c =
    let s = c.self.inside in
    let row = c.index.result.now in
    let here = subst (λ l. HasNumber l c.args.grant c.in-Some.place) c.deref.ensures.value c.in-Some.ensures.some in
    let read = get_or_read s.lent.items c.in-Some.place row here.0 c.index.ensures row in
    let lent = subst (IsLent s.pool) (sym read) (c.self.invariant.blocks.each c.in-Some.place row here.0) in
    let class = ap (λ (l : Lent). l.class) read ∙ sym (class_here s.lent.items c.args.grant c.in-Some.place c.self.invariant.numbered.rising here row) in
    c.size_of.ensures ∙ ap (λ (n : ℕ). get_or s.pool.sizes n 0) (lent.1 ∙ class) ∙ ap (λ (p : PoolGrants). get_or p.sizes (class_under p.out c.args.grant) 0) c.self.view_is
