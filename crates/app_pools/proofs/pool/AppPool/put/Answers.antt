use Rattle.std.proofs.Common.{◌≢◌, All, Err, refl, sym, ap, subst, ◌∙◌, vec_capacity}
use Rattle.es_pool.specs.Pool.{given_back}
use Rattle.fsw_base.specs.Grants.{put_answer, after_put}
use Rattle.app_pools.specs.Inside.{grants_of, AreKept, HasNumber}
use Rattle.app_pools.specs.declared.pool.Lent.{Lent}
use Rattle.app_pools.proofs.Keeps.{kept_removed, removed_is, removed_answer, refusal_is, never_out, answer_back}
use Rattle.app_pools.proofs.Rows.{among_none}
use Rattle.app_pools.proofs.pool.AppPool.put.Goals as goal

-- a grant that was never given
pub returns-then-not-was_given-clause-after : goal.returns-then-not-was_given-clause-after
returns-then-not-was_given-clause-after g c =
    let s = c.self.inside in
    let never = never_out s.pool s.given (vec_capacity s.lent) c.args.grant s.lent.items c.self.invariant (sym c.was_given.ensures ∙ c.if-not-was_given.true) in
    sym (refusal_is s.pool c.refuse.new.pool s.given (vec_capacity s.lent) c.args.grant s.lent.items c.self.invariant c.refuse.ensures.after never) ∙ ap (λ p. after_put p c.args.grant) c.self.view_is

-- a grant that is out
pub invariant_of-self-in-Some : goal.invariant_of-self-in-Some
invariant_of-self-in-Some g c =
    let s = c.self.inside in
    let here = subst (λ l. HasNumber l c.args.grant c.in-Some.place) c.deref.ensures.value c.in-Some.ensures.some in
    let back = c.free.ensures.after ∙ ap (λ (l : Lent). given_back s.pool l.block) c.remove-lent.ensures.value in
    subst (λ l. AreKept c.free.new.pool s.given l (vec_capacity c.remove-lent.new.self)) (sym c.remove-lent.ensures.items)
    (kept_removed s.pool c.free.new.pool s.given (vec_capacity s.lent) s.lent.items c.self.invariant c.args.grant c.in-Some.place here c.remove-lent.result back (vec_capacity c.remove-lent.new.self) c.remove-lent.ensures.capacity)

pub returns-in-Some-clause-answer : goal.returns-in-Some-clause-answer
returns-in-Some-clause-answer g c =
    let s = c.self.inside in
    let here = subst (λ l. HasNumber l c.args.grant c.in-Some.place) c.deref.ensures.value c.in-Some.ensures.some in
    let back = c.free.ensures.after ∙ ap (λ (l : Lent). given_back s.pool l.block) c.remove-lent.ensures.value in
    sym (removed_answer s.pool c.free.new.pool s.given (vec_capacity s.lent) s.lent.items c.self.invariant c.args.grant c.in-Some.place here c.remove-lent.result back) ∙ ap (λ p. put_answer p c.args.grant) c.self.view_is

pub returns-in-Some-clause-after : goal.returns-in-Some-clause-after
returns-in-Some-clause-after g c =
    let s = c.self.inside in
    let here = subst (λ l. HasNumber l c.args.grant c.in-Some.place) c.deref.ensures.value c.in-Some.ensures.some in
    let back = c.free.ensures.after ∙ ap (λ (l : Lent). given_back s.pool l.block) c.remove-lent.ensures.value in
    ap (grants_of c.free.new.pool s.given) c.remove-lent.ensures.items
    ∙ (sym (removed_is s.pool c.free.new.pool s.given (vec_capacity s.lent) s.lent.items c.self.invariant c.args.grant c.in-Some.place here c.remove-lent.result back) ∙ ap (λ p. after_put p c.args.grant) c.self.view_is)

-- a grant that isn't out any more
pub returns-in-None-clause-answer : goal.returns-in-None-clause-answer
returns-in-None-clause-answer g c =
    let s = c.self.inside in
    let none = among_none s.lent.items c.args.grant (subst (All (λ grant. grant.number ≢ c.args.grant)) c.deref.ensures.value (c.in-None.ensures.none refl)) in
    ap Err c.refuse-in-None.ensures.same
    ∙ (sym (answer_back (grants_of s.pool s.given s.lent.items) c.args.grant (sym c.was_given.ensures ∙ c.if-not-was_given.false) none) ∙ ap (λ p. put_answer p c.args.grant) c.self.view_is)

pub returns-in-None-clause-after : goal.returns-in-None-clause-after
returns-in-None-clause-after g c =
    let s = c.self.inside in
    let none = among_none s.lent.items c.args.grant (subst (All (λ grant. grant.number ≢ c.args.grant)) c.deref.ensures.value (c.in-None.ensures.none refl)) in
    sym (refusal_is s.pool c.refuse-in-None.new.pool s.given (vec_capacity s.lent) c.args.grant s.lent.items c.self.invariant c.refuse-in-None.ensures.after none) ∙ ap (λ p. after_put p c.args.grant) c.self.view_is
