use Rattle.std.proofs.Common.{◌+◌, Err, refl, sym, ap, subst, ◌∙◌, vec_capacity, arith}
use Rattle.es_pool.specs.Pool.{fits}
use Rattle.fsw_base.specs.Grants.{get_answer, after_get}
use Rattle.app_pools.specs.Inside.{grants_of, AreKept}
use Rattle.app_pools.specs.declared.pool.Lent.{Lent}
use Rattle.app_pools.proofs.Keeps.{room_left, kept_push, given_is, answer_given, answer_refused, refused_is, false_unless}
use Rattle.app_pools.proofs.pool.AppPool.get.Goals as goal

pub push_reserved-requires : goal.push_reserved-requires
push_reserved-requires g c =
    let s = c.self.inside in
    let row : Lent = record { number = s.given + 1; app = c.args.app; class = c.class_of.result; block = c.in-Ok.block } in
    let left = room_left s.pool c.get.new.self s.given (vec_capacity s.lent) c.args.size s.lent.items c.self.invariant row c.in-Ok.ensures.drawn c.in-Ok.ensures.was_not_out c.recall_whole.ensures in
    omega (arith, left, s.lent.ok.0)

pub invariant_of-self : goal.invariant_of-self
invariant_of-self g c =
    let s = c.self.inside in
    let row : Lent = record { number = s.given + 1; app = c.args.app; class = c.class_of.result; block = c.in-Ok.block } in
    subst (λ l. AreKept c.get.new.self (s.given + 1) l (vec_capacity c.push_reserved.new.self)) (sym c.push_reserved.ensures.items)
    (kept_push s.pool c.get.new.self s.given (vec_capacity s.lent) c.args.size s.lent.items c.self.invariant row c.in-Ok.ensures.drawn c.in-Ok.ensures.was_not_out (vec_capacity c.push_reserved.new.self) c.push_reserved.ensures.capacity c.in-Ok.ensures.is_out c.class_of.ensures refl)

pub returns-in-Ok-clause-answer : goal.returns-in-Ok-clause-answer
returns-in-Ok-clause-answer g c =
    let s = c.self.inside in
    answer_given s.pool s.given (vec_capacity s.lent) c.args.size s.lent.items c.self.invariant (c.in-Ok.ensures.given.0 refl) ∙ ap (λ p. get_answer p c.args.size) c.self.view_is

pub returns-in-Ok-clause-after : goal.returns-in-Ok-clause-after
returns-in-Ok-clause-after g c =
    let s = c.self.inside in
    let row : Lent = record { number = s.given + 1; app = c.args.app; class = c.class_of.result; block = c.in-Ok.block } in
    ap (grants_of c.get.new.self (s.given + 1)) c.push_reserved.ensures.items
    ∙ (sym (given_is s.pool c.get.new.self s.given (vec_capacity s.lent) c.args.size s.lent.items c.self.invariant row c.in-Ok.ensures.drawn c.in-Ok.ensures.was_not_out (c.in-Ok.ensures.given.0 refl) c.class_of.ensures refl)
    ∙ ap (λ p. after_get p c.args.app c.args.size) c.self.view_is)

pub returns-in-Err-clause-answer : goal.returns-in-Err-clause-answer
returns-in-Err-clause-answer g c =
    let s = c.self.inside in
    ap Err c.in-Err.ensures.only_error
    ∙ (answer_refused s.pool s.given (vec_capacity s.lent) c.args.size s.lent.items c.self.invariant (false_unless (fits s.pool c.args.size 1) c.in-Err.ensures.given.1) ∙ ap (λ p. get_answer p c.args.size) c.self.view_is)

pub returns-in-Err-clause-after : goal.returns-in-Err-clause-after
returns-in-Err-clause-after g c =
    let s = c.self.inside in
    ap (λ p. grants_of p s.given s.lent.items) c.in-Err.ensures.unchanged
    ∙ (sym (refused_is s.pool s.given (vec_capacity s.lent) c.args.app c.args.size s.lent.items c.self.invariant (false_unless (fits s.pool c.args.size 1) c.in-Err.ensures.given.1)) ∙ ap (λ p. after_get p c.args.app c.args.size) c.self.view_is)
