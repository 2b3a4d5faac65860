use Rattle.std.proofs.Common.{sym, ap, subst, ◌∙◌, length, vec_capacity}
use Rattle.fsw_base.specs.Grants.{after_end}
use Rattle.app_pools.specs.Inside.{AreGivenBack}
use Rattle.app_pools.proofs.Returns.{end_is, kept_ended}
use Rattle.app_pools.proofs.pool.AppPool.end.Goals as goal

pub invariant_of-self : goal.invariant_of-self
invariant_of-self g c =
    let s = c.self.inside in
    let freed = subst (λ l. AreGivenBack s.pool c.free_all_of.new.pool l c.args.app (length l)) c.deref.ensures.value c.free_all_of.ensures.freed in
    kept_ended s.pool c.free_all_of.new.pool s.given (vec_capacity s.lent) c.args.app s.lent.items c.leave_others.new.lent.items c.self.invariant freed c.leave_others.ensures.others (vec_capacity c.leave_others.new.lent) c.leave_others.ensures.room

pub returns-clause-after : goal.returns-clause-after
returns-clause-after g c =
    let s = c.self.inside in
    let freed = subst (λ l. AreGivenBack s.pool c.free_all_of.new.pool l c.args.app (length l)) c.deref.ensures.value c.free_all_of.ensures.freed in
    sym (end_is s.pool c.free_all_of.new.pool s.given (vec_capacity s.lent) c.args.app s.lent.items c.leave_others.new.lent.items c.self.invariant freed c.leave_others.ensures.others)
    ∙ ap (after_end c.args.app) c.self.view_is
