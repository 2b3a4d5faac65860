use Rattle.std.proofs.Common.{◌≡◌, ◌+◌, IfOk, refl, subst}
use Rattle.bus_words.specs.declared.history.Call.TheVariants.{PoolGet}
use Rattle.bus_core.specs.Answers.{pool_told}
use Rattle.bus_core.proofs.CallLaws.{acts_quiet}
use Rattle.bus_core.proofs.PoolCalls.{get_made, get_numbered}
use Rattle.fsw_base.specs.Grants.{pool_in}
use Rattle.bus_core.specs.Core.{Plain}
use Rattle.bus_core.proofs.plain.PlainBus.pool_get.Goals as goal

pub returns-clause-does : goal.returns-clause-does
returns-clause-does g c = λ left.
    let a = c.self.inside in
    acts_quiet a a.store a.activities c.get.new.self c.args.self.now c.args.app (PoolGet c.args.pool c.args.size) (pool_told c.get.result) c.self.view_is
    (get_made a c.args.app c.args.pool c.args.size c.get.result c.get.new.self c.get.ensures.answer c.get.ensures.after) refl refl refl c.self.invariant.covered

pub returns-clause-number : goal.returns-clause-number
returns-clause-number g c =
    let a = c.self.inside in
    subst (λ (p : Plain). IfOk c.get.result (λ n. n ≡ (pool_in p.whole.bus.pools c.args.pool).given + 1)) c.self.view_is
    (get_numbered a.pools c.args.pool c.args.size c.get.result c.get.ensures.answer)
