use Rattle.std.proofs.Common.{rules, ◌≡◌, refl}
use Rattle.fsw_base.specs.Limits.{limits_of}
use Rattle.bus_words.specs.declared.history.Call.TheVariants.{PoolPut}
use Rattle.bus_core.specs.Answers.{grant_back}
use Rattle.bus_core.specs.Inside.{means}
use Rattle.bus_core.proofs.CallLaws.{bare, acts_quiet}
use Rattle.bus_core.proofs.plain.PlainBus.pool_put.Goals as goal

pub returns-clause-does : goal.returns-clause-does
returns-clause-does g c =
    let a = c.self.inside in
    let call = PoolPut c.args.pool c.args.grant in
    let answer = grant_back c.put.result in
    let made : bare (limits_of a.config) (means a) c.args.app call ≡ (answer, means (record a { pools = c.put.new.self })) = search rules in
    acts_quiet a a.store a.activities c.put.new.self c.args.self.now c.args.app call answer c.self.view_is made refl refl refl c.self.invariant.covered
