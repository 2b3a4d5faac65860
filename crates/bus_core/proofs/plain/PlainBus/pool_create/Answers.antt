use Rattle.std.proofs.Common.{rules, ◌≡◌, refl}
use Rattle.fsw_base.specs.Limits.{limits_of}
use Rattle.bus_words.specs.declared.history.Call.TheVariants.{PoolCreate}
use Rattle.bus_core.specs.Answers.{pool_told}
use Rattle.bus_core.specs.Inside.{means}
use Rattle.bus_core.proofs.CallLaws.{bare, acts_quiet}
use Rattle.bus_core.proofs.plain.PlainBus.pool_create.Goals as goal

pub returns-clause-does : goal.returns-clause-does
returns-clause-does c =
    let a = c.self.inside in
    let call = PoolCreate c.args.bytes in
    let answer = pool_told c.create.result in
    let made : bare (limits_of a.config) (means a) c.args.app call ≡ (answer, means (record a { pools = c.create.new.self })) = search rules in
    acts_quiet a a.store a.activities c.create.new.self c.args.self.now c.args.app call answer c.self.view_is made refl refl refl c.self.invariant.covered
