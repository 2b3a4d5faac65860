use Rattle.std.proofs.Common.{rules, ◌≡◌, refl}
use Rattle.fsw_base.specs.Limits.{limits_of}
use Rattle.bus_words.specs.declared.history.Call.TheVariants.{PoolFigures}
use Rattle.bus_core.specs.Answers.{figures_told}
use Rattle.bus_core.specs.Inside.{means}
use Rattle.bus_core.proofs.CallLaws.{bare, acts_still}
use Rattle.bus_core.proofs.plain.PlainBus.pool_stats.Goals as goal

pub returns : goal.returns
returns c = λ app.
    let a = c.self.inside in
    let call = PoolFigures c.args.pool in
    let answer = figures_told c.stats.result in
    let made : bare (limits_of a.config) (means a) app call ≡ (answer, means a) = search rules in
    acts_still a c.args.self.now app call answer c.self.view_is c.self.invariant made refl refl refl
