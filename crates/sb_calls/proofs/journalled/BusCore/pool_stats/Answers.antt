use Rattle.std.proofs.Common.{refl}
use Rattle.bus_words.specs.declared.history.Call.TheVariants.{PoolFigures}
use Rattle.sb_calls.proofs.CoreBags.{bags_over}
use Rattle.sb_calls.proofs.CallEffects.{made_plain, figures-nothing}
use Rattle.sb_calls.proofs.EntryLemma.{stands_over, does_over}
use Rattle.sb_calls.proofs.journalled.BusCore.pool_stats.Goals as goal

pub invariant_of-self : goal.invariant_of-self
invariant_of-self c =
    stands_over c.self.inside c.self.inside.core c.push.new.self c.args.self.now c.args.app (PoolFigures c.args.pool) _ c.self.view_is c.self.invariant c.requires.may
    (made_plain c.self.inside c.self.inside.core c.push.new.self c.args.app (PoolFigures c.args.pool) _ c.of_figures.result (c.pool_stats-result.ensures c.args.app) refl refl c.of_figures.ensures
    c.push.ensures (figures-nothing c.pool_stats-result.result (PoolFigures c.args.pool) 0) (λ pipe. refl) (λ number. refl) (λ pipe. refl) (λ number. refl))

pub returns-clause-does : goal.returns-clause-does
returns-clause-does c =
    does_over c.self.inside c.self.inside.core c.push.new.self c.args.self.now c.args.app (PoolFigures c.args.pool) _ c.self.view_is c.self.invariant c.requires.may
    (made_plain c.self.inside c.self.inside.core c.push.new.self c.args.app (PoolFigures c.args.pool) _ c.of_figures.result (c.pool_stats-result.ensures c.args.app) refl refl c.of_figures.ensures
    c.push.ensures (figures-nothing c.pool_stats-result.result (PoolFigures c.args.pool) 0) (λ pipe. refl) (λ number. refl) (λ pipe. refl) (λ number. refl))

pub returns-clause-bags : goal.returns-clause-bags
returns-clause-bags c =
    bags_over c.self.inside (record { core = c.self.inside.core; noted = c.push.new.self }) c.args.self.now c.self.view_is c.self.invariant (invariant_of-self c) (λ app bag has. has)
