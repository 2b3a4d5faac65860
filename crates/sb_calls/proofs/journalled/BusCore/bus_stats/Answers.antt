use Rattle.std.proofs.Common.{refl}
use Rattle.bus_words.specs.declared.calls.BusAnswer.TheVariants.{Bus}
use Rattle.bus_words.specs.declared.history.Call.TheVariants.{Figures}
use Rattle.sb_calls.proofs.CoreBags.{bags_over}
use Rattle.sb_calls.proofs.CallEffects.{made_plain}
use Rattle.sb_calls.proofs.EntryLemma.{stands_over, does_over}
use Rattle.sb_calls.proofs.journalled.BusCore.bus_stats.Goals as goal

pub invariant_of-self : goal.invariant_of-self
invariant_of-self c =
    stands_over c.self.inside c.self.inside.core c.push.new.self c.args.self.now c.args.app Figures (Bus c.bus_stats-result.result) c.self.view_is c.self.invariant c.requires.may
    (made_plain c.self.inside c.self.inside.core c.push.new.self c.args.app Figures (Bus c.bus_stats-result.result) (Bus c.bus_stats-result.result) (c.bus_stats-result.ensures c.args.app) refl refl refl
    c.push.ensures refl (λ pipe. refl) (λ number. refl) (λ pipe. refl) (λ number. refl))

pub returns-clause-does : goal.returns-clause-does
returns-clause-does c =
    does_over c.self.inside c.self.inside.core c.push.new.self c.args.self.now c.args.app Figures (Bus c.bus_stats-result.result) c.self.view_is c.self.invariant c.requires.may
    (made_plain c.self.inside c.self.inside.core c.push.new.self c.args.app Figures (Bus c.bus_stats-result.result) (Bus c.bus_stats-result.result) (c.bus_stats-result.ensures c.args.app) refl refl refl
    c.push.ensures refl (λ pipe. refl) (λ number. refl) (λ pipe. refl) (λ number. refl))

pub returns-clause-bags : goal.returns-clause-bags
returns-clause-bags c =
    bags_over c.self.inside (record { core = c.self.inside.core; noted = c.push.new.self }) c.args.self.now c.self.view_is c.self.invariant (invariant_of-self c) (λ app bag has. has)
