use Rattle.std.proofs.Common.{refl}
use Rattle.bus_words.specs.declared.calls.BusAnswer.TheVariants.{Done}
use Rattle.bus_words.specs.declared.history.Call.TheVariants.{ClearLog}
use Rattle.sb_calls.proofs.CoreBags.{bags_over}
use Rattle.sb_calls.proofs.CallEffects.{made_plain}
use Rattle.sb_calls.proofs.EntryLemma.{may_act, stands_over, does_over}
use Rattle.sb_calls.proofs.journalled.BusCore.clear_log.Goals as goal

pub clear_log-requires : goal.clear_log-requires
clear_log-requires c = record { may = may_act c.self.inside c.args.self.now c.args.app ClearLog c.self.view_is c.self.invariant c.requires.may }

pub invariant_of-self : goal.invariant_of-self
invariant_of-self c =
    stands_over c.self.inside c.clear_log.new.self c.push.new.self c.args.self.now c.args.app ClearLog Done c.self.view_is c.self.invariant c.requires.may
    (made_plain c.self.inside c.clear_log.new.self c.push.new.self c.args.app ClearLog Done Done c.clear_log.ensures.does refl refl refl
    c.push.ensures refl (λ pipe. refl) (λ number. refl) c.clear_log.ensures.loans c.clear_log.ensures.descs)

pub returns-clause-does : goal.returns-clause-does
returns-clause-does c =
    does_over c.self.inside c.clear_log.new.self c.push.new.self c.args.self.now c.args.app ClearLog Done c.self.view_is c.self.invariant c.requires.may
    (made_plain c.self.inside c.clear_log.new.self c.push.new.self c.args.app ClearLog Done Done c.clear_log.ensures.does refl refl refl
    c.push.ensures refl (λ pipe. refl) (λ number. refl) c.clear_log.ensures.loans c.clear_log.ensures.descs)

pub returns-clause-bags : goal.returns-clause-bags
returns-clause-bags c =
    bags_over c.self.inside (record { core = c.clear_log.new.self; noted = c.push.new.self }) c.args.self.now c.self.view_is c.self.invariant (invariant_of-self c) c.clear_log.ensures.bags
