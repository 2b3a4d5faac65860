use Rattle.std.proofs.Common.{refl}
use Rattle.bus_words.specs.declared.calls.BusAnswer.TheVariants.{Done}
use Rattle.bus_words.specs.declared.history.Call.TheVariants.{LogMode}
use Rattle.sb_calls.proofs.CoreBags.{bags_over}
use Rattle.sb_calls.proofs.CallEffects.{made_plain}
use Rattle.sb_calls.proofs.EntryLemma.{may_act, stands_over, does_over}
use Rattle.sb_calls.proofs.journalled.BusCore.set_log_mode.Goals as goal

pub set_log_mode-requires : goal.set_log_mode-requires
set_log_mode-requires c = record { may = may_act c.self.inside c.args.self.now c.args.app (LogMode c.args.mode) c.self.view_is c.self.invariant c.requires.may }

pub invariant_of-self : goal.invariant_of-self
invariant_of-self c =
    stands_over c.self.inside c.set_log_mode.new.self c.push.new.self c.args.self.now c.args.app (LogMode c.args.mode) Done c.self.view_is c.self.invariant c.requires.may
    (made_plain c.self.inside c.set_log_mode.new.self c.push.new.self c.args.app (LogMode c.args.mode) Done Done c.set_log_mode.ensures.does refl refl refl
    c.push.ensures refl (λ pipe. refl) (λ number. refl) c.set_log_mode.ensures.loans c.set_log_mode.ensures.descs)

pub returns-clause-does : goal.returns-clause-does
returns-clause-does c =
    does_over c.self.inside c.set_log_mode.new.self c.push.new.self c.args.self.now c.args.app (LogMode c.args.mode) Done c.self.view_is c.self.invariant c.requires.may
    (made_plain c.self.inside c.set_log_mode.new.self c.push.new.self c.args.app (LogMode c.args.mode) Done Done c.set_log_mode.ensures.does refl refl refl
    c.push.ensures refl (λ pipe. refl) (λ number. refl) c.set_log_mode.ensures.loans c.set_log_mode.ensures.descs)

pub returns-clause-bags : goal.returns-clause-bags
returns-clause-bags c =
    bags_over c.self.inside (record { core = c.set_log_mode.new.self; noted = c.push.new.self }) c.args.self.now c.self.view_is c.self.invariant (invariant_of-self c) c.set_log_mode.ensures.bags
