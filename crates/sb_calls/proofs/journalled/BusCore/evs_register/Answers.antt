use Rattle.bus_words.specs.declared.calls.BusAnswer.TheVariants.{Done}
use Rattle.bus_words.specs.declared.history.Call.TheVariants.{Register}
use Rattle.sb_calls.proofs.CoreBags.{bags_over}
use Rattle.sb_calls.proofs.CallEffects.{made_register}
use Rattle.sb_calls.proofs.EntryLemma.{may_act, stands_over, does_over}
use Rattle.sb_calls.proofs.journalled.BusCore.evs_register.Goals as goal

pub evs_register-requires : goal.evs_register-requires
evs_register-requires c = record { may = may_act c.self.inside c.args.self.now c.args.app (Register c.args.filters.now) c.self.view_is c.self.invariant c.requires.may }

pub invariant_of-self : goal.invariant_of-self
invariant_of-self c =
    stands_over c.self.inside c.evs_register.new.self c.push.new.self c.args.self.now c.args.app (Register c.args.filters.now) Done c.self.view_is c.self.invariant c.requires.may
    (made_register c.self.inside c.evs_register.new.self c.push.new.self c.args.app c.args.filters.now c.again.result c.again.ensures
    c.evs_register.ensures.does c.evs_register.ensures.loans c.evs_register.ensures.descs c.push.ensures)

pub returns-clause-does : goal.returns-clause-does
returns-clause-does c =
    does_over c.self.inside c.evs_register.new.self c.push.new.self c.args.self.now c.args.app (Register c.args.filters.now) Done c.self.view_is c.self.invariant c.requires.may
    (made_register c.self.inside c.evs_register.new.self c.push.new.self c.args.app c.args.filters.now c.again.result c.again.ensures
    c.evs_register.ensures.does c.evs_register.ensures.loans c.evs_register.ensures.descs c.push.ensures)

pub returns-clause-bags : goal.returns-clause-bags
returns-clause-bags c =
    bags_over c.self.inside (record { core = c.evs_register.new.self; noted = c.push.new.self }) c.args.self.now c.self.view_is c.self.invariant (invariant_of-self c) c.evs_register.ensures.bags
