use Rattle.std.proofs.Common.{refl}
use Rattle.bus_words.specs.declared.history.Call.TheVariants.{SetOpts}
use Rattle.sb_calls.proofs.CoreBags.{bags_over}
use Rattle.sb_calls.proofs.CallEffects.{made_plain, done-nothing}
use Rattle.sb_calls.proofs.EntryLemma.{may_act, stands_over, does_over}
use Rattle.sb_calls.proofs.journalled.BusCore.set_opts.Goals as goal

pub set_opts-result-requires : goal.set_opts-result-requires
set_opts-result-requires c = record { may = may_act c.self.inside c.args.self.now c.args.app (SetOpts c.args.pipe c.args.bits) c.self.view_is c.self.invariant c.requires.may }

pub invariant_of-self : goal.invariant_of-self
invariant_of-self c =
    stands_over c.self.inside c.set_opts-result.new.self c.push.new.self c.args.self.now c.args.app (SetOpts c.args.pipe c.args.bits) _ c.self.view_is c.self.invariant c.requires.may
    (made_plain c.self.inside c.set_opts-result.new.self c.push.new.self c.args.app (SetOpts c.args.pipe c.args.bits) _ c.of_done.result c.set_opts-result.ensures.does refl refl c.of_done.ensures
    c.push.ensures (done-nothing c.set_opts-result.result (SetOpts c.args.pipe c.args.bits) 0) (λ pipe. refl) (λ number. refl) c.set_opts-result.ensures.loans c.set_opts-result.ensures.descs)

pub returns-clause-does : goal.returns-clause-does
returns-clause-does c =
    does_over c.self.inside c.set_opts-result.new.self c.push.new.self c.args.self.now c.args.app (SetOpts c.args.pipe c.args.bits) _ c.self.view_is c.self.invariant c.requires.may
    (made_plain c.self.inside c.set_opts-result.new.self c.push.new.self c.args.app (SetOpts c.args.pipe c.args.bits) _ c.of_done.result c.set_opts-result.ensures.does refl refl c.of_done.ensures
    c.push.ensures (done-nothing c.set_opts-result.result (SetOpts c.args.pipe c.args.bits) 0) (λ pipe. refl) (λ number. refl) c.set_opts-result.ensures.loans c.set_opts-result.ensures.descs)

pub returns-clause-bags : goal.returns-clause-bags
returns-clause-bags c =
    bags_over c.self.inside (record { core = c.set_opts-result.new.self; noted = c.push.new.self }) c.args.self.now c.self.view_is c.self.invariant (invariant_of-self c) c.set_opts-result.ensures.bags
