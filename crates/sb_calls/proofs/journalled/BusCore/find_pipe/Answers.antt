use Rattle.std.proofs.Common.{refl}
use Rattle.bus_words.specs.declared.history.Call.TheVariants.{Find}
use Rattle.sb_calls.proofs.CoreBags.{bags_over}
use Rattle.sb_calls.proofs.CallEffects.{made_plain, found-nothing}
use Rattle.sb_calls.proofs.EntryLemma.{stands_over, does_over}
use Rattle.sb_calls.proofs.journalled.BusCore.find_pipe.Goals as goal

pub invariant_of-self : goal.invariant_of-self
invariant_of-self c =
    stands_over c.self.inside c.find_pipe-result.new.self c.push.new.self c.args.self.now c.args.app (Find c.args.name.now) _ c.self.view_is c.self.invariant c.requires.may
    (made_plain c.self.inside c.find_pipe-result.new.self c.push.new.self c.args.app (Find c.args.name.now) _ c.of_number.result (c.find_pipe-result.ensures.does c.args.app) refl refl c.of_number.ensures
    c.push.ensures (found-nothing c.find_pipe-result.result c.args.name.now 0) (λ pipe. refl) (λ number. refl) c.find_pipe-result.ensures.loans c.find_pipe-result.ensures.descs)

pub returns-clause-does : goal.returns-clause-does
returns-clause-does c =
    does_over c.self.inside c.find_pipe-result.new.self c.push.new.self c.args.self.now c.args.app (Find c.args.name.now) _ c.self.view_is c.self.invariant c.requires.may
    (made_plain c.self.inside c.find_pipe-result.new.self c.push.new.self c.args.app (Find c.args.name.now) _ c.of_number.result (c.find_pipe-result.ensures.does c.args.app) refl refl c.of_number.ensures
    c.push.ensures (found-nothing c.find_pipe-result.result c.args.name.now 0) (λ pipe. refl) (λ number. refl) c.find_pipe-result.ensures.loans c.find_pipe-result.ensures.descs)

pub returns-clause-bags : goal.returns-clause-bags
returns-clause-bags c =
    bags_over c.self.inside (record { core = c.find_pipe-result.new.self; noted = c.push.new.self }) c.args.self.now c.self.view_is c.self.invariant (invariant_of-self c) c.find_pipe-result.ensures.bags
