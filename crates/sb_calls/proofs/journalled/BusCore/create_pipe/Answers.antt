use Rattle.std.proofs.Common.{refl}
use Rattle.bus_words.specs.declared.history.Call.TheVariants.{Create}
use Rattle.sb_calls.proofs.CoreBags.{bags_over}
use Rattle.sb_calls.proofs.CallEffects.{made_plain, created-nothing}
use Rattle.sb_calls.proofs.EntryLemma.{may_act, pipe_left, stands_over, does_over}
use Rattle.sb_calls.proofs.journalled.BusCore.create_pipe.Goals as goal

pub create_pipe-result-requires : goal.create_pipe-result-requires
create_pipe-result-requires c = record { may = may_act c.self.inside c.args.self.now c.args.app (Create c.args.depth c.args.name.now) c.self.view_is c.self.invariant c.requires.may; number = pipe_left c.self.inside c.args.self.now c.args.app (Create c.args.depth c.args.name.now) c.self.view_is c.self.invariant c.requires.may }

pub invariant_of-self : goal.invariant_of-self
invariant_of-self c =
    stands_over c.self.inside c.create_pipe-result.new.self c.push.new.self c.args.self.now c.args.app (Create c.args.depth c.args.name.now) _ c.self.view_is c.self.invariant c.requires.may
    (made_plain c.self.inside c.create_pipe-result.new.self c.push.new.self c.args.app (Create c.args.depth c.args.name.now) _ c.of_number.result c.create_pipe-result.ensures.does refl refl c.of_number.ensures
    c.push.ensures (created-nothing c.create_pipe-result.result c.args.depth c.args.name.now 0) (λ pipe. refl) (λ number. refl) c.create_pipe-result.ensures.loans c.create_pipe-result.ensures.descs)

pub returns-clause-does : goal.returns-clause-does
returns-clause-does c =
    does_over c.self.inside c.create_pipe-result.new.self c.push.new.self c.args.self.now c.args.app (Create c.args.depth c.args.name.now) _ c.self.view_is c.self.invariant c.requires.may
    (made_plain c.self.inside c.create_pipe-result.new.self c.push.new.self c.args.app (Create c.args.depth c.args.name.now) _ c.of_number.result c.create_pipe-result.ensures.does refl refl c.of_number.ensures
    c.push.ensures (created-nothing c.create_pipe-result.result c.args.depth c.args.name.now 0) (λ pipe. refl) (λ number. refl) c.create_pipe-result.ensures.loans c.create_pipe-result.ensures.descs)

pub returns-clause-bags : goal.returns-clause-bags
returns-clause-bags c =
    bags_over c.self.inside (record { core = c.create_pipe-result.new.self; noted = c.push.new.self }) c.args.self.now c.self.view_is c.self.invariant (invariant_of-self c) c.create_pipe-result.ensures.bags
