use Rattle.std.proofs.Common.{refl}
use Rattle.bus_words.specs.declared.history.Call.TheVariants.{GetOpts}
use Rattle.sb_calls.proofs.CoreBags.{bags_over}
use Rattle.sb_calls.proofs.CallEffects.{made_plain, bits-nothing}
use Rattle.sb_calls.proofs.EntryLemma.{stands_over, does_over}
use Rattle.sb_calls.proofs.journalled.BusCore.get_opts.Goals as goal

pub invariant_of-self : goal.invariant_of-self
invariant_of-self c =
    stands_over c.self.inside c.get_opts-result.new.self c.push.new.self c.args.self.now c.args.app (GetOpts c.args.pipe) _ c.self.view_is c.self.invariant c.requires.may
    (made_plain c.self.inside c.get_opts-result.new.self c.push.new.self c.args.app (GetOpts c.args.pipe) _ c.of_bits.result (c.get_opts-result.ensures.does c.args.app) refl refl c.of_bits.ensures
    c.push.ensures (bits-nothing c.get_opts-result.result c.args.pipe 0) (λ pipe. refl) (λ number. refl) c.get_opts-result.ensures.loans c.get_opts-result.ensures.descs)

pub returns-clause-does : goal.returns-clause-does
returns-clause-does c =
    does_over c.self.inside c.get_opts-result.new.self c.push.new.self c.args.self.now c.args.app (GetOpts c.args.pipe) _ c.self.view_is c.self.invariant c.requires.may
    (made_plain c.self.inside c.get_opts-result.new.self c.push.new.self c.args.app (GetOpts c.args.pipe) _ c.of_bits.result (c.get_opts-result.ensures.does c.args.app) refl refl c.of_bits.ensures
    c.push.ensures (bits-nothing c.get_opts-result.result c.args.pipe 0) (λ pipe. refl) (λ number. refl) c.get_opts-result.ensures.loans c.get_opts-result.ensures.descs)

pub returns-clause-bags : goal.returns-clause-bags
returns-clause-bags c =
    bags_over c.self.inside (record { core = c.get_opts-result.new.self; noted = c.push.new.self }) c.args.self.now c.self.view_is c.self.invariant (invariant_of-self c) c.get_opts-result.ensures.bags
