use Rattle.std.proofs.Common.{refl}
use Rattle.bus_words.specs.declared.history.Call.TheVariants.{ResetFilter}
use Rattle.sb_calls.proofs.CoreBags.{bags_over}
use Rattle.sb_calls.proofs.CallEffects.{made_plain, event-nothing}
use Rattle.sb_calls.proofs.EntryLemma.{may_act, stands_over, does_over}
use Rattle.sb_calls.proofs.journalled.BusCore.reset_filter.Goals as goal

pub reset_filter-result-requires : goal.reset_filter-result-requires
reset_filter-result-requires c = record { may = may_act c.self.inside c.args.self.now c.args.app (ResetFilter c.args.id) c.self.view_is c.self.invariant c.requires.may }

pub invariant_of-self : goal.invariant_of-self
invariant_of-self c =
    stands_over c.self.inside c.reset_filter-result.new.self c.push.new.self c.args.self.now c.args.app (ResetFilter c.args.id) _ c.self.view_is c.self.invariant c.requires.may
    (made_plain c.self.inside c.reset_filter-result.new.self c.push.new.self c.args.app (ResetFilter c.args.id) _ c.of_event.result c.reset_filter-result.ensures.does refl refl c.of_event.ensures
    c.push.ensures (event-nothing c.reset_filter-result.result (ResetFilter c.args.id) 0) (λ pipe. refl) (λ number. refl) c.reset_filter-result.ensures.loans c.reset_filter-result.ensures.descs)

pub returns-clause-does : goal.returns-clause-does
returns-clause-does c =
    does_over c.self.inside c.reset_filter-result.new.self c.push.new.self c.args.self.now c.args.app (ResetFilter c.args.id) _ c.self.view_is c.self.invariant c.requires.may
    (made_plain c.self.inside c.reset_filter-result.new.self c.push.new.self c.args.app (ResetFilter c.args.id) _ c.of_event.result c.reset_filter-result.ensures.does refl refl c.of_event.ensures
    c.push.ensures (event-nothing c.reset_filter-result.result (ResetFilter c.args.id) 0) (λ pipe. refl) (λ number. refl) c.reset_filter-result.ensures.loans c.reset_filter-result.ensures.descs)

pub returns-clause-bags : goal.returns-clause-bags
returns-clause-bags c =
    bags_over c.self.inside (record { core = c.reset_filter-result.new.self; noted = c.push.new.self }) c.args.self.now c.self.view_is c.self.invariant (invariant_of-self c) c.reset_filter-result.ensures.bags
