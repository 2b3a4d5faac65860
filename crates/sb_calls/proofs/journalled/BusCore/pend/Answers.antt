use Rattle.std.proofs.Common.{ap}
use Rattle.bus_words.specs.declared.history.Call.TheVariants.{Pend}
use Rattle.sb_calls.proofs.PipeMessages.{pended_alone}
use Rattle.bus_core.specs.Core.{Plain}
use Rattle.sb_calls.proofs.CoreBags.{bag_in, bag_out}
use Rattle.sb_calls.proofs.CallEffects.{made_pend}
use Rattle.sb_calls.proofs.OthersBags.{others_keep}
use Rattle.sb_calls.proofs.EntryLemma.{may_act, few_sends, stands_over, does_over}
use Rattle.sb_calls.proofs.journalled.BusCore.pend.Goals as goal

pub pend-result-requires : goal.pend-result-requires
pend-result-requires g c = record {
  may = may_act c.self.inside c.args.self.now c.args.app (Pend c.args.pipe) c.self.view_is c.self.invariant c.requires.may;
  few = few_sends c.self.inside c.args.self.now c.args.app (Pend c.args.pipe) c.self.view_is c.self.invariant c.requires.may;
  bag = bag_in c.self.inside c.args.self.now c.args.app c.args.held.now c.self.view_is c.self.invariant c.requires.bag;
}

pub invariant_of-self : goal.invariant_of-self
invariant_of-self g c =
    stands_over c.self.inside c.pend-result.new.core c.push.new.self c.args.self.now c.args.app (Pend c.args.pipe) _ c.self.view_is c.self.invariant c.requires.may
    (made_pend c.self.inside c.pend-result.new.core c.push.new.self c.args.app c.args.pipe _ c.of_pended-answer.result c.note_of-note.result c.pend-result.new.held c.pend-result.ensures.bag (record {
      stands = c.self.invariant;
      acts = c.pend-result.ensures.does;
      as_told = c.of_pended-answer.ensures;
      loans = c.pend-result.ensures.loans;
      descs = c.pend-result.ensures.descs;
      unowned = λ none. ap (λ (p : Plain). p.loans) (c.pend-result.ensures.unowned none);
      pushed = c.push.ensures;
    }) c.note_of-note.ensures)

pub returns-clause-does : goal.returns-clause-does
returns-clause-does g c =
    does_over c.self.inside c.pend-result.new.core c.push.new.self c.args.self.now c.args.app (Pend c.args.pipe) _ c.self.view_is c.self.invariant c.requires.may
    (made_pend c.self.inside c.pend-result.new.core c.push.new.self c.args.app c.args.pipe _ c.of_pended-answer.result c.note_of-note.result c.pend-result.new.held c.pend-result.ensures.bag (record {
      stands = c.self.invariant;
      acts = c.pend-result.ensures.does;
      as_told = c.of_pended-answer.ensures;
      loans = c.pend-result.ensures.loans;
      descs = c.pend-result.ensures.descs;
      unowned = λ none. ap (λ (p : Plain). p.loans) (c.pend-result.ensures.unowned none);
      pushed = c.push.ensures;
    }) c.note_of-note.ensures)

pub returns-clause-bag : goal.returns-clause-bag
returns-clause-bag g c =
    bag_out (record { core = c.pend-result.new.core; noted = c.push.new.self }) c.args.app c.pend-result.new.held (invariant_of-self g c) c.pend-result.ensures.bag

pub returns-clause-alone : goal.returns-clause-alone
returns-clause-alone g c = λ number is.
    pended_alone c.args.self.now _ c.args.app c.args.pipe c.pend-result.result c.pend-result.new.held number is (returns-clause-does g c) (returns-clause-bag g c)

pub returns-clause-other_bags : goal.returns-clause-other_bags
returns-clause-other_bags g c = others_keep c.args.self.now _ c.args.app (Pend c.args.pipe) _ (returns-clause-does g c)
