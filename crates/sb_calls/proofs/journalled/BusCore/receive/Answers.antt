use Rattle.std.proofs.Common.{ap, ◌∙◌}
use Rattle.bus_words.specs.declared.history.Call.TheVariants.{Receive}
use Rattle.bus_words.specs.Bus.{State, owns}
use Rattle.sb_calls.proofs.PipeMessages.{received_alone}
use Rattle.bus_core.specs.Core.{Plain}
use Rattle.sb_calls.proofs.CoreBags.{bag_in, bag_out}
use Rattle.sb_calls.proofs.CallEffects.{made_receive}
use Rattle.sb_calls.proofs.OthersBags.{others_keep}
use Rattle.sb_calls.proofs.EntryLemma.{bus_now, may_act, few_sends, stands_over, does_over}
use Rattle.sb_calls.proofs.journalled.BusCore.receive.Goals as goal

pub receive-result-requires : goal.receive-result-requires
receive-result-requires g c = record {
  may = may_act c.self.inside c.args.self.now c.args.app (Receive c.args.pipe) c.self.view_is c.self.invariant c.requires.may;
  few = few_sends c.self.inside c.args.self.now c.args.app (Receive c.args.pipe) c.self.view_is c.self.invariant c.requires.may;
  bag = bag_in c.self.inside c.args.self.now c.args.app c.args.held.now c.self.view_is c.self.invariant c.requires.bag;
}

pub invariant_of-self : goal.invariant_of-self
invariant_of-self g c =
    stands_over c.self.inside c.receive-result.new.core c.push.new.self c.args.self.now c.args.app (Receive c.args.pipe) _ c.self.view_is c.self.invariant c.requires.may
    (made_receive c.self.inside c.receive-result.new.core c.push.new.self c.args.app c.args.pipe _ c.of_got-answer.result c.note_of-note.result c.receive-result.new.held c.receive-result.ensures.bag (record {
      stands = c.self.invariant;
      acts = c.receive-result.ensures.does;
      as_told = c.of_got-answer.ensures;
      loans = c.receive-result.ensures.loans;
      descs = c.receive-result.ensures.descs;
      unowned = λ none. ap (λ (p : Plain). p.loans) (c.receive-result.ensures.unowned none);
      pushed = c.push.ensures;
    }) c.note_of-note.ensures)

pub returns-clause-does : goal.returns-clause-does
returns-clause-does g c =
    does_over c.self.inside c.receive-result.new.core c.push.new.self c.args.self.now c.args.app (Receive c.args.pipe) _ c.self.view_is c.self.invariant c.requires.may
    (made_receive c.self.inside c.receive-result.new.core c.push.new.self c.args.app c.args.pipe _ c.of_got-answer.result c.note_of-note.result c.receive-result.new.held c.receive-result.ensures.bag (record {
      stands = c.self.invariant;
      acts = c.receive-result.ensures.does;
      as_told = c.of_got-answer.ensures;
      loans = c.receive-result.ensures.loans;
      descs = c.receive-result.ensures.descs;
      unowned = λ none. ap (λ (p : Plain). p.loans) (c.receive-result.ensures.unowned none);
      pushed = c.push.ensures;
    }) c.note_of-note.ensures)

pub returns-clause-bag : goal.returns-clause-bag
returns-clause-bag g c =
    bag_out (record { core = c.receive-result.new.core; noted = c.push.new.self }) c.args.app c.receive-result.new.held (invariant_of-self g c) c.receive-result.ensures.bag

pub returns-clause-alone : goal.returns-clause-alone
returns-clause-alone g c = λ number is.
    received_alone c.args.self.now _ c.args.app c.args.pipe c.receive-result.result c.receive-result.new.held number is (returns-clause-does g c) (returns-clause-bag g c)

pub returns-clause-other_bags : goal.returns-clause-other_bags
returns-clause-other_bags g c = others_keep c.args.self.now _ c.args.app (Receive c.args.pipe) _ (returns-clause-does g c)

pub returns-clause-bag_refused : goal.returns-clause-bag_refused
returns-clause-bag_refused g c = λ none.
    c.receive-result.ensures.bag_refused (ap (λ (s : State). owns s.pipes c.args.app c.args.pipe) (bus_now c.self.inside c.args.self.now c.self.view_is c.self.invariant) ∙ none)
