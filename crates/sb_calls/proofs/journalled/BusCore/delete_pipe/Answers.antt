use Rattle.std.proofs.Common.{ap}
use Rattle.bus_words.specs.declared.history.Call.TheVariants.{Delete}
use Rattle.bus_core.specs.Core.{Plain}
use Rattle.sb_calls.proofs.CoreBags.{bag_in, bag_out}
use Rattle.sb_calls.proofs.CallEffects.{made_delete}
use Rattle.sb_calls.proofs.OthersBags.{others_keep}
use Rattle.sb_calls.proofs.EntryLemma.{may_act, stands_over, does_over}
use Rattle.sb_calls.proofs.journalled.BusCore.delete_pipe.Goals as goal

pub delete_pipe-result-requires : goal.delete_pipe-result-requires
delete_pipe-result-requires g c = record {
  may = may_act c.self.inside c.args.self.now c.args.app (Delete c.args.pipe) c.self.view_is c.self.invariant c.requires.may;
  bag = bag_in c.self.inside c.args.self.now c.args.app c.args.held.now c.self.view_is c.self.invariant c.requires.bag;
}

pub invariant_of-self : goal.invariant_of-self
invariant_of-self g c =
    stands_over c.self.inside c.delete_pipe-result.new.self c.push.new.self c.args.self.now c.args.app (Delete c.args.pipe) _ c.self.view_is c.self.invariant c.requires.may
    (made_delete c.self.inside c.delete_pipe-result.new.self c.push.new.self c.args.app c.args.pipe c.delete_pipe-result.result c.of_done.result c.delete_pipe-result.new.held c.delete_pipe-result.ensures.bag (record {
      stands = c.self.invariant;
      acts = c.delete_pipe-result.ensures.does;
      as_told = c.of_done.ensures;
      loans = c.delete_pipe-result.ensures.loans;
      descs = c.delete_pipe-result.ensures.descs;
      unowned = λ none. ap (λ (p : Plain). p.loans) (c.delete_pipe-result.ensures.unowned none);
      pushed = c.push.ensures;
    }))

pub returns-clause-does : goal.returns-clause-does
returns-clause-does g c =
    does_over c.self.inside c.delete_pipe-result.new.self c.push.new.self c.args.self.now c.args.app (Delete c.args.pipe) _ c.self.view_is c.self.invariant c.requires.may
    (made_delete c.self.inside c.delete_pipe-result.new.self c.push.new.self c.args.app c.args.pipe c.delete_pipe-result.result c.of_done.result c.delete_pipe-result.new.held c.delete_pipe-result.ensures.bag (record {
      stands = c.self.invariant;
      acts = c.delete_pipe-result.ensures.does;
      as_told = c.of_done.ensures;
      loans = c.delete_pipe-result.ensures.loans;
      descs = c.delete_pipe-result.ensures.descs;
      unowned = λ none. ap (λ (p : Plain). p.loans) (c.delete_pipe-result.ensures.unowned none);
      pushed = c.push.ensures;
    }))

pub returns-clause-bag : goal.returns-clause-bag
returns-clause-bag g c =
    bag_out (record { core = c.delete_pipe-result.new.self; noted = c.push.new.self }) c.args.app c.delete_pipe-result.new.held (invariant_of-self g c) c.delete_pipe-result.ensures.bag

pub returns-clause-other_bags : goal.returns-clause-other_bags
returns-clause-other_bags g c = others_keep c.args.self.now _ c.args.app (Delete c.args.pipe) _ (returns-clause-does g c)
