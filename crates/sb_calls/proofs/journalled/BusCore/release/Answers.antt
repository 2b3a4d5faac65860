use Rattle.bus_words.specs.declared.history.Call.TheVariants.{Release}
use Rattle.sb_calls.proofs.CoreBags.{bag_in, bag_out}
use Rattle.sb_calls.proofs.BufferEffects.{made_release}
use Rattle.sb_calls.proofs.OthersBags.{others_keep}
use Rattle.sb_calls.proofs.EntryLemma.{may_act, stands_over, does_over}
use Rattle.sb_calls.proofs.journalled.BusCore.release.Goals as goal

pub release-result-requires : goal.release-result-requires
release-result-requires g c = record {
  may = may_act c.self.inside c.args.self.now c.args.app (Release c.args.buf) c.self.view_is c.self.invariant c.requires.may;
  bag = bag_in c.self.inside c.args.self.now c.args.app c.args.held.now c.self.view_is c.self.invariant c.requires.bag;
}

pub invariant_of-self : goal.invariant_of-self
invariant_of-self g c =
    stands_over c.self.inside c.release-result.new.self c.push.new.self c.args.self.now c.args.app (Release c.args.buf) _ c.self.view_is c.self.invariant c.requires.may
    (made_release c.self.inside c.release-result.new.self c.push.new.self c.args.app c.args.buf c.release-result.result c.of_done.result c.self.invariant c.release-result.ensures.does c.of_done.ensures
    c.release-result.ensures.refused c.release-result.ensures.descs c.release-result.ensures.loans c.push.ensures)

pub returns-clause-does : goal.returns-clause-does
returns-clause-does g c =
    does_over c.self.inside c.release-result.new.self c.push.new.self c.args.self.now c.args.app (Release c.args.buf) _ c.self.view_is c.self.invariant c.requires.may
    (made_release c.self.inside c.release-result.new.self c.push.new.self c.args.app c.args.buf c.release-result.result c.of_done.result c.self.invariant c.release-result.ensures.does c.of_done.ensures
    c.release-result.ensures.refused c.release-result.ensures.descs c.release-result.ensures.loans c.push.ensures)

pub returns-clause-bag : goal.returns-clause-bag
returns-clause-bag g c =
    bag_out (record { core = c.release-result.new.self; noted = c.push.new.self }) c.args.app c.release-result.new.held (invariant_of-self g c) c.release-result.ensures.bag

pub returns-clause-other_bags : goal.returns-clause-other_bags
returns-clause-other_bags g c = others_keep c.args.self.now _ c.args.app (Release c.args.buf) _ (returns-clause-does g c)
