use Rattle.bus_words.specs.declared.calls.BusAnswer.TheVariants.{Done}
use Rattle.bus_words.specs.declared.history.Call.TheVariants.{End}
use Rattle.sb_calls.proofs.CoreBags.{bag_in, bag_out}
use Rattle.sb_calls.proofs.CallEffects.{made_end}
use Rattle.sb_calls.proofs.OthersBags.{others_keep}
use Rattle.sb_calls.proofs.EntryLemma.{may_act, stands_over, does_over}
use Rattle.sb_calls.proofs.journalled.BusCore.end.Goals as goal

pub end-requires : goal.end-requires
end-requires g c = record {
  may = may_act c.self.inside c.args.self.now c.args.app End c.self.view_is c.self.invariant c.requires.may;
  bag = bag_in c.self.inside c.args.self.now c.args.app c.args.held.now c.self.view_is c.self.invariant c.requires.bag;
}

pub invariant_of-self : goal.invariant_of-self
invariant_of-self g c =
    stands_over c.self.inside c.end.new.self c.push.new.self c.args.self.now c.args.app End Done c.self.view_is c.self.invariant c.requires.may
    (made_end c.self.inside c.end.new.self c.push.new.self c.args.app c.self.invariant c.end.ensures.does c.end.ensures.loans c.end.ensures.descs c.push.ensures)

pub returns-clause-does : goal.returns-clause-does
returns-clause-does g c =
    does_over c.self.inside c.end.new.self c.push.new.self c.args.self.now c.args.app End Done c.self.view_is c.self.invariant c.requires.may
    (made_end c.self.inside c.end.new.self c.push.new.self c.args.app c.self.invariant c.end.ensures.does c.end.ensures.loans c.end.ensures.descs c.push.ensures)

pub returns-clause-bag : goal.returns-clause-bag
returns-clause-bag g c =
    bag_out (record { core = c.end.new.self; noted = c.push.new.self }) c.args.app c.end.new.held (invariant_of-self g c) c.end.ensures.bag

pub returns-clause-other_bags : goal.returns-clause-other_bags
returns-clause-other_bags g c = others_keep c.args.self.now _ c.args.app (End) Done (returns-clause-does g c)
