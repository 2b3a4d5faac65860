use Rattle.std.proofs.Common.{refl}
use Rattle.tbl_words.specs.declared.history.Call.TheVariants.{ReleaseAddress}
use Rattle.tbl_load.proofs.CallEffects.{made_taking, taken_stays, nothing_due, done-nothing}
use Rattle.tbl_load.proofs.CoreBags.{bag_in, bag_out}
use Rattle.tbl_load.proofs.OthersBags.{others_keep}
use Rattle.tbl_load.proofs.EntryLemma.{may_act, may_push, stands_over, does_over}
use Rattle.tbl_load.proofs.tables.TblCore.release_address.Goals as goal

pub release_address-result-requires : goal.release_address-result-requires
release_address-result-requires c = record {
  may = may_act c.self.inside c.args.self.now c.args.app (ReleaseAddress c.args.handle) c.self.view_is c.self.invariant c.requires.may;
  bag = bag_in c.self.inside c.args.self.now c.args.app c.args.held.now c.self.view_is c.self.invariant c.requires.bag;
}

pub push-requires : goal.push-requires
push-requires c = record {
  room = may_push c.self.inside c.args.self.now c.args.app (ReleaseAddress c.args.handle) c.self.view_is c.requires.may;
  due = nothing_due c.of_done.result _ c.of_done.ensures (done-nothing c.release_address-result.result);
}

pub invariant_of-self : goal.invariant_of-self
invariant_of-self c =
    stands_over c.self.inside c.release_address-result.new.self c.push.new.self c.args.self.now c.args.app (ReleaseAddress c.args.handle) _ c.self.view_is c.self.invariant c.requires.may
    (made_taking c.self.inside c.release_address-result.new.self c.push.new.self c.args.app (ReleaseAddress c.args.handle) _ c.of_done.result c.in_use-now.result c.self.invariant c.release_address-result.ensures.does c.of_done.ensures c.in_use-now.ensures c.push.ensures.due
    c.args.held.now c.release_address-result.new.held (bag_in c.self.inside c.args.self.now c.args.app c.args.held.now c.self.view_is c.self.invariant c.requires.bag) c.release_address-result.ensures.bag
    (λ n none. taken_stays c.args.held.now c.release_address-result.new.held c.release_address-result.result c.args.handle c.release_address-result.ensures.others c.release_address-result.ensures.gone c.release_address-result.ensures.unchanged n)
    c.push.ensures.pushed (done-nothing c.release_address-result.result) (λ n. refl))

pub returns-clause-does : goal.returns-clause-does
returns-clause-does c =
    does_over c.self.inside c.release_address-result.new.self c.push.new.self c.args.self.now c.args.app (ReleaseAddress c.args.handle) _ c.self.view_is c.self.invariant c.requires.may
    (made_taking c.self.inside c.release_address-result.new.self c.push.new.self c.args.app (ReleaseAddress c.args.handle) _ c.of_done.result c.in_use-now.result c.self.invariant c.release_address-result.ensures.does c.of_done.ensures c.in_use-now.ensures c.push.ensures.due
    c.args.held.now c.release_address-result.new.held (bag_in c.self.inside c.args.self.now c.args.app c.args.held.now c.self.view_is c.self.invariant c.requires.bag) c.release_address-result.ensures.bag
    (λ n none. taken_stays c.args.held.now c.release_address-result.new.held c.release_address-result.result c.args.handle c.release_address-result.ensures.others c.release_address-result.ensures.gone c.release_address-result.ensures.unchanged n)
    c.push.ensures.pushed (done-nothing c.release_address-result.result) (λ n. refl))

pub returns-clause-bag : goal.returns-clause-bag
returns-clause-bag c =
    bag_out (record { core = c.release_address-result.new.self; noted = c.push.new.self }) c.args.app c.release_address-result.new.held (invariant_of-self c) c.release_address-result.ensures.bag

pub returns-clause-other_bags : goal.returns-clause-other_bags
returns-clause-other_bags c = others_keep c.args.self.now _ c.args.app (ReleaseAddress c.args.handle) _ (returns-clause-does c)
