use Rattle.std.proofs.Common.{count_by, eqb, refl, ap, arith}
use Rattle.tbl_words.specs.declared.calls.TblAnswer.TheVariants.{Done}
use Rattle.tbl_words.specs.declared.history.Call.TheVariants.{End}
use Rattle.tbl_words.specs.Tables.{Handle, State}
use Rattle.table_blocks.specs.Held.{HeldViews}
use Rattle.tbl_load.proofs.CallEffects.{made_taking, none_stays}
use Rattle.tbl_load.proofs.CoreBags.{bag_in, bag_out}
use Rattle.tbl_load.proofs.OthersBags.{others_keep}
use Rattle.tbl_load.proofs.EntryLemma.{may_act, may_push, stands_over, does_over, state_now}
use Rattle.tbl_load.proofs.tables.TblCore.end.Goals as goal

pub end-requires : goal.end-requires
end-requires g c = record {
  may = may_act c.self.inside c.args.self.now c.args.app End c.self.view_is c.self.invariant c.requires.may;
  bag = bag_in c.self.inside c.args.self.now c.args.app c.args.held.now c.self.view_is c.self.invariant c.requires.bag;
}

pub push-requires : goal.push-requires
push-requires g c = record {
  room = may_push c.self.inside c.args.self.now c.args.app End c.self.view_is c.requires.may;
  due = (0, refl);
}

pub invariant_of-self : goal.invariant_of-self
invariant_of-self g c =
    stands_over c.self.inside c.end.new.self c.push.new.self c.args.self.now c.args.app End Done c.self.view_is c.self.invariant c.requires.may
    (made_taking c.self.inside c.end.new.self c.push.new.self c.args.app End Done Done c.in_use-now.result c.self.invariant c.end.ensures.does refl c.in_use-now.ensures c.push.ensures.due
    c.args.held.now c.end.new.held (bag_in c.self.inside c.args.self.now c.args.app c.args.held.now c.self.view_is c.self.invariant c.requires.bag) c.end.ensures.bag (λ n none. none_stays c.args.held.now c.end.new.held (ap (λ (b : HeldViews). b.views) c.end.ensures.empty) n)
    c.push.ensures.pushed refl (λ n. refl))

pub returns-clause-does : goal.returns-clause-does
returns-clause-does g c =
    does_over c.self.inside c.end.new.self c.push.new.self c.args.self.now c.args.app End Done c.self.view_is c.self.invariant c.requires.may
    (made_taking c.self.inside c.end.new.self c.push.new.self c.args.app End Done Done c.in_use-now.result c.self.invariant c.end.ensures.does refl c.in_use-now.ensures c.push.ensures.due
    c.args.held.now c.end.new.held (bag_in c.self.inside c.args.self.now c.args.app c.args.held.now c.self.view_is c.self.invariant c.requires.bag) c.end.ensures.bag (λ n none. none_stays c.args.held.now c.end.new.held (ap (λ (b : HeldViews). b.views) c.end.ensures.empty) n)
    c.push.ensures.pushed refl (λ n. refl))

pub returns-clause-bag : goal.returns-clause-bag
returns-clause-bag g c =
    bag_out (record { core = c.end.new.self; noted = c.push.new.self }) c.args.app c.end.new.held (invariant_of-self g c) c.end.ensures.bag

pub returns-clause-other_bags : goal.returns-clause-other_bags
returns-clause-other_bags g c = others_keep c.args.self.now _ c.args.app End Done (returns-clause-does g c)

pub returns-clause-cost : goal.returns-clause-cost
returns-clause-cost g c =
    let same = ap (λ (s : State). count_by (λ (h : Handle). eqb h.app c.args.app) s.handles) (state_now c.self.inside c.args.self.now c.self.view_is c.self.invariant) in
    omega (arith, same, c.end.ensures.cost)
