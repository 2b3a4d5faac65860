use Rattle.std.proofs.Common.{refl}
use Rattle.tbl_words.specs.declared.history.Call.TheVariants.{Stage}
use Rattle.tbl_load.proofs.CoreBags.{bags_over}
use Rattle.tbl_load.proofs.CallEffects.{made_quiet, quiet_bags, nothing_due, done-nothing}
use Rattle.tbl_load.proofs.EntryLemma.{may_act, may_push, stands_over, does_over}
use Rattle.tbl_load.proofs.tables.TblCore.stage.Goals as goal

pub stage-result-requires : goal.stage-result-requires
stage-result-requires c = record { may = may_act c.self.inside c.args.self.now c.args.app (Stage c.args.handle c.args.offset c.args.bytes.now) c.self.view_is c.self.invariant c.requires.may }

pub push-requires : goal.push-requires
push-requires c = record {
  room = may_push c.self.inside c.args.self.now c.args.app (Stage c.args.handle c.args.offset c.args.bytes.now) c.self.view_is c.requires.may;
  due = nothing_due c.of_done.result _ c.of_done.ensures (done-nothing c.stage-result.result);
}

pub invariant_of-self : goal.invariant_of-self
invariant_of-self c =
    stands_over c.self.inside c.stage-result.new.self c.push.new.self c.args.self.now c.args.app (Stage c.args.handle c.args.offset c.args.bytes.now) _ c.self.view_is c.self.invariant c.requires.may
    (made_quiet c.self.inside c.stage-result.new.self c.push.new.self c.args.app (Stage c.args.handle c.args.offset c.args.bytes.now) _ c.of_done.result c.in_use-now.result c.self.invariant c.stage-result.ensures c.of_done.ensures c.in_use-now.ensures c.push.ensures.due
    c.push.ensures.pushed (done-nothing c.stage-result.result) (λ n. refl) refl)

pub returns-clause-does : goal.returns-clause-does
returns-clause-does c =
    does_over c.self.inside c.stage-result.new.self c.push.new.self c.args.self.now c.args.app (Stage c.args.handle c.args.offset c.args.bytes.now) _ c.self.view_is c.self.invariant c.requires.may
    (made_quiet c.self.inside c.stage-result.new.self c.push.new.self c.args.app (Stage c.args.handle c.args.offset c.args.bytes.now) _ c.of_done.result c.in_use-now.result c.self.invariant c.stage-result.ensures c.of_done.ensures c.in_use-now.ensures c.push.ensures.due
    c.push.ensures.pushed (done-nothing c.stage-result.result) (λ n. refl) refl)

pub returns-clause-bags : goal.returns-clause-bags
returns-clause-bags c =
    bags_over c.self.inside (record { core = c.stage-result.new.self; noted = c.push.new.self }) c.args.self.now c.self.view_is c.self.invariant (invariant_of-self c)
    (quiet_bags c.self.inside.core c.stage-result.new.self c.args.app (Stage c.args.handle c.args.offset c.args.bytes.now) _ c.stage-result.ensures refl)
