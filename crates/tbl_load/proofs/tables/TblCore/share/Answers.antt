use Rattle.std.proofs.Common.{refl}
use Rattle.tbl_words.specs.declared.history.Call.TheVariants.{Share}
use Rattle.tbl_load.proofs.CoreBags.{bags_over}
use Rattle.tbl_load.proofs.CallEffects.{made_quiet, quiet_bags, nothing_due, shared-nothing}
use Rattle.tbl_load.proofs.EntryLemma.{may_act, handle_left, may_push, stands_over, does_over}
use Rattle.tbl_load.proofs.tables.TblCore.share.Goals as goal

pub share-result-requires : goal.share-result-requires
share-result-requires c = record { may = may_act c.self.inside c.args.self.now c.args.app (Share c.args.name.now) c.self.view_is c.self.invariant c.requires.may; number = handle_left c.self.inside c.args.self.now c.args.app (Share c.args.name.now) c.self.view_is c.self.invariant c.requires.may }

pub push-requires : goal.push-requires
push-requires c = record {
  room = may_push c.self.inside c.args.self.now c.args.app (Share c.args.name.now) c.self.view_is c.requires.may;
  due = nothing_due c.of_shared.result _ c.of_shared.ensures (shared-nothing c.share-result.result);
}

pub invariant_of-self : goal.invariant_of-self
invariant_of-self c =
    stands_over c.self.inside c.share-result.new.self c.push.new.self c.args.self.now c.args.app (Share c.args.name.now) _ c.self.view_is c.self.invariant c.requires.may
    (made_quiet c.self.inside c.share-result.new.self c.push.new.self c.args.app (Share c.args.name.now) _ c.of_shared.result c.in_use-now.result c.self.invariant c.share-result.ensures c.of_shared.ensures c.in_use-now.ensures c.push.ensures.due
    c.push.ensures.pushed (shared-nothing c.share-result.result) (λ n. refl) refl)

pub returns-clause-does : goal.returns-clause-does
returns-clause-does c =
    does_over c.self.inside c.share-result.new.self c.push.new.self c.args.self.now c.args.app (Share c.args.name.now) _ c.self.view_is c.self.invariant c.requires.may
    (made_quiet c.self.inside c.share-result.new.self c.push.new.self c.args.app (Share c.args.name.now) _ c.of_shared.result c.in_use-now.result c.self.invariant c.share-result.ensures c.of_shared.ensures c.in_use-now.ensures c.push.ensures.due
    c.push.ensures.pushed (shared-nothing c.share-result.result) (λ n. refl) refl)

pub returns-clause-bags : goal.returns-clause-bags
returns-clause-bags c =
    bags_over c.self.inside (record { core = c.share-result.new.self; noted = c.push.new.self }) c.args.self.now c.self.view_is c.self.invariant (invariant_of-self c)
    (quiet_bags c.self.inside.core c.share-result.new.self c.args.app (Share c.args.name.now) _ c.share-result.ensures refl)
