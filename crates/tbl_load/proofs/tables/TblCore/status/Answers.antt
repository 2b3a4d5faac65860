use Rattle.std.proofs.Common.{refl}
use Rattle.tbl_words.specs.declared.history.Call.TheVariants.{Status}
use Rattle.tbl_load.proofs.CoreBags.{bags_over}
use Rattle.tbl_load.proofs.CallEffects.{made_quiet, quiet_bags, nothing_due, figures-nothing}
use Rattle.tbl_load.proofs.EntryLemma.{may_act, few_versions, may_push, stands_over, does_over}
use Rattle.tbl_load.proofs.tables.TblCore.status.Goals as goal

pub status-result-requires : goal.status-result-requires
status-result-requires c = record { may = may_act c.self.inside c.args.self.now c.args.app (Status c.args.handle) c.self.view_is c.self.invariant c.requires.may; few = few_versions c.self.inside c.args.self.now c.args.app (Status c.args.handle) c.self.view_is c.self.invariant c.requires.may }

pub push-requires : goal.push-requires
push-requires c = record {
  room = may_push c.self.inside c.args.self.now c.args.app (Status c.args.handle) c.self.view_is c.requires.may;
  due = nothing_due c.of_figures.result _ c.of_figures.ensures (figures-nothing c.status-result.result);
}

pub invariant_of-self : goal.invariant_of-self
invariant_of-self c =
    stands_over c.self.inside c.self.inside.core c.push.new.self c.args.self.now c.args.app (Status c.args.handle) _ c.self.view_is c.self.invariant c.requires.may
    (made_quiet c.self.inside c.self.inside.core c.push.new.self c.args.app (Status c.args.handle) _ c.of_figures.result c.in_use-now.result c.self.invariant c.status-result.ensures c.of_figures.ensures c.in_use-now.ensures c.push.ensures.due
    c.push.ensures.pushed (figures-nothing c.status-result.result) (λ n. refl) refl)

pub returns-clause-does : goal.returns-clause-does
returns-clause-does c =
    does_over c.self.inside c.self.inside.core c.push.new.self c.args.self.now c.args.app (Status c.args.handle) _ c.self.view_is c.self.invariant c.requires.may
    (made_quiet c.self.inside c.self.inside.core c.push.new.self c.args.app (Status c.args.handle) _ c.of_figures.result c.in_use-now.result c.self.invariant c.status-result.ensures c.of_figures.ensures c.in_use-now.ensures c.push.ensures.due
    c.push.ensures.pushed (figures-nothing c.status-result.result) (λ n. refl) refl)

pub returns-clause-bags : goal.returns-clause-bags
returns-clause-bags c =
    bags_over c.self.inside (record { core = c.self.inside.core; noted = c.push.new.self }) c.args.self.now c.self.view_is c.self.invariant (invariant_of-self c)
    (quiet_bags c.self.inside.core c.self.inside.core c.args.app (Status c.args.handle) _ c.status-result.ensures refl)
