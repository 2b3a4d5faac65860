use Rattle.std.proofs.Common.{refl}
use Rattle.tbl_words.specs.declared.history.Call.TheVariants.{Register}
use Rattle.tbl_load.proofs.CoreBags.{bags_over}
use Rattle.tbl_load.proofs.CallEffects.{made_quiet, quiet_bags, entered_as, nothing_due, registered-nothing}
use Rattle.tbl_load.proofs.EntryLemma.{may_act, handle_left, may_push, stands_over, does_over}
use Rattle.tbl_load.proofs.tables.TblCore.register.Goals as goal

pub register-result-requires : goal.register-result-requires
register-result-requires g c = record { may = may_act c.self.inside c.args.self.now c.args.app (Register c.args.name.now c.args.size c.args.option c.args.rules.now) c.self.view_is c.self.invariant c.requires.may; number = handle_left c.self.inside c.args.self.now c.args.app (Register c.args.name.now c.args.size c.args.option c.args.rules.now) c.self.view_is c.self.invariant c.requires.may }

pub push-requires : goal.push-requires
push-requires g c = record {
  room = may_push c.self.inside c.args.self.now c.args.app (Register c.args.name.now c.args.size c.args.option c.args.rules.now) c.self.view_is c.requires.may;
  due = nothing_due c.of_registered.result _ c.of_registered.ensures (registered-nothing c.register-result.result);
}

pub invariant_of-self : goal.invariant_of-self
invariant_of-self g c =
    stands_over c.self.inside c.register-result.new.self c.push.new.self c.args.self.now c.args.app (Register c.args.name.now c.args.size c.args.option c.args.rules.now) _ c.self.view_is c.self.invariant c.requires.may
    (made_quiet c.self.inside c.register-result.new.self c.push.new.self c.args.app (Register c.args.name.now c.args.size c.args.option c.args.rules.now) _ c.of_registered.result c.in_use-now.result c.self.invariant c.register-result.ensures.does c.of_registered.ensures c.in_use-now.ensures c.push.ensures.due
    (entered_as c.self.inside.noted c.push.new.self c.args.app c.again.result c.args.rules.now c.args.name.now c.args.size c.args.option c.of_registered.result c.in_use-now.result c.push.ensures.pushed c.again.ensures) (registered-nothing c.register-result.result) (λ n. refl) refl)

pub returns-clause-does : goal.returns-clause-does
returns-clause-does g c =
    does_over c.self.inside c.register-result.new.self c.push.new.self c.args.self.now c.args.app (Register c.args.name.now c.args.size c.args.option c.args.rules.now) _ c.self.view_is c.self.invariant c.requires.may
    (made_quiet c.self.inside c.register-result.new.self c.push.new.self c.args.app (Register c.args.name.now c.args.size c.args.option c.args.rules.now) _ c.of_registered.result c.in_use-now.result c.self.invariant c.register-result.ensures.does c.of_registered.ensures c.in_use-now.ensures c.push.ensures.due
    (entered_as c.self.inside.noted c.push.new.self c.args.app c.again.result c.args.rules.now c.args.name.now c.args.size c.args.option c.of_registered.result c.in_use-now.result c.push.ensures.pushed c.again.ensures) (registered-nothing c.register-result.result) (λ n. refl) refl)

pub returns-clause-bags : goal.returns-clause-bags
returns-clause-bags g c =
    bags_over c.self.inside (record { core = c.register-result.new.self; noted = c.push.new.self }) c.args.self.now c.self.view_is c.self.invariant (invariant_of-self g c)
    (quiet_bags c.self.inside.core c.register-result.new.self c.args.app (Register c.args.name.now c.args.size c.args.option c.args.rules.now) _ c.register-result.ensures.does refl)
