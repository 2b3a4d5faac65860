use Rattle.std.proofs.Common.{ap, sym, ◌∙◌}
use Rattle.tbl_words.specs.declared.history.Call.TheVariants.{GetAddress}
use Rattle.table_blocks.specs.Held.{held_at}
use Rattle.table_core.specs.Core.{loan_of}
use Rattle.tbl_load.specs.Notes.{note_due, note_seen}
use Rattle.tbl_load.proofs.CallEffects.{made_giving, address_due, address_for, address_stays}
use Rattle.tbl_load.proofs.CoreBags.{bag_in, bag_out}
use Rattle.tbl_load.proofs.OthersBags.{others_keep}
use Rattle.tbl_load.proofs.EntryLemma.{may_act, few_versions, may_push, stands_over, does_over}
use Rattle.tbl_load.proofs.tables.TblCore.get_address.Goals as goal

pub get_address-result-requires : goal.get_address-result-requires
get_address-result-requires c = record {
  may = may_act c.self.inside c.args.self.now c.args.app (GetAddress c.args.handle) c.self.view_is c.self.invariant c.requires.may;
  few = few_versions c.self.inside c.args.self.now c.args.app (GetAddress c.args.handle) c.self.view_is c.self.invariant c.requires.may;
  bag = bag_in c.self.inside c.args.self.now c.args.app c.args.held.now c.self.view_is c.self.invariant c.requires.bag;
}

pub push-requires : goal.push-requires
push-requires c = record {
  room = may_push c.self.inside c.args.self.now c.args.app (GetAddress c.args.handle) c.self.view_is c.requires.may;
  due = (
    loan_of c.get_address-result.new.core.lent c.args.handle,
    c.note_of-note.ensures ∙ ap (λ x. note_seen x (held_at c.get_address-result.new.held c.args.handle)) c.of_addressed-answer.ensures
        ∙ address_due c.get_address-result.new.core c.args.app c.args.handle c.get_address-result.new.held c.get_address-result.result c.get_address-result.ensures.bag c.get_address-result.ensures.given
        ∙ sym (ap (λ x. note_due x (loan_of c.get_address-result.new.core.lent c.args.handle)) c.of_addressed-answer.ensures),
  );
}

pub invariant_of-self : goal.invariant_of-self
invariant_of-self c =
    stands_over c.self.inside c.get_address-result.new.core c.push.new.self c.args.self.now c.args.app (GetAddress c.args.handle) _ c.self.view_is c.self.invariant c.requires.may
    (made_giving c.self.inside c.get_address-result.new.core c.push.new.self c.args.app (GetAddress c.args.handle) _ c.of_addressed-answer.result c.in_use-now.result c.self.invariant c.get_address-result.ensures.does c.of_addressed-answer.ensures c.in_use-now.ensures c.push.ensures.due
    c.args.held.now c.get_address-result.new.held (bag_in c.self.inside c.args.self.now c.args.app c.args.held.now c.self.view_is c.self.invariant c.requires.bag) c.get_address-result.ensures.bag
    (address_stays c.args.held.now c.get_address-result.new.held c.get_address-result.result c.args.handle c.get_address-result.ensures.others c.get_address-result.ensures.unchanged)
    c.args.handle c.note_of-note.result c.push.ensures.pushed
    (c.note_of-note.ensures ∙ ap (λ x. note_seen x (held_at c.get_address-result.new.held c.args.handle)) c.of_addressed-answer.ensures ∙ address_due c.get_address-result.new.core c.args.app c.args.handle c.get_address-result.new.held c.get_address-result.result c.get_address-result.ensures.bag c.get_address-result.ensures.given)
    (address_for c.get_address-result.result c.args.handle))

pub returns-clause-does : goal.returns-clause-does
returns-clause-does c =
    does_over c.self.inside c.get_address-result.new.core c.push.new.self c.args.self.now c.args.app (GetAddress c.args.handle) _ c.self.view_is c.self.invariant c.requires.may
    (made_giving c.self.inside c.get_address-result.new.core c.push.new.self c.args.app (GetAddress c.args.handle) _ c.of_addressed-answer.result c.in_use-now.result c.self.invariant c.get_address-result.ensures.does c.of_addressed-answer.ensures c.in_use-now.ensures c.push.ensures.due
    c.args.held.now c.get_address-result.new.held (bag_in c.self.inside c.args.self.now c.args.app c.args.held.now c.self.view_is c.self.invariant c.requires.bag) c.get_address-result.ensures.bag
    (address_stays c.args.held.now c.get_address-result.new.held c.get_address-result.result c.args.handle c.get_address-result.ensures.others c.get_address-result.ensures.unchanged)
    c.args.handle c.note_of-note.result c.push.ensures.pushed
    (c.note_of-note.ensures ∙ ap (λ x. note_seen x (held_at c.get_address-result.new.held c.args.handle)) c.of_addressed-answer.ensures ∙ address_due c.get_address-result.new.core c.args.app c.args.handle c.get_address-result.new.held c.get_address-result.result c.get_address-result.ensures.bag c.get_address-result.ensures.given)
    (address_for c.get_address-result.result c.args.handle))

pub returns-clause-bag : goal.returns-clause-bag
returns-clause-bag c =
    bag_out (record { core = c.get_address-result.new.core; noted = c.push.new.self }) c.args.app c.get_address-result.new.held (invariant_of-self c) c.get_address-result.ensures.bag

pub returns-clause-other_bags : goal.returns-clause-other_bags
returns-clause-other_bags c = others_keep c.args.self.now _ c.args.app (GetAddress c.args.handle) _ (returns-clause-does c)
