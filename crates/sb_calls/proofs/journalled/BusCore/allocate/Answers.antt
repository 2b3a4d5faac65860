use Rattle.std.proofs.Common.{◌≤◌, length, sym, subst}
use Rattle.bus_words.specs.declared.history.Call.TheVariants.{Allocate}
use Rattle.sb_calls.specs.Core.{Core, apps_of}
use Rattle.sb_calls.proofs.CoreBags.{bag_in, bag_out}
use Rattle.sb_calls.proofs.BufferEffects.{made_allocate}
use Rattle.sb_calls.proofs.OthersBags.{others_keep}
use Rattle.sb_calls.proofs.EntryLemma.{may_act, few_sends, stands_over, does_over}
use Rattle.sb_calls.proofs.journalled.BusCore.allocate.Goals as goal

pub allocate-result-requires : goal.allocate-result-requires
allocate-result-requires g c = record {
  may = may_act c.self.inside c.args.self.now c.args.app (Allocate c.args.size) c.self.view_is c.self.invariant c.requires.may;
  few = few_sends c.self.inside c.args.self.now c.args.app (Allocate c.args.size) c.self.view_is c.self.invariant c.requires.may;
  bag = bag_in c.self.inside c.args.self.now c.args.app c.args.held.now c.self.view_is c.self.invariant c.requires.bag;
  room = c.requires.room;
}

pub invariant_of-self : goal.invariant_of-self
invariant_of-self g c =
    let known : c.args.app ≤ length c.self.inside.noted.log.budgets = subst (λ (o : Core). c.args.app ≤ apps_of o) (sym c.self.view_is) c.requires.may.known in
    stands_over c.self.inside c.allocate-result.new.core c.push.new.self c.args.self.now c.args.app (Allocate c.args.size) _ c.self.view_is c.self.invariant c.requires.may
    (made_allocate c.self.inside c.allocate-result.new.core c.push.new.self c.args.app c.args.size c.allocate-result.result c.of_number.result c.note_of_buffer-note.result c.allocate-result.new.held
    c.self.invariant known c.allocate-result.ensures.bag c.allocate-result.ensures.does c.of_number.ensures c.allocate-result.ensures.refused c.allocate-result.ensures.descs c.allocate-result.ensures.loans
    c.note_of_buffer-note.ensures c.push.ensures)

pub returns-clause-does : goal.returns-clause-does
returns-clause-does g c =
    let known : c.args.app ≤ length c.self.inside.noted.log.budgets = subst (λ (o : Core). c.args.app ≤ apps_of o) (sym c.self.view_is) c.requires.may.known in
    does_over c.self.inside c.allocate-result.new.core c.push.new.self c.args.self.now c.args.app (Allocate c.args.size) _ c.self.view_is c.self.invariant c.requires.may
    (made_allocate c.self.inside c.allocate-result.new.core c.push.new.self c.args.app c.args.size c.allocate-result.result c.of_number.result c.note_of_buffer-note.result c.allocate-result.new.held
    c.self.invariant known c.allocate-result.ensures.bag c.allocate-result.ensures.does c.of_number.ensures c.allocate-result.ensures.refused c.allocate-result.ensures.descs c.allocate-result.ensures.loans
    c.note_of_buffer-note.ensures c.push.ensures)

pub returns-clause-bag : goal.returns-clause-bag
returns-clause-bag g c =
    bag_out (record { core = c.allocate-result.new.core; noted = c.push.new.self }) c.args.app c.allocate-result.new.held (invariant_of-self g c) c.allocate-result.ensures.bag

pub returns-clause-other_bags : goal.returns-clause-other_bags
returns-clause-other_bags g c = others_keep c.args.self.now _ c.args.app (Allocate c.args.size) _ (returns-clause-does g c)
