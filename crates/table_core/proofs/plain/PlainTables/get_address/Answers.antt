use Rattle.std.proofs.Common.{cond, eqb, Option, None, refl, ap, sym, ◌∙◌, subst, arith}
use Rattle.std.proofs.lemmas.Result.{err_from_is_err_and}
use Rattle.lend_block.specs.Loan.{LentBytes}
use Rattle.tbl_words.specs.declared.history.Call.TheVariants.{GetAddress}
use Rattle.tbl_registry.proofs.HandleNumbers.{same_number}
use Rattle.table_blocks.specs.Held.{held_at}
use Rattle.table_core.specs.Core.{Plain, Holds}
use Rattle.table_core.proofs.Addresses.{between_open_at, view_room_at, address_keeps, address_acts, address_bag}
use Rattle.table_core.proofs.Bags.{known_handle}
use Rattle.table_core.proofs.TableQuestions.{own_content, call_barred, call_asked}
use Rattle.table_core.proofs.Others.{given_others, given_itself}
use Rattle.table_core.proofs.HandleCalls.{reaches, app_reached}
use Rattle.table_core.proofs.Returns.{its_view, views_out, room_left}
use Rattle.table_core.proofs.plain.PlainTables.get_address.Goals as goal

pub returns-in_err-row-clause-does : goal.returns-in_err-row-clause-does
returns-in_err-row-clause-does c =
    let p = err_from_is_err_and c.from_residual.result c.from_residual.ensures.1 in
    rw (p.1, p.2) (call_barred c.self.inside c.args.self.now c.self.view_is c.recall_ties.ensures c.args.app c.args.handle (GetAddress c.args.handle) (λ t. None) refl c.in_err-row.field-0.0 (sym c.own_table.ensures ∙ c.in_err-row.was))

pub overflow_cast-key : goal.overflow_cast-key
overflow_cast-key c =
    let has = own_content c.self.inside c.self.invariant c.recall_ties.ensures c.args.app c.args.handle c.in_ok-row.row (sym c.own_table.ensures ∙ c.in_ok-row.was) in
    omega (arith, has.small)

pub give_back-requires-clause-key : goal.give_back-requires-clause-key
give_back-requires-clause-key c = (own_content c.self.inside c.self.invariant c.recall_ties.ensures c.args.app c.args.handle c.in_ok-row.row (sym c.own_table.ensures ∙ c.in_ok-row.was)).small

pub give_back-requires-clause-open : goal.give_back-requires-clause-open
give_back-requires-clause-open c = (own_content c.self.inside c.self.invariant c.recall_ties.ensures c.args.app c.args.handle c.in_ok-row.row (sym c.own_table.ensures ∙ c.in_ok-row.was)).present

pub give_back-requires-clause-view : goal.give_back-requires-clause-view
give_back-requires-clause-view c =
    let a = c.self.inside in
    let h = c.in_ok-row.row in
    let is = sym c.own_table.ensures ∙ c.in_ok-row.was in
    let found = (reaches a c.recall_ties.ensures c.args.app c.args.handle h is).own.found in
    let has = own_content a c.self.invariant c.recall_ties.ensures c.args.app c.args.handle h is in
    ap (held_at c.args.held.now) (known_handle a.registry.handles c.args.handle h found)
    ∙ its_view a c.self.invariant c.recall_ties.ensures c.args.handle h found has c.args.app (app_reached a c.recall_ties.ensures c.args.app c.args.handle h is) c.args.held.now (subst (λ (p : Plain). Holds p c.args.app c.args.held.now) (sym c.self.view_is) c.requires.bag)

pub give_back-requires-clause-some : goal.give_back-requires-clause-some
give_back-requires-clause-some c =
    let a = c.self.inside in
    let h = c.in_ok-row.row in
    let is = sym c.own_table.ensures ∙ c.in_ok-row.was in
    let found = (reaches a c.recall_ties.ensures c.args.app c.args.handle h is).own.found in
    let has = own_content a c.self.invariant c.recall_ties.ensures c.args.app c.args.handle h is in
    views_out a c.self.invariant c.recall_ties.ensures c.args.handle h found has

pub version-version-requires : goal.version-version-requires
version-version-requires c =
    let a = c.self.inside in
    let h = c.in_ok-row.row in
    let is = sym c.own_table.ensures ∙ c.in_ok-row.was in
    let found = (reaches a c.recall_ties.ensures c.args.app c.args.handle h is).own.found in
    let has = own_content a c.self.invariant c.recall_ties.ensures c.args.app c.args.handle h is in
    between_open_at a c.self.invariant c.recall_ties.ensures c.args.handle h found has c.give_back.new.blocks c.give_back.ensures.blocks

pub view-view-requires-clause-open : goal.view-view-requires-clause-open
view-view-requires-clause-open c =
    let a = c.self.inside in
    let h = c.in_ok-row.row in
    let is = sym c.own_table.ensures ∙ c.in_ok-row.was in
    let found = (reaches a c.recall_ties.ensures c.args.app c.args.handle h is).own.found in
    let has = own_content a c.self.invariant c.recall_ties.ensures c.args.app c.args.handle h is in
    between_open_at a c.self.invariant c.recall_ties.ensures c.args.handle h found has c.give_back.new.blocks c.give_back.ensures.blocks

pub view-view-requires-clause-room : goal.view-view-requires-clause-room
view-view-requires-clause-room c =
    let a = c.self.inside in
    let h = c.in_ok-row.row in
    let is = sym c.own_table.ensures ∙ c.in_ok-row.was in
    let found = (reaches a c.recall_ties.ensures c.args.app c.args.handle h is).own.found in
    let has = own_content a c.self.invariant c.recall_ties.ensures c.args.app c.args.handle h is in
    view_room_at a c.self.invariant c.recall_ties.ensures c.args.handle h found has c.give_back.new.blocks c.give_back.ensures.blocks

pub put-requires-clause-room : goal.put-requires-clause-room
put-requires-clause-room c =
    let a = c.self.inside in
    let h = c.in_ok-row.row in
    let is = sym c.own_table.ensures ∙ c.in_ok-row.was in
    let found = (reaches a c.recall_ties.ensures c.args.app c.args.handle h is).own.found in
    let has = own_content a c.self.invariant c.recall_ties.ensures c.args.app c.args.handle h is in
    room_left a c.self.invariant c.recall_ties.ensures c.args.handle h found has c.args.app (app_reached a c.recall_ties.ensures c.args.app c.args.handle h is) c.args.held.now (subst (λ (p : Plain). Holds p c.args.app c.args.held.now) (sym c.self.view_is) c.requires.bag) c.give_back.new.held c.give_back.ensures.fewer c.give_back.ensures.room

pub put-requires-clause-new : goal.put-requires-clause-new
put-requires-clause-new c =
    let a = c.self.inside in
    let h = c.in_ok-row.row in
    let is = sym c.own_table.ensures ∙ c.in_ok-row.was in
    let found = (reaches a c.recall_ties.ensures c.args.app c.args.handle h is).own.found in
    let has = own_content a c.self.invariant c.recall_ties.ensures c.args.app c.args.handle h is in
    c.give_back.ensures.seen c.args.handle
    ∙ ap (λ x. cond {A = Option LentBytes} x None (held_at c.args.held.now c.args.handle)) (same_number h.number c.args.handle (known_handle a.registry.handles c.args.handle h found))

pub invariant_of-self : goal.invariant_of-self
invariant_of-self c =
    let a = c.self.inside in
    let h = c.in_ok-row.row in
    let is = sym c.own_table.ensures ∙ c.in_ok-row.was in
    let found = (reaches a c.recall_ties.ensures c.args.app c.args.handle h is).own.found in
    let has = own_content a c.self.invariant c.recall_ties.ensures c.args.app c.args.handle h is in
    address_keeps a c.self.invariant c.recall_ties.ensures c.args.handle h found has c.give_back.new.blocks c.view-view.new.self c.give_back.ensures.blocks c.view-view.ensures.after c.version-version.result c.version-version.ensures c.hold.new.self c.hold.ensures

pub returns-clause-does : goal.returns-clause-does
returns-clause-does c =
    let a = c.self.inside in
    let h = c.in_ok-row.row in
    let is = sym c.own_table.ensures ∙ c.in_ok-row.was in
    let found = (reaches a c.recall_ties.ensures c.args.app c.args.handle h is).own.found in
    let has = own_content a c.self.invariant c.recall_ties.ensures c.args.app c.args.handle h is in
    address_acts a c.self.invariant c.recall_ties.ensures c.args.handle h found has c.give_back.new.blocks c.view-view.new.self c.give_back.ensures.blocks c.view-view.ensures.after c.version-version.result c.version-version.ensures c.hold.new.self c.hold.ensures c.args.self.now c.self.view_is c.args.app (app_reached a c.recall_ties.ensures c.args.app c.args.handle h is)
    (call_asked a c.args.self.now c.self.view_is c.recall_ties.ensures c.args.app c.args.handle (GetAddress c.args.handle) (λ t. None) refl h is has)
    c.told_by-told.result c.told_by-told.ensures

pub returns-clause-bag : goal.returns-clause-bag
returns-clause-bag c =
    let a = c.self.inside in
    let h = c.in_ok-row.row in
    let is = sym c.own_table.ensures ∙ c.in_ok-row.was in
    let found = (reaches a c.recall_ties.ensures c.args.app c.args.handle h is).own.found in
    let has = own_content a c.self.invariant c.recall_ties.ensures c.args.app c.args.handle h is in
    address_bag a c.self.invariant c.recall_ties.ensures c.args.handle h found has c.give_back.new.blocks c.view-view.new.self c.give_back.ensures.blocks c.view-view.ensures.after c.version-version.result c.version-version.ensures c.hold.new.self c.hold.ensures c.args.app (app_reached a c.recall_ties.ensures c.args.app c.args.handle h is) c.view-view.result c.view-view.ensures.view c.args.held.now c.give_back.new.held c.put.new.self
    (λ m. c.give_back.ensures.seen m ∙ ap (λ k. cond {A = Option LentBytes} (eqb k m) None (held_at c.args.held.now m)) (known_handle a.registry.handles c.args.handle h found))
    c.put.ensures.seen c.give_back.ensures.fewer c.put.ensures.one_more c.give_back.ensures.room c.put.ensures.same_room
    (subst (λ (p : Plain). Holds p c.args.app c.args.held.now) (sym c.self.view_is) c.requires.bag)

pub returns-clause-others : goal.returns-clause-others
returns-clause-others c =
    let found = (reaches c.self.inside c.recall_ties.ensures c.args.app c.args.handle c.in_ok-row.row (sym c.own_table.ensures ∙ c.in_ok-row.was)).own.found in
    given_others c.args.held.now c.give_back.new.held c.args.handle c.in_ok-row.row.number (known_handle c.self.inside.registry.handles c.args.handle c.in_ok-row.row found) c.give_back.ensures.seen c.put.new.self c.view-view.result c.put.ensures.seen

pub returns-clause-given : goal.returns-clause-given
returns-clause-given c =
    let found = (reaches c.self.inside c.recall_ties.ensures c.args.app c.args.handle c.in_ok-row.row (sym c.own_table.ensures ∙ c.in_ok-row.was)).own.found in
    given_itself c.args.held.now c.give_back.new.held c.args.handle c.in_ok-row.row.number (known_handle c.self.inside.registry.handles c.args.handle c.in_ok-row.row found) c.give_back.ensures.seen c.put.new.self c.view-view.result c.put.ensures.seen
