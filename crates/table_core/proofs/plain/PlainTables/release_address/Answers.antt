use Rattle.std.proofs.Common.{cond, eqb, Option, None, ap, sym, ◌∙◌, subst}
use Rattle.std.proofs.lemmas.Result.{err_from_is_err_and}
use Rattle.lend_block.specs.Loan.{LentBytes}
use Rattle.tbl_words.specs.declared.history.Call.TheVariants.{ReleaseAddress}
use Rattle.tbl_registry.specs.Listing.{handle_at}
use Rattle.table_blocks.specs.Held.{held_at}
use Rattle.table_core.specs.Core.{Plain, Holds}
use Rattle.table_core.proofs.Access.{access_by, refused_here, owned_here, app_of}
use Rattle.table_core.proofs.Addresses.{release_keeps, release_acts, release_bag}
use Rattle.table_core.proofs.CallLaws.{acts_refused}
use Rattle.table_core.proofs.Bags.{known_handle}
use Rattle.table_core.proofs.Figures.{has_content}
use Rattle.table_core.proofs.Others.{taken_others, taken_itself}
use Rattle.table_core.proofs.Returns.{its_view, views_out}
use Rattle.table_core.proofs.plain.PlainTables.release_address.Goals as goal

pub returns-in_err-row-clause-does : goal.returns-in_err-row-clause-does
returns-in_err-row-clause-does c =
    let p = err_from_is_err_and c.from_residual.result c.from_residual.ensures.1 in
    let a = c.self.inside in
    rw (p.1, p.2) (acts_refused a c.args.self.now c.args.app (ReleaseAddress c.args.handle) c.in_err-row.field-0.0 c.self.view_is
    (access_by a c.recall_ties.ensures c.args.app c.args.handle None
    ∙ refused_here (handle_at a.registry.handles c.args.handle) c.args.app c.in_err-row.field-0.0 None (sym c.own_handle.ensures ∙ c.in_err-row.was)))

pub give_back-requires-clause-key : goal.give_back-requires-clause-key
give_back-requires-clause-key c =
    let own = owned_here (handle_at c.self.inside.registry.handles c.args.handle) c.args.app c.in_ok-row.row (sym c.own_handle.ensures ∙ c.in_ok-row.was) in
    (has_content c.self.inside c.self.invariant c.recall_ties.ensures c.args.handle c.in_ok-row.row own.found).small

pub give_back-requires-clause-open : goal.give_back-requires-clause-open
give_back-requires-clause-open c =
    let own = owned_here (handle_at c.self.inside.registry.handles c.args.handle) c.args.app c.in_ok-row.row (sym c.own_handle.ensures ∙ c.in_ok-row.was) in
    (has_content c.self.inside c.self.invariant c.recall_ties.ensures c.args.handle c.in_ok-row.row own.found).present

pub give_back-requires-clause-view : goal.give_back-requires-clause-view
give_back-requires-clause-view c =
    let a = c.self.inside in
    let h = c.in_ok-row.row in
    let is = sym c.own_handle.ensures ∙ c.in_ok-row.was in
    let own = owned_here (handle_at a.registry.handles c.args.handle) c.args.app h is in
    let has = has_content a c.self.invariant c.recall_ties.ensures c.args.handle h own.found in
    ap (held_at c.args.held.now) (known_handle a.registry.handles c.args.handle h own.found)
    ∙ its_view a c.self.invariant c.recall_ties.ensures c.args.handle h own.found has c.args.app (app_of (handle_at a.registry.handles c.args.handle) c.args.app h is) c.args.held.now
    (subst (λ (p : Plain). Holds p c.args.app c.args.held.now) (sym c.self.view_is) c.requires.bag)

pub give_back-requires-clause-some : goal.give_back-requires-clause-some
give_back-requires-clause-some c =
    let a = c.self.inside in
    let h = c.in_ok-row.row in
    let own = owned_here (handle_at a.registry.handles c.args.handle) c.args.app h (sym c.own_handle.ensures ∙ c.in_ok-row.was) in
    let has = has_content a c.self.invariant c.recall_ties.ensures c.args.handle h own.found in
    views_out a c.self.invariant c.recall_ties.ensures c.args.handle h own.found has

pub invariant_of-self : goal.invariant_of-self
invariant_of-self c =
    let a = c.self.inside in
    let h = c.in_ok-row.row in
    let own = owned_here (handle_at a.registry.handles c.args.handle) c.args.app h (sym c.own_handle.ensures ∙ c.in_ok-row.was) in
    let has = has_content a c.self.invariant c.recall_ties.ensures c.args.handle h own.found in
    release_keeps a c.self.invariant c.recall_ties.ensures c.args.handle h own.found has c.give_back.new.blocks c.give_back.ensures.blocks c.let_go.new.self c.let_go.ensures

pub returns-clause-does : goal.returns-clause-does
returns-clause-does c =
    let a = c.self.inside in
    let h = c.in_ok-row.row in
    let is = sym c.own_handle.ensures ∙ c.in_ok-row.was in
    let own = owned_here (handle_at a.registry.handles c.args.handle) c.args.app h is in
    let has = has_content a c.self.invariant c.recall_ties.ensures c.args.handle h own.found in
    release_acts a c.self.invariant c.recall_ties.ensures c.args.handle h own.found has c.give_back.new.blocks c.give_back.ensures.blocks c.let_go.new.self c.let_go.ensures c.args.self.now c.self.view_is c.args.app (app_of (handle_at a.registry.handles c.args.handle) c.args.app h is)
    (access_by a c.recall_ties.ensures c.args.app c.args.handle None ∙ own.own None)

pub returns-clause-bag : goal.returns-clause-bag
returns-clause-bag c =
    let a = c.self.inside in
    let h = c.in_ok-row.row in
    let is = sym c.own_handle.ensures ∙ c.in_ok-row.was in
    let own = owned_here (handle_at a.registry.handles c.args.handle) c.args.app h is in
    let has = has_content a c.self.invariant c.recall_ties.ensures c.args.handle h own.found in
    release_bag a c.self.invariant c.recall_ties.ensures c.args.handle h own.found has c.give_back.new.blocks c.give_back.ensures.blocks c.let_go.new.self c.let_go.ensures c.args.app (app_of (handle_at a.registry.handles c.args.handle) c.args.app h is) c.args.held.now c.give_back.new.held
    (λ m. c.give_back.ensures.seen m ∙ ap (λ k. cond {A = Option LentBytes} (eqb k m) None (held_at c.args.held.now m)) (known_handle a.registry.handles c.args.handle h own.found))
    c.give_back.ensures.fewer c.give_back.ensures.room
    (subst (λ (p : Plain). Holds p c.args.app c.args.held.now) (sym c.self.view_is) c.requires.bag)

pub returns-clause-others : goal.returns-clause-others
returns-clause-others c =
    let own = owned_here (handle_at c.self.inside.registry.handles c.args.handle) c.args.app c.in_ok-row.row (sym c.own_handle.ensures ∙ c.in_ok-row.was) in
    taken_others c.args.held.now c.give_back.new.held c.args.handle c.in_ok-row.row.number (known_handle c.self.inside.registry.handles c.args.handle c.in_ok-row.row own.found) c.give_back.ensures.seen

pub returns-clause-gone : goal.returns-clause-gone
returns-clause-gone c =
    let own = owned_here (handle_at c.self.inside.registry.handles c.args.handle) c.args.app c.in_ok-row.row (sym c.own_handle.ensures ∙ c.in_ok-row.was) in
    taken_itself c.args.held.now c.give_back.new.held c.args.handle c.in_ok-row.row.number (known_handle c.self.inside.registry.handles c.args.handle c.in_ok-row.row own.found) c.give_back.ensures.seen
