use Rattle.std.proofs.Common.{true, false, refl, ap, sym, ◌∙◌, arith}
use Rattle.std.proofs.lemmas.Result.{err_from_is_err_and}
use Rattle.tbl_words.specs.declared.statuses.TblStatus.TheVariants.{InfoNoUpdatePending, NotValidated, InfoTableLocked}
use Rattle.tbl_words.specs.declared.calls.TblAnswer.TheVariants.{Done}
use Rattle.tbl_words.specs.declared.history.Call.TheVariants.{Update}
use Rattle.tbl_words.specs.Tables as state
use Rattle.tbl_words.specs.Machine.{update_cause, is_locked}
use Rattle.tbl_registry.specs.Listing.{is_registered}
use Rattle.table_blocks.specs.Blocks.{Stored}
use Rattle.table_blocks.specs.Contents.{content_at, staged_in}
use Rattle.table_core.specs.Inside.{means}
use Rattle.table_core.proofs.TableQuestions.{table_by, own_content, call_barred, call_asked, call_refused, barred_behind_last, refused_behind_last, locked_behind_last}
use Rattle.table_core.proofs.Loads.{unstaged_update, update_checked, updated_so, is_next, never_next, next_here, next_left}
use Rattle.table_core.proofs.HandleCalls.{reaches}
use Rattle.table_core.proofs.Registers.{none_staged}
use Rattle.table_core.proofs.Stagings.{locked_alike, unlent}
use Rattle.table_core.proofs.Updates.{update_keeps, update_acts}
use Rattle.table_core.proofs.Validations.{none_older}
use Rattle.table_core.proofs.plain.PlainTables.update.Goals as goal

pub returns-in_err-row-clause-does : goal.returns-in_err-row-clause-does
returns-in_err-row-clause-does c = λ left.
    let p = err_from_is_err_and c.from_residual.result c.from_residual.ensures.1 in
    rw (p.1, p.2) (call_barred c.self.inside c.args.self.now c.self.view_is c.recall_ties.ensures c.args.app c.args.handle (Update c.args.handle) (update_cause (means c.self.inside)) refl c.in_err-row.field-0.0 (sym c.own_table.ensures ∙ c.in_err-row.was))

pub returns-in_err-row-clause-behind_last : goal.returns-in_err-row-clause-behind_last
returns-in_err-row-clause-behind_last c = λ none.
    let p = err_from_is_err_and c.from_residual.result c.from_residual.ensures.1 in
    rw (p.1, p.2) (barred_behind_last c.self.inside c.args.self.now c.self.view_is c.recall_ties.ensures c.args.app c.args.handle (Update c.args.handle) (update_cause (means c.self.inside)) refl c.in_err-row.field-0.0 (sym c.own_table.ensures ∙ c.in_err-row.was))

pub overflow_cast-key : goal.overflow_cast-key
overflow_cast-key c =
    let has = own_content c.self.inside c.self.invariant c.recall_ties.ensures c.args.app c.args.handle c.in_ok-row.row (sym c.own_table.ensures ∙ c.in_ok-row.was) in
    omega (arith, has.small)

pub is_staged-requires : goal.is_staged-requires
is_staged-requires c = (own_content c.self.inside c.self.invariant c.recall_ties.ensures c.args.app c.args.handle c.in_ok-row.row (sym c.own_table.ensures ∙ c.in_ok-row.was)).present

pub returns-then-not-is_staged-clause-does : goal.returns-then-not-is_staged-clause-does
returns-then-not-is_staged-clause-does c = λ left.
    let a = c.self.inside in
    let h = c.in_ok-row.row in
    let is = sym c.own_table.ensures ∙ c.in_ok-row.was in
    let has = own_content a c.self.invariant c.recall_ties.ensures c.args.app c.args.handle h is in
    call_refused a c.args.self.now c.self.view_is c.recall_ties.ensures c.args.app c.args.handle (Update c.args.handle) (update_cause (means a)) refl h is has InfoNoUpdatePending
    (unstaged_update (means a) (is_registered a.registry.handles has.t) has.t (content_at a.blocks.tables h.key) (none_staged (content_at a.blocks.tables h.key).next (sym c.is_staged.ensures ∙ c.if-not-is_staged.true)))

pub returns-then-not-is_staged-clause-behind_last : goal.returns-then-not-is_staged-clause-behind_last
returns-then-not-is_staged-clause-behind_last c = λ none.
    let a = c.self.inside in
    let h = c.in_ok-row.row in
    let is = sym c.own_table.ensures ∙ c.in_ok-row.was in
    let has = own_content a c.self.invariant c.recall_ties.ensures c.args.app c.args.handle h is in
    refused_behind_last a c.args.self.now c.self.view_is c.recall_ties.ensures c.args.app c.args.handle (Update c.args.handle) (update_cause (means a)) refl h is has InfoNoUpdatePending
    (unstaged_update (means a) (is_registered a.registry.handles has.t) has.t (content_at a.blocks.tables h.key) (none_staged (content_at a.blocks.tables h.key).next (sym c.is_staged.ensures ∙ c.if-not-is_staged.true)))

pub returns-then-not-is_validated-clause-does : goal.returns-then-not-is_validated-clause-does
returns-then-not-is_validated-clause-does c = λ left.
    let a = c.self.inside in
    let h = c.in_ok-row.row in
    let is = sym c.own_table.ensures ∙ c.in_ok-row.was in
    let has = own_content a c.self.invariant c.recall_ties.ensures c.args.app c.args.handle h is in
    call_refused a c.args.self.now c.self.view_is c.recall_ties.ensures c.args.app c.args.handle (Update c.args.handle) (update_cause (means a)) refl h is has NotValidated
    (update_checked (means a) (is_registered a.registry.handles has.t) has.t (content_at a.blocks.tables h.key) false (is_locked (means a) (table_by a h has.t)) (sym c.is_staged.ensures ∙ c.if-not-is_staged.false) (sym c.is_validated.ensures ∙ c.if-not-is_validated.true) refl)

pub returns-then-not-is_validated-clause-behind_last : goal.returns-then-not-is_validated-clause-behind_last
returns-then-not-is_validated-clause-behind_last c = λ none.
    let a = c.self.inside in
    let h = c.in_ok-row.row in
    let is = sym c.own_table.ensures ∙ c.in_ok-row.was in
    let has = own_content a c.self.invariant c.recall_ties.ensures c.args.app c.args.handle h is in
    refused_behind_last a c.args.self.now c.self.view_is c.recall_ties.ensures c.args.app c.args.handle (Update c.args.handle) (update_cause (means a)) refl h is has NotValidated
    (update_checked (means a) (is_registered a.registry.handles has.t) has.t (content_at a.blocks.tables h.key) false (is_locked (means a) (table_by a h has.t)) (sym c.is_staged.ensures ∙ c.if-not-is_staged.false) (sym c.is_validated.ensures ∙ c.if-not-is_validated.true) refl)

pub returns-then-is_lent-clause-does : goal.returns-then-is_lent-clause-does
returns-then-is_lent-clause-does c = λ left.
    let a = c.self.inside in
    let h = c.in_ok-row.row in
    let is = sym c.own_table.ensures ∙ c.in_ok-row.was in
    let has = own_content a c.self.invariant c.recall_ties.ensures c.args.app c.args.handle h is in
    let staged = sym c.is_staged.ensures ∙ c.if-not-is_staged.false in
    call_refused a c.args.self.now c.self.view_is c.recall_ties.ensures c.args.app c.args.handle (Update c.args.handle) (update_cause (means a)) refl h is has InfoTableLocked
    (update_checked (means a) (is_registered a.registry.handles has.t) has.t (content_at a.blocks.tables h.key) true true staged (sym c.is_validated.ensures ∙ c.if-not-is_validated.false)
    (locked_alike a h has (λ none. absurd (cc (sym staged ∙ none))) ∙ (sym c.is_lent.ensures ∙ c.if-is_lent.true)))

pub returns-then-is_lent-clause-behind_last : goal.returns-then-is_lent-clause-behind_last
returns-then-is_lent-clause-behind_last c = λ none.
    let a = c.self.inside in
    let h = c.in_ok-row.row in
    let is = sym c.own_table.ensures ∙ c.in_ok-row.was in
    let has = own_content a c.self.invariant c.recall_ties.ensures c.args.app c.args.handle h is in
    let staged = sym c.is_staged.ensures ∙ c.if-not-is_staged.false in
    refused_behind_last a c.args.self.now c.self.view_is c.recall_ties.ensures c.args.app c.args.handle (Update c.args.handle) (update_cause (means a)) refl h is has InfoTableLocked
    (update_checked (means a) (is_registered a.registry.handles has.t) has.t (content_at a.blocks.tables h.key) true true staged (sym c.is_validated.ensures ∙ c.if-not-is_validated.false)
    (locked_alike a h has (λ none. absurd (cc (sym staged ∙ none))) ∙ (sym c.is_lent.ensures ∙ c.if-is_lent.true)))

pub returns-then-not-has_next_version-clause-does : goal.returns-then-not-has_next_version-clause-does
returns-then-not-has_next_version-clause-does c = λ left.
    let a = c.self.inside in
    let h = c.in_ok-row.row in
    let is = sym c.own_table.ensures ∙ c.in_ok-row.was in
    let has = own_content a c.self.invariant c.recall_ties.ensures c.args.app c.args.handle h is in
    let found = (reaches a c.recall_ties.ensures c.args.app c.args.handle h is).own.found in
    absurd (never_next (content_at a.blocks.tables h.key).version (sym c.has_next_version.ensures ∙ c.if-not-has_next_version.true)
    (next_here a c.args.self.now c.self.view_is c.recall_ties.ensures c.args.handle h found has left))

pub returns-then-not-has_next_version-clause-behind_last : goal.returns-then-not-has_next_version-clause-behind_last
returns-then-not-has_next_version-clause-behind_last c = λ none.
    let a = c.self.inside in
    let h = c.in_ok-row.row in
    let is = sym c.own_table.ensures ∙ c.in_ok-row.was in
    let has = own_content a c.self.invariant c.recall_ties.ensures c.args.app c.args.handle h is in
    let staged = sym c.is_staged.ensures ∙ c.if-not-is_staged.false in
    locked_behind_last a c.args.self.now c.self.view_is c.recall_ties.ensures c.args.app c.args.handle (Update c.args.handle) (update_cause (means a)) refl h is has
    (update_checked (means a) (is_registered a.registry.handles has.t) has.t (content_at a.blocks.tables h.key) true false staged (sym c.is_validated.ensures ∙ c.if-not-is_validated.false)
    (locked_alike a h has (λ none. absurd (cc (sym staged ∙ none))) ∙ (sym c.is_lent.ensures ∙ c.if-is_lent.false)))

pub update-requires-clause-room : goal.update-requires-clause-room
update-requires-clause-room c = is_next (content_at c.self.inside.blocks.tables c.in_ok-row.row.key).version (sym c.has_next_version.ensures ∙ c.if-not-has_next_version.false)

pub invariant_of-self : goal.invariant_of-self
invariant_of-self c =
    let a = c.self.inside in
    let h = c.in_ok-row.row in
    let is = sym c.own_table.ensures ∙ c.in_ok-row.was in
    let has = own_content a c.self.invariant c.recall_ties.ensures c.args.app c.args.handle h is in
    let content = content_at a.blocks.tables h.key in
    let staged = sym c.is_staged.ensures ∙ c.if-not-is_staged.false in
    update_keeps a c.self.invariant c.recall_ties.ensures h has (reaches a c.recall_ties.ensures c.args.app c.args.handle h is).live c.update.new.self (content_at c.update.new.self.tables h.key).present.loan (staged_in content.next).bytes
    (ap (λ (s : Stored). s.tables) c.update.ensures) (ap (λ (s : Stored). s.pool) c.update.ensures) (ap (λ (s : Stored). s.most) c.update.ensures) (none_older content.next staged) (unlent content (sym c.is_lent.ensures ∙ c.if-is_lent.false))

pub returns-clause-does : goal.returns-clause-does
returns-clause-does c = λ left.
    let a = c.self.inside in
    let h = c.in_ok-row.row in
    let is = sym c.own_table.ensures ∙ c.in_ok-row.was in
    let has = own_content a c.self.invariant c.recall_ties.ensures c.args.app c.args.handle h is in
    let content = content_at a.blocks.tables h.key in
    let staged = sym c.is_staged.ensures ∙ c.if-not-is_staged.false in
    update_acts a c.self.invariant c.recall_ties.ensures h has (reaches a c.recall_ties.ensures c.args.app c.args.handle h is).live c.update.new.self (content_at c.update.new.self.tables h.key).present.loan (staged_in content.next).bytes
    (ap (λ (s : Stored). s.tables) c.update.ensures) (ap (λ (s : Stored). s.pool) c.update.ensures) (ap (λ (s : Stored). s.most) c.update.ensures) (none_older content.next staged) (unlent content (sym c.is_lent.ensures ∙ c.if-is_lent.false))
    c.args.self.now c.self.view_is c.args.app (Update c.args.handle) Done
    (call_asked a c.args.self.now c.self.view_is c.recall_ties.ensures c.args.app c.args.handle (Update c.args.handle) (update_cause (means a)) refl h is has
    ∙ update_checked (means a) (is_registered a.registry.handles has.t) has.t content true false staged (sym c.is_validated.ensures ∙ c.if-not-is_validated.false)
    (locked_alike a h has (λ none. absurd (cc (sym staged ∙ none))) ∙ (sym c.is_lent.ensures ∙ c.if-is_lent.false)))
    (ap (λ (s : state.State). (Done, s)) (updated_so a c.recall_ties.ensures c.args.handle h (reaches a c.recall_ties.ensures c.args.app c.args.handle h is).own.found has staged))

pub returns-clause-spent : goal.returns-clause-spent
returns-clause-spent c = λ none.
    let a = c.self.inside in
    let h = c.in_ok-row.row in
    let is = sym c.own_table.ensures ∙ c.in_ok-row.was in
    let has = own_content a c.self.invariant c.recall_ties.ensures c.args.app c.args.handle h is in
    let found = (reaches a c.recall_ties.ensures c.args.app c.args.handle h is).own.found in
    absurd (none (next_left a c.args.self.now c.self.view_is c.recall_ties.ensures c.args.handle h found has
    (is_next (content_at a.blocks.tables h.key).version (sym c.has_next_version.ensures ∙ c.if-not-has_next_version.false))))

pub returns-clause-behind_last : goal.returns-clause-behind_last
returns-clause-behind_last c = λ none.
    let a = c.self.inside in
    let h = c.in_ok-row.row in
    let is = sym c.own_table.ensures ∙ c.in_ok-row.was in
    let has = own_content a c.self.invariant c.recall_ties.ensures c.args.app c.args.handle h is in
    let found = (reaches a c.recall_ties.ensures c.args.app c.args.handle h is).own.found in
    absurd (none (next_left a c.args.self.now c.self.view_is c.recall_ties.ensures c.args.handle h found has
    (is_next (content_at a.blocks.tables h.key).version (sym c.has_next_version.ensures ∙ c.if-not-has_next_version.false))))
