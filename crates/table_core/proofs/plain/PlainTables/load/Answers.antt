use Rattle.std.proofs.Common.{true, false, Some, None, length, refl, ap, sym, ◌∙◌, arith}
use Rattle.std.proofs.lemmas.Result.{err_from_is_err_and}
use Rattle.tbl_words.specs.declared.statuses.TblStatus.TheVariants.{Validation, InfoTableLocked}
use Rattle.tbl_words.specs.declared.calls.TblAnswer.TheVariants.{Done}
use Rattle.tbl_words.specs.declared.history.Call.TheVariants.{Load}
use Rattle.tbl_words.specs.Tables as state
use Rattle.tbl_words.specs.Machine.{refused_if, with_range, rules_cause, load_cause, is_locked}
use Rattle.tbl_registry.specs.Listing.{is_registered}
use Rattle.table_blocks.specs.Blocks.{Stored}
use Rattle.table_blocks.specs.Contents.{content_at}
use Rattle.table_core.specs.Inside.{means}
use Rattle.table_core.proofs.TableQuestions.{table_by, own_content, call_barred, call_asked, call_refused, barred_behind_last, refused_behind_last, locked_behind_last}
use Rattle.table_core.proofs.Loads.{load_checked, loaded_so, is_next, never_next, next_here, next_left}
use Rattle.table_core.proofs.HandleCalls.{reaches}
use Rattle.table_core.proofs.Stagings.{stage_alike, staging_refused, can_stage, none_apart, locked_alike, unlent}
use Rattle.table_core.proofs.Updates.{update_keeps, update_acts}
use Rattle.table_core.proofs.Validations.{row_rules, row_fits}
use Rattle.table_core.proofs.plain.PlainTables.load.Goals as goal

pub returns-in_err-row-clause-does : goal.returns-in_err-row-clause-does
returns-in_err-row-clause-does c = λ left.
    let p = err_from_is_err_and c.from_residual.result c.from_residual.ensures.1 in
    rw (p.1, p.2) (call_barred c.self.inside c.args.self.now c.self.view_is c.recall_ties.ensures c.args.app c.args.handle (Load c.args.handle c.args.offset c.args.bytes.now) (load_cause (means c.self.inside) c.args.offset c.args.bytes.now) refl c.in_err-row.field-0.0 (sym c.own_table.ensures ∙ c.in_err-row.was))

pub returns-in_err-row-clause-behind_last : goal.returns-in_err-row-clause-behind_last
returns-in_err-row-clause-behind_last c = λ none.
    let p = err_from_is_err_and c.from_residual.result c.from_residual.ensures.1 in
    rw (p.1, p.2) (barred_behind_last c.self.inside c.args.self.now c.self.view_is c.recall_ties.ensures c.args.app c.args.handle (Load c.args.handle c.args.offset c.args.bytes.now) (load_cause (means c.self.inside) c.args.offset c.args.bytes.now) refl c.in_err-row.field-0.0 (sym c.own_table.ensures ∙ c.in_err-row.was))

pub overflow_cast-key : goal.overflow_cast-key
overflow_cast-key c =
    let has = own_content c.self.inside c.self.invariant c.recall_ties.ensures c.args.app c.args.handle c.in_ok-row.row (sym c.own_table.ensures ∙ c.in_ok-row.was) in
    omega (arith, has.small)

pub unstaged_cause-requires-clause-open : goal.unstaged_cause-requires-clause-open
unstaged_cause-requires-clause-open c = (own_content c.self.inside c.self.invariant c.recall_ties.ensures c.args.app c.args.handle c.in_ok-row.row (sym c.own_table.ensures ∙ c.in_ok-row.was)).present

pub returns-in-Some-clause-does : goal.returns-in-Some-clause-does
returns-in-Some-clause-does c = λ left.
    let a = c.self.inside in
    let h = c.in_ok-row.row in
    let is = sym c.own_table.ensures ∙ c.in_ok-row.was in
    let has = own_content a c.self.invariant c.recall_ties.ensures c.args.app c.args.handle h is in
    let others = rules_cause has.t.rules (with_range (content_at a.blocks.tables h.key).present.bytes c.args.offset c.args.bytes.now) (refused_if (is_locked (means a) (table_by a h has.t)) InfoTableLocked None) in
    call_refused a c.args.self.now c.self.view_is c.recall_ties.ensures c.args.app c.args.handle (Load c.args.handle c.args.offset c.args.bytes.now) (load_cause (means a) c.args.offset c.args.bytes.now) refl h is has c.in-Some.status
    (stage_alike a h has c.self.invariant c.recall_ties.ensures c.recall_buffers.ensures c.args.offset c.args.bytes.now others
    ∙ staging_refused a.blocks.free (content_at a.blocks.tables h.key) c.args.offset c.args.bytes.now c.in-Some.status others (sym c.unstaged_cause.ensures ∙ c.in-Some.is))

pub returns-in-Some-clause-behind_last : goal.returns-in-Some-clause-behind_last
returns-in-Some-clause-behind_last c = λ none.
    let a = c.self.inside in
    let h = c.in_ok-row.row in
    let is = sym c.own_table.ensures ∙ c.in_ok-row.was in
    let has = own_content a c.self.invariant c.recall_ties.ensures c.args.app c.args.handle h is in
    let others = rules_cause has.t.rules (with_range (content_at a.blocks.tables h.key).present.bytes c.args.offset c.args.bytes.now) (refused_if (is_locked (means a) (table_by a h has.t)) InfoTableLocked None) in
    refused_behind_last a c.args.self.now c.self.view_is c.recall_ties.ensures c.args.app c.args.handle (Load c.args.handle c.args.offset c.args.bytes.now) (load_cause (means a) c.args.offset c.args.bytes.now) refl h is has c.in-Some.status
    (stage_alike a h has c.self.invariant c.recall_ties.ensures c.recall_buffers.ensures c.args.offset c.args.bytes.now others
    ∙ staging_refused a.blocks.free (content_at a.blocks.tables h.key) c.args.offset c.args.bytes.now c.in-Some.status others (sym c.unstaged_cause.ensures ∙ c.in-Some.is))

pub failed_rule-requires-clause-fit : goal.failed_rule-requires-clause-fit
failed_rule-requires-clause-fit c =
    let a = c.self.inside in
    let h = c.in_ok-row.row in
    let has = own_content a c.self.invariant c.recall_ties.ensures c.args.app c.args.handle h (sym c.own_table.ensures ∙ c.in_ok-row.was) in
    row_fits a c.self.invariant h has c.table.result c.table.ensures c.as_slice.result.now c.bytes-value.result.now c.as_slice.ensures.rules (ap length c.bytes-value.ensures ∙ c.recall_table.ensures.present)

pub returns-in-Some-failed_rule-clause-does : goal.returns-in-Some-failed_rule-clause-does
returns-in-Some-failed_rule-clause-does c = λ left.
    let a = c.self.inside in
    let h = c.in_ok-row.row in
    let is = sym c.own_table.ensures ∙ c.in_ok-row.was in
    let has = own_content a c.self.invariant c.recall_ties.ensures c.args.app c.args.handle h is in
    let content = content_at a.blocks.tables h.key in
    let others = rules_cause has.t.rules (with_range content.present.bytes c.args.offset c.args.bytes.now) (refused_if (is_locked (means a) (table_by a h has.t)) InfoTableLocked None) in
    call_refused a c.args.self.now c.self.view_is c.recall_ties.ensures c.args.app c.args.handle (Load c.args.handle c.args.offset c.args.bytes.now) (load_cause (means a) c.args.offset c.args.bytes.now) refl h is has (Validation c.in-Some-failed_rule.number)
    (stage_alike a h has c.self.invariant c.recall_ties.ensures c.recall_buffers.ensures c.args.offset c.args.bytes.now others
    ∙ (can_stage a.blocks.free content c.args.offset c.args.bytes.now (sym c.unstaged_cause.ensures ∙ c.in_default.is)).passed others
    ∙ load_checked (means a) (is_registered a.registry.handles has.t) has.t content c.as_slice.result.now c.bytes-value.result.now c.args.offset c.args.bytes.now (Some c.in-Some-failed_rule.number) (is_locked (means a) (table_by a h has.t))
    (c.as_slice.ensures.rules ∙ row_rules a c.self.invariant h has c.table.result c.table.ensures) c.bytes-value.ensures (sym c.in-Some-failed_rule.is ∙ c.failed_rule.ensures) refl)

pub returns-in-Some-failed_rule-clause-behind_last : goal.returns-in-Some-failed_rule-clause-behind_last
returns-in-Some-failed_rule-clause-behind_last c = λ none.
    let a = c.self.inside in
    let h = c.in_ok-row.row in
    let is = sym c.own_table.ensures ∙ c.in_ok-row.was in
    let has = own_content a c.self.invariant c.recall_ties.ensures c.args.app c.args.handle h is in
    let content = content_at a.blocks.tables h.key in
    let others = rules_cause has.t.rules (with_range content.present.bytes c.args.offset c.args.bytes.now) (refused_if (is_locked (means a) (table_by a h has.t)) InfoTableLocked None) in
    refused_behind_last a c.args.self.now c.self.view_is c.recall_ties.ensures c.args.app c.args.handle (Load c.args.handle c.args.offset c.args.bytes.now) (load_cause (means a) c.args.offset c.args.bytes.now) refl h is has (Validation c.in-Some-failed_rule.number)
    (stage_alike a h has c.self.invariant c.recall_ties.ensures c.recall_buffers.ensures c.args.offset c.args.bytes.now others
    ∙ (can_stage a.blocks.free content c.args.offset c.args.bytes.now (sym c.unstaged_cause.ensures ∙ c.in_default.is)).passed others
    ∙ load_checked (means a) (is_registered a.registry.handles has.t) has.t content c.as_slice.result.now c.bytes-value.result.now c.args.offset c.args.bytes.now (Some c.in-Some-failed_rule.number) (is_locked (means a) (table_by a h has.t))
    (c.as_slice.ensures.rules ∙ row_rules a c.self.invariant h has c.table.result c.table.ensures) c.bytes-value.ensures (sym c.in-Some-failed_rule.is ∙ c.failed_rule.ensures) refl)

pub returns-then-is_lent-clause-does : goal.returns-then-is_lent-clause-does
returns-then-is_lent-clause-does c = λ left.
    let a = c.self.inside in
    let h = c.in_ok-row.row in
    let is = sym c.own_table.ensures ∙ c.in_ok-row.was in
    let has = own_content a c.self.invariant c.recall_ties.ensures c.args.app c.args.handle h is in
    let content = content_at a.blocks.tables h.key in
    let others = rules_cause has.t.rules (with_range content.present.bytes c.args.offset c.args.bytes.now) (refused_if (is_locked (means a) (table_by a h has.t)) InfoTableLocked None) in
    call_refused a c.args.self.now c.self.view_is c.recall_ties.ensures c.args.app c.args.handle (Load c.args.handle c.args.offset c.args.bytes.now) (load_cause (means a) c.args.offset c.args.bytes.now) refl h is has InfoTableLocked
    (stage_alike a h has c.self.invariant c.recall_ties.ensures c.recall_buffers.ensures c.args.offset c.args.bytes.now others
    ∙ (can_stage a.blocks.free content c.args.offset c.args.bytes.now (sym c.unstaged_cause.ensures ∙ c.in_default.is)).passed others
    ∙ load_checked (means a) (is_registered a.registry.handles has.t) has.t content c.as_slice.result.now c.bytes-value.result.now c.args.offset c.args.bytes.now None true
    (c.as_slice.ensures.rules ∙ row_rules a c.self.invariant h has c.table.result c.table.ensures) c.bytes-value.ensures (sym c.in_default-failed_rule.is ∙ c.failed_rule.ensures)
    (locked_alike a h has c.recall_table.ensures.inactive ∙ (sym c.is_lent.ensures ∙ c.if-is_lent.true)))

pub returns-then-is_lent-clause-behind_last : goal.returns-then-is_lent-clause-behind_last
returns-then-is_lent-clause-behind_last c = λ none.
    let a = c.self.inside in
    let h = c.in_ok-row.row in
    let is = sym c.own_table.ensures ∙ c.in_ok-row.was in
    let has = own_content a c.self.invariant c.recall_ties.ensures c.args.app c.args.handle h is in
    let content = content_at a.blocks.tables h.key in
    let others = rules_cause has.t.rules (with_range content.present.bytes c.args.offset c.args.bytes.now) (refused_if (is_locked (means a) (table_by a h has.t)) InfoTableLocked None) in
    refused_behind_last a c.args.self.now c.self.view_is c.recall_ties.ensures c.args.app c.args.handle (Load c.args.handle c.args.offset c.args.bytes.now) (load_cause (means a) c.args.offset c.args.bytes.now) refl h is has InfoTableLocked
    (stage_alike a h has c.self.invariant c.recall_ties.ensures c.recall_buffers.ensures c.args.offset c.args.bytes.now others
    ∙ (can_stage a.blocks.free content c.args.offset c.args.bytes.now (sym c.unstaged_cause.ensures ∙ c.in_default.is)).passed others
    ∙ load_checked (means a) (is_registered a.registry.handles has.t) has.t content c.as_slice.result.now c.bytes-value.result.now c.args.offset c.args.bytes.now None true
    (c.as_slice.ensures.rules ∙ row_rules a c.self.invariant h has c.table.result c.table.ensures) c.bytes-value.ensures (sym c.in_default-failed_rule.is ∙ c.failed_rule.ensures)
    (locked_alike a h has c.recall_table.ensures.inactive ∙ (sym c.is_lent.ensures ∙ c.if-is_lent.true)))

pub returns-then-not-has_next_version-clause-does : goal.returns-then-not-has_next_version-clause-does
returns-then-not-has_next_version-clause-does c = λ left.
    let a = c.self.inside in
    let h = c.in_ok-row.row in
    let is = sym c.own_table.ensures ∙ c.in_ok-row.was in
    let has = own_content a c.self.invariant c.recall_ties.ensures c.args.app c.args.handle h is in
    let found = (reaches a c.recall_ties.ensures c.args.app c.args.handle h is).own.found in
    absurd (never_next (content_at a.blocks.tables h.key).version (sym c.has_next_version.ensures ∙ c.if-not-has_next_version.true)
    (next_here a c.args.self.now c.self.view_is c.recall_ties.ensures c.args.handle h found has left))

pub returns-then-not-has_next_version-clause-behind_last : goal.returns-then-not-has_next_version-clause-behind_last
returns-then-not-has_next_version-clause-behind_last c = λ none.
    let a = c.self.inside in
    let h = c.in_ok-row.row in
    let is = sym c.own_table.ensures ∙ c.in_ok-row.was in
    let has = own_content a c.self.invariant c.recall_ties.ensures c.args.app c.args.handle h is in
    let content = content_at a.blocks.tables h.key in
    let others = rules_cause has.t.rules (with_range content.present.bytes c.args.offset c.args.bytes.now) (refused_if (is_locked (means a) (table_by a h has.t)) InfoTableLocked None) in
    locked_behind_last a c.args.self.now c.self.view_is c.recall_ties.ensures c.args.app c.args.handle (Load c.args.handle c.args.offset c.args.bytes.now) (load_cause (means a) c.args.offset c.args.bytes.now) refl h is has
    (stage_alike a h has c.self.invariant c.recall_ties.ensures c.recall_buffers.ensures c.args.offset c.args.bytes.now others
    ∙ (can_stage a.blocks.free content c.args.offset c.args.bytes.now (sym c.unstaged_cause.ensures ∙ c.in_default.is)).passed others
    ∙ load_checked (means a) (is_registered a.registry.handles has.t) has.t content c.as_slice.result.now c.bytes-value.result.now c.args.offset c.args.bytes.now None false
    (c.as_slice.ensures.rules ∙ row_rules a c.self.invariant h has c.table.result c.table.ensures) c.bytes-value.ensures (sym c.in_default-failed_rule.is ∙ c.failed_rule.ensures)
    (locked_alike a h has c.recall_table.ensures.inactive ∙ (sym c.is_lent.ensures ∙ c.if-is_lent.false)))

pub load-requires-clause-room : goal.load-requires-clause-room
load-requires-clause-room c = is_next (content_at c.self.inside.blocks.tables c.in_ok-row.row.key).version (sym c.has_next_version.ensures ∙ c.if-not-has_next_version.false)

pub invariant_of-self : goal.invariant_of-self
invariant_of-self c =
    let a = c.self.inside in
    let h = c.in_ok-row.row in
    let is = sym c.own_table.ensures ∙ c.in_ok-row.was in
    let has = own_content a c.self.invariant c.recall_ties.ensures c.args.app c.args.handle h is in
    let content = content_at a.blocks.tables h.key in
    let can = can_stage a.blocks.free content c.args.offset c.args.bytes.now (sym c.unstaged_cause.ensures ∙ c.in_default.is) in
    update_keeps a c.self.invariant c.recall_ties.ensures h has (reaches a c.recall_ties.ensures c.args.app c.args.handle h is).live c.load.new.self (content_at c.load.new.self.tables h.key).present.loan (with_range content.present.bytes c.args.offset c.args.bytes.now)
    (ap (λ (s : Stored). s.tables) c.load.ensures) (ap (λ (s : Stored). s.pool) c.load.ensures) (ap (λ (s : Stored). s.most) c.load.ensures) (none_apart content c.recall_table.ensures.inactive can.apart) (unlent content (sym c.is_lent.ensures ∙ c.if-is_lent.false))

pub returns-clause-does : goal.returns-clause-does
returns-clause-does c = λ left.
    let a = c.self.inside in
    let h = c.in_ok-row.row in
    let is = sym c.own_table.ensures ∙ c.in_ok-row.was in
    let has = own_content a c.self.invariant c.recall_ties.ensures c.args.app c.args.handle h is in
    let content = content_at a.blocks.tables h.key in
    let can = can_stage a.blocks.free content c.args.offset c.args.bytes.now (sym c.unstaged_cause.ensures ∙ c.in_default.is) in
    let others = rules_cause has.t.rules (with_range content.present.bytes c.args.offset c.args.bytes.now) (refused_if (is_locked (means a) (table_by a h has.t)) InfoTableLocked None) in
    update_acts a c.self.invariant c.recall_ties.ensures h has (reaches a c.recall_ties.ensures c.args.app c.args.handle h is).live c.load.new.self (content_at c.load.new.self.tables h.key).present.loan (with_range content.present.bytes c.args.offset c.args.bytes.now)
    (ap (λ (s : Stored). s.tables) c.load.ensures) (ap (λ (s : Stored). s.pool) c.load.ensures) (ap (λ (s : Stored). s.most) c.load.ensures) (none_apart content c.recall_table.ensures.inactive can.apart) (unlent content (sym c.is_lent.ensures ∙ c.if-is_lent.false))
    c.args.self.now c.self.view_is c.args.app (Load c.args.handle c.args.offset c.args.bytes.now) Done
    (call_asked a c.args.self.now c.self.view_is c.recall_ties.ensures c.args.app c.args.handle (Load c.args.handle c.args.offset c.args.bytes.now) (load_cause (means a) c.args.offset c.args.bytes.now) refl h is has
    ∙ stage_alike a h has c.self.invariant c.recall_ties.ensures c.recall_buffers.ensures c.args.offset c.args.bytes.now others
    ∙ can.passed others
    ∙ load_checked (means a) (is_registered a.registry.handles has.t) has.t content c.as_slice.result.now c.bytes-value.result.now c.args.offset c.args.bytes.now None false
    (c.as_slice.ensures.rules ∙ row_rules a c.self.invariant h has c.table.result c.table.ensures) c.bytes-value.ensures (sym c.in_default-failed_rule.is ∙ c.failed_rule.ensures)
    (locked_alike a h has c.recall_table.ensures.inactive ∙ (sym c.is_lent.ensures ∙ c.if-is_lent.false)))
    (ap (λ (s : state.State). (Done, s)) (loaded_so a c.recall_ties.ensures c.args.handle h (reaches a c.recall_ties.ensures c.args.app c.args.handle h is).own.found has c.args.offset c.args.bytes.now))

pub returns-clause-spent : goal.returns-clause-spent
returns-clause-spent c = λ none.
    let a = c.self.inside in
    let h = c.in_ok-row.row in
    let is = sym c.own_table.ensures ∙ c.in_ok-row.was in
    let has = own_content a c.self.invariant c.recall_ties.ensures c.args.app c.args.handle h is in
    let found = (reaches a c.recall_ties.ensures c.args.app c.args.handle h is).own.found in
    absurd (none (next_left a c.args.self.now c.self.view_is c.recall_ties.ensures c.args.handle h found has
    (is_next (content_at a.blocks.tables h.key).version (sym c.has_next_version.ensures ∙ c.if-not-has_next_version.false))))

pub returns-clause-behind_last : goal.returns-clause-behind_last
returns-clause-behind_last c = λ none.
    let a = c.self.inside in
    let h = c.in_ok-row.row in
    let is = sym c.own_table.ensures ∙ c.in_ok-row.was in
    let has = own_content a c.self.invariant c.recall_ties.ensures c.args.app c.args.handle h is in
    let found = (reaches a c.recall_ties.ensures c.args.app c.args.handle h is).own.found in
    absurd (none (next_left a c.args.self.now c.self.view_is c.recall_ties.ensures c.args.handle h found has
    (is_next (content_at a.blocks.tables h.key).version (sym c.has_next_version.ensures ∙ c.if-not-has_next_version.false))))
