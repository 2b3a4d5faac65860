use Rattle.std.proofs.Common.{Some, None, length, refl, ap, sym, ◌∙◌, arith}
use Rattle.std.proofs.lemmas.Result.{err_from_is_err_and}
use Rattle.tbl_words.specs.declared.statuses.TblStatus.TheVariants.{NoLoad, Validation}
use Rattle.tbl_words.specs.declared.calls.TblAnswer.TheVariants.{Done}
use Rattle.tbl_words.specs.declared.history.Call.TheVariants.{Validate}
use Rattle.tbl_words.specs.Machine.{validate_cause, with_validated}
use Rattle.tbl_registry.specs.Listing.{is_registered}
use Rattle.table_blocks.specs.Blocks.{Stored}
use Rattle.table_blocks.specs.Contents.{content_at, validated}
use Rattle.table_core.proofs.OtherVersions.{beside_keeps, beside_acts}
use Rattle.table_core.proofs.TableQuestions.{own_content, call_barred, call_asked, call_refused}
use Rattle.table_core.proofs.HandleCalls.{reaches}
use Rattle.table_core.proofs.Registers.{none_staged}
use Rattle.table_core.proofs.Validations.{unstaged_cause, staged_checked, validated_here, validated_keeps, row_rules, row_fits}
use Rattle.table_core.proofs.plain.PlainTables.validate.Goals as goal

pub returns-in_err-row : goal.returns-in_err-row
returns-in_err-row c =
    let p = err_from_is_err_and c.from_residual.result c.from_residual.ensures.1 in
    rw (p.1, p.2) (call_barred c.self.inside c.args.self.now c.self.view_is c.recall_ties.ensures c.args.app c.args.handle (Validate c.args.handle) validate_cause refl c.in_err-row.field-0.0 (sym c.own_table.ensures ∙ c.in_err-row.was))

pub overflow_cast-key : goal.overflow_cast-key
overflow_cast-key c =
    let has = own_content c.self.inside c.self.invariant c.recall_ties.ensures c.args.app c.args.handle c.in_ok-row.row (sym c.own_table.ensures ∙ c.in_ok-row.was) in
    omega (arith, has.small)

pub is_staged-requires : goal.is_staged-requires
is_staged-requires c = (own_content c.self.inside c.self.invariant c.recall_ties.ensures c.args.app c.args.handle c.in_ok-row.row (sym c.own_table.ensures ∙ c.in_ok-row.was)).present

pub returns-then-not-is_staged : goal.returns-then-not-is_staged
returns-then-not-is_staged c =
    let a = c.self.inside in
    let h = c.in_ok-row.row in
    let is = sym c.own_table.ensures ∙ c.in_ok-row.was in
    let has = own_content a c.self.invariant c.recall_ties.ensures c.args.app c.args.handle h is in
    call_refused a c.args.self.now c.self.view_is c.recall_ties.ensures c.args.app c.args.handle (Validate c.args.handle) validate_cause refl h is has NoLoad
    (unstaged_cause (is_registered a.registry.handles has.t) has.t (content_at a.blocks.tables h.key) (none_staged (content_at a.blocks.tables h.key).next (sym c.is_staged.ensures ∙ c.if-not-is_staged.true)))

pub failed_rule-requires-clause-fit : goal.failed_rule-requires-clause-fit
failed_rule-requires-clause-fit c =
    let a = c.self.inside in
    let h = c.in_ok-row.row in
    let has = own_content a c.self.invariant c.recall_ties.ensures c.args.app c.args.handle h (sym c.own_table.ensures ∙ c.in_ok-row.was) in
    row_fits a c.self.invariant h has c.table.result c.table.ensures c.as_slice.result.now c.staged_value.result.now c.as_slice.ensures.rules (ap length c.staged_value.ensures ∙ c.recall_table.ensures.staged (sym c.is_staged.ensures ∙ c.if-not-is_staged.false))

pub returns-in-Some : goal.returns-in-Some
returns-in-Some c =
    let a = c.self.inside in
    let h = c.in_ok-row.row in
    let is = sym c.own_table.ensures ∙ c.in_ok-row.was in
    let has = own_content a c.self.invariant c.recall_ties.ensures c.args.app c.args.handle h is in
    call_refused a c.args.self.now c.self.view_is c.recall_ties.ensures c.args.app c.args.handle (Validate c.args.handle) validate_cause refl h is has (Validation c.in-Some.number)
    (staged_checked (is_registered a.registry.handles has.t) has.t (content_at a.blocks.tables h.key) c.as_slice.result.now c.staged_value.result.now (Some c.in-Some.number) (sym c.is_staged.ensures ∙ c.if-not-is_staged.false)
    (c.as_slice.ensures.rules ∙ row_rules a c.self.invariant h has c.table.result c.table.ensures) c.staged_value.ensures (sym c.in-Some.is ∙ c.failed_rule.ensures))

pub invariant_of-self : goal.invariant_of-self
invariant_of-self c =
    let a = c.self.inside in
    let h = c.in_ok-row.row in
    let is = sym c.own_table.ensures ∙ c.in_ok-row.was in
    let has = own_content a c.self.invariant c.recall_ties.ensures c.args.app c.args.handle h is in
    let staged = sym c.is_staged.ensures ∙ c.if-not-is_staged.false in
    beside_keeps a c.self.invariant c.recall_ties.ensures h has c.set_validated.new.self (validated (content_at a.blocks.tables h.key))
    (ap (λ (s : Stored). s.tables) c.set_validated.ensures) (ap (λ (s : Stored). s.pool) c.set_validated.ensures) (ap (λ (s : Stored). s.most) c.set_validated.ensures)
    (validated_keeps (content_at a.blocks.tables h.key) staged) (reaches a c.recall_ties.ensures c.args.app c.args.handle h is).live

pub returns : goal.returns
returns c =
    let a = c.self.inside in
    let h = c.in_ok-row.row in
    let is = sym c.own_table.ensures ∙ c.in_ok-row.was in
    let has = own_content a c.self.invariant c.recall_ties.ensures c.args.app c.args.handle h is in
    let staged = sym c.is_staged.ensures ∙ c.if-not-is_staged.false in
    beside_acts a c.self.invariant c.recall_ties.ensures h has c.set_validated.new.self (validated (content_at a.blocks.tables h.key))
    (ap (λ (s : Stored). s.tables) c.set_validated.ensures) (ap (λ (s : Stored). s.pool) c.set_validated.ensures) (ap (λ (s : Stored). s.most) c.set_validated.ensures)
    (validated_keeps (content_at a.blocks.tables h.key) staged) (reaches a c.recall_ties.ensures c.args.app c.args.handle h is).live
    c.args.handle (reaches a c.recall_ties.ensures c.args.app c.args.handle h is).own.found with_validated (validated_here (is_registered a.registry.handles has.t) has.t (content_at a.blocks.tables h.key) staged)
    c.args.self.now c.self.view_is c.args.app (Validate c.args.handle) Done
    (call_asked a c.args.self.now c.self.view_is c.recall_ties.ensures c.args.app c.args.handle (Validate c.args.handle) validate_cause refl h is has
    ∙ staged_checked (is_registered a.registry.handles has.t) has.t (content_at a.blocks.tables h.key) c.as_slice.result.now c.staged_value.result.now None staged
    (c.as_slice.ensures.rules ∙ row_rules a c.self.invariant h has c.table.result c.table.ensures) c.staged_value.ensures (sym c.in_default.is ∙ c.failed_rule.ensures))
    refl
