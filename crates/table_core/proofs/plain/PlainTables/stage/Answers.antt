use Rattle.std.proofs.Common.{false, None, refl, sym, ◌∙◌, arith}
use Rattle.std.proofs.lemmas.Result.{err_from_is_err_and}
use Rattle.tbl_words.specs.declared.calls.TblAnswer.TheVariants.{Done}
use Rattle.tbl_words.specs.declared.history.Call.TheVariants.{Stage}
use Rattle.tbl_words.specs.Tables as state
use Rattle.tbl_words.specs.Machine.{with_range, stage_cause, with_staged}
use Rattle.table_blocks.specs.Contents.{content_at, staged_by}
use Rattle.table_core.specs.Inside.{means}
use Rattle.table_core.proofs.OtherVersions.{beside_keeps, beside_acts}
use Rattle.table_core.proofs.TableQuestions.{own_content, call_barred, call_asked, call_refused}
use Rattle.table_core.proofs.HandleCalls.{reaches}
use Rattle.table_core.proofs.Stagings.{staged_so, whole_for, can_stage, none_apart, stage_alike, staged_keeps}
use Rattle.table_core.proofs.plain.PlainTables.stage.Goals as goal

pub returns-in_err-row : goal.returns-in_err-row
returns-in_err-row c =
    let p = err_from_is_err_and c.from_residual.result c.from_residual.ensures.1 in
    rw (p.1, p.2) (call_barred c.self.inside c.args.self.now c.self.view_is c.recall_ties.ensures c.args.app c.args.handle (Stage c.args.handle c.args.offset c.args.bytes.now) (stage_cause (means c.self.inside) c.args.offset c.args.bytes.now None) refl c.in_err-row.field-0.0 (sym c.own_table.ensures ∙ c.in_err-row.was))

pub overflow_cast-key : goal.overflow_cast-key
overflow_cast-key c =
    let has = own_content c.self.inside c.self.invariant c.recall_ties.ensures c.args.app c.args.handle c.in_ok-row.row (sym c.own_table.ensures ∙ c.in_ok-row.was) in
    omega (arith, has.small)

pub unstaged_cause-requires-clause-open : goal.unstaged_cause-requires-clause-open
unstaged_cause-requires-clause-open c = (own_content c.self.inside c.self.invariant c.recall_ties.ensures c.args.app c.args.handle c.in_ok-row.row (sym c.own_table.ensures ∙ c.in_ok-row.was)).present

pub returns-in-Some : goal.returns-in-Some
returns-in-Some c =
    let a = c.self.inside in
    let h = c.in_ok-row.row in
    let is = sym c.own_table.ensures ∙ c.in_ok-row.was in
    let has = own_content a c.self.invariant c.recall_ties.ensures c.args.app c.args.handle h is in
    call_refused a c.args.self.now c.self.view_is c.recall_ties.ensures c.args.app c.args.handle (Stage c.args.handle c.args.offset c.args.bytes.now) (stage_cause (means a) c.args.offset c.args.bytes.now None) refl h is has c.in-Some.status
    (stage_alike a h has c.self.invariant c.recall_ties.ensures c.recall_buffers.ensures c.args.offset c.args.bytes.now None ∙ (sym c.unstaged_cause.ensures ∙ c.in-Some.is))

pub invariant_of-self : goal.invariant_of-self
invariant_of-self c =
    let a = c.self.inside in
    let h = c.in_ok-row.row in
    let is = sym c.own_table.ensures ∙ c.in_ok-row.was in
    let has = own_content a c.self.invariant c.recall_ties.ensures c.args.app c.args.handle h is in
    let content = content_at a.blocks.tables h.key in
    let so = staged_so a.blocks c.stage.new.self h.key c.args.offset c.args.bytes.now c.stage.ensures in
    let can = can_stage a.blocks.free content c.args.offset c.args.bytes.now (sym c.unstaged_cause.ensures ∙ c.in_default.is) in
    beside_keeps a c.self.invariant c.recall_ties.ensures h has c.stage.new.self (staged_by content c.args.offset c.args.bytes.now (whole_for a.blocks h.key)) so.tables so.pool so.most
    (staged_keeps content c.args.offset (whole_for a.blocks h.key) c.args.bytes.now (none_apart content c.recall_table.ensures.inactive can.apart)) (reaches a c.recall_ties.ensures c.args.app c.args.handle h is).live

pub returns : goal.returns
returns c =
    let a = c.self.inside in
    let h = c.in_ok-row.row in
    let is = sym c.own_table.ensures ∙ c.in_ok-row.was in
    let has = own_content a c.self.invariant c.recall_ties.ensures c.args.app c.args.handle h is in
    let content = content_at a.blocks.tables h.key in
    let so = staged_so a.blocks c.stage.new.self h.key c.args.offset c.args.bytes.now c.stage.ensures in
    let can = can_stage a.blocks.free content c.args.offset c.args.bytes.now (sym c.unstaged_cause.ensures ∙ c.in_default.is) in
    beside_acts a c.self.invariant c.recall_ties.ensures h has c.stage.new.self (staged_by content c.args.offset c.args.bytes.now (whole_for a.blocks h.key)) so.tables so.pool so.most
    (staged_keeps content c.args.offset (whole_for a.blocks h.key) c.args.bytes.now (none_apart content c.recall_table.ensures.inactive can.apart)) (reaches a c.recall_ties.ensures c.args.app c.args.handle h is).live
    c.args.handle (reaches a c.recall_ties.ensures c.args.app c.args.handle h is).own.found (λ (t : state.Table). with_staged (with_range t.value c.args.offset c.args.bytes.now) false t) refl
    c.args.self.now c.self.view_is c.args.app (Stage c.args.handle c.args.offset c.args.bytes.now) Done
    (call_asked a c.args.self.now c.self.view_is c.recall_ties.ensures c.args.app c.args.handle (Stage c.args.handle c.args.offset c.args.bytes.now) (stage_cause (means a) c.args.offset c.args.bytes.now None) refl h is has
    ∙ stage_alike a h has c.self.invariant c.recall_ties.ensures c.recall_buffers.ensures c.args.offset c.args.bytes.now None ∙ (sym c.unstaged_cause.ensures ∙ c.in_default.is))
    refl
