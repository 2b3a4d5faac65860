use Rattle.std.proofs.Common.{◌≡◌, Some, None, refl, sym, ◌∙◌, arith}
use Rattle.std.specs.Option.{option_map}
use Rattle.std.proofs.lemmas.Result.{err_from_is_err_and}
use Rattle.tbl_words.specs.declared.statuses.TblStatus.TheVariants.{NoLoad}
use Rattle.tbl_words.specs.declared.history.Call.TheVariants.{Abort}
use Rattle.tbl_words.specs.Tables as state
use Rattle.tbl_words.specs.Machine.{abort_cause, cause}
use Rattle.tbl_registry.specs.Listing.{is_registered}
use Rattle.table_blocks.specs.Contents.{content_at}
use Rattle.table_core.proofs.Aborts.{unstaged_abort, staged_abort}
use Rattle.table_core.proofs.CallLaws.{at_core}
use Rattle.table_core.proofs.TableQuestions.{own_content, call_asked}
use Rattle.table_core.proofs.HandleCalls.{reaches, table_refused}
use Rattle.table_core.proofs.HandleReads.{read_of, staged_read}
use Rattle.table_core.proofs.Registers.{none_staged}
use Rattle.table_core.proofs.plain.PlainTables.staged_bytes.Goals as goal

pub returns-in_err-row-clause-refused : goal.returns-in_err-row-clause-refused
returns-in_err-row-clause-refused c =
    let p = err_from_is_err_and c.from_residual.result c.from_residual.ensures.1 in
    let a = c.self.inside in
    rw (p.1, p.2) (at_core a c.args.self.now c.self.view_is (λ limits s. cause limits s c.args.app (Abort c.args.handle)) (Some c.in_err-row.field-0.0)
    (table_refused a c.recall_ties.ensures c.args.app c.args.handle c.in_err-row.field-0.0 abort_cause (sym c.own_table.ensures ∙ c.in_err-row.was)))

pub overflow_cast-key : goal.overflow_cast-key
overflow_cast-key c =
    let has = own_content c.self.inside c.self.invariant c.recall_ties.ensures c.args.app c.args.handle c.in_ok-row.row (sym c.own_table.ensures ∙ c.in_ok-row.was) in
    omega (arith, has.small)

pub is_staged-requires : goal.is_staged-requires
is_staged-requires c = (own_content c.self.inside c.self.invariant c.recall_ties.ensures c.args.app c.args.handle c.in_ok-row.row (sym c.own_table.ensures ∙ c.in_ok-row.was)).present

pub returns-then-not-is_staged-clause-refused : goal.returns-then-not-is_staged-clause-refused
returns-then-not-is_staged-clause-refused c =
    let a = c.self.inside in
    let h = c.in_ok-row.row in
    let is = sym c.own_table.ensures ∙ c.in_ok-row.was in
    let has = own_content a c.self.invariant c.recall_ties.ensures c.args.app c.args.handle h is in
    at_core a c.args.self.now c.self.view_is (λ limits s. cause limits s c.args.app (Abort c.args.handle)) (Some NoLoad)
    (call_asked a c.args.self.now c.self.view_is c.recall_ties.ensures c.args.app c.args.handle (Abort c.args.handle) abort_cause refl h is has
    ∙ unstaged_abort (is_registered a.registry.handles has.t) has.t (content_at a.blocks.tables h.key) (none_staged (content_at a.blocks.tables h.key).next (sym c.is_staged.ensures ∙ c.if-not-is_staged.true)))

pub returns-clause-refused : goal.returns-clause-refused
returns-clause-refused c =
    let a = c.self.inside in
    let h = c.in_ok-row.row in
    let is = sym c.own_table.ensures ∙ c.in_ok-row.was in
    let has = own_content a c.self.invariant c.recall_ties.ensures c.args.app c.args.handle h is in
    at_core a c.args.self.now c.self.view_is (λ limits s. cause limits s c.args.app (Abort c.args.handle)) None
    (call_asked a c.args.self.now c.self.view_is c.recall_ties.ensures c.args.app c.args.handle (Abort c.args.handle) abort_cause refl h is has
    ∙ staged_abort (is_registered a.registry.handles has.t) has.t (content_at a.blocks.tables h.key) (sym c.is_staged.ensures ∙ c.if-not-is_staged.false))

pub returns-clause-value : goal.returns-clause-value
returns-clause-value c =
    let a = c.self.inside in
    let h = c.in_ok-row.row in
    let is = sym c.own_table.ensures ∙ c.in_ok-row.was in
    let has = own_content a c.self.invariant c.recall_ties.ensures c.args.app c.args.handle h is in
    let P : state.Table → Type 0 = λ t. option_map (λ (staged : state.Staged). staged.value) t.staged ≡ Some c.staged_value.result.now in
    read_of a c.args.self.now c.self.view_is c.recall_ties.ensures c.args.handle h (reaches a c.recall_ties.ensures c.args.app c.args.handle h is).own.found has P
    (staged_read (is_registered a.registry.handles has.t) has.t (content_at a.blocks.tables h.key) c.staged_value.result.now (sym c.is_staged.ensures ∙ c.if-not-is_staged.false) c.staged_value.ensures)
