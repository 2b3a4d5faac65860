use Rattle.std.proofs.Common.{None, refl, ap, sym, ◌∙◌, arith}
use Rattle.std.proofs.lemmas.Result.{err_from_is_err_and}
use Rattle.tbl_words.specs.declared.statuses.TblStatus.TheVariants.{NoLoad}
use Rattle.tbl_words.specs.declared.calls.TblAnswer.TheVariants.{Done}
use Rattle.tbl_words.specs.declared.history.Call.TheVariants.{Abort}
use Rattle.tbl_words.specs.Tables as state
use Rattle.tbl_words.specs.Machine.{abort_cause}
use Rattle.tbl_registry.specs.Listing.{is_registered}
use Rattle.table_blocks.specs.Blocks.{Stored}
use Rattle.table_blocks.specs.Contents.{content_at, older_in, without_staged}
use Rattle.table_core.proofs.Aborts.{unstaged_abort, staged_abort, aborted_here, aborted_keeps}
use Rattle.table_core.proofs.OtherVersions.{beside_keeps, beside_acts}
use Rattle.table_core.proofs.TableQuestions.{own_content, call_barred, call_asked, call_refused}
use Rattle.table_core.proofs.HandleCalls.{reaches}
use Rattle.table_core.proofs.Registers.{none_staged}
use Rattle.table_core.proofs.plain.PlainTables.abort_load.Goals as goal

pub returns-in_err-row : goal.returns-in_err-row
returns-in_err-row c =
    let p = err_from_is_err_and c.from_residual.result c.from_residual.ensures.1 in
    rw (p.1, p.2) (call_barred c.self.inside c.args.self.now c.self.view_is c.recall_ties.ensures c.args.app c.args.handle (Abort c.args.handle) abort_cause refl c.in_err-row.field-0.0 (sym c.own_table.ensures ∙ c.in_err-row.was))

pub overflow_cast-key : goal.overflow_cast-key
overflow_cast-key c =
    let has = own_content c.self.inside c.self.invariant c.recall_ties.ensures c.args.app c.args.handle c.in_ok-row.row (sym c.own_table.ensures ∙ c.in_ok-row.was) in
    omega (arith, has.small)

pub is_staged-requires : goal.is_staged-requires
is_staged-requires c = (own_content c.self.inside c.self.invariant c.recall_ties.ensures c.args.app c.args.handle c.in_ok-row.row (sym c.own_table.ensures ∙ c.in_ok-row.was)).present

pub returns-then-not-is_staged : goal.returns-then-not-is_staged
returns-then-not-is_staged c =
    let a = c.self.inside in
    let h = c.in_ok-row.row in
    let is = sym c.own_table.ensures ∙ c.in_ok-row.was in
    let has = own_content a c.self.invariant c.recall_ties.ensures c.args.app c.args.handle h is in
    call_refused a c.args.self.now c.self.view_is c.recall_ties.ensures c.args.app c.args.handle (Abort c.args.handle) abort_cause refl h is has NoLoad
    (unstaged_abort (is_registered a.registry.handles has.t) has.t (content_at a.blocks.tables h.key) (none_staged (content_at a.blocks.tables h.key).next (sym c.is_staged.ensures ∙ c.if-not-is_staged.true)))

pub invariant_of-self : goal.invariant_of-self
invariant_of-self c =
    let a = c.self.inside in
    let h = c.in_ok-row.row in
    let is = sym c.own_table.ensures ∙ c.in_ok-row.was in
    let has = own_content a c.self.invariant c.recall_ties.ensures c.args.app c.args.handle h is in
    let loan = (older_in (content_at c.abort.new.self.tables h.key).next).loan in
    beside_keeps a c.self.invariant c.recall_ties.ensures h has c.abort.new.self (without_staged (content_at a.blocks.tables h.key) loan)
    (ap (λ (s : Stored). s.tables) c.abort.ensures) (ap (λ (s : Stored). s.pool) c.abort.ensures) (ap (λ (s : Stored). s.most) c.abort.ensures)
    (aborted_keeps (content_at a.blocks.tables h.key) loan (sym c.is_staged.ensures ∙ c.if-not-is_staged.false)) (reaches a c.recall_ties.ensures c.args.app c.args.handle h is).live

pub returns : goal.returns
returns c =
    let a = c.self.inside in
    let h = c.in_ok-row.row in
    let is = sym c.own_table.ensures ∙ c.in_ok-row.was in
    let has = own_content a c.self.invariant c.recall_ties.ensures c.args.app c.args.handle h is in
    let loan = (older_in (content_at c.abort.new.self.tables h.key).next).loan in
    let staged = sym c.is_staged.ensures ∙ c.if-not-is_staged.false in
    beside_acts a c.self.invariant c.recall_ties.ensures h has c.abort.new.self (without_staged (content_at a.blocks.tables h.key) loan)
    (ap (λ (s : Stored). s.tables) c.abort.ensures) (ap (λ (s : Stored). s.pool) c.abort.ensures) (ap (λ (s : Stored). s.most) c.abort.ensures)
    (aborted_keeps (content_at a.blocks.tables h.key) loan staged) (reaches a c.recall_ties.ensures c.args.app c.args.handle h is).live
    c.args.handle (reaches a c.recall_ties.ensures c.args.app c.args.handle h is).own.found (λ (t : state.Table). let u : state.Table = record t { staged = None } in u)
    (aborted_here (is_registered a.registry.handles has.t) has.t (content_at a.blocks.tables h.key) loan)
    c.args.self.now c.self.view_is c.args.app (Abort c.args.handle) Done
    (call_asked a c.args.self.now c.self.view_is c.recall_ties.ensures c.args.app c.args.handle (Abort c.args.handle) abort_cause refl h is has
    ∙ staged_abort (is_registered a.registry.handles has.t) has.t (content_at a.blocks.tables h.key) staged)
    refl
