use Rattle.std.proofs.Common.{None, sym, ◌∙◌, subst, arith}
use Rattle.std.proofs.lemmas.Result.{err_from_is_err_and}
use Rattle.tbl_words.specs.declared.history.Call.TheVariants.{Status}
use Rattle.tbl_words.specs.declared.calls.TblState.{TblState}
use Rattle.tbl_words.specs.declared.calls.TblAnswer.TheVariants.{State}
use Rattle.tbl_registry.specs.Listing.{handle_at}
use Rattle.table_core.specs.Core.{Acts}
use Rattle.table_core.proofs.CallLaws.{acts_refused}
use Rattle.table_core.proofs.Access.{access_by, refused_here, owned_here}
use Rattle.table_core.proofs.Figures.{has_content, status_acts}
use Rattle.table_core.proofs.plain.PlainTables.status.Goals as goal

pub returns-in_err-row : goal.returns-in_err-row
returns-in_err-row c =
    let p = err_from_is_err_and c.from_residual.result c.from_residual.ensures.1 in
    let a = c.self.inside in
    rw (p.1, p.2) (acts_refused a c.args.self.now c.args.app (Status c.args.handle) c.in_err-row.field-0.0 c.self.view_is
    (access_by a c.recall_ties.ensures c.args.app c.args.handle None
    ∙ refused_here (handle_at a.registry.handles c.args.handle) c.args.app c.in_err-row.field-0.0 None (sym c.own_handle.ensures ∙ c.in_err-row.was)))

pub overflow_cast-row : goal.overflow_cast-row
overflow_cast-row c =
    let has = has_content c.self.inside c.self.invariant c.recall_ties.ensures c.args.handle c.in_ok-row.row
    (owned_here (handle_at c.self.inside.registry.handles c.args.handle) c.args.app c.in_ok-row.row (sym c.own_handle.ensures ∙ c.in_ok-row.was)).found in
    omega (arith, has.small)

pub figures-requires-clause-open : goal.figures-requires-clause-open
figures-requires-clause-open c =
    (has_content c.self.inside c.self.invariant c.recall_ties.ensures c.args.handle c.in_ok-row.row
    (owned_here (handle_at c.self.inside.registry.handles c.args.handle) c.args.app c.in_ok-row.row (sym c.own_handle.ensures ∙ c.in_ok-row.was)).found).present

pub figures-requires-clause-few : goal.figures-requires-clause-few
figures-requires-clause-few c =
    (has_content c.self.inside c.self.invariant c.recall_ties.ensures c.args.handle c.in_ok-row.row
    (owned_here (handle_at c.self.inside.registry.handles c.args.handle) c.args.app c.in_ok-row.row (sym c.own_handle.ensures ∙ c.in_ok-row.was)).found).few

pub returns : goal.returns
returns c =
    let P = λ (figures : TblState). Acts c.args.self.now c.args.self.now c.args.app (Status c.args.handle) (State figures) in
    subst P (sym c.figures.ensures)
    (status_acts c.self.inside c.args.self.now c.self.view_is c.self.invariant c.recall_ties.ensures c.args.app c.args.handle c.in_ok-row.row
    (owned_here (handle_at c.self.inside.registry.handles c.args.handle) c.args.app c.in_ok-row.row (sym c.own_handle.ensures ∙ c.in_ok-row.was)))
