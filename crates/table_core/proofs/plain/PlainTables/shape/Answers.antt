use Rattle.std.proofs.Common.{◌≡◌, Some, None, ap, sym, ◌∙◌, arith}
use Rattle.std.proofs.lemmas.Result.{err_from_is_err_and}
use Rattle.tbl_words.specs.declared.history.Call.TheVariants.{Status}
use Rattle.tbl_words.specs.Tables as state
use Rattle.tbl_words.specs.Machine.{cause}
use Rattle.tbl_registry.specs.Listing.{handle_at}
use Rattle.table_blocks.specs.Contents.{content_at}
use Rattle.table_core.proofs.Access.{access_by, refused_here, owned_here}
use Rattle.table_core.proofs.CallLaws.{at_core}
use Rattle.table_core.proofs.Figures.{has_content}
use Rattle.table_core.proofs.HandleReads.{read_of}
use Rattle.table_core.proofs.plain.PlainTables.shape.Goals as goal

pub returns-in_err-row-clause-refused : goal.returns-in_err-row-clause-refused
returns-in_err-row-clause-refused c =
    let p = err_from_is_err_and c.from_residual.result c.from_residual.ensures.1 in
    let a = c.self.inside in
    rw (p.1, p.2) (at_core a c.args.self.now c.self.view_is (λ limits s. cause limits s c.args.app (Status c.args.handle)) (Some c.in_err-row.field-0.0)
    (access_by a c.recall_ties.ensures c.args.app c.args.handle None
    ∙ refused_here (handle_at a.registry.handles c.args.handle) c.args.app c.in_err-row.field-0.0 None (sym c.own_handle.ensures ∙ c.in_err-row.was)))

pub overflow_cast-key : goal.overflow_cast-key
overflow_cast-key c =
    let has = has_content c.self.inside c.self.invariant c.recall_ties.ensures c.args.handle c.in_ok-row.row
    (owned_here (handle_at c.self.inside.registry.handles c.args.handle) c.args.app c.in_ok-row.row (sym c.own_handle.ensures ∙ c.in_ok-row.was)).found in
    omega (arith, has.small)

pub size-requires : goal.size-requires
size-requires c =
    (has_content c.self.inside c.self.invariant c.recall_ties.ensures c.args.handle c.in_ok-row.row
    (owned_here (handle_at c.self.inside.registry.handles c.args.handle) c.args.app c.in_ok-row.row (sym c.own_handle.ensures ∙ c.in_ok-row.was)).found).present

pub option-requires : goal.option-requires
option-requires c =
    (has_content c.self.inside c.self.invariant c.recall_ties.ensures c.args.handle c.in_ok-row.row
    (owned_here (handle_at c.self.inside.registry.handles c.args.handle) c.args.app c.in_ok-row.row (sym c.own_handle.ensures ∙ c.in_ok-row.was)).found).present

pub returns-clause-refused : goal.returns-clause-refused
returns-clause-refused c =
    let a = c.self.inside in
    let own = owned_here (handle_at a.registry.handles c.args.handle) c.args.app c.in_ok-row.row (sym c.own_handle.ensures ∙ c.in_ok-row.was) in
    at_core a c.args.self.now c.self.view_is (λ limits s. cause limits s c.args.app (Status c.args.handle)) None
    (access_by a c.recall_ties.ensures c.args.app c.args.handle None ∙ own.own None)

pub returns-clause-shape : goal.returns-clause-shape
returns-clause-shape c =
    let a = c.self.inside in
    let h = c.in_ok-row.row in
    let own = owned_here (handle_at a.registry.handles c.args.handle) c.args.app h (sym c.own_handle.ensures ∙ c.in_ok-row.was) in
    let has = has_content a c.self.invariant c.recall_ties.ensures c.args.handle h own.found in
    let P : state.Table → Type 0 = λ t. (c.size.result ≡ t.size) × (c.option.result ≡ t.option) in
    read_of a c.args.self.now c.self.view_is c.recall_ties.ensures c.args.handle h own.found has P (
      c.size.ensures ∙ ap (λ key. (content_at a.blocks.tables key).size) (sym has.known) ∙ has.filled.size,
      c.option.ensures ∙ ap (λ key. (content_at a.blocks.tables key).option) (sym has.known) ∙ has.filled.option,
    )
