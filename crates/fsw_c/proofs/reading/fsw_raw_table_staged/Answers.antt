use Rattle.std.proofs.Common.{Option, Some, ap, sym, ◌∙◌}
use Rattle.tbl_words.specs.declared.history.Call.TheVariants.{Abort}
use Rattle.tbl_words.specs.Machine.{cause}
use Rattle.checked_tables.specs.Asked.{unasked}
use Rattle.fsw_core.specs.declared.Core.{Core}
use Rattle.fsw_c.specs.TableReads.{read_code}
use Rattle.fsw_c.proofs.TableReads.{look-code}
use Rattle.fsw_c.proofs.reading.fsw_raw_table_staged.Goals as goal

pub returns-clause-status : goal.returns-clause-status
returns-clause-status c =
    let o = c.deref.result.now in
    let e = c.staged_bytes-answer in
    let call = Abort c.args.handle in
    c.code_of_table_call-status.ensures
    ∙ look-code e.result (unasked o.tables.core c.args.app call) (cause o.tables.core.limits o.tables.core.state c.args.app call) e.ensures.unasked e.ensures.refused
    ∙ sym (ap (λ (old : Option Core). read_code old c.args.app call) (c.in-Some.ensures.taken ∙ ap Some (sym c.deref.ensures)))
