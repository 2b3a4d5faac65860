use Rattle.std.proofs.Common.{Some, refl, ap, sym, ◌∙◌}
use Rattle.tbl_words.specs.declared.history.Call.TheVariants.{Abort}
use Rattle.table_core.specs.Answers.{done}
use Rattle.fsw_c.proofs.TableSteps.{called, done-form, if_ok}
use Rattle.fsw_c.proofs.tables.fsw_raw_table_abort.Goals as goal

pub returns : goal.returns
returns c =
    record {
      call = called done _ _ c.deref_mut.result.now _ c.args.app (Abort c.args.handle) (c.in-Some.ensures.taken ∙ ap Some (sym c.deref_mut.ensures.value)) c.open.ensures refl done-form
          c.abort_load-answer.result _ c.code_of_table_call.ensures c.abort_load-answer.ensures.unasked c.abort_load-answer.ensures.nothing c.abort_load-answer.ensures.does (if_ok c.abort_load-answer.result c.abort_load-answer.ensures.bags);
    }
