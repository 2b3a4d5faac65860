use Rattle.std.proofs.Common.{Some, refl, ap, sym, ◌∙◌}
use Rattle.tbl_words.specs.declared.history.Call.TheVariants.{Unregister}
use Rattle.table_core.specs.Answers.{done}
use Rattle.fsw_c.proofs.TableSteps.{called, done-form, both}
use Rattle.fsw_c.proofs.tables.fsw_raw_table_unregister.Goals as goal

pub returns : goal.returns
returns c =
    record {
      call = called done _ _ c.deref_mut.result.now _ c.args.app (Unregister c.args.handle) (c.in-Some.ensures.taken ∙ ap Some (sym c.deref_mut.ensures.value)) c.open.ensures refl done-form
          c.unregister-answer.result _ c.code_of_table_call.ensures c.unregister-answer.ensures.unasked c.unregister-answer.ensures.nothing c.unregister-answer.ensures.does (both _ _ c.unregister-answer.result c.unregister-answer.ensures.others c.unregister-answer.ensures.own);
    }
