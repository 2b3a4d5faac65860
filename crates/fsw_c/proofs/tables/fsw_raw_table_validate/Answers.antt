use Rattle.std.proofs.Common.{Some, refl, ap, sym, ◌∙◌}
use Rattle.tbl_words.specs.declared.history.Call.TheVariants.{Validate}
use Rattle.table_core.specs.Answers.{done}
use Rattle.fsw_c.proofs.TableSteps.{called, done-form, if_ok}
use Rattle.fsw_c.proofs.tables.fsw_raw_table_validate.Goals as goal

pub returns : goal.returns
returns c =
    record {
      call = called done _ _ c.deref_mut.result.now _ c.args.app (Validate c.args.handle) (c.in-Some.ensures.taken ∙ ap Some (sym c.deref_mut.ensures.value)) c.open.ensures refl done-form
          c.validate-answer.result _ c.code_of_table_call.ensures c.validate-answer.ensures.unasked c.validate-answer.ensures.nothing c.validate-answer.ensures.does (if_ok c.validate-answer.result c.validate-answer.ensures.bags);
    }
