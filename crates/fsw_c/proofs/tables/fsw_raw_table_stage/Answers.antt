use Rattle.std.proofs.Common.{Some, refl, ap, sym, ◌∙◌}
use Rattle.tbl_words.specs.declared.history.Call.TheVariants.{Stage}
use Rattle.table_core.specs.Answers.{done}
use Rattle.fsw_c.proofs.TableSteps.{called, done-form, if_ok}
use Rattle.fsw_c.proofs.tables.fsw_raw_table_stage.Goals as goal

pub returns : goal.returns
returns c =
    record {
      call = called done _ _ c.deref_mut.result.now _ c.args.app (Stage c.args.handle c.args.offset c.args.bytes.now) (c.in-Some.ensures.taken ∙ ap Some (sym c.deref_mut.ensures.value)) c.open.ensures refl done-form
          c.stage-answer.result _ c.code_of_table_call.ensures c.stage-answer.ensures.unasked c.stage-answer.ensures.nothing c.stage-answer.ensures.does (if_ok c.stage-answer.result c.stage-answer.ensures.bags);
    }
