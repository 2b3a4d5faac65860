use Rattle.std.proofs.Common.{Some, refl, ap, sym, ◌∙◌}
use Rattle.tbl_words.specs.declared.history.Call.TheVariants.{ReleaseAddress}
use Rattle.table_core.specs.Answers.{done}
use Rattle.fsw_c.proofs.TableSteps.{called, done-form, both}
use Rattle.fsw_c.proofs.tables.fsw_raw_table_release_address.Goals as goal

pub returns : goal.returns
returns c =
    record {
      call = called done _ _ c.deref_mut.result.now _ c.args.app (ReleaseAddress c.args.handle) (c.in-Some.ensures.taken ∙ ap Some (sym c.deref_mut.ensures.value)) c.open.ensures refl done-form
          c.release_address-answer.result _ c.code_of_table_call.ensures c.release_address-answer.ensures.unasked c.release_address-answer.ensures.nothing c.release_address-answer.ensures.does (both _ _ c.release_address-answer.result c.release_address-answer.ensures.others c.release_address-answer.ensures.own);
    }
