use Rattle.std.proofs.Common.{Some, refl, ap, sym, ◌∙◌}
use Rattle.tbl_words.specs.declared.history.Call.TheVariants.{Update}
use Rattle.table_core.specs.Answers.{done}
use Rattle.fsw_c.proofs.TableSteps.{called-version, done-form}
use Rattle.fsw_c.proofs.tables.fsw_raw_table_update.Goals as goal

pub returns : goal.returns
returns c =
    record {
      call = called-version done _ _ c.deref_mut.result.now _ c.args.app (Update c.args.handle) (c.in-Some.ensures.taken ∙ ap Some (sym c.deref_mut.ensures.value)) c.open.ensures refl done-form
          c.args.handle (λ none. none) (λ same. same) c.update-answer.result _ c.code_of_table_call.ensures c.update-answer.ensures.unasked c.update-answer.ensures.nothing c.update-answer.ensures.does c.update-answer.ensures.spent c.update-answer.ensures.behind_last c.update-answer.ensures.bags;
    }
