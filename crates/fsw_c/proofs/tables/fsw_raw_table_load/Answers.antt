use Rattle.std.proofs.Common.{Some, refl, ap, sym, ◌∙◌}
use Rattle.tbl_words.specs.declared.history.Call.TheVariants.{Load}
use Rattle.table_core.specs.Answers.{done}
use Rattle.fsw_c.proofs.TableSteps.{called-version, done-form}
use Rattle.fsw_c.proofs.tables.fsw_raw_table_load.Goals as goal

pub returns : goal.returns
returns c =
    record {
      call = called-version done _ _ c.deref_mut.result.now _ c.args.app (Load c.args.handle c.args.offset c.args.bytes.now) (c.in-Some.ensures.taken ∙ ap Some (sym c.deref_mut.ensures.value)) c.open.ensures refl done-form
          c.args.handle (λ none. none) (λ same. same) c.load-answer.result _ c.code_of_table_call.ensures c.load-answer.ensures.unasked c.load-answer.ensures.nothing c.load-answer.ensures.does c.load-answer.ensures.spent c.load-answer.ensures.behind_last c.load-answer.ensures.bags;
    }
