use Rattle.std.proofs.Common.{Some, refl, ap, sym, ◌∙◌}
use Rattle.tbl_words.specs.declared.history.Call.TheVariants.{Share}
use Rattle.table_core.specs.Answers.{shared}
use Rattle.fsw_c.proofs.TableSteps.{called, shared-form, if_ok}
use Rattle.fsw_c.proofs.tables.fsw_raw_table_share.Goals as goal

pub returns-clause-call : goal.returns-clause-call
returns-clause-call c =
    called shared _ _ c.deref_mut.result.now _ c.args.app (Share c.args.name.now) (c.in-Some.ensures.taken ∙ ap Some (sym c.deref_mut.ensures.value)) c.open.ensures refl shared-form
    c.share-answer.result _ c.code_of_table_call.ensures c.share-answer.ensures.unasked c.share-answer.ensures.nothing c.share-answer.ensures.does (if_ok c.share-answer.result c.share-answer.ensures.bags)
