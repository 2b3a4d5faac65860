use Rattle.std.proofs.Common.{Some, refl, ap, sym, ◌∙◌}
use Rattle.tbl_words.specs.declared.history.Call.TheVariants.{Status}
use Rattle.table_core.specs.Answers.{plain_figures_told}
use Rattle.fsw_c.proofs.TableSteps.{called, figures-form, if_ok, on_err}
use Rattle.fsw_c.proofs.reading.fsw_raw_table_status.Goals as goal

pub returns-clause-call : goal.returns-clause-call
returns-clause-call c =
    let e = c.status-answer in
    called plain_figures_told _ _ c.deref.result.now c.deref.result.now c.args.app (Status c.args.handle) (c.in-Some.ensures.taken ∙ ap Some (sym c.deref.ensures)) (c.open.ensures ∙ ap Some (sym c.deref.ensures)) refl figures-form
    e.result _ c.code_of_table_call.ensures e.ensures.unasked (on_err e.result refl) e.ensures.does (if_ok e.result refl)
