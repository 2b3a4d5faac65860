use Rattle.std.proofs.Common.{length, Some, None, refl, ap, sym, ◌∙◌}
use Rattle.bus_words.specs.declared.history.Call.TheVariants.{Find}
use Rattle.bus_core.specs.Answers.{numbered}
use Rattle.fsw_c.specs.BusCodes.{sb_code}
use Rattle.std.specs.Prelude.{nat_lt}
use Rattle.bus_words.specs.Machine.{refused_if}
use Rattle.checked_bus.specs.declared.refusal.Refusal.TheVariants.{TooLong}
use Rattle.fsw_c.proofs.BusSteps.{called, numbered-form, always, for-app}
use Rattle.fsw_c.proofs.Values.{sb-some, answer-found, kept-found}
use Rattle.fsw_c.proofs.pipes.fsw_raw_find_pipe.Goals as goal

pub returns-clause-call : goal.returns-clause-call
returns-clause-call c =
    λ app. called _ _ c.deref_mut.result.now _ app (Find c.args.name.now) (λ bus. refused_if (nat_lt 64 (length c.args.name.now)) TooLong None) (c.in-Some.ensures.taken ∙ ap Some (sym c.deref_mut.ensures.value)) c.open.ensures refl
    sb_code numbered numbered-form c.find_pipe-answer.result _ c.code_of_call.ensures c.find_pipe-answer.ensures.unasked c.find_pipe-answer.ensures.nothing (for-app _ c.find_pipe-answer.result c.find_pipe-answer.ensures.does app) (always c.find_pipe-answer.result c.find_pipe-answer.ensures.bags)

pub returns-clause-kept : goal.returns-clause-kept
returns-clause-kept c = kept-found sb_code sb-some _ c.find_pipe-answer.result _ c.code_of_call.ensures c.put_found.ensures.kept c.put_found.ensures.unasked

pub returns-clause-number : goal.returns-clause-number
returns-clause-number c app =
    answer-found sb_code sb-some _ _ c.deref_mut.result.now _ (c.in-Some.ensures.taken ∙ ap Some (sym c.deref_mut.ensures.value)) c.open.ensures app (Find c.args.name.now) numbered
    c.find_pipe-answer.result _ _ c.code_of_call.ensures c.put_found.ensures.written (for-app _ c.find_pipe-answer.result c.find_pipe-answer.ensures.does app)
