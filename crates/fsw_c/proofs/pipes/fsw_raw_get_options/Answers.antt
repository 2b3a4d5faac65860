use Rattle.std.proofs.Common.{Some, None, refl, ap, sym, ◌∙◌}
use Rattle.bus_words.specs.declared.history.Call.TheVariants.{GetOpts}
use Rattle.bus_core.specs.Answers.{numbered}
use Rattle.fsw_c.specs.BusCodes.{sb_code}
use Rattle.fsw_c.proofs.BusSteps.{answered, numbered-form}
use Rattle.fsw_c.proofs.Values.{sb-some, answer-read, kept-read}
use Rattle.fsw_c.proofs.pipes.fsw_raw_get_options.Goals as goal

pub returns-clause-call : goal.returns-clause-call
returns-clause-call c =
    λ app. answered _ _ c.deref_mut.result.now _ app (GetOpts c.args.pipe) (λ bus. None) (c.in-Some.ensures.taken ∙ ap Some (sym c.deref_mut.ensures.value)) c.open.ensures refl
    sb_code numbered numbered-form c.get_opts-answer.result _ c.code_of_answer.ensures refl (c.get_opts-answer.ensures.does app) c.get_opts-answer.ensures.bags

pub returns-clause-kept : goal.returns-clause-kept
returns-clause-kept c = kept-read sb_code sb-some _ c.get_opts-answer.result _ c.code_of_answer.ensures c.put_bits.ensures.kept

pub returns-clause-number : goal.returns-clause-number
returns-clause-number c app =
    answer-read sb_code sb-some _ _ c.deref_mut.result.now _ (c.in-Some.ensures.taken ∙ ap Some (sym c.deref_mut.ensures.value)) c.open.ensures app (GetOpts c.args.pipe) numbered
    c.get_opts-answer.result _ _ c.code_of_answer.ensures c.put_bits.ensures.written (c.get_opts-answer.ensures.does app)
