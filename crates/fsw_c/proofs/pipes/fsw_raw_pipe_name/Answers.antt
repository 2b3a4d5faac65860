use Rattle.std.proofs.Common.{Some, None, refl, ap, sym, ◌∙◌}
use Rattle.bus_words.specs.declared.history.Call.TheVariants.{PipeName}
use Rattle.bus_core.specs.Answers.{named}
use Rattle.fsw_c.specs.BusCodes.{sb_code}
use Rattle.fsw_c.proofs.BusSteps.{answered, named-form}
use Rattle.fsw_c.proofs.Values.{sb-some, answer-read, kept-read, rest-read}
use Rattle.fsw_c.proofs.pipes.fsw_raw_pipe_name.Goals as goal

pub returns-clause-call : goal.returns-clause-call
returns-clause-call c =
    λ room app. answered _ _ c.deref_mut.result.now _ app (PipeName c.args.pipe) (λ bus. None) (c.in-Some.ensures.taken ∙ ap Some (sym c.deref_mut.ensures.value)) c.open-2.ensures refl
    sb_code named named-form c.pipe_name-answer.result _ c.code_of_answer.ensures refl (c.pipe_name-answer.ensures.does app) c.pipe_name-answer.ensures.bags

pub returns-clause-kept : goal.returns-clause-kept
returns-clause-kept c = kept-read sb_code sb-some _ c.pipe_name-answer.result _ c.code_of_answer.ensures c.put_name.ensures.kept

pub returns-clause-kept_len : goal.returns-clause-kept_len
returns-clause-kept_len c = kept-read sb_code sb-some _ c.pipe_name-answer.result _ c.code_of_answer.ensures c.put_name.ensures.kept_len

pub returns-clause-rest : goal.returns-clause-rest
returns-clause-rest c = rest-read sb_code sb-some _ c.pipe_name-answer.result _ c.code_of_answer.ensures c.put_name.ensures.rest

pub returns-clause-name : goal.returns-clause-name
returns-clause-name c app =
    answer-read sb_code sb-some _ _ c.deref_mut.result.now _ (c.in-Some.ensures.taken ∙ ap Some (sym c.deref_mut.ensures.value)) c.open-2.ensures app (PipeName c.args.pipe) named
    c.pipe_name-answer.result _ _ c.code_of_answer.ensures c.put_name.ensures.written (c.pipe_name-answer.ensures.does app)
