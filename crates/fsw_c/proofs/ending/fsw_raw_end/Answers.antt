use Rattle.std.proofs.Common.{Some, ap, sym, ◌∙◌}
use Rattle.fsw_c.proofs.EndSteps.{ended}
use Rattle.fsw_c.proofs.ending.fsw_raw_end.Goals as goal

pub returns : goal.returns
returns c =
    record {
      call = ended _ _ c.deref_mut.result.now _ c.args.app (c.in-Some.ensures.taken ∙ ap Some (sym c.deref_mut.ensures.value)) c.open.ensures
          c.end-answer.result _ c.code_of_plain.ensures c.end-answer.ensures.unasked c.end-answer.ensures.nothing c.end-answer.ensures.bus c.end-answer.ensures.others
          c.end-answer.ensures.empty c.end-answer.ensures.tables c.end-answer.ensures.table_others c.end-answer.ensures.table_empty c.end-answer.ensures.ended;
    }
