use Rattle.std.proofs.Common.{Some, refl, ap, sym, ◌∙◌}
use Rattle.fsw_c.specs.Args.{pairs_in}
use Rattle.fsw_c.proofs.ManyFilters.{registered}
use Rattle.fsw_c.proofs.events.fsw_raw_register.Goals as goal

pub returns : goal.returns
returns c =
    record {
      call = registered _ _ c.deref_mut.result.now _ c.args.app c.args.filters.now _ (c.as_slice.ensures.value ∙ c.pairs_of-pairs.ensures ∙ ap pairs_in c.first_filters.ensures.front)
          (c.in-Some.ensures.taken ∙ ap Some (sym c.deref_mut.ensures.value)) c.open.ensures refl
          c.register-answer.result _ c.code_of_plain.ensures c.register-answer.ensures.unasked c.register-answer.ensures.nothing c.register-answer.ensures.does c.register-answer.ensures.bags;
    }
