-- `again` makes a name of no bytes, with the number that it has before it.
use Rattle.lend_block.proofs.Fields.{no_words, NameWords, name_made}
use Rattle.lend_block.proofs.Steps.{[], ◌∷◌, refl, ftrue, fsep, flft, SProp, emp, fact_i, proved, leaves, tables, yes, RefOf, owns, shr_vals, shr_Tells, types_at, plain, nothing, Stays, stay_dropped, walk_of, Goes-dropped, named, Val, vptr, alloc_all, pass_all, free_all, look_at, sets, ‵, raw, ◌⊛◌, ◌$◌, ◌∵◌, !, qed, by, keep, split, fjoin, use0, agg, no_more, returns, enter}
use Rattle.lend_block.proofs.name.LoanName.again.Code as code
use Rattle.lend_block.proofs.name.LoanName.again.Statement.{statement}
use Rattle.lend_block.specs.contracts.name.LoanName as name
use Rattle.lend_block.specs.contracts.name.LoanName.again as f
use denote.Triple.Clauses.{at_exit}

pub again_spec : {M : Type 1} → statement M
again_spec 𝓤 𝓛 𝓜 𝓡 wired =
    let H = 𝓛.H in let 𝓣 = tables 𝓤 H 𝓜 𝓡 𝓡.env in let c = f.clauses 𝓛 𝓜.mem 𝓡.returns in
    let self = RefOf (0 ∷ []) tt (plain (λ _. name.the_row)) (λ _. tt) in
    let hs : Stays f.ended.signature.params f.ended.kept = (stay_dropped self yes, tt) in
    proved 𝓛 f.ended hs c 𝓜 𝓡 (Goes-dropped 𝓛 1 self yes (λ κs x w. refl), tt)
    f.Key.name code.function (code.unfolded 𝓤 H 𝓜 𝓡 wired)
    (λ κs. (shr_vals, tt)) (λ κs. (shr_Tells (named 0) κs.0 name.the_row, tt)) (λ κs qs bounds a ghost are.
    let self_at : Val = vptr a.0.ref_ptr.0 a.0.ref_ptr.1 in
    let y : (walk_of 𝓛 f.ended hs c).Ghost = ((κs, qs, bounds, a, (self_at ∷ [], tt)), ghost) in
    let Post : Val → SProp 𝓤 = (walk_of 𝓛 f.ended hs c).post y in
    let again : name.the_row.Denot = record { loan = a.0.now.loan } in
    let Told : SProp 𝓤 = (c κs a).ensures ghost again (at_exit f.ended κs a (tt, tt)) in
    qed 𝓛 ((‵ (fsep (flft κs.0 qs.0) ftrue) ⊛ ‵ (owns (types_at f.ended.signature.params κs) a y.0.4)) ∷ raw ((c κs a).requires ghost) ∷ []) ∵
    keep ! (0 ∷ []) $ split ! $ keep ! (0 ∷ []) $
    enter ! 𝓣.C 𝓣.Λ code.function (self_at ∷ []) Post $ alloc_all ! (λ l. pass_all ! refl ((tt, tt), tt) $
    sets ! (agg ! (no_more !)) refl (tt, tt) $
    -- what the result owns, what is told of it, and no parameter
    nothing ! $ use0 𝓛 (‵ (NameWords.own_val tt (no_words ∷ []))) (name_made 𝓛) $ fjoin ! $
    use0 𝓛 (raw Told) (fact_i 𝓤 _ (emp 𝓤) refl) $
    nothing ! $ nothing ! $ fjoin ! $
    returns ! (look_at ! 0 refl) $ free_all ! refl $ keep ! (3 ∷ 0 ∷ 2 ∷ 1 ∷ []) $
    by ! (leaves 𝓛 f.ended hs c y no_words again (tt, tt) (tt, tt))))
