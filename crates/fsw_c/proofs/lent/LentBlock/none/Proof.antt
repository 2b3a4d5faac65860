-- `none` owns nothing.
use Rattle.fsw_c.proofs.LentWords.{words_at, Words, lent_made}
use Rattle.fsw_c.proofs.LentWalks.{[], ◌∷◌, refl, proved, leaves, ftrue, SProp, emp, fact_i, tables, owns, types_at, nothing, Stays, walk_of, Val, alloc_all, pass_all, free_all, look_at, sets, ‵, raw, ◌⊛◌, ◌$◌, ◌∵◌, !, qed, by, keep, fjoin, use0, agg, no_more, and_then, returns, enter}
use Rattle.std.proofs.Common.{lit<}
use types.Run.{lit}
use denote.RawPtr.{null_ptr}
use Rattle.std.specs.Prelude.{None}
use Rattle.fsw_c.proofs.lent.LentBlock.none.Code as code
use Rattle.fsw_c.proofs.lent.LentBlock.none.Statement.{statement}
use Rattle.fsw_c.specs.contracts.lent.LentBlock as lent
use Rattle.fsw_c.specs.contracts.lent.LentBlock.none as f
use denote.Triple.Clauses.{at_exit}

pub none_spec : {M : Type 1} → statement M
none_spec 𝓤 𝓛 𝓜 𝓡 wired =
    let H = 𝓛.H in let 𝓣 = tables 𝓤 H 𝓜 𝓡 𝓡.env in let c = f.clauses 𝓛 𝓜.mem 𝓡.returns in
    let hs : Stays f.ended.signature.params f.ended.kept = tt in
    proved 𝓛 f.ended hs c 𝓜 𝓡 tt
    f.Key.name code.function (code.unfolded 𝓤 H 𝓜 𝓡 wired)
    (λ κs. tt) (λ κs. tt) (λ κs qs bounds a ghost are.
    let y : (walk_of 𝓛 f.ended hs c).Ghost = ((κs, qs, bounds, a, tt), ghost) in
    let Post : Val → SProp 𝓤 = (walk_of 𝓛 f.ended hs c).post y in
    let words : Val = words_at null_ptr 0 in
    let made : lent.the_row.Denot = record { at = null_ptr; len = 0; bytes = None } in
    let Told : SProp 𝓤 = (c κs a).ensures ghost made (at_exit f.ended κs a tt) in
    qed 𝓛 ((‵ ftrue ⊛ ‵ (owns (types_at f.ended.signature.params κs) a y.0.4)) ∷ raw ((c κs a).requires ghost) ∷ []) ∵
    keep ! [] $
    enter ! 𝓣.C 𝓣.Λ code.function [] Post $ alloc_all ! (λ l. pass_all ! refl tt $
    sets ! (agg ! (and_then ! (lit ! tt) (and_then ! (lit ! tt) (no_more !)))) refl (tt, (record { fits = lit< tt }, (record { fits = lit< tt }, tt))) $
    nothing ! $ use0 𝓛 (‵ (Words.own_val (null_ptr, (0, tt)) (words ∷ []))) (lent_made 𝓛 null_ptr 0 (lit< tt)) $ fjoin ! $
    use0 𝓛 (raw Told) (fact_i 𝓤 _ (emp 𝓤) refl) $
    nothing ! $ nothing ! $
    returns ! (look_at ! 0 refl) $ free_all ! refl $ keep ! (0 ∷ 1 ∷ 3 ∷ 2 ∷ []) $
    by ! (leaves 𝓛 f.ended hs c y words made tt tt)))
