-- `tell_apart` finds more of a token than there is, if both parts are of one loan.
use Rattle.left_right.specs.Parted.{tokens}
use Rattle.lend_block.proofs.Steps.{ℕ, ◌^◌, ◌<◌, ◌≤◌, [], ◌∷◌, refl, proved, leaves, also, Fml, ftrue, fsep, flft, SProp, emp, fact, fact_i, tables, RattleType, owns, mut_vals, mut_Tells, types_at, plain, named_lft, nothing, heard, opens, closes, Stays, stay_ref, walk_of, Goes-ref, named, Val, vunit, vptr, List, alloc_all, pass_all, free_all, look_at, sets, ‵, raw, ◌⊛◌, later, ◌$◌, ◌∵◌, !, qed, by, move, keep, split, split3, join, fsplit, fsplit3, fjoin, fjoin3, use0, use2, await, feq_i, unit_lit, of_opd, returns, enter}
use Rattle.lend_block.proofs.Tokens.{two_loans}
use Rattle.lend_block.proofs.part.Part.tell_apart.Code as code
use Rattle.lend_block.proofs.part.Part.tell_apart.Statement.{statement}
use Rattle.lend_block.specs.contracts.part.Part as part
use Rattle.lend_block.specs.contracts.part.Part.tell_apart as f
use Rattle.std.proofs.Common.{◌≢◌}
use denote.Triple.Clauses.{at_exit}

pub tell_apart_spec : {M : Type 1} → statement M
tell_apart_spec 𝓤 𝓛 𝓜 𝓡 wired =
    let H = 𝓛.H in let 𝓣 = tables 𝓤 H 𝓜 𝓡 𝓡.env in let c = f.clauses 𝓛 𝓜.mem 𝓡.returns in
    let self = plain (λ κs. part.the_row (named_lft 4 1 tt κs)) in let other = plain (λ κs. part.the_row (named_lft 4 3 tt κs)) in
    let hs : Stays f.ended.signature.params f.ended.kept = (stay_ref (0 ∷ []) tt self, (stay_ref (2 ∷ []) tt other, tt)) in
    proved 𝓛 f.ended hs c 𝓜 𝓡 (Goes-ref 𝓛 4 0 tt self, (Goes-ref 𝓛 4 2 tt other, tt))
    f.Key.name code.function (code.unfolded 𝓤 H 𝓜 𝓡 wired)
    (λ κs. (mut_vals, (mut_vals, tt)))
    (λ κs. (mut_Tells (named 0) κs.0 (part.the_row (named_lft 4 1 tt κs)), (mut_Tells (named 2) κs.1.1.0 (part.the_row (named_lft 4 3 tt κs)), tt))) (λ κs qs bounds a ghost are.
    let Part : RattleType = part.the_row (named_lft 4 1 tt κs) in let Other : RattleType = part.the_row (named_lft 4 3 tt κs) in
    let b : ℕ = a.0.ref_ptr.0 in let o : ℕ = a.0.ref_ptr.1 in let p : Part.Denot = a.0.now in
    let b' : ℕ = a.1.0.ref_ptr.0 in let o' : ℕ = a.1.0.ref_ptr.1 in let p' : Other.Denot = a.1.0.now in
    let last_token : Fml = fsep (flft κs.1.1.1.0 qs.1.1.1.0) ftrue in
    let y : (walk_of 𝓛 f.ended hs c).Ghost = ((κs, qs, bounds, a, (vptr b o ∷ [], (vptr b' o' ∷ [], tt))), ghost) in
    let Post : Val → SProp 𝓤 = (walk_of 𝓛 f.ended hs c).post y in
    let Most : Type 0 = (2 ^ 62 < p.count) × (p.count ≤ 2 ^ 63) in let MostOther : Type 0 = (2 ^ 62 < p'.count) × (p'.count ≤ 2 ^ 63) in
    let Told : SProp 𝓤 = (c κs a).ensures ghost tt (at_exit f.ended κs a (p, (p', tt))) in
    qed 𝓛 (((‵ (flft κs.0 qs.0) ⊛ (‵ (flft κs.1.0 qs.1.0) ⊛ (‵ (flft κs.1.1.0 qs.1.1.0) ⊛ ‵ last_token))) ⊛ ‵ (owns (types_at f.ended.signature.params κs) a y.0.4))
    ∷ (raw (fact 𝓤 Most) ⊛ raw (fact 𝓤 MostOther)) ∷ []) ∵
    move ! (1 ∷ []) $ split ! $ heard ! Most (λ most. heard ! MostOther (λ most_other.
    -- the four tokens, and the three things that each `&mut` owns
    split ! $ split ! $ move ! (1 ∷ []) $ split ! $ move ! (1 ∷ []) $ split ! $ move ! (4 ∷ []) $
    fsplit ! $ move ! (1 ∷ []) $ fsplit ! $ fsplit3 ! $ move ! (4 ∷ []) $ fsplit3 ! $ keep ! (1 ∷ 2 ∷ 10 ∷ 4 ∷ 5 ∷ 7 ∷ 8 ∷ 9 ∷ []) $
    enter ! 𝓣.C 𝓣.Λ code.function (vptr b o ∷ vptr b' o' ∷ []) Post $ alloc_all ! (λ l. pass_all ! refl ((tt, tt), ((tt, tt), tt)) $
    opens ! tt Part b o (λ vs. move ! (5 ∷ 6 ∷ 7 ∷ []) $ opens ! tt Other b' o' (λ vs'.
    move ! (1 ∷ []) $ fsplit ! $ move ! (1 ∷ []) $ fsplit ! $ move ! (8 ∷ []) $ fsplit ! $ move ! (1 ∷ []) $ fsplit ! $ move ! (0 ∷ 3 ∷ []) $
    -- [the parts of `self`; the parts of `other`]
    use2 𝓛 (later (raw (fact 𝓤 (p.loan ≢ p'.loan)) ⊛ ‵ (tokens p.loan p.count) ⊛ ‵ (tokens p'.loan p'.count)))
    (two_loans 𝓛 p.loan p'.loan p.count p'.count most.0 most.1 most_other.0 most_other.1) $
    await ! tt $ split3 ! $ heard ! (p.loan ≢ p'.loan) (λ apart.
    -- both are closed as they were
    move ! (0 ∷ 2 ∷ []) $ fjoin ! $ move ! (2 ∷ 0 ∷ []) $ fjoin ! $ move ! (8 ∷ 0 ∷ 9 ∷ 10 ∷ 11 ∷ []) $ closes ! tt Part p vs b o $
    feq_i ! (List Val) (vptr b o ∷ []) (vptr b o ∷ []) refl $ fjoin3 ! $
    move ! (2 ∷ 3 ∷ []) $ fjoin ! $ move ! (3 ∷ 0 ∷ []) $ fjoin ! $ move ! (3 ∷ 0 ∷ 4 ∷ 5 ∷ 6 ∷ []) $ closes ! tt Other p' vs' b' o' $
    feq_i ! (List Val) (vptr b' o' ∷ []) (vptr b' o' ∷ []) refl $ fjoin3 ! $
    nothing ! $ move ! (1 ∷ 0 ∷ []) $ fjoin ! $ move ! (2 ∷ 0 ∷ []) $ fjoin ! $
    move ! (1 ∷ 3 ∷ []) $ join ! $ move ! (3 ∷ 0 ∷ []) $ join ! $ move ! (2 ∷ 0 ∷ []) $ join ! $
    sets ! (of_opd ! (unit_lit !)) refl (tt, tt) $
    use0 𝓛 (raw Told) (also 𝓛 _ _ apart (also 𝓛 _ _ refl (fact_i 𝓤 _ (emp 𝓤) refl))) $ feq_i ! (List Val) (vunit ∷ []) (vunit ∷ []) refl $
    returns ! (look_at ! 0 refl) $ free_all ! refl $ keep ! (2 ∷ 3 ∷ 0 ∷ 1 ∷ []) $
    by ! (leaves 𝓛 f.ended hs c y vunit tt (p, (p', tt)) (tt, (tt, tt))))))))))
