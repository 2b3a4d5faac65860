-- `join` puts one part to the token, which was not whole before.
use Rattle.left_right.proofs.PartSteps.{tokens_glue}
use Rattle.left_right.specs.Parted.{tokens}
use Rattle.lend_block.proofs.Fields.{words_at, part_told}
use Rattle.lend_block.proofs.Steps.{◌≡◌, ℕ, ◌+◌, ◌^◌, ◌<◌, ◌≤◌, List, [], ◌∷◌, sym, refl, subst, arith, proved, leaves, also, Lft, Fml, ftrue, fsep, flft, SProp, ent, emp, id⊢, fact, fact_i, tables, no, RattleType, owns, Ptr, block_ptr, block_of, count_of, mut_vals, mut_Tells, types_at, plain, named_lft, nothing, heard, opens, closes, Stays, stay_dropped, stay_ref, walk_of, Goes-dropped, Goes-ref, named, Val, vunit, vptr, WpFn, alloc_all, pass_all, free_all, look_at, sets, ‵, raw, ◌⊛◌, later, ◌$◌, ◌∵◌, !, qed, by, move, keep, drop, split, split3, join, fsplit, fsplit3, fjoin, fjoin3, use0, use2, await, rewrite, feq_i, suffices, unit_lit, of_opd, returns, enter}
use Rattle.lend_block.proofs.Tokens.{not_all}
use Rattle.lend_block.proofs.part.Part.join.Code as code
use Rattle.lend_block.proofs.part.Part.join.Statement.{statement}
use Rattle.lend_block.specs.contracts.part.Part as part
use Rattle.lend_block.specs.contracts.part.Part.join as f
use denote.Triple.Clauses.{at_exit}

pub join_spec : {M : Type 1} → statement M
join_spec 𝓤 𝓛 𝓜 𝓡 wired =
    let H = 𝓛.H in let 𝓣 = tables 𝓤 H 𝓜 𝓡 𝓡.env in let c = f.clauses 𝓛 𝓜.mem 𝓡.returns in
    let parts = plain (λ κs. part.the_row (named_lft 2 1 tt κs)) in
    let hs : Stays f.ended.signature.params f.ended.kept = (stay_ref (0 ∷ []) tt parts, (stay_dropped parts no, tt)) in
    proved 𝓛 f.ended hs c 𝓜 𝓡 (Goes-ref 𝓛 2 0 tt parts, (Goes-dropped 𝓛 2 parts no (λ κs x w. refl), tt))
    f.Key.name code.function (code.unfolded 𝓤 H 𝓜 𝓡 wired)
    (λ κs. (mut_vals, ((λ p. words_at p.ptr ∷ []), tt)))
    (λ κs. (mut_Tells (named 0) κs.0 (part.the_row (named_lft 2 1 tt κs)), ((λ p vs so. part_told (named_lft 2 1 tt κs) p.ptr vs so.0), tt))) (λ κs qs bounds a ghost are.
    let κ : Lft = κs.0 in let β : Lft = κs.1.0 in let Part : RattleType = part.the_row (named_lft 2 1 tt κs) in
    let b : ℕ = a.0.ref_ptr.0 in let o : ℕ = a.0.ref_ptr.1 in
    let p : Part.Denot = a.0.now in let k : ℕ = p.count in let other : Part.Denot = a.1.0 in
    let joined : Part.Denot = record p { count = k + 1 } in
    let others : Fml = fsep (flft β qs.1.0) ftrue in
    let other_place : Ptr = block_ptr (block_of other.ptr) (count_of other.ptr) in
    let y : (walk_of 𝓛 f.ended hs c).Ghost = ((κs, qs, bounds, a, (vptr b o ∷ [], (words_at other.ptr ∷ [], tt))), ghost) in
    let Post : Val → SProp 𝓤 = (walk_of 𝓛 f.ended hs c).post y in
    let Run : List Val → SProp 𝓤 = λ vs. WpFn 𝓤 H 𝓣.C 𝓣.Λ code.function vs Post in
    let args : List Val = vptr b o ∷ words_at other_place ∷ [] in
    let Told : SProp 𝓤 = (c κs a).ensures ghost tt (at_exit f.ended κs a (joined, (tt, tt))) in
    qed 𝓛 (((‵ (flft κ qs.0) ⊛ ‵ others) ⊛ ‵ (owns (types_at f.ended.signature.params κs) a y.0.4)) ∷ (raw (fact 𝓤 (other.loan ≡ p.loan)) ⊛ raw (fact 𝓤 (other.count ≡ 1)) ⊛ raw (fact 𝓤 (0 < k)) ⊛ raw (fact 𝓤 (k ≤ 2 ^ 63))) ∷ []) ∵
    move ! (1 ∷ []) $ split3 ! $ heard ! (other.loan ≡ p.loan) (λ same_loan. heard ! (other.count ≡ 1) (λ one.
    split ! $ heard ! (0 < k) (λ some. heard ! (k ≤ 2 ^ 63) (λ no_more_than_all.
    split ! $ split ! $ move ! (2 ∷ []) $ fsplit3 ! $ move ! (1 ∷ []) $ fsplit ! $ drop ! $ fsplit ! $
    rewrite ! 0 (λ (m : ℕ × ℕ). ‵ (tokens m.0 m.1)) (λ i. (same_loan i, one i)) refl $ move ! (2 ∷ []) $ fsplit3 ! $ keep ! (1 ∷ 2 ∷ 6 ∷ 7 ∷ 3 ∷ []) $
    suffices ! (Run args) (subst (λ (vs : List Val). ent 𝓤 (Run args) (Run vs)) (sym (λ i. vptr b o ∷ words_at (other.placed.0 i) ∷ [])) (id⊢ 𝓤 (Run args))) $
    enter ! 𝓣.C 𝓣.Λ code.function args Post $ alloc_all ! (λ l. pass_all ! refl ((tt, tt), ((tt, (tt, (tt, tt))), tt)) $
    opens ! tt Part b o (λ vs. move ! (1 ∷ []) $ fsplit ! $ move ! (1 ∷ []) $ fsplit ! $ move ! (0 ∷ 8 ∷ []) $
    -- [the parts of `self`; the other part]
    use2 𝓛 (later (raw (fact 𝓤 (k < 2 ^ 63)) ⊛ ‵ (tokens p.loan k) ⊛ ‵ (tokens p.loan 1))) (not_all 𝓛 p.loan k no_more_than_all) $
    await ! tt $ split3 ! $ heard ! (k < 2 ^ 63) (λ fewer.
    use2 𝓛 (‵ (tokens p.loan (k + 1))) (tokens_glue 𝓛 p.loan k 1 (omega arith) (omega arith)) $ fjoin ! $
    move ! (1 ∷ 0 ∷ []) $ fjoin ! $ move ! (1 ∷ 0 ∷ []) $ closes ! tt Part joined vs b o $
    feq_i ! (List Val) (vptr b o ∷ []) (vptr b o ∷ []) refl $ fjoin3 ! $
    nothing ! $ nothing ! $ fjoin ! $ move ! (1 ∷ 0 ∷ []) $ fjoin ! $ move ! (1 ∷ 2 ∷ []) $ join ! $
    sets ! (of_opd ! (unit_lit !)) refl (tt, tt) $
    use0 𝓛 (raw Told) (also 𝓛 _ _ fewer (fact_i 𝓤 _ (emp 𝓤) refl)) $ feq_i ! (List Val) (vunit ∷ []) (vunit ∷ []) refl $
    returns ! (look_at ! 0 refl) $ free_all ! refl $ keep ! (2 ∷ 3 ∷ 0 ∷ 1 ∷ []) $
    by ! (leaves 𝓛 f.ended hs c y vunit tt (joined, (tt, tt)) (tt, (tt, tt)))))))))))
