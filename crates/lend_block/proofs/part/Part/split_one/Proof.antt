-- `split_one` cuts one part off the token, and both parts read the bytes.
use Rattle.left_right.proofs.PartSteps.{tokens_cut}
use Rattle.left_right.specs.Parted.{tokens}
use Rattle.lend_block.proofs.Borrows.{readable_laws}
use Rattle.lend_block.proofs.Fields.{words_at, PartWords, part_told, part_made}
use Rattle.lend_block.proofs.Steps.{◌≡◌, ℕ, ◌-◌, ◌^◌, ◌<◌, ◌≤◌, List, [], ◌∷◌, sym, refl, ap, ◌∙◌, arith, proved, leaves, also, Lft, Fml, ftrue, fsep, flft, full_share, SProp, emp, fact, fact_i, tables, Is, shows, cell_at, RattleType, owns, Ptr, block_ptr, block_of, count_of, mut_vals, mut_Tells, contraction, types_at, plain, named_lft, nothing, peeks, heard, opens, closes, Stays, stay_ref, walk_of, Goes-ref, named, Val, vptr, alloc_all, pass_all, free_all, look_at, get, through, sets, ‵, raw, ◌⊛◌, ◌$◌, ◌∵◌, !, qed, by, move, keep, split, join, fsplit, fsplit3, fjoin, fjoin3, use0, use1, rewrite, feq_i, agg, sub, whole, look_in, stop, fld, load, of_opd, no_more, and_then, returns, enter}
use Rattle.lend_block.proofs.part.Part.split_one.Code as code
use Rattle.lend_block.proofs.part.Part.split_one.Statement.{statement}
use Rattle.lend_block.specs.Inside.{readable}
use Rattle.lend_block.specs.contracts.part.Part as part
use Rattle.lend_block.specs.contracts.part.Part.split_one as f
use denote.Triple.Clauses.{at_exit}

pub split_one_spec : {M : Type 1} → statement M
split_one_spec 𝓤 𝓛 𝓜 𝓡 wired =
    let H = 𝓛.H in let 𝓣 = tables 𝓤 H 𝓜 𝓡 𝓡.env in let c = f.clauses 𝓛 𝓜.mem 𝓡.returns in
    let self = plain (λ κs. part.the_row (named_lft 2 1 tt κs)) in
    let hs : Stays f.ended.signature.params f.ended.kept = (stay_ref (0 ∷ []) tt self, tt) in
    proved 𝓛 f.ended hs c 𝓜 𝓡 (Goes-ref 𝓛 2 0 tt self, tt)
    f.Key.name code.function (code.unfolded 𝓤 H 𝓜 𝓡 wired)
    (λ κs. (mut_vals, tt)) (λ κs. (mut_Tells (named 0) κs.0 (part.the_row (named_lft 2 1 tt κs)), tt)) (λ κs qs bounds a ghost are.
    let κ : Lft = κs.0 in let β : Lft = κs.1.0 in let r = named_lft 2 1 tt κs in
    let Part : RattleType = part.the_row r in let Words : RattleType = PartWords r in
    let b : ℕ = a.0.ref_ptr.0 in let o : ℕ = a.0.ref_ptr.1 in
    let p : Part.Denot = a.0.now in let k : ℕ = p.count in
    let pb : ℕ = block_of p.ptr in let po : ℕ = count_of p.ptr in let at : p.ptr ≡ block_ptr pb po = p.placed.0 in
    let kept : Part.Denot = record p { count = k - 1 } in let cut : Part.Denot = record p { count = 1 } in
    let others : Fml = fsep (flft β qs.1.0) ftrue in let reads : Fml = readable β p.ptr p.bytes (p.loan ∷ []) in
    let words : Val = words_at (block_ptr pb po) in
    let y : (walk_of 𝓛 f.ended hs c).Ghost = ((κs, qs, bounds, a, (vptr b o ∷ [], tt)), ghost) in
    let Post : Val → SProp 𝓤 = (walk_of 𝓛 f.ended hs c).post y in
    let Told : SProp 𝓤 = (c κs a).ensures ghost cut (at_exit f.ended κs a (kept, tt)) in
    qed 𝓛 (((‵ (flft κ qs.0) ⊛ ‵ others) ⊛ ‵ (owns (types_at f.ended.signature.params κs) a y.0.4)) ∷ (raw (fact 𝓤 (1 < k)) ⊛ raw (fact 𝓤 (k ≤ 2 ^ 63))) ∷ []) ∵
    move ! (1 ∷ []) $ split ! $ heard ! (1 < k) (λ many. heard ! (k ≤ 2 ^ 63) (λ no_more_than_all.
    split ! $ split ! $ move ! (2 ∷ []) $ fsplit ! $ fsplit3 ! $ keep ! (1 ∷ 2 ∷ 4 ∷ 5 ∷ []) $
    enter ! 𝓣.C 𝓣.Λ code.function (vptr b o ∷ []) Post $ alloc_all ! (λ l. pass_all ! refl ((tt, tt), tt) $
    opens ! tt Part b o (λ vs. move ! (1 ∷ []) $ fsplit ! $ peeks ! Words (Is Words) (shows 𝓛 Words) (p.ptr, (tt, tt)) vs (λ so.
    let word : vs ≡ words ∷ [] = part_told r p.ptr vs so ∙ ap (λ (ptr : Ptr). words_at ptr ∷ []) at in
    -- one part of the token for the result, the others for `self`, and the bytes for both
    move ! (1 ∷ []) $ fsplit ! $
    use1 𝓛 (‵ (tokens p.loan 1) ⊛ ‵ (tokens p.loan (k - 1))) (tokens_cut 𝓛 p.loan k 1 (k - 1) (omega arith) (omega arith) (omega arith) no_more_than_all) $
    split ! $ move ! (2 ∷ []) $
    use1 𝓛 (‵ reads ⊛ ‵ reads) (contraction 𝓛 (readable β p.ptr p.bytes) (readable_laws β p.ptr p.bytes) (p.loan ∷ [])) $
    split ! $ move ! (2 ∷ 0 ∷ []) $ fjoin ! $ move ! (2 ∷ 1 ∷ []) $ fjoin ! $
    -- [what stays; what goes; the fields; the cell; the open borrow; the names]
    rewrite ! 3 (λ (ws : List Val). ‵ (cell_at full_share Part.mir ws b o)) word refl $
    sets ! (of_opd ! (load ! (through ! refl (fld ! refl (stop !))) (look_in ! 3 (sub ! 0 refl (whole !))))) refl (tt, tt) $
    sets ! (agg ! (no_more !)) refl (tt, tt) $
    sets ! (agg ! (and_then ! (get ! refl) (and_then ! (get ! refl) (no_more !)))) refl (tt, (tt, (tt, tt))) $
    rewrite ! 3 (λ (ws : List Val). ‵ (cell_at full_share Part.mir ws b o)) (sym word) refl $
    move ! (2 ∷ 0 ∷ []) $ fjoin ! $ move ! (2 ∷ 0 ∷ 3 ∷ 4 ∷ 5 ∷ []) $ closes ! tt Part kept vs b o $
    feq_i ! (List Val) (vptr b o ∷ []) (vptr b o ∷ []) refl $ fjoin3 ! $ nothing ! $ move ! (1 ∷ 0 ∷ []) $ fjoin ! $ move ! (1 ∷ 3 ∷ []) $ join ! $
    move ! (2 ∷ []) $ use0 𝓛 (‵ (Words.own_val (p.ptr, (tt, tt)) (words_at p.ptr ∷ []))) (part_made r 𝓛 p.ptr) $
    rewrite ! 0 (λ (ptr : Ptr). ‵ (Words.own_val (p.ptr, (tt, tt)) (words_at ptr ∷ []))) at refl $ fjoin ! $
    use0 𝓛 (raw Told) (also 𝓛 _ _ refl (fact_i 𝓤 _ (emp 𝓤) refl)) $
    returns ! (look_at ! 0 refl) $ free_all ! refl $ keep ! (2 ∷ 3 ∷ 1 ∷ 0 ∷ []) $
    by ! (leaves 𝓛 f.ended hs c y words cut (kept, tt) (tt, tt))))))))
