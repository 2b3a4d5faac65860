-- `freeze` lends the borrow for a lifetime that it begins, and hands out the whole of that lifetime's token.
use Rattle.left_right.proofs.PartSteps.{freezes, Frozen}
use Rattle.lend_block.proofs.Borrows.{readable_laws, Lends-borrow}
use Rattle.lend_block.proofs.Fields.{words_at, PartWords, part_made, DeedWords, deed_made}
use Rattle.lend_block.proofs.Steps.{ℕ, ◌^◌, List, [], ◌∷◌, ◌++◌, refl, arith, proved, leaves, also, Lft, Share, Fml, Incl-refl, ftrue, fsep, fex, feq, flft, SProp, emp, fact_i, tables, SliceRefMutOf, u8, no, RattleType, Valss, owns, Ptr, block_ptr, MutBor, types_at, plain, named_lft, mut_slice_vals, mut_slice_Tells, nothing, Stays, stay_dropped, walk_of, Goes-spent_slice, named, Val, vstruct, vcons, vnil, of_list, alloc_all, pass_all, free_all, look_at, look_in_at, get, sets, ‵, raw, ◌⊛◌, later, ◌$◌, ◌∵◌, !, qed, by, move, keep, split, join, fsplit, fjoin, fjoin3, fpick, fpack, use0, use2, await, feq_i, agg, sub, whole, stop, fld, hop, from, addr, no_more, and_then, returns, enter}
use Rattle.lend_block.proofs.part.freeze.Code as code
use Rattle.lend_block.proofs.part.freeze.Statement.{statement}
use Rattle.lend_block.specs.Inside.{readable, borrow_owns}
use Rattle.lend_block.specs.contracts.part.Deed as deed
use Rattle.lend_block.specs.contracts.part.Part as part
use Rattle.lend_block.specs.contracts.part.freeze as f
use denote.Triple.Clauses.{at_exit}

pub freeze_spec : {M : Type 1} → statement M
freeze_spec 𝓤 𝓛 𝓜 𝓡 wired =
    let H = 𝓛.H in let 𝓣 = tables 𝓤 H 𝓜 𝓡 𝓡.env in let c = f.clauses 𝓛 𝓜.mem 𝓡.returns in
    let hs : Stays f.ended.signature.params f.ended.kept = (stay_dropped (SliceRefMutOf (0 ∷ []) tt (plain (λ _. u8)) (λ _. tt)) no, tt) in
    proved 𝓛 f.ended hs c 𝓜 𝓡 (Goes-spent_slice 𝓛 1 (0 ∷ []) tt (plain (λ _. u8)), tt)
    f.Key.name code.function (code.unfolded 𝓤 H 𝓜 𝓡 wired)
    (λ κs. (mut_slice_vals, tt)) (λ κs. (mut_slice_Tells (named 0) κs.0 u8, tt)) (λ κs qs bounds a ghost are.
    let κ : Lft = κs.0 in let q : Share = qs.0 in let r = named_lft 1 0 tt κs in
    let Part : RattleType = part.the_row r in let Deed : RattleType = deed.the_row r in
    let block : MutBor (List ℕ) = a.0 in let bytes : List ℕ = block.now in
    let place : Ptr = block_ptr block.ref_ptr.0 block.ref_ptr.1 in
    let fits = are.0.0.1.0 in let small = are.0.0.1.1 in
    let reads : Lft → Fml = readable κ place bytes in let laws = readable_laws κ place bytes in
    let y : (walk_of 𝓛 f.ended hs c).Ghost = ((κs, qs, bounds, a, (mut_slice_vals block, tt)), ghost) in
    let Post : Val → SProp 𝓤 = (walk_of 𝓛 f.ended hs c).post y in
    let words : Val = words_at place in let pair : Val = vstruct (vcons words (vcons words vnil)) in
    qed 𝓛 (((‵ (flft κ q) ⊛ ‵ ftrue) ⊛ ‵ (owns (types_at f.ended.signature.params κs) a y.0.4)) ∷ raw ((c κs a).requires ghost) ∷ []) ∵
    keep ! (0 ∷ []) $ split ! $ split ! $ move ! (2 ∷ []) $ fsplit ! $ keep ! (0 ∷ 2 ∷ []) $
    -- [all that the borrow owns; the token of 'r]
    enter ! 𝓣.C 𝓣.Λ code.function (mut_slice_vals block) Post $ alloc_all ! (λ l. pass_all ! refl ((tt, (tt, (record { fits = fits }, tt))), tt) $
    sets ! (addr ! (from ! (fld ! refl (hop ! (look_in_at ! 1 (sub ! 0 refl (whole !))) (stop !))))) refl (tt, tt) $
    sets ! (agg ! (no_more !)) refl (tt, tt) $
    sets ! (agg ! (and_then ! (get ! refl) (and_then ! (get ! refl) (no_more !)))) refl (tt, (tt, (tt, tt))) $
    sets ! (agg ! (no_more !)) refl (tt, tt) $
    sets ! (agg ! (and_then ! (get ! refl) (and_then ! (get ! refl) (no_more !)))) refl (tt, (tt, (tt, tt))) $
    sets ! (agg ! (and_then ! (get ! refl) (and_then ! (get ! refl) (no_more !)))) refl (tt, ((tt, (tt, tt)), ((tt, (tt, tt)), tt))) $
    -- the loan begins
    use2 𝓛 (later (‵ (fex ℕ (Frozen reads laws 𝓛 (borrow_owns κ block))) ⊛ ‵ (flft κ q)))
    (freezes reads laws 𝓛 (borrow_owns κ block) κ κ q (Lends-borrow 𝓛 κ block) (Incl-refl κ)) $
    await ! tt $ split ! $ fpick ! (λ loan. fsplit ! $
    -- [the borrow when the loan has ended; the whole token and the bytes; the token of 'r]
    let owed : Deed.Denot = record { ptr = place; marker = record {}; block = block; loan = loan; placed = refl } in
    let all : Part.Denot = record { ptr = place; marker = record {}; bytes = bytes; loan = loan; count = 2 ^ 63; placed = (refl, omega arith) } in
    let Told : SProp 𝓤 = (c κs a).ensures ghost (owed, all) (at_exit f.ended κs a (tt, tt)) in
    use0 𝓛 (‵ ((DeedWords r).own_val (place, (tt, tt)) (words ∷ []))) (deed_made r 𝓛 place) $ fjoin ! $ move ! (1 ∷ []) $
    use0 𝓛 (‵ ((PartWords r).own_val (place, (tt, tt)) (words ∷ []))) (part_made r 𝓛 place) $ fjoin ! $
    -- the pair of both
    nothing ! $ move ! (2 ∷ 1 ∷ 0 ∷ []) $ fjoin3 ! $ feq_i ! (List Val) (pair ∷ []) (pair ∷ []) refl $ fjoin ! $
    fpack ! (Valss (Deed ∷ Part ∷ [])) (λ uss. fsep (feq (List Val) (pair ∷ []) (vstruct (of_list (uss.0 ++ (uss.1.0 ++ []))) ∷ [])) (owns (Deed ∷ Part ∷ []) (owed, (all, tt)) uss))
    (words ∷ [], (words ∷ [], tt)) $
    nothing ! $ move ! (2 ∷ 0 ∷ []) $ join ! $ move ! (1 ∷ []) $
    use0 𝓛 (raw Told) (also 𝓛 _ _ refl (also 𝓛 _ _ refl (also 𝓛 _ _ refl (fact_i 𝓤 _ (emp 𝓤) refl)))) $
    nothing ! $ nothing ! $ fjoin ! $
    returns ! (look_at ! 0 refl) $ free_all ! refl $ keep ! (3 ∷ 0 ∷ 2 ∷ 1 ∷ []) $
    by ! (leaves 𝓛 f.ended hs c y pair (owed, all) (tt, tt) (tt, tt)))))
