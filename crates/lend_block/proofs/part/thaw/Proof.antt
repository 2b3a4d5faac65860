-- `thaw` ends the loan's lifetime by all of its parts, and the borrow is back: its name and place too, since it was never taken apart.
use Rattle.left_right.proofs.PartSteps.{thaws}
use Rattle.left_right.specs.Parted.{tokens}
use Rattle.lend_block.proofs.Borrows.{readable_laws}
use Rattle.lend_block.proofs.Fields.{words_at, part_told, deed_told}
use Rattle.lend_block.proofs.Steps.{◌≡◌, ℕ, ◌^◌, List, [], ◌∷◌, length, refl, sym, subst, w64, proved, leaves, Lft, Share, ftrue, flft, SProp, ent, emp, id⊢, fact, fact_i, tables, u8, usize, yes, no, uint_vals, uint_Tells, RattleType, owns, Ptr, block_ptr, block_of, count_of, MutBor, types_at, plain, named_lft, MutSlice, slice_val, nothing, heard, Stays, stay_dropped, walk_of, Goes-dropped, named, Val, vint, WpFn, alloc_all, pass_all, free_all, look_at, get, get_in, sets, sets_last, env, ‵, raw, ◌⊛◌, later, at_ret, ◌$◌, ◌∵◌, !, qed, by, move, keep, drop, split, split3, join, fsplit, fsplit3, fjoin, use0, use2, await, rewrite, suffices, agg, sub, whole, stop, fld, of_opd, no_more, and_then, first, blocks, exec, returns, enter}
use Rattle.lend_block.proofs.part.thaw.Code as code
use Rattle.lend_block.proofs.part.thaw.Statement.{statement}
use Rattle.lend_block.specs.Inside.{readable, borrow_owns}
use Rattle.lend_block.specs.contracts.part.Deed as deed
use Rattle.lend_block.specs.contracts.part.Part as part
use Rattle.lend_block.specs.contracts.part.thaw as f
use denote.Triple.Clauses.{at_exit}

pub thaw_spec : {M : Type 1} → statement M
thaw_spec 𝓤 𝓛 𝓜 𝓡 wired =
    let H = 𝓛.H in let 𝓣 = tables 𝓤 H 𝓜 𝓡 𝓡.env in let c = f.clauses 𝓛 𝓜.mem 𝓡.returns in
    let deeds = plain (λ κs. deed.the_row (named_lft 1 0 tt κs)) in let parts = plain (λ κs. part.the_row (named_lft 1 0 tt κs)) in let number = plain (λ _. usize) in
    let hs : Stays f.ended.signature.params f.ended.kept = (stay_dropped deeds no, (stay_dropped parts no, (stay_dropped number yes, tt))) in
    proved 𝓛 f.ended hs c 𝓜 𝓡
    (Goes-dropped 𝓛 1 deeds no (λ κs x w. refl), (Goes-dropped 𝓛 1 parts no (λ κs x w. refl), (Goes-dropped 𝓛 1 number yes (λ κs x w. refl), tt)))
    f.Key.name code.function (code.unfolded 𝓤 H 𝓜 𝓡 wired)
    (λ κs. ((λ d. words_at d.ptr ∷ []), ((λ p. words_at p.ptr ∷ []), (uint_vals w64, tt))))
    (λ κs. ((λ d vs so. deed_told (named_lft 1 0 tt κs) d.ptr vs so.0), ((λ p vs so. part_told (named_lft 1 0 tt κs) p.ptr vs so.0), (uint_Tells w64, tt)))) (λ κs qs bounds a ghost are.
    let κ : Lft = κs.0 in let q : Share = qs.0 in let r = named_lft 1 0 tt κs in
    let Part : RattleType = part.the_row r in let Deed : RattleType = deed.the_row r in
    let owed : Deed.Denot = a.0 in let all : Part.Denot = a.1.0 in let length_of : ℕ = a.1.1.0 in
    let block : MutBor (List ℕ) = owed.block in let loan : ℕ = owed.loan in
    let b : ℕ = block.ref_ptr.0 in let o : ℕ = block.ref_ptr.1 in
    let place : Ptr = block_ptr b o in let part_place : Ptr = block_ptr (block_of all.ptr) (count_of all.ptr) in
    let fits = are.1.1.0.1 in
    let y : (walk_of 𝓛 f.ended hs c).Ghost = ((κs, qs, bounds, a, (words_at owed.ptr ∷ [], (words_at all.ptr ∷ [], (vint w64 length_of ∷ [], tt)))), ghost) in
    let Post : Val → SProp 𝓤 = (walk_of 𝓛 f.ended hs c).post y in
    let Run : List Val → SProp 𝓤 = λ vs. WpFn 𝓤 H 𝓣.C 𝓣.Λ code.function vs Post in
    let args : List Val = words_at place ∷ words_at part_place ∷ vint w64 length_of ∷ [] in
    let out : Val = slice_val (b, o) length_of in
    let Told : SProp 𝓤 = (c κs a).ensures ghost block (at_exit f.ended κs a (tt, (tt, (tt, tt)))) in
    qed 𝓛 (((‵ (flft κ q) ⊛ ‵ ftrue) ⊛ ‵ (owns (types_at f.ended.signature.params κs) a y.0.4)) ∷ (raw (fact 𝓤 (all.loan ≡ loan)) ⊛ raw (fact 𝓤 (all.count ≡ 2 ^ 63)) ⊛ raw (fact 𝓤 (length block.now ≡ length_of))) ∷ []) ∵
    move ! (1 ∷ []) $ split3 ! $ heard ! (all.loan ≡ loan) (λ same_loan. heard ! (all.count ≡ 2 ^ 63) (λ all_parts. heard ! (length block.now ≡ length_of) (λ its_length.
    split ! $ split ! $ move ! (2 ∷ []) $ fsplit3 ! $ keep ! (0 ∷ 1 ∷ 3 ∷ 4 ∷ []) $
    fsplit ! $ drop ! $ move ! (1 ∷ []) $ fsplit ! $ drop ! $ fsplit ! $
    rewrite ! 0 (λ (k : ℕ × ℕ). ‵ (tokens k.0 k.1)) (λ i. (same_loan i, all_parts i)) refl $ move ! (2 ∷ 0 ∷ 3 ∷ 4 ∷ []) $
    -- [the borrow when the loan has ended; the whole token; two tokens]
    suffices ! (Run args) (subst (λ (vs : List Val). ent 𝓤 (Run args) (Run vs)) (sym (λ i. words_at (owed.placed i) ∷ words_at (all.placed.0 i) ∷ vint w64 length_of ∷ [])) (id⊢ 𝓤 (Run args))) $
    enter ! 𝓣.C 𝓣.Λ code.function args Post $
    alloc_all ! (λ l. pass_all ! refl ((tt, (tt, (tt, tt))), ((tt, (tt, (tt, tt))), ((tt, record { fits = fits }), tt))) $
    let Ev = env code.Mir.locals l in
    sets ! (of_opd ! (get_in ! (fld ! refl (stop !)) (sub ! 0 refl (whole !)))) refl (tt, tt) $
    first ! $ blocks ! $ sets_last ! (agg ! (and_then ! (get ! refl) (and_then ! (get ! refl) (no_more !)))) refl (tt, (tt, (record { fits = fits }, tt))) $
    exec ! 𝓣.C 𝓣.Λ Ev code.Mir.t-3 (at_ret Ev Post) $ sets ! (of_opd ! (get ! refl)) refl (tt, (tt, (record { fits = fits }, tt))) $
    -- the loan ends
    use2 𝓛 (later (‵ (borrow_owns κ block))) (thaws (readable κ all.ptr all.bytes) (readable_laws κ all.ptr all.bytes) 𝓛 (borrow_owns κ block) loan) $ await ! tt $
    rewrite ! 0 (λ (n : ℕ). ‵ ((MutSlice (named 0) κ u8).own_val block (slice_val (b, o) n ∷ []))) its_length refl $
    move ! (1 ∷ 2 ∷ []) $ join ! $ move ! (1 ∷ []) $
    use0 𝓛 (raw Told) (fact_i 𝓤 _ (emp 𝓤) refl) $
    nothing ! $ nothing ! $ fjoin ! $ nothing ! $ fjoin ! $ nothing ! $ fjoin ! $
    returns ! (look_at ! 0 refl) $ free_all ! refl $ keep ! (3 ∷ 0 ∷ 2 ∷ 1 ∷ []) $
    by ! (leaves 𝓛 f.ended hs c y out block (tt, (tt, (tt, tt))) (tt, (tt, (tt, tt)))))))))
