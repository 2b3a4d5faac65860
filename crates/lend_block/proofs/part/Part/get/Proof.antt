-- `get` shows a front of the bytes for as long as the part is borrowed.
use borrow.Table.Elements.{length-take-le}
use Rattle.left_right.proofs.PartSteps.{part_sees}
use Rattle.lend_block.proofs.Borrows.{readable_laws, front_shared}
use Rattle.lend_block.proofs.Fields.{words_at, PartWords, part_told, part_opened}
use Rattle.lend_block.proofs.Steps.{◌≡◌, ℕ, ◌*◌, ◌^◌, ◌≤◌, List, [], ◌∷◌, ◌++◌, length, take, sym, refl, ap, ◌∙◌, arith, w64, w8, proved, leaves, Lft, Share, Fml, Incl-refl, ftrue, fsep, flft, fhide, SProp, emp, fact, fact_i, ⊑_meet, tables, RefOf, u8, usize, yes, Is, shows, cell_at, hidden_shr, unhide, hide, uint_vals, uint_Tells, uint_row_laws, RattleType, owns, Ptr, block_ptr, block_of, count_of, ShrRef, shr_vals, shr_Tells, shortens, types_at, plain, named_lft, slice_val, elements_shared, elements_shr_laws, nothing, peeks, heard, looks, shuts, lent_out, Stays, stay_dropped, walk_of, Goes-dropped, named, Val, vptr, vint, alloc_all, pass_all, free_all, look_at, get, through, sets, sets_last, env, ‵, raw, ◌⊛◌, at_ret, ◌$◌, ◌∵◌, !, qed, by, move, keep, split, join, fsplit, fjoin, use0, use1, rewrite, feq_i, flt_i, agg, sub, whole, look_in, stop, fld, load, of_opd, no_more, and_then, first, blocks, exec, returns, enter}
use Rattle.lend_block.proofs.part.Part.get.Code as code
use Rattle.lend_block.proofs.part.Part.get.Statement.{statement}
use Rattle.lend_block.specs.Inside.{readable, part_shares}
use Rattle.lend_block.specs.contracts.part.Part as part
use Rattle.lend_block.specs.contracts.part.Part.get as f
use Rattle.std.specs.contracts.marker.PhantomData as marker

pub get_spec : {M : Type 1} → statement M
get_spec 𝓤 𝓛 𝓜 𝓡 wired =
    let H = 𝓛.H in let 𝓣 = tables 𝓤 H 𝓜 𝓡 𝓡.env in let c = f.clauses 𝓛 𝓜.mem 𝓡.returns in
    let self = RefOf (0 ∷ []) tt (plain (λ κs. part.the_row (named_lft 2 1 tt κs))) (λ _. tt) in let number = plain (λ _. usize) in
    let hs : Stays f.ended.signature.params f.ended.kept = (stay_dropped self yes, (stay_dropped number yes, tt)) in
    proved 𝓛 f.ended hs c 𝓜 𝓡 (Goes-dropped 𝓛 2 self yes (λ κs x w. refl), (Goes-dropped 𝓛 2 number yes (λ κs x w. refl), tt))
    f.Key.name code.function (code.unfolded 𝓤 H 𝓜 𝓡 wired)
    (λ κs. (shr_vals, (uint_vals w64, tt))) (λ κs. (shr_Tells (named 0) κs.0 (part.the_row (named_lft 2 1 tt κs)), (uint_Tells w64, tt))) (λ κs qs bounds a ghost are.
    let κ : Lft = κs.0 in let β : Lft = κs.1.0 in let q : Share = qs.0 in let r = named_lft 2 1 tt κs in
    let Part : RattleType = part.the_row r in let Words : RattleType = PartWords r in
    let b : ℕ = a.0.ref_ptr.0 in let o : ℕ = a.0.ref_ptr.1 in let len : ℕ = a.1.0 in
    let p : Part.Denot = a.0.now in let bytes : List ℕ = p.bytes in let front : List ℕ = take len bytes in
    let pb : ℕ = block_of p.ptr in let po : ℕ = count_of p.ptr in let at : p.ptr ≡ block_ptr pb po = p.placed.0 in
    let shared : Lft → Fml = elements_shared u8 bytes pb po in let reads : Lft → Fml = readable β p.ptr bytes in
    let others : Fml = fsep (flft β qs.1.0) ftrue in let fits = are.1.0.1 in
    let y : (walk_of 𝓛 f.ended hs c).Ghost = ((κs, qs, bounds, a, (vptr b o ∷ [], (vint w64 len ∷ [], tt))), ghost) in
    let Post : Val → SProp 𝓤 = (walk_of 𝓛 f.ended hs c).post y in
    let out : Val = slice_val (pb, po) len in
    qed 𝓛 (((‵ (flft κ q) ⊛ ‵ others) ⊛ ‵ (owns (types_at f.ended.signature.params κs) a y.0.4)) ∷ raw (fact 𝓤 (len ≤ length bytes)) ∷ []) ∵
    move ! (1 ∷ []) $ heard ! (len ≤ length bytes) (λ within. let long : length front ≡ len = length-take-le len bytes within in
    split ! $ split ! $ move ! (2 ∷ []) $ fsplit ! $ fsplit ! $ keep ! (1 ∷ 3 ∷ 4 ∷ []) $
    -- [what the & shows; two tokens]
    enter ! 𝓣.C 𝓣.Λ code.function (vptr b o ∷ vint w64 len ∷ []) Post $
    alloc_all ! (λ l. pass_all ! refl ((tt, tt), ((tt, record { fits = fits }), tt)) $ let Ev = env code.Mir.locals l in
    use1 𝓛 (‵ (hidden_shr Words κ (p.ptr, (tt, tt)) b o) ⊛ ‵ (fhide (part_shares β p.ptr bytes p.loan κ)))
    (lent_out 𝓛 (part.struct r) (part.the_codes (marker.the_row (ShrRef r.mir r.lft u8)).coded) (part.the_heap β) (part.the_lent β) κ p b o) $
    -- the bytes may be read for κ, which lies within 'r, and so may a front of them
    split ! $ move ! (1 ∷ []) $ unhide ! $
    use1 𝓛 (‵ (reads κ)) (part_sees reads (readable_laws β p.ptr bytes) 𝓛 p.loan κ) $
    use1 𝓛 (‵ (shared κ)) (shortens 𝓛 shared (elements_shr_laws u8 (uint_row_laws w8) bytes pb po) (κ ++ β) κ (⊑_meet κ κ β (Incl-refl κ) bounds.0)) $
    use1 𝓛 (‵ (elements_shared u8 front pb po κ)) (front_shared 𝓛 pb κ len bytes po) $ hide ! $ move ! (1 ∷ 2 ∷ []) $
    -- the pointer is read
    looks ! tt Words (part_opened r 𝓛) (p.ptr, (tt, tt)) b o (λ share vs. move ! (1 ∷ []) $ peeks ! Words (Is Words) (shows 𝓛 Words) (p.ptr, (tt, tt)) vs (λ so.
    let word : vs ≡ words_at (block_ptr pb po) ∷ [] = part_told r p.ptr vs so ∙ ap (λ (ptr : Ptr). words_at ptr ∷ []) at in
    rewrite ! 1 (λ (ws : List Val). ‵ (cell_at share Words.mir ws b o)) word refl $ first ! $ blocks ! $
    sets ! (of_opd ! (load ! (through ! refl (fld ! refl (stop !))) (look_in ! 1 (sub ! 0 refl (whole !))))) refl (tt, tt) $
    sets_last ! (agg ! (and_then ! (get ! refl) (and_then ! (get ! refl) (no_more !)))) refl (tt, (tt, (record { fits = fits }, tt))) $
    exec ! 𝓣.C 𝓣.Λ Ev code.Mir.t-2 (at_ret Ev Post) $ sets ! (of_opd ! (get ! refl)) refl (tt, (tt, (record { fits = fits }, tt))) $
    rewrite ! 1 (λ (ws : List Val). ‵ (cell_at share Words.mir ws b o)) (sym word) refl $ move ! (1 ∷ 0 ∷ 2 ∷ []) $ shuts ! tt Words share (p.ptr, (tt, tt)) vs b o $
    -- the slice of these bytes
    move ! (0 ∷ 3 ∷ []) $ join ! $ move ! (2 ∷ []) $
    flt_i ! (length front * 1) (2 ^ 63) (omega (arith, p.placed.1)) $ flt_i ! (length front) (2 ^ 64) (omega arith) $ fjoin ! $
    feq_i ! (List Val) (out ∷ []) (slice_val (pb, po) (length front) ∷ []) (ap (λ (n : ℕ). slice_val (pb, po) n ∷ []) (sym long)) $ fjoin ! $ fjoin ! $
    use0 𝓛 (raw (fact 𝓤 (front ≡ front))) (fact_i 𝓤 (front ≡ front) (emp 𝓤) refl) $
    nothing ! $ nothing ! $ fjoin ! $ nothing ! $ fjoin ! $
    returns ! (look_at ! 0 refl) $ free_all ! refl $ keep ! (3 ∷ 0 ∷ 2 ∷ 1 ∷ []) $
    by ! (leaves 𝓛 f.ended hs c y out (record { ref_ptr = (pb, po); now = front }) (tt, (tt, tt)) (tt, (tt, tt))))))))
