-- `of` opens the borrow for good, and owns the memory.
use Rattle.fsw_c.proofs.LentWords.{words_at, Words, lent_made}
use Rattle.fsw_c.proofs.LentWalks.{ℕ, List, [], ◌∷◌, length, refl, proved, leaves, ftrue, SProp, emp, fact_i, tables, SliceRefMutOf, u8, no, owns, Ptr, block_ptr, MutBor, types_at, plain, mut_slice_vals, mut_slice_Tells, nothing, Stays, stay_dropped, walk_of, Goes-spent_slice, Val, alloc_all, pass_all, free_all, look_at, look_in_at, get, get_in, sets, ‵, raw, ◌⊛◌, ◌$◌, ◌∵◌, !, qed, by, move, keep, split, fsplit, fjoin, use0, use1, drop, full_share, flft, feq_i, flt_i, ◌^◌, arith, agg, sub, whole, stop, fld, hop, from, addr, of_opd, no_more, and_then, returns, enter}
use mir.Syntax.{static}
use denote.Index.{opens_slice}
use denote.Array.{Array}
use denote.Memory.{part_at}
use denote.RawPtr.Bytes.{bytes_whole}
use Rattle.std.specs.Prelude.{Some}
use Rattle.fsw_c.proofs.lent.LentBlock.of.Code as code
use Rattle.fsw_c.proofs.lent.LentBlock.of.Statement.{statement}
use Rattle.fsw_c.specs.contracts.lent.LentBlock as lent
use Rattle.fsw_c.specs.contracts.lent.LentBlock.of as f
use denote.Triple.Clauses.{at_exit}

pub of_spec : {M : Type 1} → statement M
of_spec 𝓤 𝓛 𝓜 𝓡 wired =
    let H = 𝓛.H in let 𝓣 = tables 𝓤 H 𝓜 𝓡 𝓡.env in let c = f.clauses 𝓛 𝓜.mem 𝓡.returns in
    let hs : Stays f.ended.signature.params f.ended.kept = (stay_dropped (SliceRefMutOf [] tt (plain (λ _. u8)) (λ _. tt)) no, tt) in
    proved 𝓛 f.ended hs c 𝓜 𝓡 (Goes-spent_slice 𝓛 0 [] tt (plain (λ _. u8)), tt)
    f.Key.name code.function (code.unfolded 𝓤 H 𝓜 𝓡 wired)
    (λ κs. (mut_slice_vals, tt)) (λ κs. (mut_slice_Tells static [] u8, tt)) (λ κs qs bounds a ghost are.
    let block : MutBor (List ℕ) = a.0 in let n : ℕ = length block.now in
    let place : Ptr = block_ptr block.ref_ptr.0 block.ref_ptr.1 in
    let fits = are.0.0.1.0 in let small = are.0.0.1.1 in let xs : List ℕ = block.now in let b : ℕ = block.ref_ptr.0 in let o : ℕ = block.ref_ptr.1 in
    let y : (walk_of 𝓛 f.ended hs c).Ghost = ((κs, qs, bounds, a, (mut_slice_vals block, tt)), ghost) in
    let Post : Val → SProp 𝓤 = (walk_of 𝓛 f.ended hs c).post y in
    let words : Val = words_at place n in
    let made : lent.the_row.Denot = record { at = place; len = n; bytes = Some block.now } in
    let Told : SProp 𝓤 = (c κs a).ensures ghost made (at_exit f.ended κs a (tt, tt)) in
    qed 𝓛 ((‵ ftrue ⊛ ‵ (owns (types_at f.ended.signature.params κs) a y.0.4)) ∷ raw ((c κs a).requires ghost) ∷ []) ∵
    keep ! (0 ∷ []) $ split ! $ move ! (1 ∷ []) $ fsplit ! $ keep ! (0 ∷ []) $ fsplit ! $ drop ! $ fsplit ! $
    -- [what the name is seen at; the borrow]
    enter ! 𝓣.C 𝓣.Λ code.function (mut_slice_vals block) Post $ alloc_all ! (λ l. pass_all ! refl ((tt, (tt, (record { fits = fits }, tt))), tt) $
    sets ! (of_opd ! (get_in ! (fld ! refl (stop !)) (sub ! 1 refl (whole !)))) refl (tt, record { fits = fits }) $
    sets ! (addr ! (from ! (fld ! refl (hop ! (look_in_at ! 1 (sub ! 0 refl (whole !))) (stop !))))) refl (tt, tt) $
    sets ! (agg ! (and_then ! (get ! refl) (and_then ! (get ! refl) (no_more !)))) refl (tt, (tt, (record { fits = fits }, tt))) $
    use0 𝓛 (‵ (flft [] full_share)) (𝓛.lfts.lft-nil full_share) $ move ! (1 ∷ 2 ∷ 0 ∷ []) $ opens_slice ! tt u8 xs b o $
    move ! (1 ∷ []) $ drop ! $ move ! (1 ∷ []) $ drop ! $ move ! (1 ∷ []) $ drop ! $
    -- [the bytes]
    feq_i ! ℕ n n refl $ fjoin ! $ use1 𝓛 (‵ (part_at (Array u8 n) full_share xs b o)) (bytes_whole 𝓛 full_share n xs b o) $
    flt_i ! n (2 ^ 63) (omega (arith, small)) $ move ! (1 ∷ 0 ∷ []) $ fjoin ! $
    use0 𝓛 (‵ (Words.own_val (place, (n, tt)) (words ∷ []))) (lent_made 𝓛 place n fits) $ fjoin ! $
    use0 𝓛 (raw Told) (fact_i 𝓤 _ (emp 𝓤) refl) $
    nothing ! $ nothing ! $ fjoin ! $ nothing ! $
    returns ! (look_at ! 0 refl) $ free_all ! refl $ keep ! (0 ∷ 1 ∷ 3 ∷ 2 ∷ []) $
    by ! (leaves 𝓛 f.ended hs c y words made (tt, tt) (tt, tt))))
