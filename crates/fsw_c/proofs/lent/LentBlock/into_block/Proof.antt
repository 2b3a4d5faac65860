-- `into_block` makes the slice of the place and the length, and lends the memory for ever.
use Rattle.fsw_c.proofs.LentWords.{words_at, lent_told, lent_out}
use Rattle.fsw_c.proofs.LentWalks.{◌≡◌, ℕ, List, [], ◌∷◌, length, refl, sym, subst, proved, leaves, ftrue, SProp, ent, emp, id⊢, fact, fact_i, tables, u8, yes, owns, block_ptr, MutBor, types_at, plain, MutSlice, slice_val, nothing, heard, Stays, stay_dropped, walk_of, Goes-dropped, Val, WpFn, alloc_all, pass_all, free_all, look_at, get, get_in, sets, sets_last, env, ‵, raw, ◌⊛◌, at_ret, ◌$◌, ◌∵◌, !, qed, by, move, keep, drop, split, fsplit, fjoin, use0, use1, later, await, ◌*◌, ◌^◌, ◌<◌, arith, suffices, agg, sub, whole, stop, fld, of_opd, no_more, and_then, first, blocks, exec, returns, enter}
use mir.Syntax.{static}
use base.Fml.{GName, flent}
use types.Kit.{some, pick}
use types.SemTy.{cells}
use denote.Memory.{mem}
use denote.Index.{whole_in}
use denote.Lend.{lends_slice, Held}
use mathlib.Core.Bool.{true}
use Rattle.std.specs.Prelude.{is_some}
use Rattle.fsw_c.proofs.lent.LentBlock.into_block.Code as code
use Rattle.fsw_c.proofs.lent.LentBlock.into_block.Statement.{statement}
use Rattle.fsw_c.specs.contracts.lent.LentBlock as lent
use Rattle.fsw_c.specs.contracts.lent.LentBlock.into_block as f
use denote.Triple.Clauses.{at_exit}

pub into_block_spec : {M : Type 1} → statement M
into_block_spec 𝓤 𝓛 𝓜 𝓡 wired =
    let H = 𝓛.H in let 𝓣 = tables 𝓤 H 𝓜 𝓡 𝓡.env in let c = f.clauses 𝓛 𝓜.mem 𝓡.returns in
    let self = plain (λ _. lent.the_row) in let Slice = MutSlice static [] u8 in
    let hs : Stays f.ended.signature.params f.ended.kept = (stay_dropped self yes, tt) in
    proved 𝓛 f.ended hs c 𝓜 𝓡 (Goes-dropped 𝓛 0 self yes (λ κs x w. refl), tt)
    f.Key.name code.function (code.unfolded 𝓤 H 𝓜 𝓡 wired)
    (λ κs. ((λ l. words_at l.at l.len ∷ []), tt)) (λ κs. ((λ l vs so. lent_told l.at l.len vs so.0), tt)) (λ κs qs bounds a ghost are.
    let l : lent.the_row.Denot = a.0 in
    let y : (walk_of 𝓛 f.ended hs c).Ghost = ((κs, qs, bounds, a, (words_at l.at l.len ∷ [], tt)), ghost) in
    let Post : Val → SProp 𝓤 = (walk_of 𝓛 f.ended hs c).post y in
    let Run : List Val → SProp 𝓤 = λ vs. WpFn 𝓤 H 𝓣.C 𝓣.Λ code.function vs Post in
    qed 𝓛 ((‵ ftrue ⊛ ‵ (owns (types_at f.ended.signature.params κs) a y.0.4)) ∷ raw (fact 𝓤 (is_some l.bytes ≡ true)) ∷ []) ∵
    move ! (1 ∷ []) $ heard ! (is_some l.bytes ≡ true) (λ is. split ! $ drop ! $ fsplit ! $ fsplit ! $ drop ! $
    lent_out ! l.at l.len l.bytes is (λ b o xs some_bytes at len low. move ! (1 ∷ []) $ drop ! $
    -- [the bytes]
    let n : ℕ = length xs in let here : n < 2 ^ 63 = subst (λ (k : ℕ). k < 2 ^ 63) len low in
    let fits : n < 2 ^ 64 = omega (arith, here) in let small : n * 1 < 2 ^ 63 = omega (arith, here) in
    let args : List Val = words_at (block_ptr b o) n ∷ [] in
    suffices ! (Run args) (subst (λ (vs : List Val). ent 𝓤 (Run args) (Run vs)) (sym (λ i. words_at (at i) (len i) ∷ [])) (id⊢ 𝓤 (Run args))) $
    enter ! 𝓣.C 𝓣.Λ code.function args Post $ alloc_all ! (λ ls. pass_all ! refl ((tt, (tt, (record { fits = fits }, tt))), tt) $
    let Ev = env code.Mir.locals ls in
    sets ! (of_opd ! (get_in ! (fld ! refl (stop !)) (sub ! 0 refl (whole !)))) refl (tt, tt) $
    sets ! (of_opd ! (get_in ! (fld ! refl (stop !)) (sub ! 1 refl (whole !)))) refl (tt, record { fits = fits }) $
    first ! $ blocks ! $ sets_last ! (agg ! (and_then ! (get ! refl) (and_then ! (get ! refl) (no_more !)))) refl (tt, (tt, (record { fits = fits }, tt))) $
    exec ! 𝓣.C 𝓣.Λ Ev code.Mir.t-4 (at_ret Ev Post) $ sets ! (of_opd ! (get ! refl)) refl (tt, (tt, (record { fits = fits }, tt))) $
    use1 𝓛 (‵ (cells (mem u8) xs b o)) (whole_in 𝓛 u8 xs b o) $
    use1 𝓛 (later (some (λ (γ : GName). ‵ ((MutSlice static [] u8).own_val (record { ref_ptr = (b, o); ghost_name = γ; now = xs }) (slice_val (b, o) n ∷ [])) ⊛ ‵ (flent [] (Held u8 n b o γ)))))
    (lends_slice 𝓛 u8 static [] xs b o (fits, small)) $ await ! tt $ pick ! (λ γ. split ! $ move ! (1 ∷ []) $ drop ! $
    let block : MutBor (List ℕ) = record { ref_ptr = (b, o); ghost_name = γ; now = xs } in
    let Told : SProp 𝓤 = (c κs a).ensures ghost block (at_exit f.ended κs a (tt, tt)) in
    use0 𝓛 (raw Told) (fact_i 𝓤 _ (emp 𝓤) some_bytes) $
    nothing ! $ nothing ! $ fjoin ! $ nothing ! $
    returns ! (look_at ! 0 refl) $ free_all ! refl $ keep ! (0 ∷ 1 ∷ 3 ∷ 2 ∷ []) $
    by ! (leaves 𝓛 f.ended hs c y (slice_val (b, o) n) block (tt, tt) (tt, tt)))))))
