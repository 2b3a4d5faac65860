-- `buffer_mut` lends the open bytes of one block of a bag, if it is there. The borrow checker shows no write-back clause for an `Option` of a slice, so this proof walks the code by hand: the bag is lent again to look the block up, and then as a whole.
use Rattle.std.proofs.Common.{◌≡◌, ℕ, ◌*◌, ◌^◌, List, [], ◌∷◌, length, refl, sym, ap, ◌∙◌, lit<, w64, Bool, true, false, not, Some, None}
use Rattle.std.proofs.raw_atomic.Walks.{proved, leaves}
use lib.Dec.{T}
use base.Fml.{Lft, GName, Share, Fml, ftrue, fsep, flft, fres, fdead}
use base.Fraction.{full_share, left, right}
use base.FractionLaws.{common}
use base.Logic.{SProp, sep, emp, wand, apply∗, id⊢}
use mir.Syntax.{named, a_type, dcons, dnil}
use mir.MapTy.{inst_fn}
use mir.Val.{Val, vptr, vint, of_list}
use contract.BorrowLft.{◌⊑◌, ⊑_trans, meet_⊑_left, meet_⊑_right}
use contract.Monad.{fact, fact_i}
use contract.Running.{tables}
use types.Kit.{‵, raw, ◌⊛◌, some, later, at_ret, ◌$◌, ◌∵◌, !, qed, by, move, keep, drop, split, split3, join, fsplit, fsplit3, fjoin, fjoin3, feq_i, feq_l, flt_i, flt_l, use0, use1, use2, use3, await, pick, rewrite}
use types.Match.{live}
use types.Part.{agg}
use types.Run.{stop, addr, lit, first, branches, skips, exec, returns, returns_within, no_more, and_then, enter}
use types.ByLocal.{alloc_all, pass_all, free_all, look_at, get, through, sets, lands_as, env}
use types.Tokens.{lft_new, lft_end, lft-common}
use denote.Array.{Array}
use denote.Builtin.{RefMutOf, u8, u64, bool}
use denote.Exit.{yes, no}
use denote.Follow.{follows, follows_by}
use denote.Lend.{lends_again, comes_back, LentAgain}
use denote.Param.{param, bounded}
use denote.Plain.{uint_vals, uint_Tells, uint_Makes}
use denote.RattleType.{RattleType, owns}
use denote.Ref.{MutBor, MutRef, mut_vals, mut_Tells}
use denote.Signature.{plain, types_at}
use denote.Slice.{MutSlice, mut_slice_vals, slice_val}
use denote.Steps.{nothing, owned, heard, only as the_one}
use denote.Triple.Call.{calls_at}
use denote.Triple.Clauses.{lasts}
use denote.Triple.Spec.{triple_of}
use denote.Triple.Table.{framed}
use denote.Triple.Walked.{Stays, stay_dropped, walk_of, Goes-dropped, Goes-spent_ref}
use Rattle.std_alloc.proofs.VecSteps.Element.{Some-of, none_of}
use Rattle.std.specs.Option.{is_some, IsSome}
use Rattle.std_alloc.proofs.VecSteps.Shapes.{after}
use Rattle.buf_desc.specs.Held.{buffer_at, bytes_at, with_bytes_at}
use Rattle.std.specs.contracts.option.Option as option
use Rattle.buf_desc.specs.contracts.held.Bag as bag
use Rattle.buf_desc.specs.contracts.held.Bag.buffer_mut as f
use Rattle.buf_desc.specs.contracts.held.Bag.holds_buffer as looks
use Rattle.buf_desc.specs.contracts.held.Bag.bytes_of_mut as lends
use Rattle.buf_desc.proofs.held.Bag.buffer_mut.Code as code
use Rattle.buf_desc.proofs.held.Bag.buffer_mut.Statement.{statement}
use Rattle.buf_desc.proofs.held.Bag.holds_buffer.Met as looks_met
use Rattle.buf_desc.proofs.held.Bag.bytes_of_mut.Met as lends_met

is_true : (t : Bool) → T t → t ≡ true
is_true true h = refl
is_true false h = absurd h

is_false : (t : Bool) → T (not t) → t ≡ false
is_false true h = absurd h
is_false false h = refl

pub buffer_mut_spec : {M : Type 1} → statement M
unfolding follows_by
buffer_mut_spec 𝓤 𝓛 𝓜 𝓡 wired S V LS LV ms dm ds dv bm bs bv =
    let H = 𝓛.H in let A = 𝓛.A in let 𝓣 = tables 𝓤 H 𝓜 𝓡 𝓡.env in
    let En = f.ended S V ms dm ds dv in let c = f.clauses S V ms dm ds dv 𝓛 𝓜.mem 𝓡.returns in
    let inst = bounded (a_type ∷ a_type ∷ []) (S, (V, tt)) (dcons dm (dcons ds (dcons dv dnil))) in let fn = inst_fn inst code.function in
    let B : RattleType = bag.the_row (param 0 S) (param 1 V) ms in
    let self = RefMutOf (0 ∷ []) tt (plain (λ _. B)) (λ _. tt) in let count = plain (λ _. u64) in
    let hs : Stays En.signature.params En.kept = (stay_dropped self no, (stay_dropped count yes, tt)) in
    proved 𝓛 En hs c 𝓜 𝓡 (Goes-spent_ref 𝓛 3 (0 ∷ []) tt (plain (λ _. B)), (Goes-dropped 𝓛 3 count yes (λ κs x w. refl), tt))
    (f.Key.name inst) fn (code.unfolded 𝓤 H 𝓜 𝓡 wired (S, (V, tt)) dm ds dv)
    (λ κs. (mut_vals, (uint_vals w64, tt))) (λ κs. (mut_Tells (named 0) κs.0 B, (uint_Tells w64, tt))) (λ κs qs bounds a ghost are.
    let κ : Lft = κs.0 in let κS : Lft = κs.1.0 in let κV : Lft = κs.1.1.0 in let q : Share = qs.0 in let qS : Share = qs.1.0 in let qV : Share = qs.1.1.0 in
    let s = a.0 in let b : ℕ = s.ref_ptr.0 in let o : ℕ = s.ref_ptr.1 in let γ : GName = s.ghost_name in let x = s.now in let n : ℕ = a.1.0 in let fm = are.1.0.1 in
    let y : (walk_of 𝓛 En hs c).Ghost = ((κs, qs, bounds, a, (vptr b o ∷ [], (vint w64 n ∷ [], tt))), ghost) in
    let Post : Val → SProp 𝓤 = (walk_of 𝓛 En hs c).post y in
    let others : Fml = fsep (flft κS qS) (fsep (flft κV qV) ftrue) in
    let Ref = λ (ν : Lft) (δ : GName). (MutRef (named 0) ν B).own_val (record { ref_ptr = (b, o); ghost_name = δ; now = x }) (vptr b o ∷ []) in
    let Sl : RattleType = MutSlice (named 0) κ u8 in
    let is_there = is_some (buffer_at x n) in
    qed 𝓛 (((‵ (flft κ q) ⊛ ‵ others) ⊛ ‵ (owns (types_at En.signature.params κs) a y.0.4)) ∷ (raw (fact 𝓤 (κS ⊑ S.lives)) ⊛ raw (fact 𝓤 (κV ⊑ V.lives)) ⊛ ‵ ftrue) ∷ []) ∵
    move ! (1 ∷ []) $ split3 ! $ heard ! (κS ⊑ S.lives) (λ inS. heard ! (κV ⊑ V.lives) (λ inV. drop ! $ split ! $ split ! $ move ! (2 ∷ []) $ fsplit ! $ keep ! (0 ∷ 2 ∷ 3 ∷ []) $
    -- [self; the token of κ; the others]
    enter ! 𝓣.C 𝓣.Λ fn (vptr b o ∷ vint w64 n ∷ []) Post $
    alloc_all ! (λ l. pass_all ! refl ((tt, tt), ((tt, record { fits = fm }), tt)) $
    sets ! (addr ! (through ! refl (stop !))) refl (tt, tt) $
    lft_new ! tt (λ α. let ν : Lft = α ∷ κ in let ql : Share = left q in let qr : Share = right q in let r : Share = (common full_share qr).0 in
    let Both = sep 𝓤 (A.lft (α ∷ []) full_share) (A.lft κ qr) in
    -- [the token of α; self; the token of κ; the others]
    move ! (2 ∷ []) $ use1 𝓛 (‵ (flft κ ql) ⊛ ‵ (flft κ qr)) (𝓛.lfts.lft_split κ q) $ split ! $ move ! (2 ∷ 1 ∷ []) $
    use2 𝓛 (‵ (flft ν r) ⊛ raw (wand 𝓤 (A.lft ν r) Both)) (lft-common 𝓛 (α ∷ []) κ full_share qr) $ split ! $ move ! (3 ∷ 2 ∷ []) $
    use2 𝓛 (later (some (λ (δ : GName). ‵ (Ref ν δ) ⊛ ‵ (LentAgain B κ ν ql γ b o δ x)))) (lends_again 𝓛 B (named 0) κ ν ql γ b o (named 0) x) $ await ! tt $ pick ! (λ δ. split ! $
    -- [the loan; what self keeps; the token of ν; the way back; the others]
    let G = triple_of 𝓛 (looks.signature S V ms dm ds dv) (looks.spec S V ms dm ds dv 𝓛 𝓜.mem 𝓡.returns) in
    let z : G.Ghost = (((ν, (κS, (κV, tt))), (r, (qS, (qV, tt))), (⊑_trans ν κ κS (meet_⊑_right (α ∷ []) κ) bounds.0, (⊑_trans ν κ κV (meet_⊑_right (α ∷ []) κ) bounds.1.0, tt)), (record { ref_ptr = (b, o); ghost_name = δ; now = x }, (n, tt)), (vptr b o ∷ [], (vint w64 n ∷ [], tt))), tt) in
    nothing ! $ use0 𝓛 (raw (fact 𝓤 (κV ⊑ V.lives))) (fact_i 𝓤 (κV ⊑ V.lives) (emp 𝓤) inV) $ join ! $ use0 𝓛 (raw (fact 𝓤 (κS ⊑ S.lives))) (fact_i 𝓤 (κS ⊑ S.lives) (emp 𝓤) inS) $ join ! $
    nothing ! $ owned ! u64 _ (uint_Makes 𝓛 w64) n _ (refl, fm) $ join ! $ move ! (2 ∷ 0 ∷ []) $ join ! $
    -- [what the arguments own; the requires; what self keeps; the token of ν; the way back; the others]
    move ! (3 ∷ 5 ∷ []) $ join ! $ join ! $ use2 𝓛 (raw (G.pre z)) (id⊢ 𝓤 _) $
    calls_at ! (framed 𝓤 H 𝓜 𝓣) G (looks_met.met 𝓤 𝓛 𝓜 𝓡 (code.calls-buf_desc::held::Bag::holds_buffer 𝓡.env wired) S V LS LV ms dm ds dv bm bs bv) z
    (and_then ! (get ! refl) (and_then ! (get ! refl) (no_more !))) (λ v.
    use1 𝓛 (later (some (λ (t : Bool). ((‵ (flft ν r) ⊛ ‵ others) ⊛ ‵ (bool.own_val t (v ∷ []))) ⊛
    some (λ (ws : B.Denot × (Unit {0} × Unit {0})). ‵ (lasts (looks.ended S V ms dm ds dv) z.0.0 z.0.3 ws) ⊛ (raw (fact 𝓤 (t ≡ is_there)) ⊛ raw (fact 𝓤 (ws.0 ≡ x))))))) (id⊢ 𝓤 _) $
    await ! tt $ pick ! (λ t. split ! $ split ! $ split ! $ move ! (2 ∷ []) $ feq_l ! (λ is_bool.
    lands_as ! (ap the_one is_bool) refl (tt, tt) $
    move ! (2 ∷ []) $ pick ! (λ ws. split ! $ move ! (1 ∷ []) $ split ! $ heard ! (t ≡ is_there) (λ answer. heard ! (ws.0 ≡ x) (λ same. fsplit ! $ fsplit ! $
    rewrite ! 0 (λ (m : B.Denot). ‵ (fres δ (B.coded.code m))) same refl $
    -- [the loan's last value; its borrow; nothing; the token of ν; the others; what self keeps; the way back]
    move ! (3 ∷ 6 ∷ []) $ use2 𝓛 (‵ (flft (α ∷ []) full_share) ⊛ ‵ (flft κ qr)) (apply∗ 𝓤 (A.lft ν r) Both) $ split ! $ lft_end ! tt $
    use1 𝓛 (‵ (fdead ν)) (𝓛.lfts.dead-incl ν (α ∷ []) (meet_⊑_left (α ∷ []) κ)) $
    -- [ν is over; the right half of the token; the loan's last value; its borrow; nothing; the others; what self keeps]
    move ! (0 ∷ 6 ∷ 2 ∷ []) $ use3 𝓛 (later (‵ (Ref κ γ) ⊛ ‵ (flft κ ql))) (comes_back 𝓛 B (named 0) κ ν ql γ b o δ x x) $ await ! tt $ split ! $
    move ! (1 ∷ 2 ∷ []) $ use2 𝓛 (‵ (flft κ q)) (𝓛.lfts.lft_join κ q) $ move ! (2 ∷ 3 ∷ []) $ drop ! $ drop ! $
    -- [the token of κ; self; the others]
    first ! $ branches ! (get ! refl)
    (λ yes_there.
    let G₂ = triple_of 𝓛 (lends.signature S V ms dm ds dv) (lends.spec S V ms dm ds dv 𝓛 𝓜.mem 𝓡.returns) in
    let z₂ : G₂.Ghost = ((κs, qs, bounds, a, (vptr b o ∷ [], (vint w64 n ∷ [], tt))), tt) in
    let found : is_there ≡ true = sym answer ∙ is_true t yes_there in
    sets ! (addr ! (through ! refl (stop !))) refl (tt, tt) $
    use0 𝓛 (raw (fact 𝓤 (IsSome (buffer_at x n)))) (fact_i 𝓤 (IsSome (buffer_at x n)) (emp 𝓤) found) $ use0 𝓛 (raw (fact 𝓤 (κV ⊑ V.lives))) (fact_i 𝓤 (κV ⊑ V.lives) (emp 𝓤) inV) $ join ! $ use0 𝓛 (raw (fact 𝓤 (κS ⊑ S.lives))) (fact_i 𝓤 (κS ⊑ S.lives) (emp 𝓤) inS) $ join ! $
    nothing ! $ owned ! u64 _ (uint_Makes 𝓛 w64) n _ (refl, fm) $ join ! $ move ! (3 ∷ 0 ∷ []) $ join ! $
    -- [what the arguments own; the requires; the token of κ; the others]
    move ! (2 ∷ 3 ∷ []) $ join ! $ join ! $ use2 𝓛 (raw (G₂.pre z₂)) (id⊢ 𝓤 _) $
    calls_at ! (framed 𝓤 H 𝓜 𝓣) G₂ (lends_met.met 𝓤 𝓛 𝓜 𝓡 (code.calls-buf_desc::held::Bag::bytes_of_mut 𝓡.env wired) S V LS LV ms dm ds dv bm bs bv) z₂
    (and_then ! (get ! refl) (and_then ! (get ! refl) (no_more !))) (λ u.
    use1 𝓛 (later (some (λ (h : MutBor (List ℕ)). ((‵ (flft κ q) ⊛ ‵ others) ⊛ ‵ (Sl.own_val h (u ∷ []))) ⊛
    some (λ (ws₂ : Unit {0} × (Unit {0} × Unit {0})). ‵ (lasts (lends.ended S V ms dm ds dv) z₂.0.0 z₂.0.3 ws₂) ⊛ (‵ (follows B (Array u8 0) γ h.ghost_name (with_bytes_at x n)) ⊛ raw (fact 𝓤 (h.now ≡ bytes_at x n))))))) (id⊢ 𝓤 _) $
    await ! tt $ pick ! (λ h. split ! $ split ! $ split ! $ move ! (3 ∷ []) $ pick ! (λ ws₂. split ! $ drop ! $ split ! $ move ! (1 ∷ []) $ heard ! (h.now ≡ bytes_at x n) (λ value. move ! (3 ∷ []) $
    -- [the slice; how self follows it; the token of κ; the others]
    fsplit3 ! $ fsplit3 ! $ feq_l ! (λ is_slice. flt_l ! (λ fits. flt_l ! (λ small.
    lands_as ! (ap the_one is_slice) refl (tt, (tt, (record { fits = fits }, tt))) $
    flt_i ! (length h.now * 1) (2 ^ 63) small $ flt_i ! (length h.now) (2 ^ 64) fits $ feq_i ! (List Val) (mut_slice_vals h) (mut_slice_vals h) refl $ fjoin3 ! $ fjoin3 ! $
    let out : Val = slice_val h.ref_ptr (length h.now) in
    sets ! (agg ! (and_then ! (lit ! tt) (and_then ! (get ! refl) (no_more !)))) refl (tt, (record { fits = lit< tt }, ((tt, (record { fits = fits }, tt)), tt))) $
    returns_within ! Post refl (look_at ! 0 refl) $ free_all ! refl $ keep ! (0 ∷ 1 ∷ 2 ∷ 3 ∷ []) $
    use1 𝓛 (‵ ((option.the_row Sl).own_val (Some h) (live 1 (of_list (out ∷ [])) ∷ []))) (Some-of 𝓛 Sl h out) $
    use0 𝓛 (raw (fact 𝓤 (h.now ≡ bytes_at x n))) (fact_i 𝓤 (h.now ≡ bytes_at x n) (emp 𝓤) value) $ use0 𝓛 (raw (fact 𝓤 (true ≡ is_there))) (fact_i 𝓤 (true ≡ is_there) (emp 𝓤) (sym found)) $ join ! $
    move ! (2 ∷ 0 ∷ []) $ join ! $ move ! (2 ∷ 3 ∷ []) $ join ! $ nothing ! $ nothing ! $ fjoin ! $ nothing ! $ fjoin ! $ keep ! (1 ∷ 0 ∷ 3 ∷ 2 ∷ []) $
    by ! (leaves 𝓛 En hs c y (live 1 (of_list (out ∷ []))) (Some h) (tt, (tt, tt)) (tt, (tt, tt)))))))))))
    (λ not_there. skips ! $ exec ! 𝓣.C 𝓣.Λ (env fn.locals l) (after 3 fn.body) (at_ret (env fn.locals l) Post) $
    sets ! (agg ! (and_then ! (lit ! tt) (no_more !))) refl (tt, (record { fits = lit< tt }, tt)) $
    move ! (1 ∷ []) $ fsplit3 ! $ drop ! $ use1 𝓛 (‵ (fres γ (B.coded.code x))) (𝓛.names.obs-res γ (B.coded.code x)) $ move ! (1 ∷ []) $ drop ! $
    -- [the last value of self; the token of κ; the others]
    returns ! (look_at ! 0 refl) $ free_all ! refl $ keep ! (0 ∷ 1 ∷ 2 ∷ []) $
    use0 𝓛 (‵ ((option.the_row Sl).own_val None (live 0 (of_list []) ∷ []))) (none_of 𝓛 Sl) $
    use0 𝓛 (raw (fact 𝓤 (Unit {0}))) (fact_i 𝓤 (Unit {0}) (emp 𝓤) tt) $ use0 𝓛 (raw (fact 𝓤 (false ≡ is_there))) (fact_i 𝓤 (false ≡ is_there) (emp 𝓤) (sym (is_false t not_there) ∙ answer)) $ join ! $
    move ! (2 ∷ 0 ∷ []) $ join ! $ move ! (2 ∷ 3 ∷ []) $ join ! $ nothing ! $ nothing ! $ fjoin ! $ nothing ! $ fjoin ! $ keep ! (1 ∷ 0 ∷ 3 ∷ 2 ∷ []) $
    by ! (leaves 𝓛 En hs c y (live 0 (of_list [])) None (tt, (tt, tt)) (tt, (tt, tt))))))))))))))))
