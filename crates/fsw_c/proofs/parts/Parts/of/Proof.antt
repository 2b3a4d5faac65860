-- `of` takes the box apart by `into_raw_with_allocator`; the parts own what the pointer owned.
use Rattle.fsw_c.proofs.PartsSteps.{◌≡◌, refl, sym, subst, ap, ◌∙◌, List, [], ◌∷◌, ◌++◌, Ura, Fn, Args, Dict, a_type, dcons, dnil, inst_fn, Val, vstruct, of_list, SProp, ent, id⊢, never, fst∗, ftrue, fsep, Memory, Routine, WpFn, Tables, Logic, sem, Fun, fact, tables, fm_of, WpFn-mono, Item, ⋆, ‵, raw, ◌⊛◌, some, later, ◌$◌, ◌∵◌, !, qed, by, move, drop, use1, join, split, split3, pick, rewrite, fsplit, fjoin, fpick, feq_l, suffices, await, done, whole, sub, agg, stop, fld, no_more, and_then, of_opd, returns, enter, alloc_all, pass_all, free_all, look_at, get, get_in, sets, lands_as, no, Ptr, RawPtr, block_ptr, null_ptr, ptr_val, in_a_block, bounded, plain, heard, nothing, only, Tuple, calls_at, Ended, Clauses, triple_of, Triple, Contract, entered, says, Stays, stay_dropped, walk_of, ends_at, walk_Meets, token, handle_tells, Goes-blank, box_owns, Bx, D, τ, R, P, B, word, box_typed, box_out, box_in, Parts_of, alive, outlived}
use mir.Raw.{raw as bare}
use contract.Running.{tables_of}
use Rattle.std_alloc.specs.contracts.boxed.Box.into_raw_with_allocator as Raw
use Rattle.std_alloc.proofs.boxed.Box.into_raw_with_allocator.Symbol as symbol
use Rattle.std_alloc.proofs.boxed.Box.into_raw_with_allocator.Met as opened
use Rattle.fsw_c.specs.contracts.parts.Parts.of as F
use Rattle.fsw_c.specs.contracts.parts.Parts.of.Key.{name as #self}
use Rattle.fsw_c.proofs.parts.Parts.of.Statement.{statement}
use Rattle.fsw_c.proofs.parts.Parts.of.Code as code

module _ (E : Bx) (drops : Dict) where
  abbrev at_types : Args
  at_types = bounded (a_type ∷ a_type ∷ []) (E.row, (E.al.row, tt)) (dcons E.al.d (dcons E.al.drops (dcons drops dnil)))

  abbrev its_code : Fn
  its_code = inst_fn at_types code.function

  abbrev its : Ended
  its = F.ended E.row E.al.row E.al.g E.al.d E.al.drops drops

  abbrev stayed : Stays its.signature.params its.kept
  stayed = (stay_dropped (plain (λ _. B E)) no, tt)

  module _ {M : Type 1} {𝓤 : Ura M} (𝓛 : Logic 𝓤) (at_mem : Memory → SProp 𝓤) (run : Routine → Fun 𝓤) (𝓣 : Tables 𝓤 𝓛.H) where
    open 𝓛 use {H}

    abbrev its_clauses : Clauses 𝓤 its
    its_clauses = F.clauses E.row E.al.row E.al.g E.al.d E.al.drops drops 𝓛 at_mem run

    -- the contract of `into_raw_with_allocator`
    abbrev Opens : Contract 𝓤
    Opens = triple_of 𝓛 (Raw.signature E.row E.al.row E.al.g E.al.d E.al.drops drops) (Raw.spec E.row E.al.row E.al.g E.al.d E.al.drops drops 𝓛 at_mem run)

    walk : Triple 𝓤 (𝓣.C (symbol.name at_types)) Opens → (z : (walk_of 𝓛 its stayed its_clauses).Ghost)
        → ent 𝓤 ((walk_of 𝓛 its stayed its_clauses).pre z) (WpFn 𝓤 H 𝓣.C 𝓣.Λ its_code (z.0.4.0 ++ []) ((walk_of 𝓛 its stayed its_clauses).post z))
    walk is_opened z =
        let Post = (walk_of 𝓛 its stayed its_clauses).post z in
        let d = z.0.3.0 in
        let lives : Item 𝓤 = alive z.0.0.0 z.0.1.0 z.0.0.1.0 z.0.1.1.0 in
        let bounds : Item 𝓤 = outlived E z.0.0.0 z.0.0.1.0 in
        qed 𝓛 ((lives ⊛ ‵ (fsep ((B E).own_val d z.0.4.0) ftrue)) ∷ bounds ∷ []) ∵
        split ! $ move ! (1 ∷ []) $ fsplit ! $
        -- the box is one machine value
        box_out E ! d z.0.4.0 (λ b o handle e is_word fits. box_in E ! d b o d.value e refl $
        let w = word E handle b o in
        let Γ : List (Item 𝓤) = ‵ ((B E).own_val d (w ∷ [])) ∷ ‵ ftrue ∷ lives ∷ bounds ∷ [] in
        let y : Opens.Ghost = ((z.0.0, z.0.1, tt, (d, tt), (w ∷ [], tt)), tt) in
        by ! (subst (λ (us : List Val). ent 𝓤 (⋆ 𝓛 Γ) (WpFn 𝓤 H 𝓣.C 𝓣.Λ its_code (us ++ []) Post)) (sym is_word)
        (qed 𝓛 Γ ∵ enter ! 𝓣.C 𝓣.Λ its_code (w ∷ []) _ $ alloc_all ! (λ ls. pass_all ! refl (box_typed E handle b o fits, tt) $ sets ! (of_opd ! (get ! refl)) refl (box_typed E handle b o fits) $
        fjoin ! $ move ! (1 ∷ 0 ∷ []) $ join ! $ join ! $ use1 𝓛 (raw (Opens.pre y)) (id⊢ 𝓤 _) $
        calls_at ! (fm_of 𝓤 H 𝓛.laws 𝓣) Opens is_opened y (and_then ! (get ! refl) (no_more !)) (λ u.
        use1 𝓛 (later (some (λ (r : Ptr × E.al.row.Denot). (lives ⊛ ‵ ((Tuple (RawPtr ∷ P E ∷ [])).own_val r (u ∷ []))) ⊛ some (λ (_ : (Unit {0} × (Unit {0} × Unit {0})) × Unit {0}). ‵ (fsep (fsep ftrue (fsep ftrue ftrue)) ftrue) ⊛ (raw (fact 𝓤 (r.1 ≡ d.alloc)) ⊛ ‵ (box_owns (token E.al d.alloc) (R E) r.0 d.value)))))) (id⊢ 𝓤 _) $
        await ! tt $ pick ! (λ r. split ! $ move ! (1 ∷ []) $ pick ! (λ _. split3 ! $ drop ! $ heard ! (r.1 ≡ d.alloc) (λ same.
        -- the pointer isn't null, since it owns a value
        in_a_block ! r.0 (λ p. box_owns (token E.al d.alloc) (R E) p d.value) (fst∗ 𝓤 (never 𝓤) (sem 𝓛 (token E.al d.alloc (bare (τ E)) null_ptr))) (λ b' o' e'.
        move ! (1 ∷ []) $ split ! $ move ! (1 ∷ []) $ fpick ! (λ fields. fsplit ! $ feq_l ! (λ is_pair. fsplit ! $ feq_l ! (λ is_ptr. fsplit ! $
        rewrite ! 0 (λ (s : E.al.row.Denot). ‵ (E.al.row.own_val s fields.1.0)) same refl $ handle_tells E.al ! d.alloc fields.1.0 (λ handle' is_handle fits'.
        let boxed : D E = record { ptr = block_ptr b' o'; alloc = d.alloc; value = d.value } in
        let parts : (Parts_of E).Denot = record { ptr = block_ptr b' o'; alloc = d.alloc; value = d.value } in
        lands_as ! (ap only (is_pair ∙ (λ j. vstruct (of_list ((is_ptr ∙ ap (λ (p : Ptr). ptr_val p ∷ []) e') j ++ (is_handle j ++ []))) ∷ []))) refl (box_typed E handle' b' o' fits') $
        -- the pair apart, and the parts made of both
        sets ! (of_opd ! (get_in ! (fld ! refl (stop !)) (sub ! 0 refl (whole !)))) refl (tt, tt) $ sets ! (of_opd ! (get_in ! (fld ! refl (stop !)) (sub ! 1 refl (whole !)))) refl fits' $ sets ! (of_opd ! (get ! refl)) refl fits' $
        sets ! (agg ! (and_then ! (get ! refl) (and_then ! (get ! refl) (no_more !)))) refl (box_typed E handle' b' o' fits') $ returns ! (look_at ! 0 refl) $ free_all ! refl $
        -- [the handle; true; the lifetimes; what the pointer owns]
        move ! (3 ∷ []) $ fsplit ! $ box_in E ! boxed b' o' d.value refl refl $ use1 𝓛 (‵ ((Parts_of E).own_val parts (word E handle' b' o' ∷ []))) (id⊢ 𝓤 _) $ move ! (1 ∷ []) $ drop ! $
        suffices ! _ (ends_at 𝓛 its stayed its_clauses z (word E handle' b' o') parts ((tt, (tt, tt)), tt) (tt, tt)) $ says ! refl $
        nothing ! $ nothing ! $ fjoin ! $ join ! $ move ! (1 ∷ 0 ∷ []) $ join ! $ done !)))))))))))))

pub of_spec : {M : Type 1} → statement M
unfolding tables_of
of_spec 𝓤 𝓛 𝓜 𝓡 wired X Z LX LZ g d alloc_drops drops allocator md glue =
    let E : Bx = record { row = X; laws = LX; al = record { row = Z; laws = LZ; g = g; d = d; drops = alloc_drops } } in
    let 𝓣 : Tables 𝓤 𝓛.H = tables_of 𝓤 𝓛.H 𝓜 (tables 𝓤 𝓛.H 𝓜 𝓡 𝓡.env) in
    let fn = its_code E drops in
    entered 𝓤 𝓛.H (triple_of 𝓛 (its E drops).signature (F.spec X Z g d alloc_drops drops 𝓛 𝓜.mem 𝓡.returns)) 𝓣.C 𝓣.Λ (#self (at_types E drops)) fn (code.unfolded 𝓤 𝓛.H 𝓜 𝓡 wired (X, (Z, tt)) d alloc_drops drops)
    (walk_Meets 𝓛 (its E drops) (stayed E drops) (Goes-blank 𝓛 2 (plain (λ _. B E)) no (λ κs x f. tt), tt) (its_clauses E drops 𝓛 𝓜.mem 𝓡.returns 𝓣) (WpFn 𝓤 𝓛.H 𝓣.C 𝓣.Λ fn) (WpFn-mono 𝓤 𝓛.H 𝓛.laws 𝓣 fn)
    (walk E drops 𝓛 𝓜.mem 𝓡.returns 𝓣 (opened.met 𝓤 𝓛 𝓜 𝓡 (code.calls-std_alloc::boxed::Box::into_raw_with_allocator 𝓡.env wired) X Z LX LZ g d alloc_drops drops allocator md glue)))
