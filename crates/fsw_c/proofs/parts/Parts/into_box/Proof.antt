-- The parts own what the box owns: `into_box` reads both fields and gives what they own to `from_raw`.
use Rattle.fsw_c.proofs.PartsSteps.{◌≡◌, refl, sym, subst, ap, List, [], ◌∷◌, ◌++◌, T, Ura, Fn, Body, place, copy, assign, rv_opd, seq, return, inst_fn, Val, vptr, has_ty, WT, SProp, ent, id⊢, ftrue, fsep, Memory, Routine, WpFn, Tables, Logic, Fun, fact, tables, fm_of, WpFn-mono, Item, at_ret, ⋆, ‵, raw, ◌⊛◌, some, later, ◌$◌, ◌∵◌, !, qed, by, move, drop, use1, join, split, split3, pick, rewrite, fsplit, fjoin, feq_i, suffices, await, done, whole, sub, stop, fld, no_more, and_then, of_opd, returns, enter, first, blocks, exec, alloc_all, pass_all, free_all, look_at, get, get_in, sets, lands_last, env, no, block_ptr, plain, heard, nothing, only, calls_at_last, Ended, Clauses, triple_of, Triple, Contract, entered, says, Stays, stay_dropped, walk_of, ends_at, walk_Meets, token, Goes-blank, box_owns, Bx, D, R, P, B, args, box_ty, word, box_typed, box_out, box_in, Parts_of, alive, outlived}
use contract.Running.{tables_of}
use Rattle.std_alloc.specs.contracts.boxed.Box.from_raw as Made
use Rattle.std_alloc.proofs.boxed.Box.from_raw.Symbol as symbol
use Rattle.std_alloc.proofs.boxed.Box.from_raw.Met as made
use Rattle.fsw_c.specs.contracts.parts.Parts.into_box as F
use Rattle.fsw_c.specs.contracts.parts.Parts.into_box.Key.{name as #self}
use Rattle.fsw_c.proofs.parts.Parts.into_box.Statement.{statement}
use Rattle.fsw_c.proofs.parts.Parts.into_box.Code as code

-- what is left once `from_raw` has answered
abbrev rest : Body
rest = seq (assign (place 0 []) (rv_opd (copy (place 4 [])))) return

module _ (E : Bx) where
  abbrev its_code : Fn
  its_code = inst_fn (args E) code.function

  abbrev its : Ended
  its = F.ended E.row E.al.row E.al.g E.al.d E.al.drops

  abbrev stayed : Stays its.signature.params its.kept
  stayed = (stay_dropped (plain (λ _. Parts_of E)) no, tt)

  module _ {M : Type 1} {𝓤 : Ura M} (𝓛 : Logic 𝓤) (at_mem : Memory → SProp 𝓤) (run : Routine → Fun 𝓤) (𝓣 : Tables 𝓤 𝓛.H) where
    open 𝓛 use {H}

    abbrev its_clauses : Clauses 𝓤 its
    its_clauses = F.clauses E.row E.al.row E.al.g E.al.d E.al.drops 𝓛 at_mem run

    -- the contract of `from_raw`
    abbrev Makes : Contract 𝓤
    Makes = triple_of 𝓛 (Made.signature E.row E.al.row E.al.g E.al.d E.al.drops) (Made.spec E.row E.al.row E.al.g E.al.d E.al.drops 𝓛 at_mem run)

    walk : Triple 𝓤 (𝓣.C (symbol.name (args E))) Makes → (z : (walk_of 𝓛 its stayed its_clauses).Ghost)
        → ent 𝓤 ((walk_of 𝓛 its stayed its_clauses).pre z) (WpFn 𝓤 H 𝓣.C 𝓣.Λ its_code (z.0.4.0 ++ []) ((walk_of 𝓛 its stayed its_clauses).post z))
    walk is_made z =
        let Post = (walk_of 𝓛 its stayed its_clauses).post z in
        let d : D E = record { ptr = z.0.3.0.ptr; alloc = z.0.3.0.alloc; value = z.0.3.0.value } in
        let lives : Item 𝓤 = alive z.0.0.0 z.0.1.0 z.0.0.1.0 z.0.1.1.0 in
        let bounds : Item 𝓤 = outlived E z.0.0.0 z.0.0.1.0 in
        qed 𝓛 ((lives ⊛ ‵ (fsep ((B E).own_val d z.0.4.0) ftrue)) ∷ bounds ∷ []) ∵
        split ! $ move ! (1 ∷ []) $ fsplit ! $
        box_out E ! d z.0.4.0 (λ b o handle e is_word fits. fjoin ! $
        let w = word E handle b o in
        let Γ : List (Item 𝓤) = ‵ (box_owns (token E.al d.alloc) (R E) (block_ptr b o) d.value) ∷ ‵ ((P E).own_val d.alloc (handle ∷ [])) ∷ ‵ ftrue ∷ lives ∷ bounds ∷ [] in
        let y : Makes.Ghost = ((z.0.0, z.0.1, tt, (d.alloc, (block_ptr b o, tt)), (handle ∷ [], (vptr b o ∷ [], tt))), d.value) in
        by ! (subst (λ (us : List Val). ent 𝓤 (⋆ 𝓛 Γ) (WpFn 𝓤 H 𝓣.C 𝓣.Λ its_code (us ++ []) Post)) (sym is_word)
        (qed 𝓛 Γ ∵ enter ! 𝓣.C 𝓣.Λ its_code (w ∷ []) _ $ alloc_all ! (λ ls. pass_all ! refl (box_typed E handle b o fits, tt) $
        -- the pointer, then the allocator, each into a local of its own; the allocator again for the call
        sets ! (of_opd ! (get_in ! (fld ! refl (stop !)) (sub ! 0 refl (whole !)))) refl (tt, tt) $
        sets ! (of_opd ! (get_in ! (fld ! refl (stop !)) (sub ! 1 refl (whole !)))) refl fits $
        first ! $ blocks ! $ sets ! (of_opd ! (get ! refl)) refl fits $
        -- [what the pointer owns; the handle; true; the lifetimes; the bounds]: in the order of what `from_raw` requires
        move ! (4 ∷ []) $ split3 ! $ move ! (2 ∷ []) $ drop ! $ move ! (1 ∷ 2 ∷ []) $ join ! $ move ! (1 ∷ 0 ∷ []) $ join ! $
        move ! (2 ∷ []) $ feq_i ! (List Val) (vptr b o ∷ []) (vptr b o ∷ []) refl $ fjoin ! $ move ! (2 ∷ 0 ∷ []) $ fjoin ! $ move ! (2 ∷ 0 ∷ []) $ join ! $ join ! $
        use1 𝓛 (raw (Makes.pre y)) (id⊢ 𝓤 _) $
        calls_at_last ! (fm_of 𝓤 H 𝓛.laws 𝓣) Makes is_made y (and_then ! (get ! refl) (and_then ! (get ! refl) (no_more !))) (λ u.
        use1 𝓛 (later (some (λ (r : D E). (lives ⊛ ‵ ((B E).own_val r (u ∷ []))) ⊛ some (λ (_ : Unit {0} × (Unit {0} × Unit {0})). ‵ (fsep ftrue (fsep ftrue ftrue)) ⊛ (raw (fact 𝓤 (r.value ≡ d.value)) ⊛ raw (fact 𝓤 (r.alloc ≡ d.alloc))))))) (id⊢ 𝓤 _) $
        await ! tt $ pick ! (λ r. split ! $ move ! (1 ∷ []) $ pick ! (λ _. split3 ! $ drop ! $ heard ! (r.value ≡ d.value) (λ same. drop ! $ split ! $ move ! (1 ∷ []) $
        -- the box is one machine value, which goes into the result
        box_out E ! r (u ∷ []) (λ b' o' handle' e' is_word' fits'. box_in E ! r b' o' r.value e' refl $ rewrite ! 0 (λ (us : List Val). ‵ ((B E).own_val r us)) (sym is_word') refl $
        let typed : T (has_ty (box_ty E) u) × WT u = subst (λ (s : Val). T (has_ty (box_ty E) s) × WT s) (sym (ap only is_word')) (box_typed E handle' b' o' fits') in
        lands_last ! refl typed $ exec ! 𝓣.C 𝓣.Λ (env its_code.locals ls) rest (at_ret (env its_code.locals ls) Post) $
        sets ! (of_opd ! (get ! refl)) refl typed $ returns ! (look_at ! 0 refl) $ free_all ! refl $
        suffices ! _ (ends_at 𝓛 its stayed its_clauses z u r ((tt, (tt, tt)), tt) (tt, tt)) $ says ! same $
        nothing ! $ nothing ! $ fjoin ! $ join ! $ move ! (1 ∷ 0 ∷ []) $ join ! $ done !)))))))))

pub into_box_spec : {M : Type 1} → statement M
unfolding tables_of
into_box_spec 𝓤 𝓛 𝓜 𝓡 wired X Z LX LZ g d drops allocator md =
    let E : Bx = record { row = X; laws = LX; al = record { row = Z; laws = LZ; g = g; d = d; drops = drops } } in
    let 𝓣 : Tables 𝓤 𝓛.H = tables_of 𝓤 𝓛.H 𝓜 (tables 𝓤 𝓛.H 𝓜 𝓡 𝓡.env) in
    let fn = its_code E in
    entered 𝓤 𝓛.H (triple_of 𝓛 (its E).signature (F.spec X Z g d drops 𝓛 𝓜.mem 𝓡.returns)) 𝓣.C 𝓣.Λ (#self (args E)) fn (code.unfolded 𝓤 𝓛.H 𝓜 𝓡 wired (X, (Z, tt)) d drops)
    (walk_Meets 𝓛 (its E) (stayed E) (Goes-blank 𝓛 2 (plain (λ _. Parts_of E)) no (λ κs x f. tt), tt) (its_clauses E 𝓛 𝓜.mem 𝓡.returns 𝓣) (WpFn 𝓤 𝓛.H 𝓣.C 𝓣.Λ fn) (WpFn-mono 𝓤 𝓛.H 𝓛.laws 𝓣 fn)
    (walk E 𝓛 𝓜.mem 𝓡.returns 𝓣 (made.met 𝓤 𝓛 𝓜 𝓡 (code.calls-std_alloc::boxed::Box::from_raw 𝓡.env wired) X Z LX LZ g d drops allocator md)))
