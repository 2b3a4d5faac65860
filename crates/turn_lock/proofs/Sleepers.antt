-- No sleeper is forgotten after a seat stepped.
use Rattle.std.proofs.Common.{◌≡◌, ◌≢◌, ◌⊎◌, ℕ, Bool, true, List, [], ◌∷◌, ◌++◌, set, refl, sym, ap, ◌∙◌, subst, ⊎_elim, inl, inr, Some}
use mathlib.Core.Option.{some, some-injective}
use lib.ListN.{get_elem?}
use Rattle.atomic_table.proofs.Lists.{set_here, set_else, at_longer}
use Rattle.turn_lock.specs.declared.rule.Way.{Way}
use Rattle.turn_lock.specs.declared.rule.Way.TheVariants.{AsFound, ToSleep, ToRing}
use Rattle.turn_lock.specs.declared.view.View.{View}
use Rattle.turn_lock.specs.Views.{is_away, is_owing, passed_place}
use Rattle.turn_lock.specs.Rule.{IsRingDue, AreRemembered}
use Rattle.turn_lock.specs.Steps.{MayLeave}
use Rattle.turn_lock.proofs.ViewLists.{inside, each_set, each_push}

module _ {F E : Type 0} where
  -- who has yet to ring still has, if another seat stepped
  due_set : (views : List (View F E)) (id : ℕ) (v w : View F E) → get_elem? views id ≡ some v → is_owing v.stage ≢ true → IsRingDue views → IsRingDue (set views id w)
  due_set views id v w at idle o =
      let apart : o.0 ≢ id = λ same. idle (subst (λ (u : View F E). is_owing u.stage ≡ true) (some-injective o.1 v (sym o.2 ∙ (ap (get_elem? views) same ∙ at))) o.3) in
      (o.0, o.1, set_else views id o.0 w apart ∙ o.2, o.3)

  -- a seat stepped that has no ring due
  pub remembered_set : (noted : Bool) (rings : ℕ) (views : List (View F E)) (id : ℕ) (v w : View F E) → get_elem? views id ≡ some v → is_owing v.stage ≢ true
      → (is_away w.stage ≡ true → w.heard ≡ Some rings → noted ≡ true) → AreRemembered noted rings views → AreRemembered noted rings (set views id w)
  remembered_set noted rings views id v w at idle here old =
      each_set (λ u. is_away u.stage ≡ true → u.heard ≡ Some rings → (noted ≡ true) ⊎ IsRingDue (set views id w)) views id w
      (λ j u other e away heard. ⊎_elim (λ (x : noted ≡ true). inl x) (λ (x : IsRingDue views). inr (due_set views id v w at idle x)) (old j u e away heard))
      (λ away heard. inl (here away heard))

  -- a seat came
  pub remembered_push : (noted : Bool) (rings : ℕ) (views : List (View F E)) (w : View F E) → (is_away w.stage ≡ true → w.heard ≡ Some rings → noted ≡ true)
      → AreRemembered noted rings views → AreRemembered noted rings (views ++ w ∷ [])
  remembered_push noted rings views w here old =
      each_push (λ u. is_away u.stage ≡ true → u.heard ≡ Some rings → (noted ≡ true) ⊎ IsRingDue (views ++ w ∷ [])) views w
      (λ j u e away heard. ⊎_elim (λ (x : noted ≡ true). inl x) (λ (x : IsRingDue views). inr (x.0, x.1, at_longer views (w ∷ []) x.0 x.1 x.2, x.3)) (old j u e away heard))
      (λ away heard. inl (here away heard))

  -- a seat left its turn
  pub remembered_passed : (way : Way) (noted now : Bool) (rings : ℕ) (views : List (View F E)) (id : ℕ) (v : View F E) (log : List (ℕ × E)) → get_elem? views id ≡ some v → is_owing v.stage ≢ true
      → v.noted ≡ noted → MayLeave way now v → AreRemembered noted rings views → AreRemembered now rings (set views id (passed_place v log way))
  remembered_passed AsFound noted now rings views id v log at idle found may old =
      let w : View F E = passed_place v log AsFound in
      subst (λ (b : Bool). AreRemembered b rings (set views id w)) (sym (may ∙ found)) (remembered_set noted rings views id v w at idle (λ away heard. absurd (cc heard)) old)
  remembered_passed ToSleep noted now rings views id v log at idle found may old = λ j u e away heard. inl may
  remembered_passed ToRing noted now rings views id v log at idle found may old =
      let w : View F E = passed_place v log ToRing in
      λ j u e away heard. inr (id, w, set_here views id w (inside views id v at), refl)
