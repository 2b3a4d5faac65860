-- What stands of all seats after one of them stepped.
use Rattle.std.proofs.Common.{◌≡◌, ◌≢◌, ◌⊎◌, Bool, ℕ, zero, suc, ◌<◌, List, [], ◌∷◌, ◌++◌, length, set, get_or, true, refl, sym, ap, ◌∙◌, subst, ⊎_elim, inl, inr, arith, All, Contains, Option, length-set}
use mathlib.Core.Option.{some, some-ne-none, some-injective}
use mathlib.Core.Option as home
use lib.ListN.{get_elem?}
use Rattle.atomic_table.proofs.Lists.{at_set, set_else, at_longer}
use Rattle.turn_lock.specs.declared.view.View.{View}
use Rattle.turn_lock.specs.Views.{entries_of, is_live, is_served, is_main}
use Rattle.turn_lock.specs.Rule.{Differ, Each, AllDiffer, IsAmong, Governs, MainGoverns, IsOutWithOne, IsHome, IsHomeOrOut}
use Rattle.turn_lock.proofs.Stages.{live_not_main}

module _ {A : Type 0} where
  pub set_comm : (l : List A) (i j : ℕ) (a b : A) → i ≢ j → set (set l i a) j b ≡ set (set l j b) i a
  set_comm [] i j a b apart = refl
  set_comm (x ∷ xs) zero zero a b apart = absurd (apart refl)
  set_comm (x ∷ xs) zero (suc j) a b apart = refl
  set_comm (x ∷ xs) (suc i) zero a b apart = refl
  set_comm (x ∷ xs) (suc i) (suc j) a b apart = ap (λ l. x ∷ l) (set_comm xs i j a b (λ e. apart (ap suc e)))

  pub inside : (l : List A) (i : ℕ) (a : A) → get_elem? l i ≡ some a → i < length l
  inside [] i a e = absurd (some-ne-none a (sym e))
  inside (x ∷ xs) zero a e = omega arith
  inside (x ∷ xs) (suc i) a e = let r : i < length xs = inside xs i a e in omega arith

  -- what stands at a place of a list with one element more
  pub at_push_cases : (l : List A) (a b : A) (j : ℕ) → get_elem? (l ++ a ∷ []) j ≡ some b → (get_elem? l j ≡ some b) ⊎ ((j ≡ length l) × (a ≡ b))
  at_push_cases [] a b zero e = inr (refl, some-injective a b e)
  at_push_cases [] a b (suc j) e = absurd (some-ne-none b (sym e))
  at_push_cases (x ∷ xs) a b zero e = inl e
  at_push_cases (x ∷ xs) a b (suc j) e = ⊎_elim (λ h. inl h) (λ t. inr (ap suc t.0, t.1)) (at_push_cases xs a b j e)

module _ {F E : Type 0} where
  pub each_set : (Q : View F E → Type 0) (views : List (View F E)) (id : ℕ) (w : View F E) → ((j : ℕ) (u : View F E) → j ≢ id → get_elem? views j ≡ some u → Q u) → Q w → Each Q (set views id w)
  each_set Q views id w others here j u e =
      ⊎_elim
      (λ (x : (j ≡ id) × (w ≡ u)). subst Q x.1 here)
      (λ (x : (j ≢ id) × (get_elem? views j ≡ some u)). others j u x.0 x.1)
      (at_set views id j w u e)

  pub each_push : (Q : View F E → Type 0) (views : List (View F E)) (w : View F E) → Each Q views → Q w → Each Q (views ++ w ∷ [])
  each_push Q views w old new j u e =
      ⊎_elim
      (λ (x : get_elem? views j ≡ some u). old j u x)
      (λ (x : (j ≡ length views) × (w ≡ u)). subst Q x.1 new)
      (at_push_cases views w u j e)

  differ_sym : (v w : View F E) → Differ v w → Differ w v
  differ_sym v w d = record { turns = λ p q. d.turns q p; apps = λ p q e. d.apps q p (sym e); left = d.right; right = d.left; mains = λ p q. d.mains q p }

  pub differ_set : (views : List (View F E)) (id : ℕ) (w : View F E) → AllDiffer views → ((j : ℕ) (u : View F E) → j ≢ id → get_elem? views j ≡ some u → Differ w u) → AllDiffer (set views id w)
  differ_set views id w old new i j u v apart ei ej =
      ⊎_elim
      (λ (x : (i ≡ id) × (w ≡ u)). ⊎_elim
      (λ (y : (j ≡ id) × (w ≡ v)). absurd (apart (x.0 ∙ sym y.0)))
      (λ (y : (j ≢ id) × (get_elem? views j ≡ some v)). subst (λ (z : View F E). Differ z v) x.1 (new j v y.0 y.1))
      (at_set views id j w v ej))
      (λ (x : (i ≢ id) × (get_elem? views i ≡ some u)). ⊎_elim
      (λ (y : (j ≡ id) × (w ≡ v)). subst (λ (z : View F E). Differ u z) y.1 (differ_sym w u (new i u x.0 x.1)))
      (λ (y : (j ≢ id) × (get_elem? views j ≡ some v)). old i j u v apart x.1 y.1)
      (at_set views id j w v ej))
      (at_set views id i w u ei)

  pub differ_push : (views : List (View F E)) (w : View F E) → AllDiffer views → Each (Differ w) views → AllDiffer (views ++ w ∷ [])
  differ_push views w old new i j u v apart ei ej =
      ⊎_elim
      (λ (x : get_elem? views i ≡ some u). ⊎_elim
      (λ (y : get_elem? views j ≡ some v). old i j u v apart x y)
      (λ (y : (j ≡ length views) × (w ≡ v)). subst (λ (z : View F E). Differ u z) y.1 (differ_sym w u (new i u x)))
      (at_push_cases views w v j ej))
      (λ (x : (i ≡ length views) × (w ≡ u)). ⊎_elim
      (λ (y : get_elem? views j ≡ some v). subst (λ (z : View F E). Differ z v) x.1 (new j v y))
      (λ (y : (j ≡ length views) × (w ≡ v)). absurd (apart (x.0 ∙ sym y.0)))
      (at_push_cases views w v j ej))
      (at_push_cases views w u i ei)

  -- while one seat is served no other is
  pub alone : (views : List (View F E)) (id : ℕ) (v : View F E) → AllDiffer views → get_elem? views id ≡ some v → is_served v.stage ≡ true
      → (j : ℕ) (u : View F E) → j ≢ id → get_elem? views j ≡ some u → is_served u.stage ≢ true
  alone views id v differ at on j u other e also = (differ id j v u (λ x. other (sym x)) at e).turns on also

  -- a seat stepped that keeps its application, and other applications' entries stay
  pub main_set : (log now : List (ℕ × E)) (views : List (View F E)) (id : ℕ) (v w : View F E) → get_elem? views id ≡ some v → is_live v.stage ≡ true → is_live w.stage ≡ true → w.app ≡ v.app → w.ended ≡ v.ended
      → ((other : ℕ) → other ≢ v.app → entries_of other now ≡ entries_of other log)
      → MainGoverns log views → MainGoverns now (set views id w)
  main_set log now views id v w at live live' app ended others old =
      each_set (λ u. is_main u.stage ≡ true → Governs now (set views id w) u) views id w
      (λ j u other e is. let r = old j u e is in let mine = r.all id v at in record {
        others = λ a out. others a (λ same. out (subst (Contains u.apps) (sym same) (mine.live live))) ∙ r.others a out;
        all = each_set (IsAmong u.apps) views id w (λ i x _ e'. r.all i x e')
            record { live = λ _. subst (Contains u.apps) (sym app) (mine.live live); ended = subst (All (λ e'. Contains u.apps e'.0)) (sym ended) mine.ended };
      })
      (λ is. absurd (live_not_main w.stage live' is))

module _ {F E : Type 0} where
  -- the value is out with one seat still, if another one stepped
  pub out_set : (views : List (View F E)) (id : ℕ) (v w : View F E) → get_elem? views id ≡ some v → is_served v.stage ≢ true → IsOutWithOne views → IsOutWithOne (set views id w)
  out_set views id v w at idle o =
      let apart : o.0 ≢ id = λ same. idle (subst (λ (u : View F E). is_served u.stage ≡ true) (some-injective o.1 v (sym o.2 ∙ (ap (get_elem? views) same ∙ at))) o.3) in
      (o.0, o.1, set_else views id o.0 w apart ∙ o.2, o.3)

module _ {T F E : Type 0} (fixed : T → F) (history : T → List (ℕ × E)) (awaited : T → Bool) (opening : F) where
  -- a seat stepped that has no slot, before and after
  pub value_set : (words : List ℕ) (log : List (ℕ × E)) (noted : Bool) (homes : List (home.Option (Option T))) (views : List (View F E)) (id : ℕ) (v w : View F E) → get_elem? views id ≡ some v → is_served v.stage ≢ true → is_served w.stage ≢ true
      → IsHomeOrOut fixed history awaited opening words log noted homes views → IsHomeOrOut fixed history awaited opening words log noted homes (set views id w)
  value_set words log noted homes views id v w at idle idle' =
      ⊎_elim
      (λ (h : (get_or words 0 0 ≡ 0) × IsHome fixed history awaited opening log noted homes views). let o = h.1 in inl (h.0, (o.0, o.1, o.2, o.3, each_set (λ u. is_served u.stage ≢ true) views id w (λ j u other e. o.4 j u e) idle', o.5)))
      (λ (h : (get_or words 0 0 ≢ 0) × IsOutWithOne views). inr (h.0, out_set views id v w at idle h.1))

  -- a seat came that has no slot
  pub value_push : (words : List ℕ) (log : List (ℕ × E)) (noted : Bool) (homes : List (home.Option (Option T))) (views : List (View F E)) (w : View F E) → is_served w.stage ≢ true
      → IsHomeOrOut fixed history awaited opening words log noted homes views → IsHomeOrOut fixed history awaited opening words log noted homes (views ++ w ∷ [])
  value_push words log noted homes views w idle =
      ⊎_elim
      (λ (h : (get_or words 0 0 ≡ 0) × IsHome fixed history awaited opening log noted homes views). let o = h.1 in inl (h.0, (o.0, o.1, o.2, o.3, each_push (λ u. is_served u.stage ≢ true) views w o.4 idle, o.5)))
      (λ (h : (get_or words 0 0 ≢ 0) × IsOutWithOne views). let o = h.1 in inr (h.0, (o.0, o.1, at_longer views (w ∷ []) o.0 o.1 o.2, o.3)))
