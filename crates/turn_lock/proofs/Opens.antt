-- A new lock meets the rule.
use Rattle.std.proofs.Common.{◌≡◌, ◌≢◌, ◌⊎◌, Bool, ℕ, zero, suc, List, [], ◌∷◌, true, refl, sym, subst, subst₂, inl, arith, Option, Some}
use Rattle.std.proofs.lemmas.List.Elements.{All-nil}
use mathlib.Core.Option.{some-ne-none, some-injective}
use Rattle.atomic_table.specs.Table.{opening}
use Rattle.fsw_base.proofs.Prefix.{prefix_self}
use Rattle.turn_lock.specs.declared.view.View.{View}
use Rattle.turn_lock.specs.Views.{entries_of, main_place, is_served, is_away, is_main}
use Rattle.turn_lock.specs.Rule.{Fits, Each, AllDiffer, IsAmong, Governs, IsRingDue, Kept}
use Rattle.turn_lock.proofs.Stages.{off}

module _ {F E : Type 0} where
  each_one : (Q : View F E → Type 0) (w : View F E) → Q w → Each Q (w ∷ [])
  each_one Q w here zero u e = subst Q (some-injective w u e) here
  each_one Q w here (suc j) u e = absurd (some-ne-none u (sym e))

  one_differs : (w : View F E) → AllDiffer (w ∷ [])
  one_differs w zero zero u v apart ei ej = absurd (apart refl)
  one_differs w zero (suc j) u v apart ei ej = absurd (some-ne-none v (sym ej))
  one_differs w (suc i) j u v apart ei ej = absurd (some-ne-none u (sym ei))

module _ {T F E : Type 0} (fixed : T → F) (history : T → List (ℕ × E)) (awaited : T → Bool) where
  opens : (x : T) → history x ≡ [] → Kept fixed history awaited (fixed x) (opening (0 ∷ 0 ∷ []) (Some x ∷ []) (main_place (fixed x) (history x)))
  opens x empty = let main : View F E = main_place (fixed x) [] in let log : List (ℕ × E) = [] in
      subst (λ l. Kept fixed history awaited (fixed x) (opening (0 ∷ 0 ∷ []) (Some x ∷ []) (main_place (fixed x) l))) (sym empty) record {
        log = log;
        noted = awaited x;
        rings = 0;
        words = refl;
        bell = refl;
        each = each_one (Fits (fixed x) log (awaited x) 0) main record { found = λ c. absurd (off c); heard = λ n is. absurd (cc is); opening = λ _. refl; seen = prefix_self log; joined = prefix_self log; mine = λ c. absurd (off c); served = λ c. absurd (off c); ended = All-nil (λ e. entries_of e.0 log ≡ e.1); none = λ c. absurd (c refl) };
        differ = one_differs main;
        main = each_one (λ u. is_main u.stage ≡ true → Governs log (main ∷ []) u) main (λ _. record { others = λ _ _. refl; all = each_one (IsAmong []) main record { live = λ c. absurd (off c); ended = λ k e i. absurd (omega (arith, i)) } });
        value = inl (refl, (x, refl, empty, refl, each_one (λ u. is_served u.stage ≢ true) main off, refl));
        sleepers = each_one (λ u. is_away u.stage ≡ true → u.heard ≡ Some 0 → (awaited x ≡ true) ⊎ IsRingDue (main ∷ [])) main (λ c _. absurd (off c));
      }

  -- the same with the words as the code has them
  pub opens_as : (x about : T) (slots : List (Option T)) → history x ≡ [] → about ≡ x → slots ≡ Some x ∷ [] → Kept fixed history awaited (fixed about) (opening (0 ∷ 0 ∷ []) slots (main_place (fixed about) (history about)))
  opens_as x about slots empty same is =
      subst₂ (λ (y : T) (l : List (Option T)). Kept fixed history awaited (fixed y) (opening (0 ∷ 0 ∷ []) l (main_place (fixed y) (history y)))) (sym same) (sym is) (opens x empty)
