-- What the value of a closed lock is.
use Rattle.std.proofs.Common.{◌≡◌, ◌≢◌, Bool, ℕ, List, map, get_or, true, refl, sym, ap, ◌∙◌, subst, ⊎_elim, All, Contains, Option, Some}
use Rattle.std.proofs.lemmas.List.Elements.{All-map, All-contains}
use mathlib.Core.Logic.{dite}
use native.Mathlib.Decide.{ℕ_discrete}
use mathlib.Core.Option.{some, some-injective}
use mathlib.Core.List.{IsPrefix}
use lib.ListN.{get_elem?}
use Rattle.atomic_table.specs.Table.{State, Final, Seen}
use Rattle.turn_lock.specs.declared.view.View.{View}
use Rattle.turn_lock.specs.declared.view.Stage.TheVariants.{Main}
use Rattle.turn_lock.specs.Views.{entries_of, is_live, is_main, is_there, AreAllJoined}
use Rattle.turn_lock.specs.Rule.{IsHome, IsOutWithOne, Kept}
use Rattle.turn_lock.specs.Steps.{Closes}
use Rattle.turn_lock.proofs.Stages.{off, served_live}

-- an application that differs from each ended one is none of them
none_of : {A : Type 0} (app : ℕ) (ended : List (ℕ × A)) → All (λ e. app ≢ e.0) ended → Contains (map (λ e. e.0) ended) app → ⊥
none_of app ended differs there = All-contains (λ other. app ≢ other) (map (λ e. e.0) ended) app (All-map (λ other. app ≢ other) (λ e. e.0) ended differs) there refl

module _ {T F E : Type 0} (fixed : T → F) (history : T → List (ℕ × E)) (awaited : T → Bool) (opening : F) where
  -- once all seats were joined no seat has a turn
  none_live : (id : ℕ) (v : View F E) → v.stage ≡ Main → AreAllJoined v → (s : State (Option T) (View F E)) (h : Kept fixed history awaited opening s) → get_elem? s.views id ≡ some v
      → (j : ℕ) (u : View F E) → get_elem? s.views j ≡ some u → is_live u.stage ≡ true → ⊥
  none_live id v main all s h at j u e live =
      let idle : is_live v.stage ≡ true → ⊥ = λ c. off (sym (ap is_live main) ∙ c) in
      let among = (h.main id v at (ap is_main main)).all j u e in
      dite (ℕ_discrete j id)
      (λ same. idle (subst (λ (x : View F E). is_live x.stage ≡ true) (some-injective u v (sym e ∙ (ap (get_elem? s.views) same ∙ at))) live))
      (λ away. none_of u.app v.ended ((h.differ j id u v away e at).left live) (All-contains (Contains (map (λ x. x.0) v.ended)) v.apps u.app all (among.live live)))

  closes : (id : ℕ) (v : View F E) (words : List ℕ) (slots : List (Option T)) → v.stage ≡ Main → AreAllJoined v → Final (Seen (Kept fixed history awaited opening) id v) words slots
      → (x : T) × (get_elem? slots 0 ≡ some (Some x)) × Closes fixed history v x
  closes id v words slots main all final =
      let s = final.0 in
      let h : Kept fixed history awaited opening s = final.1.0 in
      let at : get_elem? s.views id ≡ some v = final.1.1 in
      let f = h.each id v at in
      let r = h.main id v at (ap is_main main) in
      ⊎_elim
      (λ (y : (get_or s.words 0 0 ≡ 0) × IsHome fixed history awaited opening h.log h.noted s.homes s.views). let o = y.1 in (
        o.0,
        final.4 0 (Some o.0) o.1,
        record {
          opening = ap (λ (y : F). Some y) o.3 ∙ sym (f.opening (ap is_there main));
          seen = subst (λ (l : List (ℕ × E)). IsPrefix v.seen l) (sym o.2) f.seen;
          ended = subst (λ (l : List (ℕ × E)). All (λ e. entries_of e.0 l ≡ e.1) v.ended) (sym o.2) f.ended;
          others = λ app out. ap (entries_of app) o.2 ∙ r.others app out;
        },
      ))
      (λ (y : (get_or s.words 0 0 ≢ 0) × IsOutWithOne s.views). let o = y.1 in absurd (none_live id v main all s h at o.0 o.1 o.2 (served_live o.1.stage o.3)))
      h.value

  -- the slot that was taken has that value
  pub closes_as : (id : ℕ) (v : View F E) (words : List ℕ) (slots : List (Option T)) (taken : Option T) → v.stage ≡ Main → AreAllJoined v → Final (Seen (Kept fixed history awaited opening) id v) words slots → get_elem? slots 0 ≡ some taken
      → (x : T) × (taken ≡ Some x) × Closes fixed history v x
  closes_as id v words slots taken main all final there =
      let r = closes id v words slots main all final in (r.0, some-injective taken (Some r.0) (sym there ∙ r.1), r.2)

  pub taken_some : (v : View F E) (taken : Option T) (x y : T) → taken ≡ Some x → taken ≡ Some y → Closes fixed history v x → Closes fixed history v y
  taken_some v taken x y one other = let same : x ≡ y = cc (sym one ∙ other) in λ closed. subst (Closes fixed history v) same closed
