-- The step by which a turn is taken keeps the rule.
use Rattle.std.proofs.Common.{◌≡◌, ◌≢◌, Bool, ℕ, List, [], get_or, set, true, refl, sym, ap, ◌∙◌, subst, subst₂, ⊎_elim, inl, inr, length-set, Option, Some}
use mathlib.Core.Logic.{dite}
use native.Mathlib.Decide.{ℕ_discrete}
use mathlib.Core.Option.{some}
use mathlib.Core.Option as home
use mathlib.Core.List.{IsPrefix}
use lib.ListN.{get_elem?}
use Rattle.atomic_table.specs.Table.{State, Me, Allows, keeps, takes, stepped}
use Rattle.atomic_table.proofs.Lists.{set_here, set_again}
use Rattle.fsw_base.proofs.Prefix.{prefix_self}
use Rattle.turn_lock.specs.declared.view.View.{View}
use Rattle.turn_lock.specs.declared.view.Stage.TheVariants.{Away}
use Rattle.turn_lock.specs.Views.{entries_of, is_live, is_owing, served_place}
use Rattle.turn_lock.specs.Rule.{Fits, IsHome, IsOutWithOne, IsHomeOrOut, Kept}
use Rattle.turn_lock.specs.Steps.{Seizes}
use Rattle.turn_lock.proofs.LockWords.{set_same, turn_set, bell_kept}
use Rattle.turn_lock.proofs.Stages.{off, live_there, live_not_main}
use Rattle.turn_lock.proofs.ViewLists.{inside, each_set, differ_set, main_set}
use Rattle.turn_lock.proofs.Sleepers.{remembered_set}

module _ {T F E : Type 0} (fixed : T → F) (history : T → List (ℕ × E)) (awaited : T → Bool) (opening : F) where
  -- a step that changes nothing
  pub stays : (s : State (Option T) (View F E)) → Kept fixed history awaited opening s → (word id : ℕ) (v : View F E) → get_elem? s.views id ≡ some v → Kept fixed history awaited opening (stepped s word (get_or s.words word 0) id [] v keeps)
  stays s h word id v at = subst₂ (λ (l : List ℕ) (r : List (View F E)). Kept fixed history awaited opening record { words = l; homes = s.homes; views = r }) (sym (set_same s.words word)) (sym (set_again s.views id v at)) h

  -- if the turn is free the value is at home
  found_free : (words : List ℕ) (log : List (ℕ × E)) (noted : Bool) (homes : List (home.Option (Option T))) (views : List (View F E)) → IsHomeOrOut fixed history awaited opening words log noted homes views → get_or words 0 0 ≡ 0 → IsHome fixed history awaited opening log noted homes views
  found_free words log noted homes views value free =
      ⊎_elim
      (λ (x : (get_or words 0 0 ≡ 0) × IsHome fixed history awaited opening log noted homes views). x.1)
      (λ (x : (get_or words 0 0 ≢ 0) × IsOutWithOne views). absurd (x.0 free))
      value

  -- and if it isn't the value is out
  found_taken : (words : List ℕ) (log : List (ℕ × E)) (noted : Bool) (homes : List (home.Option (Option T))) (views : List (View F E)) → IsHomeOrOut fixed history awaited opening words log noted homes views → get_or words 0 0 ≢ 0 → IsOutWithOne views
  found_taken words log noted homes views value taken =
      ⊎_elim
      (λ (x : (get_or words 0 0 ≡ 0) × IsHome fixed history awaited opening log noted homes views). absurd (taken x.0))
      (λ (x : (get_or words 0 0 ≢ 0) × IsOutWithOne views). x.1)
      value

  seize_own : (id now : ℕ) (v : View F E) → now ≢ 0 → v.stage ≡ Away → (s : State (Option T) (View F E)) (h : Kept fixed history awaited opening s) → get_elem? s.views id ≡ some v
      → (o : IsHome fixed history awaited opening h.log h.noted s.homes s.views)
      → Kept fixed history awaited opening (stepped s 0 now id [] (served_place v (history o.0) (awaited o.0)) (takes 0 (Some o.0)))
  seize_own id now v taken away s h at o =
      let x : T = o.0 in
      let w : View F E = served_place v (history x) (awaited x) in
      let f = h.each id v at in
      let live : is_live v.stage ≡ true = ap is_live away in
      record {
        log = h.log;
        noted = h.noted;
        rings = h.rings;
        words = length-set s.words 0 now ∙ h.words;
        bell = bell_kept s.words now ∙ h.bell;
        each = each_set (Fits opening h.log h.noted h.rings) s.views id w (λ j u other e. h.each j u e)
            record { found = λ _. o.5; heard = λ n is. absurd (cc is); opening = λ _. f.opening (live_there v.stage live); seen = subst (λ (l : List (ℕ × E)). IsPrefix (history x) l) o.2 (prefix_self (history x)); joined = f.joined; mine = λ _. f.mine live; served = λ _. o.2; ended = f.ended; none = λ _. f.none (live_not_main v.stage live) };
        differ = differ_set s.views id w h.differ (λ j u other e. let d = h.differ id j v u (λ y. other (sym y)) at e in record { turns = λ _ c. o.4 j u e c; apps = λ _. d.apps live; left = λ _. d.left live; right = d.right; mains = λ c _. absurd (off c) });
        main = main_set h.log h.log s.views id v w at live refl refl refl (λ _ _. refl) h.main;
        value = inr (subst (λ (n : ℕ). n ≢ 0) (sym (turn_set s.words now h.words)) taken, (id, w, set_here s.views id w (inside s.views id v at), refl));
        sleepers = remembered_set h.noted h.rings s.views id v w at (λ c. off (sym (ap is_owing away) ∙ c)) (λ c _. absurd (off c)) h.sleepers;
      }

  -- the turn isn't free, and stays so
  seize_other : (id now : ℕ) (v : View F E) → now ≢ 0 → v.stage ≡ Away → (s : State (Option T) (View F E)) (h : Kept fixed history awaited opening s) → get_elem? s.views id ≡ some v
      → IsOutWithOne s.views → Kept fixed history awaited opening (stepped s 0 now id [] v keeps)
  seize_other id now v taken away s h at out =
      subst (λ (r : List (View F E)). Kept fixed history awaited opening record { words = set s.words 0 now; homes = s.homes; views = r }) (sym (set_again s.views id v at)) record {
        log = h.log;
        noted = h.noted;
        rings = h.rings;
        words = length-set s.words 0 now ∙ h.words;
        bell = bell_kept s.words now ∙ h.bell;
        each = h.each;
        differ = h.differ;
        main = h.main;
        value = inr (subst (λ (n : ℕ). n ≢ 0) (sym (turn_set s.words now h.words)) taken, out);
        sleepers = h.sleepers;
      }

  seize_keeps : (slots id : ℕ) (v : View F E) (f : ℕ → ℕ) → ((n : ℕ) → f n ≢ 0) → v.stage ≡ Away
      → Allows (Kept fixed history awaited opening) slots id (v, []) 0 f (Seizes fixed history awaited (v, []))
  seize_keeps slots id v f taken away s h homes at small =
      let found : ℕ = get_or s.words 0 0 in
      let g = h.each id v at in
      let live : is_live v.stage ≡ true = ap is_live away in
      dite (ℕ_discrete found 0)
      (λ free. let o = found_free s.words h.log h.noted s.homes s.views h.value free in (
        served_place v (history o.0) (awaited o.0),
        takes 0 (Some o.0),
        o.1,
        seize_own id (f found) v (taken found) away s h at o,
        inl (
          free,
          (
            o.0,
            ap (λ (y : F). Some y) o.3 ∙ sym (g.opening (live_there v.stage live)),
            subst (λ (l : List (ℕ × E)). IsPrefix v.seen l) (sym o.2) g.seen,
            ap (entries_of v.app) o.2 ∙ g.mine live,
            refl,
          ),
        ),
      ))
      (λ held. (
        v,
        keeps,
        tt,
        seize_other id (f found) v (taken found) away s h at (found_taken s.words h.log h.noted s.homes s.views h.value held),
        inr (held, refl),
      ))

  -- the same at a seat in one piece
  pub seize_keeps_as : (slots id : ℕ) (me : Me (Option T) (View F E)) (f : ℕ → ℕ) → ((n : ℕ) → f n ≢ 0) → me.1 ≡ [] → me.0.stage ≡ Away
      → Allows (Kept fixed history awaited opening) slots id me 0 f (Seizes fixed history awaited me)
  seize_keeps_as slots id me f taken empty away =
      let P : List (ℕ × Option T) → Type 0 = λ carried. Allows (Kept fixed history awaited opening) slots id (me.0, carried) 0 f (Seizes fixed history awaited (me.0, carried)) in
      subst P (sym empty) (seize_keeps slots id me.0 f taken away)
