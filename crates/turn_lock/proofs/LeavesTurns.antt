-- The steps by which a turn is left keep the rule.
use Rattle.std.proofs.Common.{◌≡◌, ◌≢◌, ◌⊎◌, ◌≤◌, ◌+◌, ◌%◌, ◌^◌, Bool, ℕ, List, [], ◌∷◌, ◌++◌, get_or, set, true, refl, sym, ap, ◌∙◌, subst, ⊎_elim, inl, inr, arith, All, Option, Some, length-set}
use Rattle.std.proofs.lemmas.List.Elements.{All-nil}
use mathlib.Core.Option.{some}
use mathlib.Core.Option as home
use mathlib.Core.List.{IsPrefix}
use Rattle.atomic_table.specs.Table.{Me, Allows, keeps, gives}
use Rattle.atomic_table.proofs.Lists.{set_here, set_again}
use Rattle.fsw_base.proofs.Prefix.{prefix_self, prefix_trans}
use Rattle.turn_lock.specs.declared.rule.Way.{Way}
use Rattle.turn_lock.specs.declared.rule.Way.TheVariants.{AsFound, ToSleep, ToRing}
use Rattle.turn_lock.specs.declared.view.View.{View}
use Rattle.turn_lock.specs.declared.view.Stage.TheVariants.{Has, Owes}
use Rattle.turn_lock.specs.Views.{entries_of, is_live, is_served, is_away, is_owing, heard_by, passed_place, heard_place, rung_place}
use Rattle.turn_lock.specs.Rule.{Fits, IsRingDue, IsHome, IsHomeOrOut, IsOutWithOne, Kept}
use Rattle.turn_lock.specs.Steps.{Grows, MayLeave, Passes, Hears, Rings}
use Rattle.turn_lock.proofs.LockWords.{set_same, turn_set, turn_kept, bell_set, bell_kept, rung_once}
use Rattle.turn_lock.proofs.Entries.{entries_of-append_other}
use Rattle.turn_lock.proofs.Stages.{off, live_there, live_not_main, left_live, left_unserved, left_not_main}
use Rattle.turn_lock.proofs.ViewLists.{inside, each_set, differ_set, alone, main_set, value_set}
use Rattle.turn_lock.proofs.Sleepers.{remembered_set, remembered_passed}

-- an application is none of no ended ones
none_apart : {A : Type 0} (app : ℕ) (ended : List (ℕ × A)) → ended ≡ [] → All (λ e. app ≢ e.0) ended
none_apart app ended none = subst (All (λ e. app ≢ e.0)) (sym none) (All-nil (λ e. app ≢ e.0))

some_one : {A : Type 0} {a b : A} → Some a ≡ Some b → a ≡ b
some_one e = cc e

-- what a seat keeps of what it heard is no more than it was
still_heard : (way : Way) (rings : ℕ) (heard : Option ℕ) → ((n : ℕ) → heard ≡ Some n → n ≤ rings) → (n : ℕ) → heard_by way heard ≡ Some n → n ≤ rings
still_heard AsFound rings heard old n is = absurd (cc is)
still_heard ToSleep rings heard old n is = old n is
still_heard ToRing rings heard old n is = absurd (cc is)

module _ {T F E : Type 0} (fixed : T → F) (history : T → List (ℕ × E)) (awaited : T → Bool) (opening : F) where
  -- the value is if it was, whatever the bell's word is
  bell_moves : (words : List ℕ) (n : ℕ) (log : List (ℕ × E)) (noted : Bool) (homes : List (home.Option (Option T))) (views : List (View F E))
      → IsHomeOrOut fixed history awaited opening words log noted homes views → IsHomeOrOut fixed history awaited opening (set words 1 n) log noted homes views
  bell_moves words n log noted homes views =
      ⊎_elim
      (λ (x : (get_or words 0 0 ≡ 0) × IsHome fixed history awaited opening log noted homes views). inl (turn_kept words n ∙ x.0, x.1))
      (λ (x : (get_or words 0 0 ≢ 0) × IsOutWithOne views). inr (λ free. x.0 (sym (turn_kept words n) ∙ free), x.1))

  -- a ring at the bell
  pub ring_keeps : (slots id : ℕ) (me : Me (Option T) (View F E)) → me.0.stage ≡ Owes
      → Allows (Kept fixed history awaited opening) slots id me 1 (λ n. (n + 1) % 2 ^ 64) (λ found now. Rings me now)
  ring_keeps slots id me owes s h homes at small =
      let v : View F E = me.0 in
      let w : View F E = rung_place v in
      let n : ℕ = (get_or s.words 1 0 + 1) % 2 ^ 64 in
      let f = h.each id v at in
      let live : is_live v.stage ≡ true = ap is_live owes in
      let idle : is_served v.stage ≢ true = λ c. off (sym (ap is_served owes) ∙ c) in (
        w,
        keeps,
        tt,
        record {
          log = h.log;
          noted = h.noted;
          rings = h.rings + 1;
          words = length-set s.words 1 n ∙ h.words;
          bell = bell_set s.words n h.words ∙ rung_once (get_or s.words 1 0) h.rings h.bell;
          each = each_set (Fits opening h.log h.noted (h.rings + 1)) s.views id w
              (λ j u other e. let g = h.each j u e in record { opening = g.opening; seen = g.seen; joined = g.joined; mine = g.mine; served = g.served; ended = g.ended; none = g.none; found = g.found; heard = λ k is. let less = g.heard k is in omega (arith, less) })
              record {
                opening = λ _. f.opening (live_there v.stage live);
                seen = f.seen;
                joined = f.joined;
                mine = λ _. f.mine live;
                served = λ c. absurd (off c);
                ended = f.ended;
                none = λ _. f.none (live_not_main v.stage live);
                found = λ c. absurd (off c);
                heard = λ k is. let less = f.heard k is in omega (arith, less);
              };
          differ = differ_set s.views id w h.differ (λ j u other e. let d = h.differ id j v u (λ y. other (sym y)) at e in record { turns = λ c. absurd (off c); apps = λ _. d.apps live; left = λ _. d.left live; right = d.right; mains = λ c _. absurd (off c) });
          main = main_set h.log h.log s.views id v w at live refl refl refl (λ _ _. refl) h.main;
          value = bell_moves s.words n h.log h.noted s.homes (set s.views id w) (value_set fixed history awaited opening s.words h.log h.noted s.homes s.views id v w at idle off h.value);
          sleepers = each_set (λ u. is_away u.stage ≡ true → u.heard ≡ Some (h.rings + 1) → (h.noted ≡ true) ⊎ IsRingDue (set s.views id w)) s.views id w
              (λ j u other e away is. let less = (h.each j u e).heard (h.rings + 1) is in absurd (omega (arith, less)))
              (λ away is. let less = f.heard (h.rings + 1) is in absurd (omega (arith, less)));
        },
        refl,
      )

  -- the bell is heard in a turn
  pub hear_keeps : (slots id : ℕ) (me : Me (Option T) (View F E)) → me.0.stage ≡ Has
      → Allows (Kept fixed history awaited opening) slots id me 1 (λ n. n) (λ found now. Hears me found now)
  hear_keeps slots id me has s h homes at small =
      let v : View F E = me.0 in
      let w : View F E = heard_place v h.rings in
      let f = h.each id v at in
      let live : is_live v.stage ≡ true = ap is_live has in
      let served : is_served v.stage ≡ true = ap is_served has in (
        w,
        keeps,
        tt,
        subst (λ (l : List ℕ). Kept fixed history awaited opening record { words = l; homes = s.homes; views = set s.views id w }) (sym (set_same s.words 1)) record {
          log = h.log;
          noted = h.noted;
          rings = h.rings;
          words = h.words;
          bell = h.bell;
          each = each_set (Fits opening h.log h.noted h.rings) s.views id w (λ j u other e. h.each j u e)
              record { opening = f.opening; seen = f.seen; joined = f.joined; mine = f.mine; served = f.served; ended = f.ended; none = f.none; found = f.found; heard = λ n is. let same = some_one is in omega (arith, same) };
          differ = differ_set s.views id w h.differ (λ j u other e. let d = h.differ id j v u (λ y. other (sym y)) at e in record { turns = d.turns; apps = d.apps; left = d.left; right = d.right; mains = d.mains });
          main = main_set h.log h.log s.views id v w at live live refl refl (λ _ _. refl) h.main;
          value = ⊎_elim
              (λ (x : (get_or s.words 0 0 ≡ 0) × IsHome fixed history awaited opening h.log h.noted s.homes s.views). let o = x.1 in absurd (o.4 id v at served))
              (λ (x : (get_or s.words 0 0 ≢ 0) × IsOutWithOne s.views). inr (x.0, (id, w, set_here s.views id w (inside s.views id v at), served)))
              h.value;
          sleepers = remembered_set h.noted h.rings s.views id v w at (λ c. off (sym (ap is_owing has) ∙ c)) (λ c _. absurd (off (sym (ap is_away has) ∙ c))) h.sleepers;
        },
        (h.rings, h.bell, refl),
      )

  -- a turn is left
  pass_keeps : (slots id : ℕ) (v : View F E) (log : List (ℕ × E)) (way : Way) (x : T) → slots ≡ 1 → v.stage ≡ Has → history x ≡ log → Some (fixed x) ≡ v.fixed → MayLeave way (awaited x) v → Grows v log
      → Allows (Kept fixed history awaited opening) slots id (v, (0, Some x) ∷ []) 0 (λ _. 0) (λ found now. Passes log way (v, (0, Some x) ∷ []) now)
  pass_keeps slots id v log way x one has same_log same_fixed may grows s h homes at small =
      let w : View F E = passed_place v log way in
      let f = h.each id v at in
      let live : is_live v.stage ≡ true = ap is_live has in
      let served : is_served v.stage ≡ true = ap is_served has in
      let here = f.served served in
      let is : log ≡ h.log ++ grows.more = grows.is ∙ ap (λ l. l ++ grows.more) here in
      let extends : IsPrefix h.log log = (grows.more, sym is) in
      let others : (other : ℕ) → other ≢ v.app → entries_of other log ≡ entries_of other h.log = λ other apart. ap (entries_of other) is ∙ entries_of-append_other other v.app h.log grows.more grows.others apart in
      let idle = alone s.views id v h.differ at served in (
        w,
        gives,
        tt,
        record {
          log = log;
          noted = awaited x;
          rings = h.rings;
          words = length-set s.words 0 0 ∙ h.words;
          bell = bell_kept s.words 0 ∙ h.bell;
          each = each_set (Fits opening log (awaited x) h.rings) s.views id w
              (λ j u other e. let g = h.each j u e in let d = h.differ id j v u (λ x. other (sym x)) at e in record {
                opening = g.opening;
                seen = prefix_trans u.seen h.log log g.seen extends;
                joined = prefix_trans u.joined h.log log g.joined extends;
                mine = λ c. others u.app (λ same. d.apps live c (sym same)) ∙ g.mine c;
                served = λ c. absurd (idle j u other e c);
                ended = λ k x i. others (get_or u.ended k x).0 (λ same. d.left live k x i (sym same)) ∙ g.ended k x i;
                none = g.none;
                found = λ c. absurd (idle j u other e c);
                heard = g.heard;
              })
              record {
                opening = λ _. f.opening (live_there v.stage live);
                seen = prefix_self log;
                joined = prefix_trans v.joined h.log log f.joined extends;
                mine = λ _. refl;
                served = λ c. absurd (left_unserved way c);
                ended = λ k x i. others (get_or v.ended k x).0 (λ same. none_apart v.app v.ended (f.none (live_not_main v.stage live)) k x i (sym same)) ∙ f.ended k x i;
                none = λ _. f.none (live_not_main v.stage live);
                found = λ c. absurd (left_unserved way c);
                heard = still_heard way h.rings v.heard f.heard;
              };
          differ = differ_set s.views id w h.differ (λ j u other e. let d = h.differ id j v u (λ y. other (sym y)) at e in record { turns = λ c. absurd (left_unserved way c); apps = λ _. d.apps live; left = λ _. d.left live; right = d.right; mains = λ c _. absurd (left_not_main way c) });
          main = main_set h.log log s.views id v w at live (left_live way) refl refl others h.main;
          value = inl (
            turn_set s.words 0 h.words,
            (
              x,
              set_here s.homes 0 (some (Some x)) (omega (arith, homes, one)),
              same_log,
              some_one (same_fixed ∙ f.opening (live_there v.stage live)),
              each_set (λ u. is_served u.stage ≢ true) s.views id w (λ j u other e. idle j u other e) (left_unserved way),
              refl,
            ),
          );
          sleepers = remembered_passed way h.noted (awaited x) h.rings s.views id v log at (λ c. off (sym (ap is_owing has) ∙ c)) (f.found served) may h.sleepers;
        },
        refl,
      )

  -- the same at a seat in one piece
  pub pass_keeps_as : (slots id : ℕ) (me : Me (Option T) (View F E)) (log : List (ℕ × E)) (way : Way) (x : T) → me.1 ≡ (0, Some x) ∷ [] → slots ≡ 1 → me.0.stage ≡ Has → history x ≡ log → Some (fixed x) ≡ me.0.fixed → MayLeave way (awaited x) me.0 → Grows me.0 log
      → Allows (Kept fixed history awaited opening) slots id me 0 (λ _. 0) (λ found now. Passes log way me now)
  pass_keeps_as slots id me log way x full one has same_log same_fixed may grows =
      let P : List (ℕ × Option T) → Type 0 = λ carried. Allows (Kept fixed history awaited opening) slots id (me.0, carried) 0 (λ _. 0) (λ found now. Passes log way (me.0, carried) now) in
      subst P (sym full) (pass_keeps slots id me.0 log way x one has same_log same_fixed may grows)
