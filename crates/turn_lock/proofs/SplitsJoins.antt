-- The steps by which seats come and end keep the rule.
use Rattle.std.proofs.Common.{◌≡◌, ◌≢◌, Bool, ℕ, ◌+◌, ◌<◌, List, [], ◌∷◌, ◌++◌, length, get_or, set, true, refl, sym, ap, ◌∙◌, subst, ⊎_elim, inl, inr, arith, All, Contains, Option, length-set, length-append}
use Rattle.std.proofs.lemmas.List.Elements.{All-nil, All-head, All-push, Contains-push, Contains-append_left}
use mathlib.Core.Logic.{dite}
use mathlib.Core.List.{IsPrefix}
use native.Mathlib.Decide.{dec_le}
use native.Mathlib.Nat.{lt_of_not-le}
use mathlib.Core.Option.{some}
use lib.ListN.{get_elem?}
use Rattle.atomic_table.specs.Table.{State, Me, Allows, Splits, Joins, keeps}
use Rattle.atomic_table.proofs.Lists.{at_set, set_else}
use Rattle.fsw_base.proofs.Prefix.{prefix_shorter}
use Rattle.turn_lock.specs.declared.view.View.{View}
use Rattle.turn_lock.specs.declared.view.Stage.TheVariants.{Main, Away}
use Rattle.turn_lock.specs.Views.{entries_of, is_live, is_served, is_away, is_owing, is_main, is_there, with_seat, seat_place, joined_place, spent_place, without_ended, ended_place, first_ended}
use Rattle.turn_lock.specs.Rule.{Fits, Differ, Each, IsAmong, Governs, IsHomeOrOut, Kept}
use Rattle.turn_lock.specs.Steps.{Meets}
use Rattle.turn_lock.proofs.LockWords.{set_same, bell_kept}
use Rattle.turn_lock.proofs.Entries.{entries_of-beginning, entries_of-prefix}
use Rattle.turn_lock.proofs.Stages.{off}
use Rattle.turn_lock.proofs.TakesTurns.{stays}
use Rattle.turn_lock.proofs.ViewLists.{set_comm, each_set, each_push, differ_set, differ_push, value_set, value_push}
use Rattle.turn_lock.proofs.Sleepers.{remembered_set, remembered_push}

-- what is not in a list is none of what is in it
apart_from : {A : Type 0} (apps : List A) (app other : A) → ¬ (Contains apps app) → Contains apps other → app ≢ other
apart_from apps app other out there same = out (subst (Contains apps) (sym same) there)

-- what holds of each of one element's list holds of its first
first_of : {E : Type 0} (P : ℕ × List (ℕ × E) → Type 0) (ended : List (ℕ × List (ℕ × E))) → length ended ≡ 1 → All P ended → P (first_ended ended)
first_of P [] one all = absurd (omega (arith, one))
first_of P (e ∷ es) one all = All-head P e es all

-- of each ended application a beginning of the history has none but its own
own_of : {E : Type 0} (ended : List (ℕ × List (ℕ × E))) (seen log : List (ℕ × E)) → IsPrefix seen log → All (λ e. entries_of e.0 log ≡ e.1) ended → All (λ e. IsPrefix (entries_of e.0 seen) e.1) ended
own_of ended seen log begins all = λ k x i. subst (IsPrefix (entries_of (get_or ended k x).0 seen)) (all k x i) (entries_of-prefix (get_or ended k x).0 seen log begins)

module _ {T F E : Type 0} (fixed : T → F) (history : T → List (ℕ × E)) (awaited : T → Bool) (opening : F) where
  -- the main seat steps, and only what it has split off changes
  split_main : (id app : ℕ) (v : View F E) → v.stage ≡ Main → (s : State (Option T) (View F E)) (h : Kept fixed history awaited opening s) → get_elem? s.views id ≡ some v
      → (r : Governs h.log s.views v) → ¬ (Contains v.apps app)
      → Governs h.log (set s.views id (with_seat v app) ++ seat_place v app ∷ []) (with_seat v app)
  split_main id app v main s h at r out =
      let w : View F E = with_seat v app in
      let n : View F E = seat_place v app in
      let mid : List (View F E) = set s.views id w in
      let dead : is_live v.stage ≡ true → ⊥ = λ c. off (sym (ap is_live main) ∙ c) in
      let wide : (other : ℕ) → Contains v.apps other → Contains (v.apps ++ app ∷ []) other = λ other there. Contains-append_left v.apps (app ∷ []) other there in
      let wider : (u : View F E) → All (λ e. Contains v.apps e.0) u.ended → All (λ e. Contains (v.apps ++ app ∷ []) e.0) u.ended = λ u all k e i. wide (get_or u.ended k e).0 (all k e i) in
      record {
        others = λ other away. r.others other (λ there. away (wide other there));
        all = each_push (IsAmong (v.apps ++ app ∷ [])) mid n
            (each_set (IsAmong (v.apps ++ app ∷ [])) s.views id w
            (λ j u other e. let among = r.all j u e in record { live = λ c. wide u.app (among.live c); ended = wider u among.ended })
            record { live = λ c. absurd (dead c); ended = wider v (r.all id v at).ended })
            record { live = λ _. Contains-push v.apps app; ended = All-nil (λ e. Contains (v.apps ++ app ∷ []) e.0) };
      }

  pub split_keeps : (id app : ℕ) (v : View F E) → v.stage ≡ Main → length v.apps < 16 → ¬ (Contains v.apps app)
      → Splits (Kept fixed history awaited opening) id v (with_seat v app) (seat_place v app)
  split_keeps id app v main room out s h at =
      let w : View F E = with_seat v app in
      let n : View F E = seat_place v app in
      let mid : List (View F E) = set s.views id w in
      let f = h.each id v at in
      let is_it : is_main v.stage ≡ true = ap is_main main in
      let dead : is_live v.stage ≡ true → ⊥ = λ c. off (sym (ap is_live main) ∙ c) in
      let r = h.main id v at is_it in
      record {
        log = h.log;
        noted = h.noted;
        rings = h.rings;
        words = h.words;
        bell = h.bell;
        each = each_push (Fits opening h.log h.noted h.rings) mid n
            (each_set (Fits opening h.log h.noted h.rings) s.views id w (λ j u other e. h.each j u e)
            record { found = f.found; heard = f.heard; opening = f.opening; seen = f.seen; joined = f.joined; mine = f.mine; served = f.served; ended = f.ended; none = f.none })
            record { found = λ c. absurd (off c); heard = λ k is. absurd (cc is); opening = λ _. f.opening (ap is_there main); seen = f.seen; joined = (h.log, refl); mine = λ _. r.others app out; served = λ c. absurd (off c); ended = All-nil (λ e. entries_of e.0 h.log ≡ e.1); none = λ _. refl };
        differ = differ_push mid n
            (differ_set s.views id w h.differ (λ j u other e. let d = h.differ id j v u (λ x. other (sym x)) at e in record { turns = d.turns; apps = d.apps; left = d.left; right = d.right; mains = d.mains }))
            (each_set (Differ n) s.views id w
            (λ j u other e. let among = r.all j u e in record {
              turns = λ c. absurd (off c);
              apps = λ _ c. apart_from v.apps app u.app out (among.live c);
              left = λ _ k x i. apart_from v.apps app (get_or u.ended k x).0 out (among.ended k x i);
              right = λ _. All-nil (λ e'. u.app ≢ e'.0);
              mains = λ c _. absurd (off c);
            })
            record {
              turns = λ c. absurd (off c);
              apps = λ _ c. absurd (dead c);
              left = λ _ k x i. apart_from v.apps app (get_or v.ended k x).0 out ((r.all id v at).ended k x i);
              right = λ c. absurd (dead c);
              mains = λ c _. absurd (off c);
            });
        main = each_push (λ u. is_main u.stage ≡ true → Governs h.log (mid ++ n ∷ []) u) mid n
            (each_set (λ u. is_main u.stage ≡ true → Governs h.log (mid ++ n ∷ []) u) s.views id w
            (λ j u other e also. absurd ((h.differ id j v u (λ x. other (sym x)) at e).mains is_it also))
            (λ _. split_main id app v main s h at r out))
            (λ c. absurd (off c));
        value = value_push fixed history awaited opening s.words h.log h.noted s.homes mid n off (value_set fixed history awaited opening s.words h.log h.noted s.homes s.views id v w at (λ c. off (sym (ap is_served main) ∙ c)) (λ c. off (sym (ap is_served main) ∙ c)) h.value);
        sleepers = remembered_push h.noted h.rings mid n (λ _ is. absurd (cc is)) (remembered_set h.noted h.rings s.views id v w at (λ c. off (sym (ap is_owing main) ∙ c)) (λ c _. absurd (off (sym (ap is_away main) ∙ c))) h.sleepers);
      }

  -- the main seat has seen more, and nothing else of it changes
  meet_longer : (id : ℕ) (v : View F E) → v.stage ≡ Main → (s : State (Option T) (View F E)) (h : Kept fixed history awaited opening s) → get_elem? s.views id ≡ some v
      → Kept fixed history awaited opening record { words = set s.words 0 (get_or s.words 0 0); homes = s.homes; views = set s.views id (record v { seen = v.joined }) }
  meet_longer id v main s h at =
      let w : View F E = record v { seen = v.joined } in
      let f = h.each id v at in
      let is_it : is_main v.stage ≡ true = ap is_main main in
      let idle : is_served v.stage ≢ true = λ c. off (sym (ap is_served main) ∙ c) in
      let r = h.main id v at is_it in
      record {
        log = h.log;
        noted = h.noted;
        rings = h.rings;
        words = length-set s.words 0 (get_or s.words 0 0) ∙ h.words;
        bell = bell_kept s.words (get_or s.words 0 0) ∙ h.bell;
        each = each_set (Fits opening h.log h.noted h.rings) s.views id w (λ j u other e. h.each j u e)
            record { found = f.found; heard = f.heard; opening = f.opening; seen = f.joined; joined = f.joined; mine = f.mine; served = λ c. absurd (idle c); ended = f.ended; none = f.none };
        differ = differ_set s.views id w h.differ (λ j u other e. let d = h.differ id j v u (λ y. other (sym y)) at e in record { turns = d.turns; apps = d.apps; left = d.left; right = d.right; mains = d.mains });
        main = each_set (λ u. is_main u.stage ≡ true → Governs h.log (set s.views id w) u) s.views id w
            (λ j u other e also. absurd ((h.differ id j v u (λ y. other (sym y)) at e).mains is_it also))
            (λ _. record { others = r.others; all = each_set (IsAmong v.apps) s.views id w (λ j u other e. r.all j u e) record { live = (r.all id v at).live; ended = (r.all id v at).ended } });
        value = subst (λ (l : List ℕ). IsHomeOrOut fixed history awaited opening l h.log h.noted s.homes (set s.views id w)) (sym (set_same s.words 0)) (value_set fixed history awaited opening s.words h.log h.noted s.homes s.views id v w at idle idle h.value);
        sleepers = remembered_set h.noted h.rings s.views id v w at (λ c. off (sym (ap is_owing main) ∙ c)) (λ c _. absurd (off (sym (ap is_away main) ∙ c))) h.sleepers;
      }

  pub meet_keeps : (slots id : ℕ) (me : Me (Option T) (View F E)) → me.0.stage ≡ Main
      → Allows (Kept fixed history awaited opening) slots id me 0 (λ n. n) (λ found now. Meets me now)
  meet_keeps slots id me main s h homes at small =
      let v : View F E = me.0 in
      let f = h.each id v at in
      let r = h.main id v at (ap is_main main) in
      dite (dec_le (length v.seen) (length v.joined))
      (λ le. (
        record v { seen = v.joined },
        keeps,
        tt,
        meet_longer id v main s h at,
        (refl, inl (prefix_shorter v.seen v.joined h.log f.seen f.joined le, refl), λ app out. entries_of-beginning app v.joined h.log f.joined (r.others app out), own_of v.ended v.joined h.log f.joined f.ended),
      ))
      (λ more. let longer : length v.joined < length v.seen = lt_of_not-le more in (
        v,
        keeps,
        tt,
        stays fixed history awaited opening s h 0 id v at,
        (refl, inr (prefix_shorter v.joined v.seen h.log f.joined f.seen (omega arith), refl), λ app out. entries_of-beginning app v.seen h.log f.seen (r.others app out), own_of v.ended v.seen h.log f.seen f.ended),
      ))

  -- of the seats after a join: each other one is as it was, one is spent, and main has the ended seat's entries
  each_joined : (Q : View F E → Type 0) (views : List (View F E)) (id other : ℕ) (b z : View F E) → ((j : ℕ) (u : View F E) → get_elem? views j ≡ some u → Q u) → Q z → Q b → Each Q (set (set views other z) id b)
  each_joined Q views id other b z old spent here = each_set Q (set views other z) id b (λ j u away e. each_set Q views other z (λ i x away' e'. old i x e') spent j u e) here

  -- the main seat with an ended one's entries differs from every other
  differ_joined : (id other : ℕ) (v w : View F E) → v.stage ≡ Main → w.stage ≡ Away → (s : State (Option T) (View F E)) (h : Kept fixed history awaited opening s) → get_elem? s.views id ≡ some v → get_elem? s.views other ≡ some w
      → (j : ℕ) (u : View F E) → j ≢ id → j ≢ other → get_elem? s.views j ≡ some u → Differ (joined_place v w) u
  differ_joined id other v w main away s h at at' j u not_main not_ended e =
      let d = h.differ id j v u (λ x. not_main (sym x)) at e in
      let ends = h.differ other j w u (λ x. not_ended (sym x)) at' e in
      record {
        turns = d.turns;
        apps = d.apps;
        left = d.left;
        right = λ c. All-push (λ x. u.app ≢ x.0) v.ended (w.app, w.mine) (d.right c) (λ same. ends.apps (ap is_live away) c (sym same));
        mains = d.mains;
      }

  spent_differs : (u : View F E) → Differ spent_place u
  spent_differs u = record { turns = λ c. absurd (off c); apps = λ c. absurd (off c); left = λ c. absurd (off c); right = λ _. All-nil (λ e. u.app ≢ e.0); mains = λ c _. absurd (off c) }

  joined_differs_spent : (v w : View F E) → v.stage ≡ Main → Differ (joined_place v w) spent_place
  joined_differs_spent v w main = record { turns = λ _ c. absurd (off c); apps = λ _ c. absurd (off c); left = λ _. All-nil (λ e. v.app ≢ e.0); right = λ c. absurd (off c); mains = λ _ c. absurd (off c) }

  pub join_keeps : (id other : ℕ) (v w : View F E) → v.stage ≡ Main → w.stage ≡ Away → Joins (Kept fixed history awaited opening) id v other w (joined_place v w) spent_place
  join_keeps id other v w main away s h at apart there =
      let b : View F E = joined_place v w in
      let z : View F E = spent_place in
      let at' : get_elem? s.views other ≡ some w = ⊎_elim (λ (x : (other ≡ id) × (b ≡ w)). absurd (apart x.0)) (λ (x : (other ≢ id) × (get_elem? s.views other ≡ some w)). x.1) (at_set s.views id other b w there) in
      let mid : List (View F E) = set s.views other z in
      let in_mid : get_elem? mid id ≡ some v = set_else s.views other id z (λ e. apart (sym e)) ∙ at in
      let fin : List (View F E) = set mid id b in
      let f = h.each id v at in
      let g = h.each other w at' in
      let is_it : is_main v.stage ≡ true = ap is_main main in
      let dead : is_live v.stage ≡ true → ⊥ = λ c. off (sym (ap is_live main) ∙ c) in
      let idle : is_served v.stage ≢ true = λ c. off (sym (ap is_served main) ∙ c) in
      let idle' : is_served w.stage ≢ true = λ c. off (sym (ap is_served away) ∙ c) in
      let live : is_live w.stage ≡ true = ap is_live away in
      let r = h.main id v at is_it in
      subst (λ (l : List (View F E)). Kept fixed history awaited opening record { words = s.words; homes = s.homes; views = l }) (set_comm s.views other id z b apart) record {
        log = h.log;
        noted = h.noted;
        rings = h.rings;
        words = h.words;
        bell = h.bell;
        each = each_joined (Fits opening h.log h.noted h.rings) s.views id other b z (λ j u e. h.each j u e)
            record { found = λ c. absurd (off c); heard = λ n is. absurd (cc is); opening = λ c. absurd (off c); seen = (h.log, refl); joined = (h.log, refl); mine = λ c. absurd (off c); served = λ c. absurd (off c); ended = All-nil (λ e. entries_of e.0 h.log ≡ e.1); none = λ _. refl }
            record { found = f.found; heard = f.heard; opening = f.opening; seen = f.seen; joined = g.seen; mine = f.mine; served = f.served; ended = All-push (λ e. entries_of e.0 h.log ≡ e.1) v.ended (w.app, w.mine) f.ended (g.mine live); none = λ c. absurd (c is_it) };
        differ = differ_set mid id b (differ_set s.views other z h.differ (λ j u not_ended e. spent_differs u))
            (λ j u not_main e. ⊎_elim
            (λ (x : (j ≡ other) × (z ≡ u)). subst (Differ b) x.1 (joined_differs_spent v w main))
            (λ (x : (j ≢ other) × (get_elem? s.views j ≡ some u)). differ_joined id other v w main away s h at at' j u not_main x.0 x.1)
            (at_set s.views other j z u e));
        main = each_set (λ u. is_main u.stage ≡ true → Governs h.log fin u) mid id b
            (λ j u not_main e also. absurd (⊎_elim
            (λ (x : (j ≡ other) × (z ≡ u)). off (subst (λ (y : View F E). is_main y.stage ≡ true) (sym x.1) also))
            (λ (x : (j ≢ other) × (get_elem? s.views j ≡ some u)). (h.differ id j v u (λ y. not_main (sym y)) at x.1).mains is_it also)
            (at_set s.views other j z u e)))
            (λ _. record {
              others = r.others;
              all = each_joined (IsAmong v.apps) s.views id other b z (λ j u e. r.all j u e)
                  record { live = λ c. absurd (off c); ended = All-nil (λ e. Contains v.apps e.0) }
                  record { live = λ c. absurd (dead c); ended = All-push (λ e. Contains v.apps e.0) v.ended (w.app, w.mine) (r.all id v at).ended ((r.all other w at').live live) };
            });
        value = value_set fixed history awaited opening s.words h.log h.noted s.homes mid id v b in_mid idle idle (value_set fixed history awaited opening s.words h.log h.noted s.homes s.views other w z at' idle' off h.value);
        sleepers = remembered_set h.noted h.rings mid id v b in_mid (λ c. off (sym (ap is_owing main) ∙ c)) (λ c _. absurd (off (sym (ap is_away main) ∙ c)))
            (remembered_set h.noted h.rings s.views other w z at' (λ c. off (sym (ap is_owing away) ∙ c)) (λ c _. absurd (off c)) h.sleepers);
      }

  -- the seat that ended comes back, as it was
  pub resume_keeps : (id : ℕ) (v : View F E) → v.stage ≡ Main → length v.ended ≡ 1 → Splits (Kept fixed history awaited opening) id v (without_ended v) (ended_place v)
  resume_keeps id v main one s h at =
      let w : View F E = without_ended v in
      let n : View F E = ended_place v in
      let app : ℕ = (first_ended v.ended).0 in
      let mid : List (View F E) = set s.views id w in
      let f = h.each id v at in
      let is_it : is_main v.stage ≡ true = ap is_main main in
      let dead : is_live v.stage ≡ true → ⊥ = λ c. off (sym (ap is_live main) ∙ c) in
      let idle : is_served v.stage ≢ true = λ c. off (sym (ap is_served main) ∙ c) in
      let r = h.main id v at is_it in
      record {
        log = h.log;
        noted = h.noted;
        rings = h.rings;
        words = h.words;
        bell = h.bell;
        each = each_push (Fits opening h.log h.noted h.rings) mid n
            (each_set (Fits opening h.log h.noted h.rings) s.views id w (λ j u other e. h.each j u e)
            record { found = f.found; heard = f.heard; opening = f.opening; seen = f.seen; joined = f.joined; mine = f.mine; served = f.served; ended = All-nil (λ e. entries_of e.0 h.log ≡ e.1); none = λ _. refl })
            record { found = λ c. absurd (off c); heard = λ k is. absurd (cc is); opening = λ _. f.opening (ap is_there main); seen = f.joined; joined = (h.log, refl); mine = λ _. first_of (λ e. entries_of e.0 h.log ≡ e.1) v.ended one f.ended; served = λ c. absurd (off c); ended = All-nil (λ e. entries_of e.0 h.log ≡ e.1); none = λ _. refl };
        differ = differ_push mid n
            (differ_set s.views id w h.differ (λ j u other e. let d = h.differ id j v u (λ x. other (sym x)) at e in record { turns = d.turns; apps = d.apps; left = d.left; right = λ _. All-nil (λ e'. u.app ≢ e'.0); mains = d.mains }))
            (each_set (Differ n) s.views id w
            (λ j u other e. let d = h.differ id j v u (λ x. other (sym x)) at e in record {
              turns = λ c. absurd (off c);
              apps = λ _ c same. first_of (λ e'. u.app ≢ e'.0) v.ended one (d.right c) (sym same);
              left = λ _. subst (All (λ e'. app ≢ e'.0)) (sym ((h.each j u e).none (d.mains is_it))) (All-nil (λ e'. app ≢ e'.0));
              right = λ _. All-nil (λ e'. u.app ≢ e'.0);
              mains = λ c _. absurd (off c);
            })
            record {
              turns = λ c. absurd (off c);
              apps = λ _ c. absurd (dead c);
              left = λ _. All-nil (λ e'. app ≢ e'.0);
              right = λ c. absurd (dead c);
              mains = λ c _. absurd (off c);
            });
        main = each_push (λ u. is_main u.stage ≡ true → Governs h.log (mid ++ n ∷ []) u) mid n
            (each_set (λ u. is_main u.stage ≡ true → Governs h.log (mid ++ n ∷ []) u) s.views id w
            (λ j u other e also. absurd ((h.differ id j v u (λ x. other (sym x)) at e).mains is_it also))
            (λ _. record {
              others = r.others;
              all = each_push (IsAmong v.apps) mid n
                  (each_set (IsAmong v.apps) s.views id w (λ j u other e. r.all j u e)
                  record { live = λ c. absurd (dead c); ended = All-nil (λ e. Contains v.apps e.0) })
                  record { live = λ _. first_of (λ e. Contains v.apps e.0) v.ended one (r.all id v at).ended; ended = All-nil (λ e. Contains v.apps e.0) };
            }))
            (λ c. absurd (off c));
        value = value_push fixed history awaited opening s.words h.log h.noted s.homes mid n off (value_set fixed history awaited opening s.words h.log h.noted s.homes s.views id v w at idle idle h.value);
        sleepers = remembered_push h.noted h.rings mid n (λ _ is. absurd (cc is)) (remembered_set h.noted h.rings s.views id v w at (λ c. off (sym (ap is_owing main) ∙ c)) (λ c _. absurd (off (sym (ap is_away main) ∙ c))) h.sleepers);
      }
