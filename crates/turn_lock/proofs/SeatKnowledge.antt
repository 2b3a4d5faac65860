-- What a seat knows, and the seat of the table that knows it.
use Rattle.std.proofs.Common.{◌≡◌, ℕ, true, false, true≢false, List, [], ◌∷◌, ◌++◌, map, refl, sym, ap, ◌∙◌, subst, All}
use Rattle.std.proofs.lemmas.List.Elements.{All-head}
use Rattle.turn_lock.specs.declared.view.View.{View}
use Rattle.turn_lock.specs.declared.view.Stage.{Stage}
use Rattle.turn_lock.specs.declared.view.Stage.TheVariants.{Main, Away, Has, Owes, Spent}
use Rattle.turn_lock.specs.Views.{is_main, joined_place, ended_place, first_ended}
use Rattle.turn_lock.specs.Seats.{Known, SeatView, first_view, view_of, again_view, AddsOwn}
use Rattle.turn_lock.specs.Steps.{Grows}
use Rattle.turn_lock.specs.Inside.{known, is_idle}
use Rattle.turn_lock.proofs.Stages.{off}

idle_main : (stage : Stage) → is_idle stage ≡ true → is_main stage ≡ true → stage ≡ Main
idle_main Main idle main = refl
idle_main Away idle main = absurd (off main)
idle_main Has idle main = absurd (off idle)
idle_main Owes idle main = absurd (off idle)
idle_main Spent idle main = absurd (off idle)

idle_away : (stage : Stage) → is_idle stage ≡ true → is_main stage ≡ false → stage ≡ Away
idle_away Main idle main = absurd (true≢false main)
idle_away Away idle main = refl
idle_away Has idle main = absurd (off idle)
idle_away Owes idle main = absurd (off idle)
idle_away Spent idle main = absurd (off idle)

module _ {F E : Type 0} where
  -- who knows something is one seat of the table
  pub one_seat : (views : List (View F E)) (k : Known F E) → map known views ≡ k ∷ [] → (v : View F E) × (views ≡ v ∷ [])
  one_seat [] k is = absurd (cc is)
  one_seat (v ∷ []) k is = (v, refl)
  one_seat (v ∷ w ∷ rest) k is = absurd (cc is)

  module _ (views : List (View F E)) (v : View F E) (is : views ≡ v ∷ []) where
    pub knows_first : known v ≡ first_view (map known views)
    knows_first = subst (λ (l : List (View F E)). known v ≡ first_view (map known l)) (sym is) refl

    module _ (idle : All (λ (w : View F E). is_idle w.stage ≡ true) views) where
      first_idle : is_idle v.stage ≡ true
      first_idle = All-head (λ (w : View F E). is_idle w.stage ≡ true) v [] (subst (All (λ (w : View F E). is_idle w.stage ≡ true)) is idle)

      pub main_first : (first_view (map known views)).main ≡ true → v.stage ≡ Main
      main_first main = idle_main v.stage first_idle (subst (λ (k : Known F E). k.main ≡ true) (sym knows_first) main)

      pub away_first : (first_view (map known views)).main ≡ false → v.stage ≡ Away
      away_first main = idle_away v.stage first_idle (subst (λ (k : Known F E). k.main ≡ false) (sym knows_first) main)

  -- what the seat adds to the history the seat of the table does
  pub grows : (v w : View F E) (k : Known F E) (log told : List (ℕ × E)) → w ≡ v → known v ≡ k → told ≡ log → AddsOwn k log → Grows w told
  grows v w k log told same is is_log own = record {
    more = own.more;
    is = is_log ∙ (own.is ∙ (ap (λ (x : Known F E). x.seen ++ own.more) (sym is) ∙ ap (λ (x : View F E). x.seen ++ own.more) (sym same)));
    others = λ app apart. own.others app (λ e. apart (e ∙ (ap (λ (x : Known F E). x.app) (sym is) ∙ ap (λ (x : View F E). x.app) (sym same))));
  }

  -- an ended seat that came back knows what it knew, and the fixed part by the main seat
  pub resumed : (main seat : SeatView F E) (v w glued met back : View F E) → known v ≡ view_of main → known w ≡ view_of seat → glued ≡ joined_place v w → met ≡ record glued { seen = met.seen } → back ≡ ended_place met
      → (view_of main).ended ≡ [] → known back ≡ again_view (view_of main) (view_of seat)
  resumed main seat v w glued met back is_main_seat is_seat joins sees again none =
      let fixed : met.fixed ≡ (view_of main).fixed = ap (λ (x : View F E). x.fixed) sees ∙ (ap (λ (x : View F E). x.fixed) joins ∙ ap (λ (k : Known F E). k.fixed) is_main_seat) in
      let joined : met.joined ≡ (view_of seat).seen = ap (λ (x : View F E). x.joined) sees ∙ (ap (λ (x : View F E). x.joined) joins ∙ ap (λ (k : Known F E). k.seen) is_seat) in
      let before : v.ended ≡ [] = ap (λ (k : Known F E). k.ended) is_main_seat ∙ none in
      let ended : met.ended ≡ ((view_of seat).app, (view_of seat).mine) ∷ [] =
      ap (λ (x : View F E). x.ended) sees ∙ (ap (λ (x : View F E). x.ended) joins ∙ (ap (λ l. l ++ (w.app, w.mine) ∷ []) before ∙ ap (λ (k : Known F E). (k.app, k.mine) ∷ []) is_seat)) in
      ap known again ∙ (λ i. record {
        fixed = fixed i;
        main = false;
        app = (first_ended (ended i)).0;
        seen = joined i;
        mine = (first_ended (ended i)).1;
        apps = [];
        ended = [];
      })
