-- What callers of the lock show before they leave a turn or close the lock.
use Rattle.std.proofs.Common.{◌≡◌, ℕ, Bool, true, false, if◌then◌else◌, map, List, [], ◌∷◌, ◌++◌, sym, ◌∙◌, subst, All, Contains, refl, append-nil}
use Rattle.std.proofs.lemmas.List.Elements.{All-contains_itself}
use Rattle.atomic_table.specs.Seated.{TableId}
use Rattle.turn_lock.specs.Seats.{Known, SeatView, AddsOwn, AreAllJoined, IsIn, IsReady}
use Rattle.turn_lock.proofs.Entries.{entries_of-one}

module _ {F E : Type 0} where
  -- a turn without an entry
  pub adds_none : (v : Known F E) (log : List (ℕ × E)) → log ≡ v.seen → AddsOwn v log
  adds_none v log same = record { more = []; is = same ∙ sym (append-nil v.seen); others = λ app apart. refl }

  -- a turn with one entry of the seat's application
  pub adds_one : (v : Known F E) (log : List (ℕ × E)) (app : ℕ) (event : E) → v.app ≡ app → log ≡ v.seen ++ (app, event) ∷ [] → AddsOwn v log
  adds_one v log app event own same = record { more = (app, event) ∷ []; is = same; others = λ other apart. entries_of-one other app event (λ e. apart (e ∙ sym own)) }

  -- a turn with such an entry, or none
  pub adds_where : (v : Known F E) (log : List (ℕ × E)) (app : ℕ) (event : E) (made : Bool) → v.app ≡ app → log ≡ v.seen ++ (if made then (app, event) ∷ [] else []) → AddsOwn v log
  adds_where v log app event true own same = adds_one v log app event own same
  adds_where v log app event false own same = adds_none v log (same ∙ append-nil v.seen)

  -- the seats were joined in the order in which they were split off
  pub joined_in_order : (main : Known F E) → map (λ e. e.0) main.ended ≡ main.apps → AreAllJoined main
  joined_in_order main in_order = subst (λ apps. All (Contains apps) main.apps) (sym in_order) (All-contains_itself main.apps)

  -- a seat that may begin a turn is one of the lock
  pub ready_in : (s : SeatView F E) (name : TableId) → IsReady s name → IsIn s name
  ready_in s name ready = record { lock = ready.lock; knows = ready.knows; main = ready.main }
