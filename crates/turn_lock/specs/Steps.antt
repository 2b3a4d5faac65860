-- What each kind of atomic step tells the seat that makes it.
use Rattle.std.specs.Prelude.{ℕ, ◌≡◌, ◌≢◌, ◌++◌, ◌%◌, ◌^◌, ◌⊎◌, Bool, true, List, [], ◌∷◌, All, Contains, Option, Some}
use Rattle.atomic_table.specs.Table.{Me}
use Rattle.atomic_table.specs.declared.shared.Seat as places
use Rattle.turn_lock.specs.declared.rule.Way.{Way}
use Rattle.turn_lock.specs.declared.rule.Way.TheVariants.{AsFound, ToSleep, ToRing}
use Rattle.turn_lock.specs.declared.view.View.{View}
use Rattle.turn_lock.specs.Views.{entries_of, served_place, passed_place, heard_place, rung_place}
use Rattle.turn_lock.specs.Seats.{KeepsLonger}
use mathlib.Core.List.{IsPrefix}

-- the history is the one seen and more entries, which are of no other application
pub record Grows {F E : Type 0} (v : View F E) (log : List (ℕ × E)) : Type 0 where
  pub more : List (ℕ × E)
  pub is : log ≡ v.seen ++ more
  pub others : (app : ℕ) → app ≢ v.app → entries_of app more ≡ []

-- a turn may be left in this way, with a value that notes sleepers or doesn't
abbrev pub MayLeave : {F E : Type 0} → Way → Bool → View F E → Type 0
MayLeave AsFound awaited v = awaited ≡ v.noted
MayLeave ToSleep awaited v = awaited ≡ true
MayLeave ToRing awaited v = Unit {0}

module _ {T F E : Type 0} (fixed : T → F) (history : T → List (ℕ × E)) (awaited : T → Bool) where
  -- the turn has come, and the value is out with this seat: it has the opening's fixed part, its
  -- history extends the one seen, and of the seat's application it has just the seat's own entries
  abbrev pub IsServed : Me (Option T) (View F E) → Me (Option T) (View F E) → Type 0
  IsServed before now =
      (x : T) × (Some (fixed x) ≡ before.0.fixed) × IsPrefix before.0.seen (history x) ×
      (entries_of before.0.app (history x) ≡ before.0.mine)
      × (now ≡ (served_place before.0 (history x) (awaited x), (0, Some x) ∷ []))

  -- the turn was free and is the seat's, or it was not and nothing changed
  abbrev pub Seizes : Me (Option T) (View F E) → ℕ → Me (Option T) (View F E) → Type 0
  Seizes before found now = ((found ≡ 0) × IsServed before now) ⊎ ((found ≢ 0) × (now ≡ before))

module _ {T F E : Type 0} where
  -- the slot went home with this history
  abbrev pub Passes : List (ℕ × E) → Way → Me (Option T) (View F E) → Me (Option T) (View F E) →
      Type 0
  Passes log way before now = now ≡ (passed_place before.0 log way, [])

  -- the seat knows how often the bell had rung when its word was found so
  abbrev pub Hears : Me (Option T) (View F E) → ℕ → Me (Option T) (View F E) → Type 0
  Hears before found now =
      (rings : ℕ) × (found ≡ rings % 2 ^ 64) × (now ≡ (heard_place before.0 rings, before.1))

  -- the seat rang
  abbrev pub Rings : Me (Option T) (View F E) → Me (Option T) (View F E) → Type 0
  Rings before now = now ≡ (rung_place before.0, before.1)

  -- of what main has seen and what the ended seat had seen one begins the other, and main keeps the
  -- longer, which has no entries of applications that main hasn't split off, and of each that ended
  -- none but its own
  abbrev pub Meets : Me (Option T) (View F E) → Me (Option T) (View F E) → Type 0
  Meets before now =
      (now ≡ (record before.0 { seen = now.0.seen }, before.1)) ×
      KeepsLonger before.0.seen before.0.joined now.0.seen
      × ((app : ℕ) → ¬ (Contains before.0.apps app) → entries_of app now.0.seen ≡ [])
      × All (λ e. IsPrefix (entries_of e.0 now.0.seen) e.1) before.0.ended

-- a place in the table stays the one that it was
pub record Stays {S V : Type 0} (before now : places.Seat S V) : Type 0 where
  pub table : now.table_id ≡ before.table_id
  pub id : now.id ≡ before.id

-- the value of a closed lock has the fixed part of the opening and the history of all seats
pub record Closes {T F E : Type 0} (fixed : T → F) (history : T → List (ℕ × E)) (main : View F E)
    (x : T) : Type 0 where
  pub opening : Some (fixed x) ≡ main.fixed
  pub seen : IsPrefix main.seen (history x)
  pub ended : All (λ e. entries_of e.0 (history x) ≡ e.1) main.ended
  pub others : (app : ℕ) → ¬ (Contains main.apps app) → entries_of app (history x) ≡ []
