-- What is true of a lock between any two steps: of its two words, its slot and what all seats know.
use Rattle.std.specs.Prelude.{ℕ, ◌≡◌, ◌≢◌, ◌≤◌, ◌+◌, ◌%◌, ◌^◌, ◌⊎◌, Bool, true, List, [], length, All, Contains, Option, Some, slice_index}
use mathlib.Core.List.{IsPrefix}
use mathlib.Core.Option.{some}
use mathlib.Core.Option as home
use lib.ListN.{get_elem?}
use Rattle.atomic_table.specs.Table.{State}
use Rattle.turn_lock.specs.declared.view.View.{View}
use Rattle.turn_lock.specs.Views.{entries_of, is_live, is_served, is_away, is_owing, is_main, is_there}

module _ {F E : Type 0} where
  -- what the rule says of one seat, in a lock whose value has this fixed part, if this history
  -- was published last, the value noted sleepers then or didn't, and the bell rang so often
  pub record Fits (fixed : F) (log : List (ℕ × E)) (noted : Bool) (rings : ℕ) (v : View F E) :
      Type 0 where
    pub opening : is_there v.stage ≡ true → v.fixed ≡ Some fixed
    pub seen : IsPrefix v.seen log
    pub joined : IsPrefix v.joined log
    pub mine : is_live v.stage ≡ true → entries_of v.app log ≡ v.mine
    pub served : is_served v.stage ≡ true → v.seen ≡ log
    pub ended : All (λ e. entries_of e.0 log ≡ e.1) v.ended
    pub none : is_main v.stage ≢ true → v.ended ≡ []
    pub found : is_served v.stage ≡ true → v.noted ≡ noted
    pub heard : (n : ℕ) → v.heard ≡ Some n → n ≤ rings

  -- what it says of two seats: not both have a turn, no application has two seats or is ended while
  -- it has one, and one seat is the main one
  pub record Differ (v w : View F E) : Type 0 where
    pub turns : is_served v.stage ≡ true → is_served w.stage ≡ true → ⊥
    pub apps : is_live v.stage ≡ true → is_live w.stage ≡ true → v.app ≢ w.app
    pub left : is_live v.stage ≡ true → All (λ e. v.app ≢ e.0) w.ended
    pub right : is_live w.stage ≡ true → All (λ e. w.app ≢ e.0) v.ended
    pub mains : is_main v.stage ≡ true → is_main w.stage ≡ true → ⊥

  -- P holds of what each seat knows
  abbrev pub Each : (View F E → Type 0) → List (View F E) → Type 0
  Each P views = (i : ℕ) (v : View F E) → get_elem? views i ≡ some v → P v

  abbrev pub AllDiffer : List (View F E) → Type 0
  AllDiffer views =
      (i j : ℕ) (v w : View F E) → i ≢ j → get_elem? views i ≡ some v → get_elem? views j ≡ some w →
      Differ v w

  -- the applications that a seat knows of are among these
  pub record IsAmong (apps : List ℕ) (v : View F E) : Type 0 where
    pub live : is_live v.stage ≡ true → Contains apps v.app
    pub ended : All (λ e. Contains apps e.0) v.ended

  -- what the rule says of the main seat: each other seat is of an application that it has split
  -- off, and so is each entry
  pub record Governs (log : List (ℕ × E)) (views : List (View F E)) (main : View F E) : Type 0 where
    pub others : (app : ℕ) → ¬ (Contains main.apps app) → entries_of app log ≡ []
    pub all : Each (IsAmong main.apps) views

  abbrev pub MainGoverns : List (ℕ × E) → List (View F E) → Type 0
  MainGoverns log views = Each (λ v. is_main v.stage ≡ true → Governs log views v) views

  -- a seat has yet to ring
  abbrev pub IsRingDue : List (View F E) → Type 0
  IsRingDue views =
      (i : ℕ) × (v : View F E) × (get_elem? views i ≡ some v) × (is_owing v.stage ≡ true)

  -- No sleeper is forgotten. If a seat left its turn to sleep and the bell hasn't rung since it
  -- heard it there, the value notes that there are sleepers, or a seat has yet to ring.
  abbrev pub AreRemembered : Bool → ℕ → List (View F E) → Type 0
  AreRemembered noted rings views =
      Each
      (λ v. is_away v.stage ≡ true → v.heard ≡ Some rings → (noted ≡ true) ⊎ IsRingDue views) views

  abbrev pub NoneServed : List (View F E) → Type 0
  NoneServed views = Each (λ v. is_served v.stage ≢ true) views

  -- the value is out with one seat
  abbrev pub IsOutWithOne : List (View F E) → Type 0
  IsOutWithOne views =
      (i : ℕ) × (v : View F E) × (get_elem? views i ≡ some v) × (is_served v.stage ≡ true)

module _ {T F E : Type 0} (fixed : T → F) (history : T → List (ℕ × E)) (awaited : T → Bool)
    (opening : F) where
  -- the value is at home, with the fixed part of the opening, just the history that was published
  -- last, and sleepers noted or not as they were then
  abbrev pub IsHome : List (ℕ × E) → Bool → List (home.Option (Option T)) → List (View F E) → Type 0
  IsHome log noted homes views =
      (x : T) × (get_elem? homes 0 ≡ some (some (Some x))) × (history x ≡ log) ×
      (fixed x ≡ opening) × NoneServed views × (awaited x ≡ noted)

  -- if the turn's word is 0 the value is at home, and otherwise it is out
  abbrev pub IsHomeOrOut : List ℕ → List (ℕ × E) → Bool → List (home.Option (Option T)) →
      List (View F E) → Type 0
  IsHomeOrOut words log noted homes views =
      ((slice_index words 0 ≡ 0) × IsHome log noted homes views) ⊎
      ((slice_index words 0 ≢ 0) × IsOutWithOne views)

  -- the rule
  pub record Kept (s : State (Option T) (View F E)) : Type 0 where
    pub log : List (ℕ × E)
    pub noted : Bool
    pub rings : ℕ
    pub words : length s.words ≡ 2
    pub bell : slice_index s.words 1 ≡ rings % 2 ^ 64
    pub each : Each (Fits opening log noted rings) s.views
    pub differ : AllDiffer s.views
    pub main : MainGoverns log s.views
    pub value : IsHomeOrOut s.words log noted s.homes s.views
    pub sleepers : AreRemembered noted rings s.views
