-- The words of the lock's contracts: what is seen of a lock, a seat and a turn.
use Rattle.std.specs.Prelude.{◌≡◌, ◌≢◌, ◌⊎◌, ◌++◌, ℕ, Bool, true, false, List, [], ◌∷◌, map, All, Contains, Option, Some, None}
use Rattle.atomic_table.specs.Seated.{TableId}
use Rattle.turn_lock.specs.Views.{entries_of}
use mathlib.Core.List.{IsPrefix}

-- a lock: which one it is, and how many seats can be split off
pub record LockView : Type 0 where
  pub name : TableId
  pub seats : ℕ

-- What a seat knows: the fixed part of the value; whether it is the main seat, and otherwise its
-- application; the history that it has seen, and the entries that it made. The main seat also knows
-- the applications that were split off, and those whose seats were joined, each with its entries.
pub record Known (F E : Type 0) : Type 0 where
  pub fixed : Option F
  pub main : Bool
  pub app : ℕ
  pub seen : List (ℕ × E)
  pub mine : List (ℕ × E)
  pub apps : List ℕ
  pub ended : List (ℕ × List (ℕ × E))

-- A seat: which lock it is of; what it knows, or nothing while its turn is out; and whether it left
-- its last turn to sleep, and hasn't slept since: it has to, or it was kept awake.
pub record SeatView (F E : Type 0) : Type 0 where
  pub lock : TableId
  pub knows : List (Known F E)
  pub rests : Bool
  pub kept_awake : Bool

-- A turn: which lock it is of, what its seat knows, the value as the turn found it, and as it is
-- now.
pub record TurnView (T F E : Type 0) : Type 0 where
  pub lock : TableId
  pub view : Known F E
  pub found : T
  pub value : T

-- one of two histories begins the other, and the longer one is kept
abbrev pub KeepsLonger : {E : Type 0} → List (ℕ × E) → List (ℕ × E) → List (ℕ × E) → Type 0
KeepsLonger one other kept =
    (IsPrefix one other × (kept ≡ other)) ⊎ (IsPrefix other one × (kept ≡ one))

module _ {F E : Type 0} where
  -- the main seat of a new lock, whose value has this fixed part and this history
  abbrev pub main_view : F → List (ℕ × E) → Known F E
  main_view fixed log =
      record {
        fixed = Some fixed;
        main = true;
        app = 0;
        seen = log;
        mine = [];
        apps = [];
        ended = [];
      }

  -- a seat for an application, new from the main seat: it has seen as much, and made no entry
  abbrev pub seat_view : Known F E → ℕ → Known F E
  seat_view main app =
      record {
        fixed = main.fixed;
        main = false;
        app = app;
        seen = main.seen;
        mine = [];
        apps = [];
        ended = [];
      }

  -- the main seat, with one application more split off
  abbrev pub with_app : Known F E → ℕ → Known F E
  with_app main app = record main { apps = main.apps ++ app ∷ [] }

  -- the seat, with this history seen
  abbrev pub entered_view : Known F E → List (ℕ × E) → Known F E
  entered_view v log = record v { seen = log }

  -- the seat, with this history seen, of which the seat's own entries are its application's
  abbrev pub left_view : Known F E → List (ℕ × E) → Known F E
  left_view v log = record v { seen = log; mine = entries_of v.app log }

  -- the seat again, with the main seat's fixed part
  abbrev pub again_view : Known F E → Known F E → Known F E
  again_view main v =
      record {
        fixed = main.fixed;
        main = false;
        app = v.app;
        seen = v.seen;
        mine = v.mine;
        apps = [];
        ended = [];
      }

  -- a seat that knows nothing
  abbrev pub blank_view : Known F E
  blank_view =
      record { fixed = None; main = false; app = 0; seen = []; mine = []; apps = []; ended = [] }

  abbrev pub first_view : List (Known F E) → Known F E
  first_view [] = blank_view
  first_view (v ∷ vs) = v

  -- what a seat knows
  abbrev pub view_of : SeatView F E → Known F E
  view_of s = first_view s.knows

  -- its turn is out
  abbrev pub IsOut : SeatView F E → Type 0
  IsOut s = s.knows ≡ []

  -- the main seat of this lock
  pub record IsMain (s : SeatView F E) (name : TableId) : Type 0 where
    pub lock : s.lock ≡ name
    pub knows : s.knows ≡ view_of s ∷ []
    pub main : (view_of s).main ≡ true

  -- a seat of this lock that was split off, and whose turn is not out
  pub record IsIn (s : SeatView F E) (name : TableId) : Type 0 where
    pub lock : s.lock ≡ name
    pub knows : s.knows ≡ view_of s ∷ []
    pub main : (view_of s).main ≡ false

  -- such a seat that may begin a turn: if it left its last one to sleep, it has slept or was kept
  -- awake
  pub record IsReady (s : SeatView F E) (name : TableId) : Type 0 where
    pub lock : s.lock ≡ name
    pub knows : s.knows ≡ view_of s ∷ []
    pub main : (view_of s).main ≡ false
    pub slept : s.rests ≡ false

  -- this history is the one seen and then entries of no other application
  pub record AddsOwn (v : Known F E) (log : List (ℕ × E)) : Type 0 where
    pub more : List (ℕ × E)
    pub is : log ≡ v.seen ++ more
    pub others : (app : ℕ) → app ≢ v.app → entries_of app more ≡ []

  -- the seat of each application that was split off was joined
  abbrev pub AreAllJoined : Known F E → Type 0
  AreAllJoined main = All (Contains (map (λ e. e.0) main.ended)) main.apps
