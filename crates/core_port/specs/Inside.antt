-- What the lock guards, what contracts see of a port and the main part, and what is always true of
-- these.
use Rattle.std.specs.Prelude.{◌≡◌, ℕ, ◌≤◌, nat_eq, Bool, List, [], ◌∷◌, length, map, All, Contains}
use Rattle.std.specs.List.{IsDistinct}
use Rattle.fsw_base.specs.declared.config.Budget.{Budget}
use Rattle.turn_lock.specs.Views.{entries_of}
use Rattle.turn_lock.specs.Seats.{SeatView, view_of, IsIn, IsMain}
use Rattle.core_port.specs.Words.{Fixed, Words}
use Rattle.core_port.specs.Histories.{the_fixed, core_with, entries_in}
use Rattle.core_port.specs.Ports.{PortView, MainView}
use Rattle.core_port.specs.declared.history.NotedCall.{NotedCall}

-- what the lock guards: the core, and whether somebody sleeps until it has news
pub record BoxedView (S : Type 0) : Type 0 where
  pub core : S
  pub asleep : Bool

-- a history's entries are of applications, which are numbered from 1
abbrev pub AreCalled : {E : Type 0} → List (ℕ × E) → Type 0
AreCalled pairs = All (λ p. 1 ≤ p.0) pairs

module _ {S N C A L : Type 0} (w : Words S N C A L) where
  -- the core with the history that a seat has seen
  abbrev pub seen_in : SeatView Fixed (NotedCall C A) → S
  seen_in s = core_with w (view_of s).fixed (view_of s).seen

  -- the entries that it made
  abbrev pub mine_in : SeatView Fixed (NotedCall C A) → List N
  mine_in s = entries_in w (view_of s).mine

  abbrev pub port_in : SeatView Fixed (NotedCall C A) → ℕ → PortView S N
  port_in s app = record { lock = s.lock; app = app; seen = seen_in s; mine = mine_in s }

  -- the seat is the application's, with no turn out, the entries made are all that were seen of the
  -- application, and what is told of it is so
  pub record IsPort (s : SeatView Fixed (NotedCall C A)) (app : ℕ) (told : L) : Type 0 where
    pub seat : IsIn s s.lock
    pub own : (view_of s).app ≡ app
    pub first : 1 ≤ app
    pub known : app ≤ length (the_fixed (view_of s).fixed).budgets
    pub called : AreCalled (view_of s).seen
    pub mine : entries_of app (view_of s).seen ≡ (view_of s).mine
    pub tells : w.tells (seen_in s) app told

  -- an application that ended, with its entries
  abbrev pub ended_in : ℕ × List (ℕ × NotedCall C A) → ℕ × List N
  ended_in e = (e.0, entries_in w e.1)

  abbrev pub main_in : SeatView Fixed (NotedCall C A) → MainView S N
  main_in s =
      record {
        lock = s.lock;
        seen = seen_in s;
        apps = (view_of s).apps;
        ended = map ended_in (view_of s).ended;
      }

  -- it is the main seat, knows the budgets and how many views a bag has room for, has made a port
  -- of no application twice, and has seen entries of none but these
  pub record IsMainPart (s : SeatView Fixed (NotedCall C A)) (given : List Budget) (room : ℕ) :
      Type 0 where
    pub main : IsMain s s.lock
    pub budgets : (the_fixed (view_of s).fixed).budgets ≡ given
    pub views : w.view_room (the_fixed (view_of s).fixed).limits ≡ room
    pub distinct : IsDistinct nat_eq (0 ∷ (view_of s).apps)
    pub each : All (λ app. app ≤ 16) (view_of s).apps
    pub called : AreCalled (view_of s).seen
    pub others : (app : ℕ) → ¬ (Contains (view_of s).apps app) →
        entries_of app (view_of s).seen ≡ []
