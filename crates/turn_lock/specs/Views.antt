-- What the table keeps of a seat (its place), and how each kind of step changes it.
use Rattle.std.specs.Prelude.{ℕ, ◌==◌, Bool, true, false, List, [], ◌∷◌, ◌++◌, filter, Option, Some, None, map, All, Contains}
use Rattle.turn_lock.specs.declared.rule.Way.{Way}
use Rattle.turn_lock.specs.declared.rule.Way.TheVariants.{AsFound, ToSleep, ToRing}
use Rattle.turn_lock.specs.declared.view.View.{View}
use Rattle.turn_lock.specs.declared.view.Stage.{Stage}
use Rattle.turn_lock.specs.declared.view.Stage.TheVariants.{Main, Away, Has, Owes, Spent}

-- the entries of one application, in order
abbrev pub entries_of : {E : Type 0} → ℕ → List (ℕ × E) → List (ℕ × E)
entries_of app = filter (λ e. e.0 == app)

-- whether a seat belongs to an application
abbrev pub is_live : Stage → Bool
is_live Main = false
is_live Away = true
is_live Has = true
is_live Owes = true
is_live Spent = false

-- whether the value is out with it
abbrev pub is_served : Stage → Bool
is_served Main = false
is_served Away = false
is_served Has = true
is_served Owes = false
is_served Spent = false

-- whether it is an application's between its turns
abbrev pub is_away : Stage → Bool
is_away Main = false
is_away Away = true
is_away Has = false
is_away Owes = false
is_away Spent = false

-- whether it has yet to ring
abbrev pub is_owing : Stage → Bool
is_owing Main = false
is_owing Away = false
is_owing Has = false
is_owing Owes = true
is_owing Spent = false

-- whether it is the main seat
abbrev pub is_main : Stage → Bool
is_main Main = true
is_main Away = false
is_main Has = false
is_main Owes = false
is_main Spent = false

-- whether there still is such a seat
abbrev pub is_there : Stage → Bool
is_there Main = true
is_there Away = true
is_there Has = true
is_there Owes = true
is_there Spent = false

-- where a seat stands that left its turn in this way
abbrev pub stage_by : Way → Stage
stage_by AsFound = Away
stage_by ToSleep = Away
stage_by ToRing = Owes

-- what it keeps of what it heard in its turn
abbrev pub heard_by : Way → Option ℕ → Option ℕ
heard_by AsFound heard = None
heard_by ToSleep heard = heard
heard_by ToRing heard = None

-- the first of the seats that ended, with its entries
abbrev pub first_ended : {E : Type 0} → List (ℕ × List (ℕ × E)) → ℕ × List (ℕ × E)
first_ended [] = (0, [])
first_ended (e ∷ es) = e

module _ {F E : Type 0} where
  -- the main seat of a new lock, whose value has this fixed part and this history
  abbrev pub main_place : F → List (ℕ × E) → View F E
  main_place fixed log =
      record {
        fixed = Some fixed;
        seen = log;
        app = 0;
        mine = [];
        stage = Main;
        noted = false;
        heard = None;
        apps = [];
        ended = [];
        joined = [];
      }

  -- a seat for an application, new from the main seat: it has seen as much, and made no entry
  abbrev pub seat_place : View F E → ℕ → View F E
  seat_place main app =
      record {
        fixed = main.fixed;
        seen = main.seen;
        app = app;
        mine = [];
        stage = Away;
        noted = false;
        heard = None;
        apps = [];
        ended = [];
        joined = [];
      }

  -- the main seat, with one application more split off
  abbrev pub with_seat : View F E → ℕ → View F E
  with_seat main app = record main { apps = main.apps ++ app ∷ [] }

  -- a seat whose turn has come, which has seen this history, and whether the value notes sleepers
  abbrev pub served_place : View F E → List (ℕ × E) → Bool → View F E
  served_place v log noted = record v { seen = log; stage = Has; noted = noted; heard = None }

  -- a seat that heard the bell, which had rung so often
  abbrev pub heard_place : View F E → ℕ → View F E
  heard_place v rings = record v { heard = Some rings }

  -- a seat that left its turn in this way, with this history seen, of which its own entries are its
  -- application's
  abbrev pub passed_place : View F E → List (ℕ × E) → Way → View F E
  passed_place v log way =
      record v {
        seen = log;
        mine = entries_of v.app log;
        stage = stage_by way;
        heard = heard_by way v.heard;
      }

  -- a seat that rang
  abbrev pub rung_place : View F E → View F E
  rung_place v = record v { stage = Away }

  -- the main seat, which takes in an ended seat's entries, and what that one had seen
  abbrev pub joined_place : View F E → View F E → View F E
  joined_place main v = record main { ended = main.ended ++ (v.app, v.mine) ∷ []; joined = v.seen }

  -- the main seat, of which the ended seats are seats again
  abbrev pub without_ended : View F E → View F E
  without_ended main = record main { ended = [] }

  -- the seat that ended, as it was: it had seen what the main seat noted of it
  abbrev pub ended_place : View F E → View F E
  ended_place main =
      record {
        fixed = main.fixed;
        seen = main.joined;
        app = (first_ended main.ended).0;
        mine = (first_ended main.ended).1;
        stage = Away;
        noted = false;
        heard = None;
        apps = [];
        ended = [];
        joined = [];
      }

  -- what is left of an ended seat
  abbrev pub spent_place : View F E
  spent_place =
      record {
        fixed = None;
        seen = [];
        app = 0;
        mine = [];
        stage = Spent;
        noted = false;
        heard = None;
        apps = [];
        ended = [];
        joined = [];
      }

  -- the seat of each application that was split off was joined
  abbrev pub AreAllJoined : View F E → Type 0
  AreAllJoined main = All (Contains (map (λ e. e.0) main.ended)) main.apps
