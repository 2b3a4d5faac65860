-- What a seat knows by its place in the table, and which places seats have between turns.
use Rattle.std.specs.Prelude.{ℕ, ◌≡◌, ◌%◌, ◌^◌, Bool, true, false, Option, Some}
use Rattle.turn_lock.specs.declared.board.Rang.{Rang}
use Rattle.turn_lock.specs.declared.seat.Rest.{Rest}
use Rattle.turn_lock.specs.declared.seat.Rest.TheVariants.{Over, Due, Skipped}
use Rattle.turn_lock.specs.declared.view.View.{View}
use Rattle.turn_lock.specs.declared.view.Stage.{Stage}
use Rattle.turn_lock.specs.declared.view.Stage.TheVariants.{Main, Away, Has, Owes, Spent}
use Rattle.turn_lock.specs.Views.{is_main}
use Rattle.turn_lock.specs.Seats.{Known}

-- whether it has no turn: it is the main seat, or an application's between its turns
abbrev pub is_idle : Stage → Bool
is_idle Main = true
is_idle Away = true
is_idle Has = false
is_idle Owes = false
is_idle Spent = false

-- what its seat knows
abbrev pub known : {F E : Type 0} → View F E → Known F E
known v =
    record {
      fixed = v.fixed;
      main = is_main v.stage;
      app = v.app;
      seen = v.seen;
      mine = v.mine;
      apps = v.apps;
      ended = v.ended;
    }

-- whether a seat has to sleep before its next turn
abbrev pub is_due : Rest → Bool
is_due Over = false
is_due (Due rang) = true
is_due (Skipped rang) = false

-- whether it had to, and was kept awake
abbrev pub is_skipped : Rest → Bool
is_skipped Over = false
is_skipped (Due rang) = false
is_skipped (Skipped rang) = true

-- the bell had rung so often, modulo 2 ^ 32, when it was heard
abbrev pub IsOf : Rang → Option ℕ → Type 0
IsOf rang heard =
    (rings : ℕ) × (heard ≡ Some rings) × (rang.count ≡ rings % 2 ^ 64 % 4294967296)

-- what a seat keeps of the bell is what it heard in the turn that it left to sleep
abbrev pub Recalls : Rest → Option ℕ → Type 0
Recalls Over heard = Unit {0}
Recalls (Due rang) heard = IsOf rang heard
Recalls (Skipped rang) heard = IsOf rang heard
