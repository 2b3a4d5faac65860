-- Histories as runs: what a list of calls makes, each answered by the machine's step. And what an
-- application's own entries tell of it.
use Rattle.std.specs.Prelude.{◌≡◌, ℕ, ◌==◌, List, [], ◌∷◌, ◌++◌, map, filter}
use Rattle.fsw_base.specs.Limits.{Limits}
use Rattle.bus_words.specs.declared.calls.BusAnswer.{BusAnswer}
use Rattle.bus_words.specs.declared.calls.BusAnswer.TheVariants.{Pending}
use Rattle.bus_words.specs.declared.history.Call.{Call}
use Rattle.bus_words.specs.declared.history.Call.TheVariants.{Pend, End}
use Rattle.bus_words.specs.declared.history.Entry.{Entry}
use Rattle.bus_words.specs.Bus.{State, Standing, Active, Waiting, Ended}
use Rattle.bus_words.specs.Machine.{step, state_after, IsLegal}

-- who made which call, in order
abbrev pub callers : List Entry → List (ℕ × Call)
callers history = map (λ e. (e.app, e.call)) history

-- the history and the bus once these calls were made, each answered by the step
abbrev pub stepped : Limits → List Entry → State → List (ℕ × Call) → List Entry × State
stepped limits history s [] = (history, s)
stepped limits history s (made ∷ calls) =
    stepped limits
    (history ++
    record {
      app = made.0;
      call = made.1;
      answer = (step limits history s made.0 made.1).0;
    } ∷ [])
    ((step limits history s made.0 made.1).1) calls

-- the entry may follow the history: the longer history is legal, and its bus is the one that the
-- step leaves
pub record Follows (limits : Limits) (apps : ℕ) (history : List Entry) (e : Entry) : Type 0 where
  pub legal : IsLegal limits apps (history ++ e ∷ [])
  pub state : state_after limits apps (history ++ e ∷ []) ≡
      (step limits history (state_after limits apps history) e.app e.call).1

-- What an application's own entries tell. --

-- one application's entries, in order
abbrev pub own_entries : ℕ → List Entry → List Entry
own_entries app entries = filter (λ e. e.app == app) entries

-- how an application stands once its call was so answered: a receive that has to wait leaves it
-- waiting on that pipe, its end leaves it ended, every other call leaves it active
abbrev pub standing_by : Call → BusAnswer → Standing
standing_by (Pend pipe) Pending = Waiting pipe
standing_by End answer = Ended
standing_by call answer = Active

-- the standing of an application with these entries of its own: as the last of them leaves it;
-- active before the first
abbrev pub standing_behind : List Entry → Standing
standing_behind [] = Active
standing_behind (e ∷ []) = standing_by e.call e.answer
standing_behind (e ∷ f ∷ es) = standing_behind (f ∷ es)
