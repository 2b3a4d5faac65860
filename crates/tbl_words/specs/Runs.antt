-- Histories as runs: what a list of calls makes, each answered by the machine's step.
use Rattle.std.specs.Prelude.{◌≡◌, ℕ, List, [], ◌∷◌, ◌++◌, map}
use Rattle.fsw_base.specs.Limits.{Limits}
use Rattle.tbl_words.specs.declared.history.Call.{Call}
use Rattle.tbl_words.specs.declared.history.Entry.{Entry}
use Rattle.tbl_words.specs.Tables.{State}
use Rattle.tbl_words.specs.Machine.{step, state_after, IsLegal}

-- who made which call, in order
abbrev pub callers : List Entry → List (ℕ × Call)
callers history = map (λ e. (e.app, e.call)) history

-- the history and the tables once these calls were made, each answered by the step
abbrev pub run_from : Limits → List Entry → State → List (ℕ × Call) → List Entry × State
run_from limits history s [] = (history, s)
run_from limits history s (made ∷ calls) =
    run_from limits
    (history ++
    record { app = made.0; call = made.1; answer = (step limits s made.0 made.1).0 } ∷ [])
    ((step limits s made.0 made.1).1) calls

-- the entry may follow the history: the longer history is legal, and its tables are those that the
-- step leaves
pub record Follows (limits : Limits) (apps : ℕ) (history : List Entry) (e : Entry) : Type 0 where
  pub legal : IsLegal limits apps (history ++ e ∷ [])
  pub state : state_after limits apps (history ++ e ∷ []) ≡
      (step limits (state_after limits apps history) e.app e.call).1
