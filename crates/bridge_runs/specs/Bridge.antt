-- What a bridge does: it creates its pipe on side 1 and subscribes it to the routes, waits on it
-- until it first times out, and sends on side 2 what the pipe gave.
use Rattle.std.specs.Prelude.{◌≡◌, ℕ, Bool, true, false, List, [], ◌∷◌, ◌++◌, map, All, codes}
use Rattle.fsw_base.specs.declared.config.Scope.TheVariants.{Global}
use Rattle.bus_words.specs.declared.calls.BusAnswer.{BusAnswer}
use Rattle.bus_words.specs.declared.calls.BusAnswer.TheVariants.{Number, TimeOut, Pending}
use Rattle.bus_words.specs.declared.history.Call.{Call}
use Rattle.bus_words.specs.declared.history.Call.TheVariants.{Create, Subscribe, Pend, Look, Transmit, End}
use Rattle.bus_words.specs.declared.history.Entry.{Entry}
use Rattle.bus_words.specs.Alone.{receipts}
use Rattle.bus_words.specs.Runs.{callers}
use Rattle.app_script.specs.Script.{ScriptText}
use Rattle.script_runs.specs.Trace.{own_entries}
use Rattle.bridge_plan.specs.Plan.{PlanText, bridge_of}
use Rattle.bridge_runs.specs.Sides.{side_apps}

-- ---- its first calls, on side 1

-- it creates its pipe, as deep as the configuration allows, and subscribes it to each route, in
-- order
abbrev pub first_calls : PlanText → ℕ → List Call
first_calls plan p =
    Create plan.one.limits.depth (codes "BRIDGE") ∷
    map (λ route. Subscribe route.id p route.limit Global) plan.routes

-- the first of these entries was answered with the pipe's number
abbrev pub MakesPipe : ℕ → List Entry → Type 0
MakesPipe p [] = ⊥
MakesPipe p (e ∷ es) = e.answer ≡ Number p

-- The history begins with the bridge's first calls, before anybody else's, and its pipe is p.
pub record BeginsBridge (plan : PlanText) (p : ℕ) (history first rest : List Entry) : Type 0 where
  pub whole : history ≡ first ++ rest
  pub calls : callers first ≡ map (λ call. (bridge_of plan.one, call)) (first_calls plan p)
  pub pipe : MakesPipe p first

-- ---- its waits, on side 1

-- whether an answer leaves its caller waiting
abbrev pub is_pending : BusAnswer → Bool
is_pending Pending = true
is_pending answer = false

-- the entries are waits on the pipe, each that was left pending with a look behind it; if the flag
-- is set, the wait before them was left pending
abbrev pub Waits : ℕ → Bool → List Entry → Type 0
Waits p false [] = Unit {0}
Waits p true [] = ⊥
Waits p false (e ∷ es) = (e.call ≡ Pend p) × Waits p (is_pending e.answer) es
Waits p true (e ∷ es) = (e.call ≡ Look p) × Waits p false es

-- The bridge waits on its pipe, again and again, and then ends. Of the waits the last timed out,
-- and no other.
pub record WaitsAndEnds (p : ℕ) (entries : List Entry) : Type 0 where
  pub before : List Entry
  pub last : Entry
  pub end : Entry
  pub all : entries ≡ before ++ last ∷ end ∷ []
  pub waits : Waits p false (before ++ last ∷ [])
  pub ends : end.call ≡ End
  pub timed_out : last.answer ≡ TimeOut
  pub no_other : All (λ e. ¬ (e.answer ≡ TimeOut)) before

-- What the bridge does on side 1, its pipe being p: its first calls, with nobody's before them, and
-- then its waits.
pub record BridgesFrom (plan : PlanText) (p : ℕ) (history : List Entry) : Type 0 where
  pub first : List Entry
  pub rest : List Entry
  pub begins : BeginsBridge plan p history first rest
  pub waits : WaitsAndEnds p (own_entries (bridge_of plan.one) rest)

-- the messages that pipe p gave on a side, in order
abbrev pub given_by : ScriptText → ℕ → List Entry → List (List ℕ)
given_by script p history =
    map (λ received. received.message) (receipts script.limits (side_apps script) p history)

-- ---- its sends, on side 2

-- it sends these messages, each with the count that it has, and then ends
abbrev pub forwarding : List (List ℕ) → List Call
forwarding messages = map (λ message. Transmit message false) messages ++ End ∷ []

-- the calls of one application in a history
abbrev pub calls_by : ℕ → List Entry → List Call
calls_by app history = map (λ e. e.call) (own_entries app history)
