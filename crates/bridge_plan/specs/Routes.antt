-- Routes: which messages go over the bridge, and the lines that say so.
use Rattle.std.specs.Prelude.{◌≡◌, ◌≢◌, ℕ, ◌+◌, ◌≤◌, ◌==◌, nat_le, nat_lt, List, [], ◌∷◌, ◌++◌, length, All, Result, Ok, Err, codes, if◌then◌else◌}
use Rattle.std.specs.List.{AllPairs, list_all, list_any, starts_with}
use Rattle.fsw_base.specs.declared.script_faults.FaultKind.{FaultKind}
use Rattle.fsw_base.specs.declared.script_faults.FaultKind.TheVariants.{LineTooLong, BadByte, UnknownWord, OutOfRange, Repeated}
use Rattle.fsw_base.specs.declared.script_faults.ScriptFault.{ScriptFault}
use Rattle.script_words.specs.Counts.{Word, two}
use Rattle.script_words.specs.Numbers.{number_of, within}
use Rattle.script_words.specs.Readings.{◌>>=◌}
use Rattle.script_words.specs.Text.{words_of, is_text, is_same}
use Rattle.app_script.specs.Grammar.{at_line, ◌>=>◌}
use Rattle.bridge_plan.specs.declared.routes.Route.{Route}

-- a route of a message id, with a limit that a subscription of a script may have
pub record IsRoute (route : Route) : Type 0 where
  pub first : 1 ≤ route.id
  pub last : route.id ≤ 8191
  pub limit : route.limit ≤ 65535

-- at most 16 routes, each in its ranges and of another id
pub record AreRoutes (routes : List Route) : Type 0 where
  pub few : length routes ≤ 16
  pub each : All IsRoute routes
  pub ids : AllPairs (λ one other. one.id ≢ other.id) routes

-- route ID LIMIT
unfoldable pub route_of : List Word → Result Route FaultKind
route_of words = do
  w ← two words
  number ← number_of w.0
  most ← number_of w.1
  id ← within 1 8191 number
  limit ← within 0 65535 most
  Ok (record { id = id; limit = limit })

-- one route more: there are at most 16, each of another id
unfoldable pub after_route : List Route → Route → Result (List Route) FaultKind
after_route routes route =
    if nat_le 16 (length routes) then Err OutOfRange
    else (if list_any (λ other. other.id == route.id) routes then Err Repeated
    else Ok (routes ++ route ∷ []))

-- a line of these words: skipped if it has none or begins with a hash sign, else a route
unfoldable pub after_route_words : List Route → List Word → Result (List Route) FaultKind
after_route_words routes [] = Ok routes
after_route_words routes (first ∷ words) =
    if starts_with (λ a b. a == b) first (codes "#") then Ok routes
    else (if is_same first (codes "route") then (route_of words >>= after_route routes)
    else Err UnknownWord)

-- a line among the routes, of at most 1024 bytes, each printable or a tab
unfoldable pub after_route_line : List Route → List ℕ → Result (List Route) FaultKind
after_route_line routes line =
    if nat_lt 1024 (length line) then Err LineTooLong
    else (if list_all is_text line then after_route_words routes (words_of line) else Err BadByte)

-- the lines from one number on
unfoldable pub after_routes : ℕ → List Route → List (List ℕ) → Result (List Route) ScriptFault
after_routes number routes [] = Ok routes
after_routes number routes (line ∷ lines) =
    at_line number (after_route_line routes line) >=> λ now. after_routes (number + 1) now lines

-- the routes are these after a step, or its fault is this
abbrev pub Adds : {X : Type 0} → Result X FaultKind → List Route → Result (List Route) FaultKind →
    Type 0
Adds (Ok x) new reading = reading ≡ Ok new
Adds (Err kind) new reading = reading ≡ Err kind
