-- The bus as a machine over a state that is enough by itself: what a call answers and changes
-- follows from it alone, and no history need be kept.
use Rattle.std.specs.Prelude.{◌≡◌, ℕ, ◌+◌, ◌%◌, ◌==◌, ◌&&◌, nat_le, Bool, true, List, [], ◌∷◌, ◌++◌, map, find, if◌then◌else◌}
use Rattle.std.specs.List.{list_any}
use Rattle.std.specs.Option.{option_map_or}
use Rattle.fsw_base.specs.Limits.{Limits}
use Rattle.fsw_base.specs.Starts.{start_of}
use Rattle.ccsds_msg.specs.Message.{message_id}
use Rattle.housekeeping.specs.Packet.{housekeeping_id}
use Rattle.bus_words.specs.declared.calls.BusAnswer.{BusAnswer}
use Rattle.bus_words.specs.declared.calls.BusAnswer.TheVariants.{Done, Sent}
use Rattle.bus_words.specs.declared.history.Call.{Call}
use Rattle.bus_words.specs.declared.history.Call.TheVariants.{Subscribe, Transmit, TransmitBuffer, Housekeeping}
use Rattle.bus_words.specs.declared.history.Entry.{Entry}
use Rattle.bus_words.specs.Bus.{State, opening, has_route}
use Rattle.bus_words.specs.Machine.{Reads, next_count, step_with}

-- A message id that has a route, and the count that its next send gets.
pub record NextCount : Type 0 where
  pub id : ℕ
  pub next : ℕ

-- The bus, and the next count of each id that has a route, in order of routes.
pub record Whole : Type 0 where
  pub bus : State
  pub nexts : List NextCount

-- the id's next count; 0 if it has no route
abbrev pub next_in : List NextCount → ℕ → ℕ
next_in nexts id = option_map_or (λ n. n.next) (find (λ n. n.id == id) nexts) 0

-- whether the id has one
abbrev pub has_next : List NextCount → ℕ → Bool
has_next nexts id = list_any (λ n. n.id == id) nexts

-- what a call sees beside the bus, from the state alone
abbrev pub reads_in : Whole → Reads
reads_in w = record { next = next_in w.nexts }

-- the id's count once it was given, in 14 bits
abbrev pub moved_on : ℕ → NextCount → NextCount
moved_on id n = if n.id == id then record n { next = (n.next + 1) % 16384 } else n

-- the count at which an id starts
abbrev pub first_next : Limits → ℕ → NextCount
first_next limits id = record { id = id; next = (start_of limits.starts id + 1) % 16384 }

-- the next counts after a call so answered: a subscription gives its id a route, an accepted send
-- may move its id's count
abbrev pub nexts_after : Limits → List NextCount → Call → BusAnswer → List NextCount
nexts_after limits nexts (Subscribe id pipe limit scope) Done =
    if has_next nexts id then nexts else nexts ++ first_next limits id ∷ []
nexts_after limits nexts (Transmit bytes inc) (Sent number reached) =
    if inc && nat_le 1 number then map (moved_on (message_id bytes)) nexts else nexts
nexts_after limits nexts (TransmitBuffer buf bytes inc) (Sent number reached) =
    if inc && nat_le 1 number then map (moved_on (message_id bytes)) nexts else nexts
nexts_after limits nexts Housekeeping (Sent number reached) =
    if nat_le 1 number then map (moved_on housekeeping_id) nexts else nexts
nexts_after limits nexts call answer = nexts

-- what a call was answered, with all of the state after it
abbrev pub completed : Limits → Whole → Call → BusAnswer × State → BusAnswer × Whole
completed limits w call made =
    (made.0, record { bus = made.1; nexts = nexts_after limits w.nexts call made.0 })

-- what the call answers, and the state afterwards
abbrev pub act : Limits → Whole → ℕ → Call → BusAnswer × Whole
act limits w app call = completed limits w call (step_with (reads_in w) limits w.bus app call)

-- before the first call of so many applications
abbrev pub opening_whole : Limits → ℕ → Whole
opening_whole limits apps = record { bus = opening limits apps; nexts = [] }

-- the state after these entries' calls
abbrev pub whole_from : Limits → Whole → List Entry → Whole
whole_from limits w [] = w
whole_from limits w (e ∷ es) = whole_from limits ((act limits w e.app e.call).1) es

-- the state after a history of so many applications
abbrev pub whole_after : Limits → ℕ → List Entry → Whole
whole_after limits apps history = whole_from limits (opening_whole limits apps) history

-- Read off a history. --

-- the next counts of these ids after a history
abbrev pub nexts_of : Limits → List Entry → List ℕ → List NextCount
nexts_of limits history ids =
    map (λ id. record { id = id; next = next_count limits history id }) ids

-- all of the state, if the bus is this after this history
abbrev pub whole_of : Limits → List Entry → State → Whole
whole_of limits history s = record { bus = s; nexts = nexts_of limits history s.routed }

-- two readings tell a call the same, if the bus is this: no call asks for the count of an id
-- without a route
pub record AreAlike (reads other : Reads) (s : State) : Type 0 where
  pub next : (id : ℕ) → has_route s.routed id ≡ true → reads.next id ≡ other.next id
