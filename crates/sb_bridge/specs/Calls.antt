-- Calls, and what they bring.
use Rattle.std.specs.Prelude.{ℕ, ◌+◌, false, List, [], ◌∷◌, map}
use Rattle.bus_words.specs.declared.history.Call.{Call}
use Rattle.bus_words.specs.declared.history.Call.TheVariants.{Transmit}
use Rattle.bus_words.specs.declared.history.Entry.{Entry}
use Rattle.bus_words.specs.Entries.{call_bytes}

-- the calls of these entries
abbrev pub calls_in : List Entry → List Call
calls_in entries = map (λ e. e.call) entries

-- how many bytes calls bring
abbrev pub bytes_in : List Call → ℕ
bytes_in [] = 0
bytes_in (call ∷ calls) = call_bytes call + bytes_in calls

-- the sends of these messages, each with the count that it has
abbrev pub sends_of : List (List ℕ) → List Call
sends_of messages = map (λ message. Transmit message false) messages
