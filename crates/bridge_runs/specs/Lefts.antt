-- What follows of a run of two buses and a bridge.
use Rattle.std.specs.Prelude.{ℕ, ◌+◌, List, [], ◌∷◌, length, map, Bool, true, false, count_by}
use Rattle.bus_words.specs.declared.calls.BusAnswer.{BusAnswer}
use Rattle.bus_words.specs.declared.calls.BusAnswer.TheVariants.{Sent}
use Rattle.bus_words.specs.declared.history.Call.{Call}
use Rattle.bus_words.specs.declared.history.Call.TheVariants.{Transmit, TransmitBuffer, Housekeeping}
use Rattle.bus_words.specs.declared.history.Entry.{Entry}
use Rattle.bus_words.specs.Alone.{cut, solo_receipts, unmade}
use Rattle.bus_words.specs.Held.{HoldsNothing}
use Rattle.bus_words.specs.Machine.{state_after}
use Rattle.tbl_words.specs.Leaves.{HoldsNothing as HoldsNoTables}
use Rattle.tbl_words.specs.Machine.{state_after as tables_after}
use Rattle.app_script.specs.Script.{ScriptText}
use Rattle.script_runs.specs.Histories.{Histories}
use Rattle.bridge_runs.specs.Bridge.{calls_by}
use Rattle.bridge_runs.specs.Sides.{side_apps}

-- the messages of sends
abbrev pub messages_in : List Call → List (List ℕ)
messages_in [] = []
messages_in (Transmit bytes inc ∷ calls) = bytes ∷ messages_in calls
messages_in (call ∷ calls) = messages_in calls

-- the messages that an application sends, in order
abbrev pub messages_by : ℕ → List Entry → List (List ℕ)
messages_by app history = messages_in (calls_by app history)

-- the messages that pipe p gives alone: a list machine under its own limits and depth, over the
-- sends that were accepted
abbrev pub given_alone : ScriptText → ℕ → List Entry → List (List ℕ)
given_alone script p history =
    map (λ received. received.message)
    (solo_receipts unmade (cut script.limits (side_apps script) p history))

-- whether a call may bring a message to pipes: a send, of bytes, of a buffer or of the housekeeping
-- packet
abbrev pub is_send : Call → Bool
is_send (Transmit bytes inc) = true
is_send (TransmitBuffer buf bytes inc) = true
is_send Housekeeping = true
is_send call = false

-- how many entries are sends
abbrev pub sends_in : List Entry → ℕ
sends_in entries = count_by (λ e. is_send e.call) entries

-- how many bytes a call so answered may bring to pipes: those of the message or of the buffer; a
-- housekeeping packet has 64
abbrev pub brought : Call → BusAnswer → ℕ
brought (Transmit bytes inc) (Sent number reached) = length bytes
brought (TransmitBuffer buf bytes inc) (Sent number reached) = length bytes
brought Housekeeping (Sent number reached) = 64
brought call answer = 0

-- how many bytes lists have, one behind the other
abbrev pub bytes_of : List (List ℕ) → ℕ
bytes_of [] = 0
bytes_of (message ∷ messages) = length message + bytes_of messages

-- behind these histories a side holds nothing: no pipe, message, buffer, block, table or handle
pub record SideHoldsNothing (script : ScriptText) (histories : Histories) : Type 0 where
  pub bus : HoldsNothing script.limits
      (state_after script.limits (side_apps script) histories.bus)
  pub tables : HoldsNoTables script.limits
      (tables_after script.limits (side_apps script) histories.tables)
