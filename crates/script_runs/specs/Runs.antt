-- What every run of a script leaves, whatever runs it.
use Rattle.std.specs.Prelude.{◌≡◌, ℕ, ◌<◌, ◌≤◌, List, ◌++◌, length, slice_index}
use Rattle.bus_words.specs.declared.history.Entry.{Entry}
use Rattle.bus_words.specs.Alone.{cut, receipts, solo_receipts, unmade}
use Rattle.bus_words.specs.Held.{HoldsNothing, account_of, bytes_in_use, numbers_to}
use Rattle.bus_words.specs.Machine.{IsLegal, state_after}
use Rattle.bus_words.specs.Numbers.{numbers_in}
use Rattle.tbl_words.specs.Leaves.{HoldsNothing as HoldsNoTables}
use Rattle.tbl_words.specs.Machine.{IsLegal as AreLegalTables, state_after as tables_after}
use Rattle.app_script.specs.Script.{ScriptText}
use Rattle.script_runs.specs.Histories.{Histories}
use Rattle.script_runs.specs.Merges.{Merges}
use Rattle.script_runs.specs.Stays.{MessagesStay, TablesStay}

-- A run of the script may have left these histories: the bus and the tables can have them under the
-- script's limits, each answer being the machine's, and a refusal its named cause's; and they merge
-- the calls of the script's applications, each once and in order.
pub record IsRunOf (script : ScriptText) (histories : Histories) : Type 0 where
  pub legal : IsLegal script.limits (length script.apps) histories.bus
  pub legal_tables : AreLegalTables script.limits (length script.apps) histories.tables
  pub merges : Merges script histories

-- After these entries, no more blocks of a size are out of the bus's pool than were made, and no
-- more of its bytes are in use than it has.
pub record StaysInPool (script : ScriptText) (history : List Entry) : Type 0 where
  pub blocks :
      (class : ℕ) → class < length script.limits.sizes →
      let s = state_after script.limits (length script.apps) history in
      slice_index (account_of script.limits s).out class ≤ slice_index s.made class
  pub bytes : bytes_in_use
      (account_of script.limits (state_after script.limits (length script.apps) history)) ≤
      script.limits.pool

-- What holds of such histories: each pipe's receipts are those of the pipe alone, a list machine
-- under its own limits and depth over the accepted sends; the send numbers that are given are 1, 2,
-- 3 and so on, so each is new; at no time are more blocks of the bus's pool out than were made, or
-- more of its bytes in use than it has; a message that was received stays until its receiver lets
-- go of it, and so does a table that is held; and behind the last entries no pipe is live, no
-- message and no buffer is held, no byte is in use, and no table and no handle is left.
pub record Guarantees (script : ScriptText) (histories : Histories) : Type 0 where
  pub alone :
      (pipe : ℕ) →
      receipts script.limits (length script.apps) pipe histories.bus ≡
      solo_receipts unmade (cut script.limits (length script.apps) pipe histories.bus)
  pub numbers : numbers_in histories.bus ≡ numbers_to (length (numbers_in histories.bus))
  pub pool : (front rest : List Entry) → histories.bus ≡ front ++ rest → StaysInPool script front
  pub messages_stay : MessagesStay script.limits (length script.apps) histories.bus
  pub tables_stay : TablesStay script.limits (length script.apps) histories.tables
  pub nothing : HoldsNothing script.limits
      (state_after script.limits (length script.apps) histories.bus)
  pub no_tables : HoldsNoTables script.limits
      (tables_after script.limits (length script.apps) histories.tables)
