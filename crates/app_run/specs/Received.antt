-- What an application received and holds, and what its receipts tell of it.
use Rattle.std.specs.Prelude.{◌≡◌, ℕ, ◌==◌, List, [], ◌∷◌, Option, Some, None, IfSome, if◌then◌else◌}
use Rattle.std.specs.Option.{option_map, option_or, option_to_list}
use Rattle.bus_words.specs.declared.calls.BusAnswer.{BusAnswer}
use Rattle.bus_words.specs.declared.calls.BusAnswer.TheVariants.{Got}
use Rattle.bus_words.specs.declared.history.Call.{Call}
use Rattle.bus_words.specs.declared.history.Call.TheVariants as calls
use Rattle.bus_words.specs.declared.receipts.Receipt.{Receipt}
use Rattle.bus_words.specs.declared.receipts.Receipt.TheVariants.{Nothing, Message, Table}
use Rattle.bus_words.specs.Bus.{State}
use Rattle.bus_words.specs.Receipts.{message_receipt}
use Rattle.sb_calls.specs.Core.{state_of}
use Rattle.script_runs.specs.Told.{own_last, own_hold}
use Rattle.tbl_words.specs.declared.calls.TblAnswer.{TblAnswer}
use Rattle.tbl_words.specs.declared.calls.TblAnswer.TheVariants.{Address}
use Rattle.tbl_words.specs.declared.history.Call.{Call as TableCall}
use Rattle.tbl_words.specs.declared.history.Call.TheVariants as table_calls
use Rattle.tbl_words.specs.Receipts.{table_receipt}
use Rattle.tbl_words.specs.Tables.{State as Tables}
use Rattle.tbl_load.specs.Core.{state_of as tables_of}
use Rattle.app_calls.specs.Callers.{Caller}

-- the receipt of the caller's last message from a pipe, under this send number
abbrev pub taken_from : Caller → ℕ → ℕ → List Receipt
taken_from caller pipe number =
    option_to_list
    (option_map (λ item. message_receipt pipe number item.message)
    (own_last (state_of caller.core).pipes caller.app pipe))

-- the receipts of a call that was so answered, with the bus as it is now: one if it got a
-- message
abbrev pub taken_by : Caller → Option Call → BusAnswer → List Receipt
taken_by caller (Some (calls.Receive pipe)) (Got number) = taken_from caller pipe number
taken_by caller (Some (calls.Pend pipe)) (Got number) = taken_from caller pipe number
taken_by caller (Some (calls.Look pipe)) (Got number) = taken_from caller pipe number
taken_by caller call answer = []

-- the send number of a receipt from a pipe
abbrev pub number_from : Receipt → ℕ → Option ℕ
number_from Nothing pipe = None
number_from (Table handle version size sum head) pipe = None
number_from (Message from number id count size sum head) pipe =
    if from == pipe then Some number else None

-- the send number of the newest of the receipts from a pipe
abbrev pub newest_number : List Receipt → ℕ → Option ℕ
newest_number [] pipe = None
newest_number (receipt ∷ newer) pipe =
    option_or (newest_number newer pipe) (number_from receipt pipe)

-- Of each own pipe with a last message, the newest receipt is of that message.
abbrev pub Remember : List Receipt → State → ℕ → Type 0
Remember receipts s app =
    (pipe : ℕ) →
    IfSome (own_last s.pipes app pipe) (λ item. newest_number receipts pipe ≡ Some item.number)

-- Tables. --

-- a receipt of a version that a handle holds, of these bytes
abbrev pub held_receipt : ℕ → ℕ → List ℕ → Receipt
held_receipt handle version bytes =
    let r = table_receipt handle version bytes in Table r.handle r.version r.size r.sum_of_bytes
    r.head

-- the receipt of what a handle of the caller's holds, under this version
abbrev pub held_under : Caller → ℕ → ℕ → List Receipt
held_under caller handle version =
    option_to_list
    (option_map (λ hold. held_receipt handle version hold.value)
    (own_hold (tables_of caller.tables) caller.app handle))

-- the receipts of a call of the tables that was so answered, with the tables as they are now: one
-- if it gave an address
abbrev pub taken_at_tables : Caller → Option TableCall → TblAnswer → List Receipt
taken_at_tables caller (Some (table_calls.GetAddress handle)) (Address told version) =
    held_under caller handle version
taken_at_tables caller call answer = []

-- the version that a receipt is of, if it is of this handle
abbrev pub version_from : Receipt → ℕ → Option ℕ
version_from Nothing handle = None
version_from (Message pipe number id count size sum head) handle = None
version_from (Table from version size sum head) handle =
    if from == handle then Some version else None

-- the version that the newest of the receipts of a handle is of
abbrev pub newest_version : List Receipt → ℕ → Option ℕ
newest_version [] handle = None
newest_version (receipt ∷ newer) handle =
    option_or (newest_version newer handle) (version_from receipt handle)

-- Of each own handle that holds something, the newest receipt is of the version held.
abbrev pub RememberHeld : List Receipt → Tables → ℕ → Type 0
RememberHeld receipts t app =
    (handle : ℕ) →
    IfSome (own_hold t app handle) (λ hold. newest_version receipts handle ≡ Some hold.version)
