-- What an application tells of the messages that it received and of the tables that it held, in the
-- order of its lines.
use Rattle.std.specs.Prelude.{ℕ, ◌==◌, List, [], ◌∷◌, ◌++◌, length, slice_index, Option, Some, None, unwrap_or, if◌then◌else◌}
use Rattle.std.specs.Option.{option_map, option_map_or, option_and_then, option_to_list}
use Rattle.fsw_base.specs.Limits.{Limits}
use Rattle.bus_words.specs.declared.calls.BusAnswer.{BusAnswer}
use Rattle.bus_words.specs.declared.calls.BusAnswer.TheVariants.{Got, Pending}
use Rattle.bus_words.specs.declared.history.Call.{Call}
use Rattle.bus_words.specs.declared.history.Call.TheVariants as calls
use Rattle.bus_words.specs.declared.history.Entry.{Entry}
use Rattle.bus_words.specs.declared.receipts.Receipt.{Receipt}
use Rattle.bus_words.specs.declared.receipts.Receipt.TheVariants.{Nothing, Table}
use Rattle.bus_words.specs.Bus.{Item, Pipe, State, opening, owns, pipe_at}
use Rattle.bus_words.specs.Machine.{step}
use Rattle.bus_words.specs.Receipts.{receipt_in}
use Rattle.tbl_words.specs.declared.calls.TblAnswer.{TblAnswer}
use Rattle.tbl_words.specs.declared.calls.TblAnswer.TheVariants.{Address}
use Rattle.tbl_words.specs.declared.history.Call.{Call as TableCall}
use Rattle.tbl_words.specs.declared.history.Call.TheVariants as table_calls
use Rattle.tbl_words.specs.declared.history.Entry.{Entry as TableEntry}
use Rattle.tbl_words.specs.Machine.{step as table_step}
use Rattle.tbl_words.specs.Receipts.{receipt_in as table_receipt_in}
use Rattle.tbl_words.specs.Holds.{hold_of}
use Rattle.tbl_words.specs.Tables.{Hold, State as Tables, opening as no_tables, owns as owns_handle}
use Rattle.script_lines.specs.declared.line.Line.{Line}
use Rattle.script_lines.specs.declared.line.Line.TheVariants.{ShowPipe, ShowTable}
use Rattle.app_script.specs.Script.{ScriptText, app_at}
use Rattle.script_runs.specs.Histories.{Histories}
use Rattle.script_runs.specs.TableTrace.{first_handles, table_call_of, handles_after}
use Rattle.script_runs.specs.Trace.{Registers, first_registers, call_of, registers_after}
use Rattle.script_runs.specs.Written.{Written, first_written, written_after, written_by}

-- The bus. --

-- the last message of the application's own live pipe of this number, if it has one
abbrev pub own_last : List Pipe → ℕ → ℕ → Option Item
own_last pipes app number =
    if owns pipes app number then option_and_then (λ pipe. pipe.last) (pipe_at pipes number)
    else None

-- An entry of an application, and the bus after it.
pub record Seen : Type 0 where
  pub entry : Entry
  pub after : State

-- an application's entries among those that follow a history, each with the bus after it
abbrev pub seen_from : Limits → List Entry → State → ℕ → List Entry → List Seen
seen_from limits history s app [] = []
seen_from limits history s app (e ∷ es) =
    let after = (step limits history s e.app e.call).1 in
    (if e.app == app then record { entry = e; after = after } ∷ [] else []) ++
    seen_from limits (history ++ e ∷ []) after app es

-- the receipt that an entry makes: one if it got a message, which is then the pipe's last
abbrev pub got_in : ℕ → State → Call → BusAnswer → List Receipt
got_in app s (calls.Receive pipe) (Got number) = option_to_list (receipt_in s app pipe)
got_in app s (calls.Pend pipe) (Got number) = option_to_list (receipt_in s app pipe)
got_in app s (calls.Look pipe) (Got number) = option_to_list (receipt_in s app pipe)
got_in app s call answer = []

abbrev pub receipts_of : ℕ → Seen → List Receipt
receipts_of app seen = got_in app seen.after seen.entry.call seen.entry.answer

-- The tables. --

-- what the application's own live handle of this number holds, if it holds something
abbrev pub own_hold : Tables → ℕ → ℕ → Option Hold
own_hold t app handle = if owns_handle t.handles app handle then hold_of t.handles handle else None

-- the receipt of what a handle of the application's holds, if it holds something
abbrev pub held_in : Tables → ℕ → ℕ → Option Receipt
held_in t app handle =
    option_map (λ r. Table r.handle r.version r.size r.sum_of_bytes r.head)
    (table_receipt_in t app handle)

-- An entry of an application, and the tables after it.
pub record TableSeen : Type 0 where
  pub entry : TableEntry
  pub after : Tables

-- an application's entries among those that follow if the tables are so, each with the tables
-- after it
abbrev pub table_seen_from : Limits → Tables → ℕ → List TableEntry → List TableSeen
table_seen_from limits t app [] = []
table_seen_from limits t app (e ∷ es) =
    let after = (table_step limits t e.app e.call).1 in
    (if e.app == app then record { entry = e; after = after } ∷ [] else []) ++
    table_seen_from limits after app es

-- the receipt that an entry makes: one if it gave an address, of what the handle then holds
abbrev pub addressed_in : ℕ → Tables → TableCall → TblAnswer → List Receipt
addressed_in app t (table_calls.GetAddress handle) (Address told version) =
    option_to_list (held_in t app handle)
addressed_in app t call answer = []

abbrev pub table_receipts_of : ℕ → TableSeen → List Receipt
table_receipts_of app seen = addressed_in app seen.after seen.entry.call seen.entry.answer

-- Lines. --

-- Where an application is in what it tells: its registers, what it wrote, both services as they are
-- after its latest entry of each, and its entries to come.
pub record Telling : Type 0 where
  pub registers : Registers
  pub handles : List ℕ
  pub written : Written
  pub state : State
  pub tables : Tables
  pub seen : List Seen
  pub table_seen : List TableSeen

-- what a line tells that no service sees: `show` the pipe's last message, or what the handle holds,
-- or nothing if there is none
unfoldable pub shown : ℕ → State → Tables → Registers → List ℕ → Line → List Receipt
shown app s t registers handles (ShowPipe pipe) =
    unwrap_or (receipt_in s app (slice_index registers.pipes pipe)) Nothing ∷ []
shown app s t registers handles (ShowTable handle) =
    unwrap_or (held_in t app (slice_index handles handle)) Nothing ∷ []
shown app s t registers handles line = []

-- the entries from the one on that settles a call so answered: its own, or the look behind it,
-- if it was left waiting
abbrev pub settled_from : BusAnswer → Seen → List Seen → List Seen
settled_from Pending own others = others
settled_from answer own others = own ∷ others

-- Each of these answers the receipts that a line makes, and where the application is behind it;
-- where a history ends before the entry that settles the line's call, there is no receipt and
-- nothing to go on from.

-- the entry that settles a call of the bus makes its receipts, and the bus is then as after that
-- entry
abbrev pub settled_told : ℕ → List Seen → Telling → List Receipt × Option Telling
settled_told app [] at = ([], None)
settled_told app (last ∷ others) at =
    (receipts_of app last, Some (record at { state = last.after; seen = others }))

-- a line with this call of the bus: its own entry answers it, and the one that settles it makes the
-- receipts
abbrev pub seen_told : ℕ → Line → Call → List Seen → Telling → List Receipt × Option Telling
seen_told app line call [] at = ([], None)
seen_told app line call (own ∷ others) at =
    let answer = own.entry.answer in
    let answered =
    record at {
      registers = registers_after at.registers line answer;
      written = written_after at.written call answer;
    } in
    settled_told app (settled_from answer own others) answered

-- a line with a call of the tables: its entry answers it and makes the receipts
abbrev pub table_seen_told : ℕ → Line → List TableSeen → Telling → List Receipt × Option Telling
table_seen_told app line [] at = ([], None)
table_seen_told app line (own ∷ others) at =
    let handles = handles_after at.handles line own.entry.answer in (
      table_receipts_of app own,
      Some
          (record at { handles = handles; tables = own.after; table_seen = others }),
    )

-- a line that the bus doesn't see: it makes its call of the tables, or shows what it shows and
-- writes what it writes
abbrev pub other_told : ℕ → Line → Option TableCall → Telling → List Receipt × Option Telling
other_told app line None at =
    let written = written_by at.written at.registers.buffers line in (
      shown app at.state at.tables at.registers at.handles line,
      Some
          (record at { written = written }),
    )
other_told app line (Some call) at = table_seen_told app line at.table_seen at

-- a line, with its call of the bus, if it makes one
abbrev pub line_told : ℕ → Line → Option Call → Telling → List Receipt × Option Telling
line_told app line None at = other_told app line (table_call_of at.handles line) at
line_told app line (Some call) at = seen_told app line call at.seen at

-- What the lines tell, from there on: the receipts of the first one, then those of the others from
-- if it left the application.
abbrev pub told : ℕ → List Line → Telling → List Receipt
told app [] at = []
told app (line ∷ lines) at =
    let first = line_told app line (call_of at.registers at.written line) at in
    first.0 ++ option_map_or (λ now. told app lines now) first.1 []

-- before the first line of an application, if a script's run has these histories
abbrev pub telling_from : ScriptText → Histories → ℕ → Telling
telling_from script histories app =
    let s = opening script.limits (length script.apps) in
    let t = no_tables script.limits (length script.apps) in
    record {
      registers = first_registers;
      handles = first_handles;
      written = first_written;
      state = s;
      tables = t;
      seen = seen_from script.limits [] s app histories.bus;
      table_seen = table_seen_from script.limits t app histories.tables;
    }

-- the receipts of one application of a script in these histories
abbrev pub receipts_told : ScriptText → Histories → ℕ → List Receipt
receipts_told script histories app =
    told app (app_at script app).lines (telling_from script histories app)
