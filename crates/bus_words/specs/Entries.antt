-- Entries as whole lists: what a borrowing entry stands for.
use Rattle.std.specs.Prelude.{ℕ, List, [], length}
use Rattle.bus_words.specs.declared.calls.BusCall.{BusCall}
use Rattle.bus_words.specs.declared.calls.BusCall.TheVariants as borrowed
use Rattle.bus_words.specs.declared.calls.BusEntry.{BusEntry}
use Rattle.bus_words.specs.declared.calls.LentEntry.{LentEntry}
use Rattle.bus_words.specs.declared.history.Call.{Call}
use Rattle.bus_words.specs.declared.history.Call.TheVariants.{Create, Delete, SetOpts, GetOpts, Find, PipeName, Subscribe, Unsubscribe, Transmit, Receive, Pend, Look, Allocate, TransmitBuffer, Release, PoolCreate, PoolGet, PoolPut, PoolFigures, Register, SendEvent, ResetFilter, LogMode, ClearLog, Housekeeping, Figures, End}
use Rattle.bus_words.specs.declared.history.Entry.{Entry}

-- the call with its bytes
abbrev pub call_of : BusCall → Call
call_of (borrowed.Create depth name) = Create depth name.now
call_of (borrowed.Delete pipe) = Delete pipe
call_of (borrowed.SetOpts pipe bits) = SetOpts pipe bits
call_of (borrowed.GetOpts pipe) = GetOpts pipe
call_of (borrowed.Find name) = Find name.now
call_of (borrowed.PipeName pipe) = PipeName pipe
call_of (borrowed.Subscribe id pipe limit scope) = Subscribe id pipe limit scope
call_of (borrowed.Unsubscribe id pipe) = Unsubscribe id pipe
call_of (borrowed.Transmit bytes inc) = Transmit bytes.now inc
call_of (borrowed.Receive pipe) = Receive pipe
call_of (borrowed.Pend pipe) = Pend pipe
call_of (borrowed.Look pipe) = Look pipe
call_of (borrowed.Allocate size) = Allocate size
call_of (borrowed.TransmitBuffer buf bytes inc) = TransmitBuffer buf bytes.now inc
call_of (borrowed.Release buf) = Release buf
call_of (borrowed.PoolCreate bytes) = PoolCreate bytes
call_of (borrowed.PoolGet pool size) = PoolGet pool size
call_of (borrowed.PoolPut pool grant) = PoolPut pool grant
call_of (borrowed.PoolFigures pool) = PoolFigures pool
call_of (borrowed.Register filters) = Register filters
call_of (borrowed.SendEvent id kind text) = SendEvent id kind text.now
call_of (borrowed.ResetFilter id) = ResetFilter id
call_of (borrowed.LogMode mode) = LogMode mode
call_of borrowed.ClearLog = ClearLog
call_of borrowed.Housekeeping = Housekeeping
call_of borrowed.Figures = Figures
call_of borrowed.End = End

-- the entry with its bytes
abbrev pub entry_of : BusEntry → Entry
entry_of e = record { app = e.app; call = call_of e.call; answer = e.answer }

-- the entry that lies in a journal, with its bytes
abbrev pub lent_of : LentEntry → Entry
lent_of e = record { app = e.app; call = call_of e.call; answer = e.answer.now }

-- the bytes that a call brings: its name, its message, its buffer or its event's text
abbrev pub call_text : Call → List ℕ
call_text (Create depth name) = name
call_text (Delete pipe) = []
call_text (SetOpts pipe bits) = []
call_text (GetOpts pipe) = []
call_text (Find name) = name
call_text (PipeName pipe) = []
call_text (Subscribe id pipe limit scope) = []
call_text (Unsubscribe id pipe) = []
call_text (Transmit bytes inc) = bytes
call_text (Receive pipe) = []
call_text (Pend pipe) = []
call_text (Look pipe) = []
call_text (Allocate size) = []
call_text (TransmitBuffer buf bytes inc) = bytes
call_text (Release buf) = []
call_text (PoolCreate bytes) = []
call_text (PoolGet pool size) = []
call_text (PoolPut pool grant) = []
call_text (PoolFigures pool) = []
call_text (Register filters) = []
call_text (SendEvent id kind text) = text
call_text (ResetFilter id) = []
call_text (LogMode mode) = []
call_text ClearLog = []
call_text Housekeeping = []
call_text Figures = []
call_text End = []

-- the call with these bytes in place of those that it brings; itself, if it brings none
abbrev pub with_text : List ℕ → Call → Call
with_text text (Create depth name) = Create depth text
with_text text (Find name) = Find text
with_text text (Transmit bytes inc) = Transmit text inc
with_text text (TransmitBuffer buf bytes inc) = TransmitBuffer buf text inc
with_text text (SendEvent id kind own) = SendEvent id kind text
with_text text call = call

-- how many bytes a call brings
abbrev pub call_bytes : Call → ℕ
call_bytes call = length (call_text call)
