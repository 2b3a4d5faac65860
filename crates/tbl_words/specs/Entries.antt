-- Entries as whole lists: what a borrowing entry stands for.
use Rattle.std.specs.Prelude.{ℕ, List, [], length}
use Rattle.tbl_words.specs.declared.calls.TblCall.{TblCall}
use Rattle.tbl_words.specs.declared.calls.TblCall.TheVariants as borrowed
use Rattle.tbl_words.specs.declared.calls.TblEntry.{TblEntry}
use Rattle.tbl_words.specs.declared.history.Call.{Call}
use Rattle.tbl_words.specs.declared.history.Call.TheVariants.{Register, Share, Unregister, Stage, Validate, Update, Abort, Load, GetAddress, ReleaseAddress, Status, End}
use Rattle.tbl_words.specs.declared.history.Entry.{Entry}

-- the call with its bytes
abbrev pub call_of : TblCall → Call
call_of (borrowed.Register name size option rules) = Register name.now size option rules
call_of (borrowed.Share name) = Share name.now
call_of (borrowed.Unregister handle) = Unregister handle
call_of (borrowed.Stage handle offset bytes) = Stage handle offset bytes.now
call_of (borrowed.Validate handle) = Validate handle
call_of (borrowed.Update handle) = Update handle
call_of (borrowed.Abort handle) = Abort handle
call_of (borrowed.Load handle offset bytes) = Load handle offset bytes.now
call_of (borrowed.GetAddress handle) = GetAddress handle
call_of (borrowed.ReleaseAddress handle) = ReleaseAddress handle
call_of (borrowed.Status handle) = Status handle
call_of borrowed.End = End

-- the entry with its bytes
abbrev pub entry_of : TblEntry → Entry
entry_of e = record { app = e.app; call = call_of e.call; answer = e.answer }

-- the bytes that a call brings: its name, or what it loads
abbrev pub call_text : Call → List ℕ
call_text (Register name size option rules) = name
call_text (Share name) = name
call_text (Unregister handle) = []
call_text (Stage handle offset bytes) = bytes
call_text (Validate handle) = []
call_text (Update handle) = []
call_text (Abort handle) = []
call_text (Load handle offset bytes) = bytes
call_text (GetAddress handle) = []
call_text (ReleaseAddress handle) = []
call_text (Status handle) = []
call_text End = []

-- the call with these bytes in place of those that it brings; itself, if it brings none
abbrev pub with_text : List ℕ → Call → Call
with_text text (Register name size option rules) = Register text size option rules
with_text text (Share name) = Share text
with_text text (Stage handle offset bytes) = Stage handle offset text
with_text text (Load handle offset bytes) = Load handle offset text
with_text text call = call

-- how many bytes a call brings
abbrev pub call_bytes : Call → ℕ
call_bytes call = length (call_text call)
