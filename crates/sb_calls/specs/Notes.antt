-- The notes beside the entries of a journal: which loan each message that was given is lent by, and
-- which block each buffer is in.
use Rattle.std.specs.Prelude.{◌≡◌, ℕ, ◌==◌, Bool, false, List, [], ◌∷◌, Option, Some, None, Result, Ok, Err, if◌then◌else◌}
use Rattle.fsw_base.specs.declared.statuses.SbStatus.{SbStatus}
use Rattle.buf_desc.specs.Block.{Unsent}
use Rattle.lend_block.specs.Loan.{LentBytes}
use Rattle.lend_block.specs.declared.note.Note.{Note}
use Rattle.lend_block.specs.declared.note.Note.TheVariants.{Nothing, Desc, Loan}
use Rattle.bus_words.specs.declared.calls.BusAnswer.{BusAnswer}
use Rattle.bus_words.specs.declared.calls.BusAnswer.TheVariants.{Number, Got}
use Rattle.bus_words.specs.declared.history.Call.{Call}
use Rattle.bus_words.specs.declared.history.Call.TheVariants.{Allocate}
use Rattle.bus_words.specs.declared.history.Entry.{Entry}
use Rattle.bus_words.specs.Alone.{gets_from}
use Rattle.bus_words.specs.Log.{Log}

-- a journal, and the note of each entry
pub record NotedLog : Type 0 where
  pub log : Log
  pub notes : List Note

-- the note of an entry with this answer of a call: if a message was given, the loan of its view;
-- if a buffer was, the number of its block's descriptor; else nothing
abbrev pub note_due : BusAnswer → Call → ℕ → Note
note_due (Got number) call name = Loan (record { loan = name })
note_due (Number number) (Allocate size) name = Desc name
note_due answer call name = Nothing

-- each entry has the note that is due
abbrev pub AreDue : List Entry → List Note → Type 0
AreDue [] [] = Unit {0}
AreDue (e ∷ es) (note ∷ notes) =
    ((name : ℕ) × (note ≡ note_due e.answer e.call name)) × AreDue es notes
AreDue es notes = ⊥

-- Loans. --

-- the loan that a note names; 0 if it names none
abbrev pub loan_in : Note → ℕ
loan_in Nothing = 0
loan_in (Desc desc) = 0
loan_in (Loan name) = name.loan

-- the loan noted of pipe p after these entries, if it was this loan before them
abbrev pub noted_from : ℕ → ℕ → List Entry → List Note → ℕ
noted_from p loan (e ∷ es) (note ∷ notes) =
    noted_from p (if gets_from p e then loan_in note else loan) es notes
noted_from p loan es notes = loan

-- the loan noted of pipe p: that of the newest entry that gives a message from it; 0 if none
-- does
abbrev pub noted : ℕ → List Entry → List Note → ℕ
noted p entries notes = noted_from p 0 entries notes

-- what is noted of a call that was so answered, if the bag has this view of the pipe
abbrev pub note_seen : BusAnswer → Option LentBytes → Note
note_seen (Got number) (Some view) = Loan (record { loan = view.loan })
note_seen answer view = Nothing

-- Descriptors. --

-- whether an entry gives its application the buffer of this number
abbrev pub gives_buffer : ℕ → Entry → Bool
gives_buffer number e = of_call e.call e.answer
  where
    of_call : Call → BusAnswer → Bool
    of_call (Allocate size) (Number given) = number == given
    of_call call answer = false

-- the descriptor that a note names; 0 if it names none
abbrev pub desc_in : Note → ℕ
desc_in Nothing = 0
desc_in (Desc desc) = desc
desc_in (Loan name) = 0

-- the descriptor noted of the buffer of this number after these entries, if it was this one
-- before them
abbrev pub noted_desc_from : ℕ → ℕ → List Entry → List Note → ℕ
noted_desc_from number desc (e ∷ es) (note ∷ notes) =
    noted_desc_from number (if gives_buffer number e then desc_in note else desc) es notes
noted_desc_from number desc es notes = desc

-- the descriptor noted of the buffer of this number, beside the entry that gives it; 0 if none
-- does
abbrev pub noted_desc : ℕ → List Entry → List Note → ℕ
noted_desc number entries notes = noted_desc_from number 0 entries notes

-- what is noted of a buffer that was given, by its block
abbrev pub note_given : Option Unsent → Note
note_given None = Nothing
note_given (Some block) = Desc block.desc

-- what is noted of a request for a buffer that was so answered, if the bag has these blocks by
-- their numbers
abbrev pub note_told : Result ℕ SbStatus → (ℕ → Option Unsent) → Note
note_told (Ok number) blocks = note_given (blocks number)
note_told (Err status) blocks = Nothing
