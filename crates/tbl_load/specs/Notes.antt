-- The notes beside the entries of a journal: which loan each version that was given is lent by.
use Rattle.std.specs.Prelude.{◌≡◌, ℕ, ◌==◌, ◌&&◌, Bool, true, false, List, [], ◌∷◌, Option, Some, if◌then◌else◌}
use Rattle.lend_block.specs.Loan.{LentBytes}
use Rattle.lend_block.specs.declared.note.Note.{Note}
use Rattle.lend_block.specs.declared.note.Note.TheVariants.{Nothing, Desc, Loan}
use Rattle.tbl_words.specs.declared.calls.TblAnswer.{TblAnswer}
use Rattle.tbl_words.specs.declared.calls.TblAnswer.TheVariants.{Address}
use Rattle.tbl_words.specs.declared.history.Call.{Call}
use Rattle.tbl_words.specs.declared.history.Call.TheVariants.{GetAddress}
use Rattle.tbl_words.specs.declared.history.Entry.{Entry}
use Rattle.tbl_words.specs.declared.uses.TblUse.{TblUse}
use Rattle.tbl_words.specs.Log.{Log}

-- a journal, the note of each entry, and the greatest numbers that were in use so far
pub record NotedLog : Type 0 where
  pub log : Log
  pub notes : List Note
  pub peak : TblUse

-- the note of an entry with this answer: the loan of the view that was given if an address was,
-- else nothing
abbrev pub note_due : TblAnswer → ℕ → Note
note_due (Address told version) loan = Loan (record { loan = loan })
note_due answer loan = Nothing

-- a note is the one that is due to an entry with this answer
abbrev pub IsDue : TblAnswer → Note → Type 0
IsDue answer note = (loan : ℕ) × (note ≡ note_due answer loan)

-- each entry has the note that is due
abbrev pub AreDue : List Entry → List Note → Type 0
AreDue [] [] = Unit {0}
AreDue (e ∷ es) (note ∷ notes) = IsDue e.answer note × AreDue es notes
AreDue es notes = ⊥

-- the loan that a note names; 0 if it names none
abbrev pub loan_in : Note → ℕ
loan_in Nothing = 0
loan_in (Desc desc) = 0
loan_in (Loan name) = name.loan

-- whether it is an address
abbrev pub is_address : TblAnswer → Bool
is_address (Address told version) = true
is_address answer = false

-- whether a call of this kind that was so answered gave the handle of this number an address
abbrev pub gives_for : ℕ → Call → TblAnswer → Bool
gives_for number (GetAddress handle) answer = handle == number && is_address answer
gives_for number call answer = false

-- the loan noted of the handle after these entries, if it was this loan before them
abbrev pub noted_from : ℕ → ℕ → List Entry → List Note → ℕ
noted_from number loan (e ∷ es) (note ∷ notes) =
    noted_from number (if gives_for number e.call e.answer then loan_in note else loan) es notes
noted_from number loan es notes = loan

-- the loan noted of the handle of this number: that of the newest entry that gave it an address; 0
-- if none did
abbrev pub noted : ℕ → List Entry → List Note → ℕ
noted number entries notes = noted_from number 0 entries notes

-- what is noted of a call that was so answered, if the bag has this view for the handle
abbrev pub note_seen : TblAnswer → Option LentBytes → Note
note_seen (Address told version) (Some view) = Loan (record { loan = view.loan })
note_seen answer view = Nothing
