-- Worked examples: calls under the usual limits, and what they are answered one after another.
use Rattle.std.specs.Prelude.{ℕ, true, List, [], ◌∷◌, map}
use Rattle.fsw_base.specs.Limits.{usual_limits}
use Rattle.tbl_words.specs.declared.statuses.TblStatus.TheVariants.{ErrInvalidHandle, ErrInvalidName, ErrDuplicateNotOwned, ErrDuplicateDiffSize, ErrNoAccess, ErrUnregistered, ErrPartialLoad, ErrLoadInProgress, InfoTableLocked, InfoNoUpdatePending, NotValidated, Validation}
use Rattle.tbl_words.specs.declared.calls.Told.TheVariants.{Updated, NeverLoaded}
use Rattle.tbl_words.specs.declared.calls.TblAnswer.{TblAnswer}
use Rattle.tbl_words.specs.declared.calls.TblAnswer.TheVariants.{Done, Number, Duplicate, Address, State, Refused}
use Rattle.tbl_words.specs.declared.history.Call.{Call}
use Rattle.tbl_words.specs.declared.history.Call.TheVariants.{Register, Share, Unregister, Stage, Validate, Update, Abort, Load, GetAddress, ReleaseAddress, Status, End}
use Rattle.tbl_words.specs.Tables.{opening}
use Rattle.tbl_words.specs.Runs.{run_from}

-- what the calls of so many applications are answered
abbrev pub answers_to : ℕ → List (ℕ × Call) → List TblAnswer
answers_to apps calls =
    map (λ e. e.answer) (run_from usual_limits [] (opening usual_limits apps) calls).0

-- calls that application 1 makes
abbrev pub by_one : List Call → List (ℕ × Call)
by_one calls = map (λ call. (1, call)) calls

-- A double-buffered table of four bytes. While its version 1 is held, version 2 can be loaded; then
-- nothing can be staged as long as version 1 is held.
abbrev pub double_buffered_calls : List Call
double_buffered_calls =
    Register (68 ∷ []) 4 1 [] ∷
    Load 1 0 (1 ∷ 2 ∷ 3 ∷ 4 ∷ []) ∷
    GetAddress 1 ∷
    Load 1 0 (5 ∷ 6 ∷ 7 ∷ 8 ∷ []) ∷
    Stage 1 0 (9 ∷ 10 ∷ 11 ∷ 12 ∷ []) ∷
    GetAddress 1 ∷
    Stage 1 1 (255 ∷ []) ∷
    Validate 1 ∷
    Update 1 ∷
    GetAddress 1 ∷
    End ∷
    []

abbrev pub double_buffered_answers : List TblAnswer
double_buffered_answers =
    Number 1 ∷
    Done ∷
    Address Updated 1 ∷
    Done ∷
    Refused InfoTableLocked ∷
    Address Updated 2 ∷
    Done ∷
    Done ∷
    Done ∷
    Address Updated 3 ∷
    Done ∷
    []

-- A single-buffered table of four bytes, whose first byte is to be from 1 to 9. A load that fails
-- its rule leaves nothing staged; while the table is held nothing can be written over it, but a
-- load can be staged.
abbrev pub single_buffered_calls : List Call
single_buffered_calls =
    Register (83 ∷ []) 4 0 (record { offset = 0; low = 1; high = 9 } ∷ []) ∷
    Stage 1 1 (2 ∷ []) ∷
    GetAddress 1 ∷
    Load 1 0 (0 ∷ 2 ∷ 3 ∷ 4 ∷ []) ∷
    Load 1 0 (1 ∷ 2 ∷ 3 ∷ 4 ∷ []) ∷
    Stage 1 0 (0 ∷ 2 ∷ 3 ∷ 4 ∷ []) ∷
    Validate 1 ∷
    Update 1 ∷
    Stage 1 0 (1 ∷ 2 ∷ 3 ∷ 4 ∷ []) ∷
    Abort 1 ∷
    Stage 1 0 (1 ∷ 2 ∷ 3 ∷ 4 ∷ []) ∷
    Validate 1 ∷
    Update 1 ∷
    ReleaseAddress 1 ∷
    Update 1 ∷
    GetAddress 1 ∷
    End ∷
    []

abbrev pub single_buffered_answers : List TblAnswer
single_buffered_answers =
    Number 1 ∷
    Refused ErrPartialLoad ∷
    Address NeverLoaded 0 ∷
    Refused (Validation 1) ∷
    Refused InfoTableLocked ∷
    Done ∷
    Refused (Validation 1) ∷
    Refused NotValidated ∷
    Refused ErrLoadInProgress ∷
    Done ∷
    Done ∷
    Done ∷
    Refused InfoTableLocked ∷
    Done ∷
    Done ∷
    Address Updated 1 ∷
    Done ∷
    []

-- A table of two bytes that application 1 registers and application 2 shares. Once its owner has
-- given it back the other can look at what it holds, let go of it and give its own handle back, and
-- no more; and the name is free.
abbrev pub shared_calls : List (ℕ × Call)
shared_calls =
    (1, Register (84 ∷ []) 2 0 []) ∷
    (1, Load 1 0 (5 ∷ 6 ∷ [])) ∷
    (2, Share (84 ∷ [])) ∷
    (2, GetAddress 2) ∷
    (2, GetAddress 1) ∷
    (1, Update 1) ∷
    (1, Load 1 0 (7 ∷ 8 ∷ [])) ∷
    (2, Status 2) ∷
    (1, Unregister 1) ∷
    (2, GetAddress 2) ∷
    (2, Status 2) ∷
    (2, ReleaseAddress 2) ∷
    (2, Share (84 ∷ [])) ∷
    (1, Register (84 ∷ []) 2 0 []) ∷
    (2, Register (84 ∷ []) 2 0 []) ∷
    (1, Register (84 ∷ []) 3 0 []) ∷
    (1, Register (84 ∷ []) 2 1 []) ∷
    (2, Unregister 2) ∷
    (2, GetAddress 2) ∷
    (2, End) ∷
    (1, End) ∷
    []

abbrev pub shared_answers : List TblAnswer
shared_answers =
    Number 1 ∷
    Done ∷
    Number 2 ∷
    Address Updated 1 ∷
    Refused ErrNoAccess ∷
    Refused InfoNoUpdatePending ∷
    Refused InfoTableLocked ∷
    State (record { version = 1; loaded = true; staged = 0; holds = 1 }) ∷
    Done ∷
    Refused ErrUnregistered ∷
    State (record { version = 1; loaded = true; staged = 0; holds = 1 }) ∷
    Done ∷
    Refused ErrInvalidName ∷
    Number 3 ∷
    Refused ErrDuplicateNotOwned ∷
    Refused ErrDuplicateDiffSize ∷
    Duplicate 3 ∷
    Done ∷
    Refused ErrInvalidHandle ∷
    Done ∷
    Done ∷
    []
