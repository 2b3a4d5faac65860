-- The numbers of statuses of the tables: those of cFE if cFE has one, else one with service
-- number 0, which cFE leaves free.
use Rattle.std.specs.Prelude.{ℕ, ◌+◌, ◌==◌, ◌||◌, Bool, nat_lt, if◌then◌else◌, Result, Ok, Err}
use Rattle.tbl_words.specs.declared.statuses.TblStatus.{TblStatus}
use Rattle.tbl_words.specs.declared.statuses.TblStatus.TheVariants as tbl
use Rattle.tbl_words.specs.declared.calls.Registered.{Registered}
use Rattle.tbl_words.specs.declared.calls.Told.{Told}
use Rattle.tbl_words.specs.declared.calls.Told.TheVariants.{Same, Updated, NeverLoaded}
use Rattle.tbl_words.specs.declared.calls.TblAnswer.{TblAnswer}
use Rattle.tbl_words.specs.declared.calls.TblAnswer.TheVariants as tables
use Rattle.table_core.specs.declared.answers.PlainAddress.{PlainAddress}
use Rattle.table_core.specs.Answers.{registered, plain_addressed}
use Rattle.checked_tables.specs.declared.refusal.Refusal.{Refusal}
use Rattle.checked_tables.specs.declared.refusal.Refusal.TheVariants as why

-- the number of a rule that failed, in a status; no table has more than 8 rules
abbrev pub rule_number : ℕ → ℕ
rule_number rule = if nat_lt rule 8 then rule else 8

abbrev pub tbl_code : TblStatus → ℕ
tbl_code tbl.ErrInvalidHandle = 3422552065
tbl_code tbl.ErrInvalidName = 3422552066
tbl_code tbl.ErrInvalidSize = 3422552067
tbl_code tbl.ErrRegistryFull = 3422552070
tbl_code tbl.ErrNoAccess = 3422552072
tbl_code tbl.ErrUnregistered = 3422552073
tbl_code tbl.ErrHandlesFull = 3422552075
tbl_code tbl.ErrDuplicateDiffSize = 3422552076
tbl_code tbl.ErrDuplicateNotOwned = 3422552077
tbl_code tbl.ErrNoBufferAvail = 3422552079
tbl_code tbl.ErrDumpOnly = 3422552080
tbl_code tbl.ErrLoadInProgress = 3422552082
tbl_code tbl.ErrFileTooLarge = 3422552084
tbl_code tbl.InfoNoUpdatePending = 1275068439
tbl_code tbl.InfoTableLocked = 1275068440
tbl_code tbl.NotValidated = 1275068441
tbl_code tbl.NoLoad = 1275068442
tbl_code tbl.ErrPartialLoad = 3422552099
tbl_code tbl.ErrInvalidOptions = 3422552101
tbl_code tbl.ErrMemBlockSize = 3288334344
tbl_code (tbl.Validation rule) = 3221225728 + rule_number rule

-- what the tables answered
abbrev pub table_code : TblAnswer → ℕ
table_code (tables.Refused status) = tbl_code status
table_code (tables.Duplicate number) = 1275068423
table_code (tables.Address Updated version) = 1275068430
table_code (tables.Address NeverLoaded version) = 3422552069
table_code answer = 0

-- why the tables weren't asked
abbrev pub unasked_table_code : Refusal → ℕ
unasked_table_code why.NoApplication = 3221225477
unasked_table_code why.TooLong = 3221225478
unasked_table_code why.NotActive = 3221225479
unasked_table_code why.NoNumbers = 3221225480

-- what a call of the box answered, of which an accepted one answers 0
abbrev pub table_call_code : {T : Type 0} → Result (Result T TblStatus) Refusal → ℕ
table_call_code (Ok (Ok answer)) = 0
table_call_code (Ok (Err status)) = tbl_code status
table_call_code (Err refusal) = unasked_table_code refusal

-- Calls whose accepted answers have several statuses. --

-- of a registration
abbrev pub registration_code : Result (Result Registered TblStatus) Refusal → ℕ
registration_code (Ok answer) = table_code (registered answer)
registration_code (Err refusal) = unasked_table_code refusal

-- a registration of this status gives a handle: of a new table, or of the one there is
abbrev pub gives_handle : ℕ → Bool
gives_handle status = status == 0 || status == 1275068423

-- the answer with this status and this handle
abbrev pub handle_answer : ℕ → ℕ → TblAnswer
handle_answer status handle =
    if status == 0 then tables.Number handle else tables.Duplicate handle

-- of an address
abbrev pub address_code : Result (Result PlainAddress TblStatus) Refusal → ℕ
address_code (Ok answer) = table_code (plain_addressed answer)
address_code (Err refusal) = unasked_table_code refusal

-- an address comes with this status
abbrev pub gives_address : ℕ → Bool
gives_address status = status == 0 || status == 1275068430 || status == 3422552069

-- what an address of this status comes with
abbrev pub told_in : ℕ → Told
told_in status =
    if status == 0 then Same else if status == 1275068430 then Updated else NeverLoaded
