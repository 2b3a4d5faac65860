-- Which numbers of statuses come with something: those of refusals don't.
use Rattle.std.proofs.Common.{◌≡◌, ℕ, ◌+◌, ◌≤◌, ◌==◌, ◌||◌, Bool, true, false, cond, ne_eqb, nat_lt, refl, ap, ◌∙◌, arith}
use Rattle.std.proofs.lemmas.Bool.Decides.{nat_tests}
use Rattle.tbl_words.specs.declared.statuses.TblStatus.{TblStatus}
use Rattle.tbl_words.specs.declared.statuses.TblStatus.TheVariants as tbl
use Rattle.tbl_words.specs.declared.calls.Told.{Told}
use Rattle.tbl_words.specs.declared.calls.Told.TheVariants.{Same, Updated, NeverLoaded}
use Rattle.tbl_words.specs.declared.calls.TblAnswer.TheVariants.{Address}
use Rattle.checked_tables.specs.declared.refusal.Refusal.{Refusal}
use Rattle.checked_tables.specs.declared.refusal.Refusal.TheVariants as why
use Rattle.fsw_c.specs.TableCodes.{rule_number, tbl_code, table_code, unasked_table_code, gives_handle, gives_address, told_in}

few-rules : (rule : ℕ) → rule_number rule ≤ 8
few-rules rule = by_test (nat_lt rule 8) refl
  where
    by_test : (b : Bool) → nat_lt rule 8 ≡ b → cond {A = ℕ} b rule 8 ≤ 8
    by_test true below = grind (arith, nat_tests)
    by_test false past = omega arith

no-address : (status : ℕ) → 3221225728 ≤ status → status ≤ 3221225736 → gives_address status ≡ false
no-address status low high =
    ap (λ b. b || status == 1275068430 || status == 3422552069) (ne_eqb status 0 (λ is. omega (arith, is, low)))
    ∙ ap (λ b. b || status == 3422552069) (ne_eqb status 1275068430 (λ is. omega (arith, is, low)))
    ∙ ne_eqb status 3422552069 (λ is. omega (arith, is, high))

no-handle : (status : ℕ) → 3221225728 ≤ status → gives_handle status ≡ false
no-handle status low =
    ap (λ b. b || status == 1275068423) (ne_eqb status 0 (λ is. omega (arith, is, low)))
    ∙ ne_eqb status 1275068423 (λ is. omega (arith, is, low))

pub refused_address : (status : TblStatus) → gives_address (tbl_code status) ≡ false
refused_address tbl.ErrInvalidHandle = refl
refused_address tbl.ErrInvalidName = refl
refused_address tbl.ErrInvalidSize = refl
refused_address tbl.ErrRegistryFull = refl
refused_address tbl.ErrNoAccess = refl
refused_address tbl.ErrUnregistered = refl
refused_address tbl.ErrHandlesFull = refl
refused_address tbl.ErrDuplicateDiffSize = refl
refused_address tbl.ErrDuplicateNotOwned = refl
refused_address tbl.ErrNoBufferAvail = refl
refused_address tbl.ErrDumpOnly = refl
refused_address tbl.ErrLoadInProgress = refl
refused_address tbl.ErrFileTooLarge = refl
refused_address tbl.InfoNoUpdatePending = refl
refused_address tbl.InfoTableLocked = refl
refused_address tbl.NotValidated = refl
refused_address tbl.NoLoad = refl
refused_address tbl.ErrPartialLoad = refl
refused_address tbl.ErrInvalidOptions = refl
refused_address tbl.ErrMemBlockSize = refl
refused_address (tbl.Validation rule) = no-address (3221225728 + rule_number rule) (omega arith) (omega (arith, few-rules rule))

pub unasked_address : (why : Refusal) → gives_address (unasked_table_code why) ≡ false
unasked_address why.NoApplication = refl
unasked_address why.TooLong = refl
unasked_address why.NotActive = refl
unasked_address why.NoNumbers = refl

pub refused_handle : (status : TblStatus) → gives_handle (tbl_code status) ≡ false
refused_handle tbl.ErrInvalidHandle = refl
refused_handle tbl.ErrInvalidName = refl
refused_handle tbl.ErrInvalidSize = refl
refused_handle tbl.ErrRegistryFull = refl
refused_handle tbl.ErrNoAccess = refl
refused_handle tbl.ErrUnregistered = refl
refused_handle tbl.ErrHandlesFull = refl
refused_handle tbl.ErrDuplicateDiffSize = refl
refused_handle tbl.ErrDuplicateNotOwned = refl
refused_handle tbl.ErrNoBufferAvail = refl
refused_handle tbl.ErrDumpOnly = refl
refused_handle tbl.ErrLoadInProgress = refl
refused_handle tbl.ErrFileTooLarge = refl
refused_handle tbl.InfoNoUpdatePending = refl
refused_handle tbl.InfoTableLocked = refl
refused_handle tbl.NotValidated = refl
refused_handle tbl.NoLoad = refl
refused_handle tbl.ErrPartialLoad = refl
refused_handle tbl.ErrInvalidOptions = refl
refused_handle tbl.ErrMemBlockSize = refl
refused_handle (tbl.Validation rule) = no-handle (3221225728 + rule_number rule) (omega arith)

pub unasked_handle : (why : Refusal) → gives_handle (unasked_table_code why) ≡ false
unasked_handle why.NoApplication = refl
unasked_handle why.TooLong = refl
unasked_handle why.NotActive = refl
unasked_handle why.NoNumbers = refl

-- what an address comes with is read back from its number
pub told_back : (told : Told) (version : ℕ) → told_in (table_code (Address told version)) ≡ told
told_back Same version = refl
told_back Updated version = refl
told_back NeverLoaded version = refl

pub given_address : (told : Told) (version : ℕ) → gives_address (table_code (Address told version)) ≡ true
given_address Same version = refl
given_address Updated version = refl
given_address NeverLoaded version = refl
