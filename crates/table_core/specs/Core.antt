-- The core as its callers see it: its limits, the state and what is lent; and what an application
-- has in its bag of what it holds.
use Rattle.std.specs.Prelude.{◌≡◌, ◌≢◌, ℕ, ◌+◌, ◌^◌, ◌<◌, ◌≤◌, ◌==◌, nat_le, nat_lt, ◌&&◌, Bool, true, false, if◌then◌else◌, List, length, find, count_by, IsTrue, Option, Some, None, is_some, IfSome, IsSomeAnd}
use Rattle.std.specs.Option.{unwrap_or, option_map, option_map_or, option_and_then}
use Rattle.fsw_base.specs.Limits.{Limits}
use Rattle.tbl_words.specs.declared.statuses.TblStatus.TheVariants.{InfoTableLocked}
use Rattle.tbl_words.specs.declared.calls.TblAnswer.{TblAnswer}
use Rattle.tbl_words.specs.declared.calls.TblAnswer.TheVariants.{Refused}
use Rattle.tbl_words.specs.declared.history.Call.{Call}
use Rattle.tbl_words.specs.declared.history.Call.TheVariants.{Register, Share, Unregister, Stage, Validate, Update, Abort, Load, GetAddress, ReleaseAddress, Status, End}
use Rattle.tbl_words.specs.Tables.{Handle, State, handle_at, table_of}
use Rattle.tbl_words.specs.Machine.{may_call, cause, step}
use Rattle.lend_block.specs.Loan.{LentBytes}
use Rattle.table_blocks.specs.Held.{HeldViews, held_at}

-- The number of a live handle, and of the loan of the version that it holds; 0 if it holds none.
pub record Lent : Type 0 where
  pub handle : ℕ
  pub loan : ℕ

-- The limits, the tables and the live handles, and for each live handle, in order, what it was
-- lent.
pub record Plain : Type 0 where
  pub limits : Limits
  pub state : State
  pub lent : List Lent

-- What an application has in its bag. --

-- the number of the loan of what a live handle holds
abbrev pub loan_of : List Lent → ℕ → ℕ
loan_of lent number = option_map_or (λ one. one.loan) (find (λ one. one.handle == number) lent) 0

-- the view of what a handle holds, if anything
abbrev pub view_of : List Lent → Handle → Option LentBytes
view_of lent h =
    option_map (λ hold. record { loan = loan_of lent h.number; bytes = hold.value }) h.hold

-- the view that an application has for the live handle of a number: of what it holds, if it is
-- the application's
abbrev pub view_due : Plain → ℕ → ℕ → Option LentBytes
view_due core app number =
    option_and_then (λ h. if h.app == app then view_of core.lent h else None)
    (handle_at core.state.handles number)

-- how many of the application's handles hold something
abbrev pub views_due : Plain → ℕ → ℕ
views_due core app = count_by (λ h. h.app == app && is_some h.hold) core.state.handles

-- the bag has the views that are due and no others, and room for one of each handle that there may
-- be
pub record Holds (core : Plain) (app : ℕ) (bag : HeldViews) : Type 0 where
  pub seen : (number : ℕ) → held_at bag number ≡ view_due core app number
  pub counted : length bag.views ≡ views_due core app
  pub room : core.limits.handles ≤ bag.room

-- the live handle of a number is of this table, and holds this version of it
abbrev pub HoldsVersion : List Handle → ℕ → ℕ → ℕ → Type 0
HoldsVersion handles number table version =
    IsSomeAnd (handle_at handles number)
    (λ h. (h.table ≡ table) × (option_map (λ hold. hold.version) h.hold ≡ Some version))

-- handles that hold one version of one table are lent it by one loan
abbrev pub AreOneLoan : Plain → Type 0
AreOneLoan core =
    (number other table version : ℕ) → HoldsVersion core.state.handles number table version →
    HoldsVersion core.state.handles other table version →
    loan_of core.lent number ≡ loan_of core.lent other

-- what two handles hold of two tables, or of two versions of one, is lent by two loans
abbrev pub AreTwoLoans : Plain → ℕ → ℕ → Type 0
AreTwoLoans core number other =
    (table other_table version other_version : ℕ) →
    HoldsVersion core.state.handles number table version →
    HoldsVersion core.state.handles other other_table other_version →
    (table ≡ other_table → version ≢ other_version) →
    loan_of core.lent number ≢ loan_of core.lent other

-- Calls. --

-- a range of 1 to 65536 bytes, from an offset of at most 65536 on
abbrev pub is_range : ℕ → List ℕ → Bool
is_range offset bytes =
    nat_le offset 65536 && nat_le 1 (length bytes) && nat_le (length bytes) 65536

-- what a call loads is such a range; names are of any length
abbrev pub is_within : Call → Bool
is_within (Register name size option rules) = true
is_within (Share name) = true
is_within (Unregister handle) = true
is_within (Stage handle offset bytes) = is_range offset bytes
is_within (Validate handle) = true
is_within (Update handle) = true
is_within (Abort handle) = true
is_within (Load handle offset bytes) = is_range offset bytes
is_within (GetAddress handle) = true
is_within (ReleaseAddress handle) = true
is_within (Status handle) = true
is_within End = true

-- the application may make this call now: it hasn't ended, and what it loads is such a range
pub record MayAct (core : Plain) (app : ℕ) (call : Call) : Type 0 where
  pub standing : IsTrue (may_call core.state app)
  pub within : IsTrue (is_within call)

-- a number is left for one handle more: numbers are below 2^32, and none is given twice
abbrev pub has_handle_number : State → Bool
has_handle_number s = nat_lt s.handles_made 4294967295

-- a number is left for one version more of the table of this handle, if there is one: numbers of
-- versions are below 2^64
abbrev pub HasNextVersion : State → ℕ → Type 0
HasNextVersion s handle = IfSome (table_of s handle) (λ t. t.version + 1 < 2 ^ 64)

-- What an update or a load is answered that would make a version behind the last: its refusal, or
-- if it has none, that the table is locked.
abbrev pub answer_behind_last : Plain → ℕ → Call → TblAnswer
answer_behind_last core app call =
    Refused (unwrap_or (cause core.limits core.state app call) InfoTableLocked)

-- whether the call changes what its own application holds
abbrev pub changes_bag : Call → Bool
changes_bag (Register name size option rules) = false
changes_bag (Share name) = false
changes_bag (Unregister handle) = true
changes_bag (Stage handle offset bytes) = false
changes_bag (Validate handle) = false
changes_bag (Update handle) = false
changes_bag (Abort handle) = false
changes_bag (Load handle offset bytes) = false
changes_bag (GetAddress handle) = true
changes_bag (ReleaseAddress handle) = true
changes_bag (Status handle) = false
changes_bag End = true

-- the call was answered, and left the state, as the machine does; and what applications hold stays,
-- but for the caller's own if the call changes it
pub record Acts (old new : Plain) (app : ℕ) (call : Call) (answer : TblAnswer) : Type 0 where
  pub made : step old.limits old.state app call ≡ (answer, new.state)
  pub limits : new.limits ≡ old.limits
  pub bags : (other : ℕ) (bag : HeldViews) → (changes_bag call ≡ true → other ≢ app) →
      Holds old other bag → Holds new other bag
