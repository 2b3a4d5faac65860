-- The number of a new handle is one more than were made, and their count never falls.
use Rattle.std.proofs.Common.{◌≡◌, ℕ, ◌+◌, ◌≤◌, not, Bool, true, false, true≢false, length, Option, Some, None, refl, ap, sym, ◌∙◌, arith}
use Rattle.std.specs.Prelude.{nat_le}
use Rattle.std.specs.Option.{option_map_or, is_some}
use Rattle.fsw_base.specs.Limits.{Limits}
use Rattle.tbl_words.specs.declared.statuses.TblStatus.{TblStatus}
use Rattle.tbl_words.specs.declared.statuses.TblStatus.TheVariants.{ErrInvalidHandle, ErrInvalidName, ErrHandlesFull}
use Rattle.tbl_words.specs.declared.calls.TblAnswer.{TblAnswer}
use Rattle.tbl_words.specs.declared.calls.TblAnswer.TheVariants as answers
use Rattle.tbl_words.specs.declared.history.Call.{Call}
use Rattle.tbl_words.specs.declared.history.Call.TheVariants.{Register, Share, Unregister, Stage, Validate, Update, Abort, Load, GetAddress, ReleaseAddress, Status, End}
use Rattle.tbl_words.specs.Tables.{Table, Staged, Handle, State, handle_at, table_of, table_named, with_handle, with_table}
use Rattle.tbl_words.specs.Machine.{refused_if, cause, accept, outcome, with_new_handle, with_new_table, with_hold, with_table_of, with_update, with_range, told_of, figures_of, address_of, status_of}
use Rattle.tbl_words.specs.Ties.{CountsNeverFall, NumbersAreNew}

-- Counts. --

table-counts : (s : State) (handle : ℕ) (change : Table → Table) → s.handles_made ≤ (with_table_of s handle change).handles_made
table-counts s handle change = by_table (table_of s handle)
  where
    by_table : (found : Option Table) → s.handles_made ≤ (option_map_or (λ t. record s { tables = with_table change t.number s.tables }) found s).handles_made
    by_table None = omega arith
    by_table (Some t) = omega arith

counts-accept : (limits : Limits) (s : State) (app : ℕ) (call : Call) → s.handles_made ≤ ((accept limits s app call).1).handles_made
counts-accept limits s app (Register name size option rules) = by_name (table_named s.tables name)
  where
    by_name : (found : Option Table) →
        s.handles_made ≤ ((option_map_or {U = TblAnswer × State} (λ t. (answers.Duplicate t.number, s)) found (answers.Number (s.handles_made + 1), with_new_table limits s app name size option rules)).1).handles_made
    by_name None = omega arith
    by_name (Some t) = omega arith
counts-accept limits s app (Share name) = by_name (table_named s.tables name)
  where
    by_name : (found : Option Table) → s.handles_made ≤ (option_map_or (λ t. with_new_handle s app t.number t.loaded) found s).handles_made
    by_name None = omega arith
    by_name (Some t) = omega arith
counts-accept limits s app (Unregister handle) = omega arith
counts-accept limits s app (Stage handle offset bytes) = table-counts s handle _
counts-accept limits s app (Validate handle) = table-counts s handle _
counts-accept limits s app (Update handle) = by_table (table_of s handle)
  where
    by_staged : (t : Table) (staged : Option Staged) → s.handles_made ≤ (option_map_or (λ x. with_update s x.value t) staged s).handles_made
    by_staged t None = omega arith
    by_staged t (Some x) = omega arith

    by_table : (found : Option Table) → s.handles_made ≤ (option_map_or (λ t. option_map_or (λ x. with_update s x.value t) t.staged s) found s).handles_made
    by_table None = omega arith
    by_table (Some t) = by_staged t t.staged
counts-accept limits s app (Abort handle) = table-counts s handle _
counts-accept limits s app (Load handle offset bytes) = by_table (table_of s handle)
  where
    by_table : (found : Option Table) → s.handles_made ≤ (option_map_or (λ t. with_update s (with_range t.value offset bytes) t) found s).handles_made
    by_table None = omega arith
    by_table (Some t) = omega arith
counts-accept limits s app (GetAddress handle) = by_table (table_of s handle)
  where
    by_table : (found : Option Table) → s.handles_made ≤ (option_map_or (λ t. record s { handles = with_handle (with_hold t.version t.value) handle s.handles }) found s).handles_made
    by_table None = omega arith
    by_table (Some t) = omega arith
counts-accept limits s app (ReleaseAddress handle) = omega arith
counts-accept limits s app (Status handle) = omega arith
counts-accept limits s app End = omega arith

-- whatever the call, no fewer handles were made
pub counts_never_fall : CountsNeverFall
counts_never_fall limits s app call = by_cause (cause limits s app call)
  where
    by_cause : (why : Option TblStatus) → s.handles_made ≤ ((outcome limits s app call why).1).handles_made
    by_cause None = counts-accept limits s app call
    by_cause (Some status) = omega arith

-- New numbers. --

-- whether an answer is the number of a new handle, and that number
abbrev is_number : TblAnswer → Bool
is_number answers.Done = false
is_number (answers.Number number) = true
is_number (answers.Duplicate number) = false
is_number (answers.Address told version) = false
is_number (answers.State figures) = false
is_number (answers.Refused status) = false

abbrev number_in : TblAnswer → ℕ
number_in answers.Done = 0
number_in (answers.Number number) = number
number_in (answers.Duplicate number) = 0
number_in (answers.Address told version) = 0
number_in (answers.State figures) = 0
number_in (answers.Refused status) = 0

-- what is answered and left is so that a new number is one more than were made, and counted
abbrev IsNew : State → TblAnswer × State → Type 0
IsNew s r = (number : ℕ) → r.0 ≡ answers.Number number → (number ≡ s.handles_made + 1) × ((r.1).handles_made ≡ number)

-- no new number
no_number : (s : State) (r : TblAnswer × State) → is_number (r.0) ≡ false → IsNew s r
no_number s r none number is = absurd (true≢false (sym (ap is_number is) ∙ none))

-- the next number
next_number : (s next : State) → next.handles_made ≡ s.handles_made + 1 → IsNew s (answers.Number (s.handles_made + 1), next)
next_number s next is number same =
    let it : s.handles_made + 1 ≡ number = ap number_in same in
    (sym it, is ∙ it)

address-number : (s : State) (handle : ℕ) → is_number (address_of s handle) ≡ false
address-number s handle = by_handle (handle_at s.handles handle)
  where
    by_table : (h : Handle) (found : Option Table) → is_number (option_map_or (λ t. answers.Address (told_of t h) t.version) found (answers.Refused ErrInvalidHandle)) ≡ false
    by_table h None = refl
    by_table h (Some t) = refl

    by_handle : (h : Option Handle) →
        is_number (option_map_or (λ x. option_map_or (λ t. answers.Address (told_of t x) t.version) (table_of s handle) (answers.Refused ErrInvalidHandle)) h (answers.Refused ErrInvalidHandle)) ≡ false
    by_handle None = refl
    by_handle (Some h) = by_table h (table_of s handle)

status-number : (s : State) (handle : ℕ) → is_number (status_of s handle) ≡ false
status-number s handle = by_table (table_of s handle)
  where
    by_table : (found : Option Table) → is_number (option_map_or (λ t. answers.State (figures_of s t)) found (answers.Refused ErrInvalidHandle)) ≡ false
    by_table None = refl
    by_table (Some t) = refl

new-accept : (limits : Limits) (s : State) (app : ℕ) (call : Call) → cause limits s app call ≡ None → IsNew s (accept limits s app call)
new-accept limits s app (Register name size option rules) free = by_name (table_named s.tables name)
  where
    by_name : (found : Option Table) →
        IsNew s (option_map_or {U = TblAnswer × State} (λ t. (answers.Duplicate t.number, s)) found (answers.Number (s.handles_made + 1), with_new_table limits s app name size option rules))
    by_name None = next_number s (with_new_table limits s app name size option rules) refl
    by_name (Some t) = no_number s (answers.Duplicate t.number, s) refl
new-accept limits s app (Share name) free = by_name (table_named s.tables name) free
  where
    by_name : (found : Option Table) →
        refused_if (not (is_some found)) ErrInvalidName (refused_if (nat_le limits.handles (length s.handles)) ErrHandlesFull None) ≡ None →
        IsNew s (answers.Number (s.handles_made + 1), option_map_or (λ t. with_new_handle s app t.number t.loaded) found s)
    by_name None why = absurd (true≢false (ap is_some why))
    by_name (Some t) why = next_number s (with_new_handle s app t.number t.loaded) refl
new-accept limits s app (Unregister handle) free = no_number s (accept limits s app (Unregister handle)) refl
new-accept limits s app (Stage handle offset bytes) free = no_number s (accept limits s app (Stage handle offset bytes)) refl
new-accept limits s app (Validate handle) free = no_number s (accept limits s app (Validate handle)) refl
new-accept limits s app (Update handle) free = no_number s (accept limits s app (Update handle)) refl
new-accept limits s app (Abort handle) free = no_number s (accept limits s app (Abort handle)) refl
new-accept limits s app (Load handle offset bytes) free = no_number s (accept limits s app (Load handle offset bytes)) refl
new-accept limits s app (GetAddress handle) free = no_number s (accept limits s app (GetAddress handle)) (address-number s handle)
new-accept limits s app (ReleaseAddress handle) free = no_number s (accept limits s app (ReleaseAddress handle)) refl
new-accept limits s app (Status handle) free = no_number s (accept limits s app (Status handle)) (status-number s handle)
new-accept limits s app End free = no_number s (accept limits s app End) refl

-- a new number is one more than were made
pub numbers_are_new : NumbersAreNew
numbers_are_new limits s app call = by_cause (cause limits s app call) refl
  where
    by_cause : (why : Option TblStatus) → cause limits s app call ≡ why → IsNew s (outcome limits s app call why)
    by_cause None is = new-accept limits s app call is
    by_cause (Some status) is = no_number s (answers.Refused status, s) refl
