-- Table Services as a machine: why a call is refused, what it answers and what it changes, and
-- which histories are legal. Its state is enough by itself: no call looks at anything else.
use Rattle.std.specs.Prelude.{◌≡◌, ℕ, ◌+◌, ◌-◌, ◌==◌, ◌&&◌, ◌||◌, not, nat_le, nat_lt, Bool, true, false, List, [], ◌∷◌, ◌++◌, length, take, drop, map, filter, replicate, slice_set, Option, Some, None, is_some, IsTrue, if◌then◌else◌}
use Rattle.std.specs.Option.{option_map_or}
use Rattle.fsw_base.specs.Blocks.{class_of}
use Rattle.fsw_base.specs.Limits.{Limits}
use Rattle.fsw_base.specs.PoolAccounts.{counted_by, after_draws}
use Rattle.tbl_words.specs.declared.statuses.TblStatus.{TblStatus}
use Rattle.tbl_words.specs.declared.statuses.TblStatus.TheVariants.{ErrInvalidHandle, ErrInvalidName, ErrInvalidSize, ErrInvalidOptions, ErrDuplicateNotOwned, ErrDuplicateDiffSize, ErrRegistryFull, ErrHandlesFull, ErrNoAccess, ErrUnregistered, ErrDumpOnly, ErrFileTooLarge, ErrPartialLoad, ErrLoadInProgress, ErrNoBufferAvail, InfoTableLocked, InfoNoUpdatePending, ErrMemBlockSize, NoLoad, NotValidated, Validation}
use Rattle.tbl_rules.specs.declared.rules.Rule.{Rule}
use Rattle.tbl_words.specs.declared.calls.Told.{Told}
use Rattle.tbl_words.specs.declared.calls.Told.TheVariants.{Same, Updated, NeverLoaded}
use Rattle.tbl_words.specs.declared.calls.TblState.{TblState}
use Rattle.tbl_words.specs.declared.calls.TblAnswer.{TblAnswer}
use Rattle.tbl_words.specs.declared.calls.TblAnswer.TheVariants as answers
use Rattle.tbl_words.specs.declared.history.Call.{Call}
use Rattle.tbl_words.specs.declared.history.Call.TheVariants.{Register, Share, Unregister, Stage, Validate, Update, Abort, Load, GetAddress, ReleaseAddress, Status, End}
use Rattle.tbl_words.specs.declared.history.Entry.{Entry}
use Rattle.tbl_rules.specs.Rules.{has_misfit, failed_rule}
use Rattle.tbl_words.specs.Tables.{Table, Staged, Handle, State, opening, has_ended, handle_at, is_live, owns, has_handle, holds_of, is_held, is_held_apart, with_handle, all_marked, table_of, table_named, with_table, is_double, buffers_taken, blocks_for, account_of, fits}

-- Values. --

-- a value with these bytes in place of those from an offset on
abbrev pub with_range : List ℕ → ℕ → List ℕ → List ℕ
with_range value offset bytes = take offset value ++ bytes ++ drop (offset + length bytes) value

-- Refusals. Each call has its own, in the order in which they are tried. --

-- this refusal if the test is true, else the ones that follow
abbrev pub refused_if : Bool → TblStatus → Option TblStatus → Option TblStatus
refused_if test status others = if test then Some status else others

-- a new table is refused if as many tables have a handle as there may be, as many handles are
-- live, or the pool can't give its blocks
abbrev pub new_table_cause : Limits → State → ℕ → ℕ → Option TblStatus
new_table_cause limits s size option =
    refused_if (nat_le limits.tables (length s.tables)) ErrRegistryFull
    (refused_if (nat_le limits.handles (length s.handles)) ErrHandlesFull
    (refused_if (not (fits (account_of limits s) size (blocks_for option))) ErrMemBlockSize None))

-- a name that a registered table has is refused if that table is another application's, or the
-- caller's own with another size; else it is a duplicate, and no refusal
abbrev pub duplicate_cause : ℕ → ℕ → Table → Option TblStatus
duplicate_cause app size t =
    refused_if (not (t.owner == app)) ErrDuplicateNotOwned
    (refused_if (not (t.size == size)) ErrDuplicateDiffSize None)

-- no table can have this name, this size, or this option with these rules: a name has 1 to 15
-- bytes, a size is from 1 to the largest there may be, an option is one of three, and rules fit the
-- size; then the others
abbrev pub unfit_cause : ℕ → List ℕ → ℕ → ℕ → List Rule → Option TblStatus → Option TblStatus
unfit_cause most name size option rules others =
    refused_if (length name == 0 || nat_lt 15 (length name)) ErrInvalidName
    (refused_if (size == 0 || nat_lt most size) ErrInvalidSize
    (refused_if (nat_lt 2 option || has_misfit size rules) ErrInvalidOptions others))

-- a registration: no table can have this name, size, option or rules; then by whether a registered
-- table has the name
abbrev pub register_cause : Limits → State → ℕ → List ℕ → ℕ → ℕ → List Rule → Option TblStatus
register_cause limits s app name size option rules =
    unfit_cause limits.tablemax name size option rules
    (option_map_or (duplicate_cause app size) (table_named s.tables name)
    (new_table_cause limits s size option))

-- a share: a registered table has the name, and there may be one handle more
abbrev pub share_cause : Limits → State → List ℕ → Option TblStatus
share_cause limits s name =
    refused_if (not (is_some (table_named s.tables name))) ErrInvalidName
    (refused_if (nat_le limits.handles (length s.handles)) ErrHandlesFull None)

-- a handle isn't live, or isn't the application's own; then the others
abbrev pub handle_cause : Bool → Bool → Option TblStatus → Option TblStatus
handle_cause live own others =
    refused_if (not live) ErrInvalidHandle (refused_if (not own) ErrNoAccess others)

-- a table is no longer registered; then the others
abbrev pub unregistered_cause : Bool → Option TblStatus → Option TblStatus
unregistered_cause registered others = refused_if (not registered) ErrUnregistered others

-- the handle isn't live, or is another application's; then the others
abbrev pub access_cause : State → ℕ → ℕ → Option TblStatus → Option TblStatus
access_cause s app handle others =
    handle_cause (is_live s.handles handle) (owns s.handles app handle) others

-- so, or the handle's table is unregistered; then what its table says
abbrev pub table_cause : State → ℕ → ℕ → (Table → Option TblStatus) → Option TblStatus
table_cause s app handle others =
    access_cause s app handle
    (option_map_or (λ t. unregistered_cause t.registered (others t)) (table_of s handle) None)

-- the range that a load gives isn't the whole table
abbrev pub is_partial : Table → ℕ → List ℕ → Bool
is_partial t offset bytes = not (offset == 0 && length bytes == t.size)

-- What may bar a load: the table is dump only; the bytes go past its end; it was never loaded and
-- they aren't all of it; a load is staged already; it is double buffered and a version other than
-- the present one is held, which lies if the load would; it is single buffered and all four
-- working buffers are taken.
pub record Bars : Type 0 where
  pub dump_only : Bool
  pub past_end : Bool
  pub partial : Bool
  pub in_progress : Bool
  pub held_apart : Bool
  pub no_buffer : Bool

-- the first of what bars a load; then the others
abbrev pub barred_cause : Bars → Option TblStatus → Option TblStatus
barred_cause bars others =
    refused_if bars.dump_only ErrDumpOnly
    (refused_if bars.past_end ErrFileTooLarge
    (refused_if bars.partial ErrPartialLoad
    (refused_if bars.in_progress ErrLoadInProgress
    (refused_if bars.held_apart InfoTableLocked
    (refused_if bars.no_buffer ErrNoBufferAvail others)))))

-- what bars a load of these bytes from an offset on
abbrev pub bars_of : State → ℕ → List ℕ → Table → Bars
bars_of s offset bytes t = record {
  dump_only = t.option == 2;
  past_end = nat_lt t.size (offset + length bytes);
  partial = not t.loaded && is_partial t offset bytes;
  in_progress = is_some t.staged;
  held_apart = is_double t && is_held_apart s.handles t.number t.version;
  no_buffer = not (is_double t) && nat_le 4 (buffers_taken s.tables);
}

-- a load is barred; then the others
abbrev pub stage_cause : State → ℕ → List ℕ → Option TblStatus → Table → Option TblStatus
stage_cause s offset bytes others t = barred_cause (bars_of s offset bytes t) others

-- the value fails a rule; then what one that meets them all says
abbrev pub rules_cause : List Rule → List ℕ → Option TblStatus → Option TblStatus
rules_cause rules value others =
    option_map_or (λ number. Some (Validation number)) (failed_rule rules value) others

-- nothing is staged; then what the staged value says
abbrev pub staged_cause : TblStatus → (Staged → Option TblStatus) → Table → Option TblStatus
staged_cause status others t = option_map_or others t.staged (Some status)

-- the table is single buffered, and a handle holds it
abbrev pub is_locked : State → Table → Bool
is_locked s t = not (is_double t) && is_held s.handles t.number

-- a validation: something is staged, and meets the rules
abbrev pub validate_cause : Table → Option TblStatus
validate_cause t = staged_cause NoLoad (λ staged. rules_cause t.rules staged.value None) t

-- an update: something is staged, was validated, and wouldn't be written over a single buffer that
-- is held
abbrev pub update_cause : State → Table → Option TblStatus
update_cause s t =
    staged_cause InfoNoUpdatePending
    (λ staged. refused_if (not staged.validated) NotValidated
    (refused_if (is_locked s t) InfoTableLocked None)) t

-- an abort: something is staged
abbrev pub abort_cause : Table → Option TblStatus
abort_cause t = staged_cause NoLoad (λ staged. None) t

-- a load is staged, validated and updated in one
abbrev pub load_cause : State → ℕ → List ℕ → Table → Option TblStatus
load_cause s offset bytes t =
    stage_cause s offset bytes
    (rules_cause t.rules (with_range t.value offset bytes)
    (refused_if (is_locked s t) InfoTableLocked None)) t

-- the first refusal whose condition holds
abbrev pub cause : Limits → State → ℕ → Call → Option TblStatus
cause limits s app (Register name size option rules) =
    register_cause limits s app name size option rules
cause limits s app (Share name) = share_cause limits s name
cause limits s app (Unregister handle) = access_cause s app handle None
cause limits s app (Stage handle offset bytes) =
    table_cause s app handle (stage_cause s offset bytes None)
cause limits s app (Validate handle) = table_cause s app handle validate_cause
cause limits s app (Update handle) = table_cause s app handle (update_cause s)
cause limits s app (Abort handle) = table_cause s app handle abort_cause
cause limits s app (Load handle offset bytes) = table_cause s app handle (load_cause s offset bytes)
cause limits s app (GetAddress handle) = table_cause s app handle (λ t. None)
cause limits s app (ReleaseAddress handle) = access_cause s app handle None
cause limits s app (Status handle) = access_cause s app handle None
cause limits s app End = None

-- What a call that isn't refused answers and changes. --

-- one handle more of a table, which holds nothing
abbrev pub with_new_handle : State → ℕ → ℕ → Bool → State
with_new_handle s app table marked = record s {
  handles =
      s.handles ++
      record {
        number = s.handles_made + 1;
        app = app;
        table = table;
        marked = marked;
        hold = None;
      } ∷ [];
  handles_made = s.handles_made + 1;
}

-- a table as it is registered: zeros, version 0, never loaded, nothing staged
abbrev pub new_table : ℕ → ℕ → List ℕ → ℕ → ℕ → List Rule → Table
new_table number app name size option rules = record {
  number = number;
  name = name;
  owner = app;
  registered = true;
  size = size;
  option = option;
  rules = rules;
  version = 0;
  value = replicate size 0;
  loaded = false;
  staged = None;
}

-- the pool has given so many blocks for a size
abbrev pub with_blocks : Limits → State → ℕ → ℕ → State
with_blocks limits s size count = record s {
  made = option_map_or (λ class. (after_draws (account_of limits s) class count).made)
      (class_of size limits.sizes) s.made;
  drawn = counted_by s.drawn count;
}

-- one table more, with its blocks and its owner's handle
abbrev pub with_new_table : Limits → State → ℕ → List ℕ → ℕ → ℕ → List Rule → State
with_new_table limits s app name size option rules =
    let given = with_blocks limits s size (blocks_for option) in
    with_new_handle
    (record given
    { tables = s.tables ++ new_table (s.handles_made + 1) app name size option rules ∷ [] })
    app (s.handles_made + 1) false

-- a duplicate changes nothing and is told its owner's handle
abbrev pub after_register : Limits → State → ℕ → List ℕ → ℕ → ℕ → List Rule → TblAnswer × State
after_register limits s app name size option rules =
    option_map_or (λ t. (answers.Duplicate t.number, s)) (table_named s.tables name)
    (answers.Number (s.handles_made + 1), with_new_table limits s app name size option rules)

-- one handle more of the registered table of a name, to be told of its contents if it was ever
-- loaded
abbrev pub after_share : State → ℕ → List ℕ → State
after_share s app name =
    option_map_or (λ t. with_new_handle s app t.number t.loaded) (table_named s.tables name) s

-- a table once handles have left: if its owner's is among those it is unregistered, and nothing
-- is staged
abbrev pub after_leave : List Handle → Table → Table
after_leave left t =
    if is_live left t.number then t else (record t { registered = false; staged = None })

-- the handles of which the test is true leave with their holds; a table without handles leaves, and
-- its blocks go back
abbrev pub without_handles : (Handle → Bool) → State → State
without_handles gone s =
    let left = filter (λ h. not (gone h)) s.handles in
    record s {
      handles = left;
      tables = filter (λ t. has_handle left t.number) (map (after_leave left) s.tables);
    }

-- the table with this value staged; whether it was validated
abbrev pub with_staged : List ℕ → Bool → Table → Table
with_staged value validated t =
    record t { staged = Some (record { value = value; validated = validated }) }

-- the table with its staged value validated
abbrev pub with_validated : Table → Table
with_validated t = option_map_or (λ staged. with_staged staged.value true t) t.staged t

-- the table once this value is its own: a version more, loaded, nothing staged
abbrev pub with_value : List ℕ → Table → Table
with_value value t =
    record t { version = t.version + 1; value = value; loaded = true; staged = None }

-- the table of a handle changed
abbrev pub with_table_of : State → ℕ → (Table → Table) → State
with_table_of s handle change =
    option_map_or (λ t. record s { tables = with_table change t.number s.tables })
    (table_of s handle) s

-- the table updated to this value, and all its handles to be told
abbrev pub with_update : State → List ℕ → Table → State
with_update s value t = record s {
  tables = with_table (with_value value) t.number s.tables;
  handles = all_marked t.number s.handles;
}

-- the table of a handle updated to its staged value
abbrev pub after_update : State → ℕ → State
after_update s handle =
    option_map_or (λ t. option_map_or (λ staged. with_update s staged.value t) t.staged s)
    (table_of s handle) s

-- the table of a handle updated to its value with this range replaced
abbrev pub after_load : State → ℕ → ℕ → List ℕ → State
after_load s handle offset bytes =
    option_map_or (λ t. with_update s (with_range t.value offset bytes) t) (table_of s handle) s

-- what an address is told with: that the table was never loaded, or else whether an update came
-- since the last one
abbrev pub told_of : Table → Handle → Told
told_of t h = if not t.loaded then NeverLoaded else if h.marked then Updated else Same

-- the handle once its application holds this version, and knows of it
abbrev pub with_hold : ℕ → List ℕ → Handle → Handle
with_hold version value h =
    record h { marked = false; hold = Some (record { version = version; value = value }) }

-- the handle once it holds nothing
abbrev pub without_hold : Handle → Handle
without_hold h = record h { hold = None }

-- what an address is answered, by the handle and its table
abbrev pub address_of : State → ℕ → TblAnswer
address_of s handle =
    option_map_or
    (λ h. option_map_or (λ t. answers.Address (told_of t h) t.version) (table_of s handle)
    (answers.Refused ErrInvalidHandle))
    (handle_at s.handles handle) (answers.Refused ErrInvalidHandle)

-- the handle holds the present version of its table
abbrev pub after_address : State → ℕ → State
after_address s handle =
    option_map_or
    (λ t. record s { handles = with_handle (with_hold t.version t.value) handle s.handles })
    (table_of s handle) s

-- 0 if nothing is staged, 1 if something is, 2 if it was validated
abbrev pub staged_number : Option Staged → ℕ
staged_number None = 0
staged_number (Some staged) = if staged.validated then 2 else 1

-- the figures of a table: of its holds, those of all applications and of all versions
abbrev pub figures_of : State → Table → TblState
figures_of s t = record {
  version = t.version;
  loaded = t.loaded;
  staged = staged_number t.staged;
  holds = holds_of s.handles t.number;
}

-- what is told of the table of a handle
abbrev pub status_of : State → ℕ → TblAnswer
status_of s handle =
    option_map_or (λ t. answers.State (figures_of s t)) (table_of s handle)
    (answers.Refused ErrInvalidHandle)

-- each handle of the application is unregistered, and it has ended
abbrev pub after_end : State → ℕ → State
after_end s app =
    let left = without_handles (λ h. h.app == app) s in
    record left { ended = slice_set s.ended (app - 1) true }

abbrev pub accept : Limits → State → ℕ → Call → TblAnswer × State
accept limits s app (Register name size option rules) =
    after_register limits s app name size option rules
accept limits s app (Share name) = (answers.Number (s.handles_made + 1), after_share s app name)
accept limits s app (Unregister handle) =
    (answers.Done, without_handles (λ h. h.number == handle) s)
accept limits s app (Stage handle offset bytes) = (
  answers.Done,
  with_table_of s handle
      (λ t. with_staged (with_range t.value offset bytes) false t),
)
accept limits s app (Validate handle) = (answers.Done, with_table_of s handle with_validated)
accept limits s app (Update handle) = (answers.Done, after_update s handle)
accept limits s app (Abort handle) =
    (answers.Done, with_table_of s handle (λ t. record t { staged = None }))
accept limits s app (Load handle offset bytes) = (answers.Done, after_load s handle offset bytes)
accept limits s app (GetAddress handle) = (address_of s handle, after_address s handle)
accept limits s app (ReleaseAddress handle) =
    (answers.Done, record s { handles = with_handle without_hold handle s.handles })
accept limits s app (Status handle) = (status_of s handle, s)
accept limits s app End = (answers.Done, after_end s app)

-- Steps and histories. --

-- a refused call changes nothing
abbrev pub outcome : Limits → State → ℕ → Call → Option TblStatus → TblAnswer × State
outcome limits s app call (Some status) = (answers.Refused status, s)
outcome limits s app call None = accept limits s app call

-- what the call answers, and the tables afterwards
abbrev pub step : Limits → State → ℕ → Call → TblAnswer × State
step limits s app call = outcome limits s app call (cause limits s app call)

-- the tables after these entries' calls
abbrev pub state_from : Limits → State → List Entry → State
state_from limits s [] = s
state_from limits s (e ∷ es) = state_from limits ((step limits s e.app e.call).1) es

-- the tables after a history of so many applications
abbrev pub state_after : Limits → ℕ → List Entry → State
state_after limits apps history = state_from limits (opening limits apps) history

-- an application may make calls as long as it hasn't ended
abbrev pub may_call : State → ℕ → Bool
may_call s app = not (has_ended s app)

-- each entry's application may make its call, and is answered what the machine answers
abbrev pub LegalFrom : Limits → State → List Entry → Type 0
LegalFrom limits s [] = Unit {0}
LegalFrom limits s (e ∷ es) =
    IsTrue (may_call s e.app)
    × (e.answer ≡ (step limits s e.app e.call).0)
    × LegalFrom limits ((step limits s e.app e.call).1) es

-- a history that Table Services can have
abbrev pub IsLegal : Limits → ℕ → List Entry → Type 0
IsLegal limits apps history = LegalFrom limits (opening limits apps) history
