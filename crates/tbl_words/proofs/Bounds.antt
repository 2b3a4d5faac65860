-- Numbers of handles and of versions behind a step, and so behind a history.
use Rattle.std.proofs.Common.{◌≡◌, ℕ, ◌+◌, ◌≤◌, ◌==◌, if◌then◌else◌, not, suc, Bool, true, false, cond, List, [], ◌∷◌, length, map, filter, All, Option, Some, None, true≢false, ap, sym, subst, arith}
use Rattle.std.proofs.lemmas.List.Elements.{All-head, All-tail, All-push, All-weaker, All-map, All-filter}
use Rattle.std.specs.Option.{option_map_or, is_some}
use Rattle.fsw_base.specs.Limits.{Limits}
use Rattle.tbl_words.specs.declared.statuses.TblStatus.{TblStatus}
use Rattle.tbl_words.specs.declared.calls.TblAnswer.{TblAnswer}
use Rattle.tbl_words.specs.declared.calls.TblAnswer.TheVariants as answers
use Rattle.tbl_words.specs.declared.history.Call.{Call}
use Rattle.tbl_words.specs.declared.history.Call.TheVariants.{Register, Share, Unregister, Stage, Validate, Update, Abort, Load, GetAddress, ReleaseAddress, Status, End}
use Rattle.tbl_words.specs.declared.history.Entry.{Entry}
use Rattle.tbl_words.specs.Tables.{Table, Staged, Handle, State, opening, is_live, has_handle, table_at, table_of, table_named, with_handle, with_table}
use Rattle.tbl_words.specs.Machine.{cause, accept, outcome, step, state_from, new_table, with_new_handle, with_new_table, after_leave, without_handles, with_hold, with_staged, with_validated, with_value, with_table_of, with_update, with_range}
use Rattle.tbl_words.specs.Bounds.{HandlesGoByEntries, VersionsGoByEntries}

-- handles and versions go no further than this
pub record AreFew (n : ℕ) (s : State) : Type 0 where
  pub handles : s.handles_made ≤ n
  pub versions : All (λ t. t.version ≤ n) s.tables

one_more : (n : ℕ) (s : State) → AreFew n s → AreFew (suc n) s
one_more n s few = record {
  handles = omega (arith, few.handles);
  versions = All-weaker (λ (t : Table). t.version ≤ n) (λ t. t.version ≤ suc n) (λ t fits. omega arith) s.tables few.versions;
}

-- tables changed, each by a version at most
versions-map : (n : ℕ) (change : Table → Table) (tables : List Table) → ((t : Table) → (change t).version ≤ suc t.version) →
    All (λ t. t.version ≤ n) tables → All (λ t. t.version ≤ suc n) (map change tables)
versions-map n change tables slow few =
    All-map (λ (t : Table). t.version ≤ suc n) change tables
    (All-weaker (λ (t : Table). t.version ≤ n) (λ t. (change t).version ≤ suc n) (λ t fits. let most = slow t in omega (arith, most, fits)) tables few)

-- one table changed so
versions-with_table : (n : ℕ) (change : Table → Table) (number : ℕ) (tables : List Table) → ((t : Table) → (change t).version ≤ suc t.version) →
    All (λ t. t.version ≤ n) tables → All (λ t. t.version ≤ suc n) (with_table change number tables)
versions-with_table n change number tables slow few =
    versions-map n (λ t. if t.number == number then change t else t) tables
    (λ t. elim (t.number == number) as (λ b. (cond {A = Table} b (change t) t).version ≤ suc t.version) [ true ↦ slow t | false ↦ omega arith ])
    few

few-with_table_of : (n : ℕ) (s : State) (handle : ℕ) (change : Table → Table) → ((t : Table) → (change t).version ≤ suc t.version) →
    AreFew n s → AreFew (suc n) (with_table_of s handle change)
few-with_table_of n s handle change slow few = by_table (table_of s handle)
  where
    by_table : (found : Option Table) → AreFew (suc n) (option_map_or (λ t. record s { tables = with_table change t.number s.tables }) found s)
    by_table None = one_more n s few
    by_table (Some t) = record { handles = omega (arith, few.handles); versions = versions-with_table n change t.number s.tables slow few.versions }

few-with_update : (n : ℕ) (s : State) (value : List ℕ) (t : Table) → AreFew n s → AreFew (suc n) (with_update s value t)
few-with_update n s value t few = record {
  handles = omega (arith, few.handles);
  versions = versions-with_table n (with_value value) t.number s.tables (λ u. omega arith) few.versions;
}

few-without_handles : (n : ℕ) (s : State) (gone : Handle → Bool) → AreFew n s → AreFew (suc n) (without_handles gone s)
few-without_handles n s gone few =
    let left = filter (λ h. not (gone h)) s.handles in
    record {
      handles = omega (arith, few.handles);
      versions = All-filter (λ (t : Table). has_handle left t.number) (λ t. t.version ≤ suc n) (map (after_leave left) s.tables)
          (versions-map n (after_leave left) s.tables
          (λ t. elim (is_live left t.number) as (λ b. (cond {A = Table} b t (record t { registered = false; staged = None })).version ≤ suc t.version) [ true ↦ omega arith | false ↦ omega arith ])
          few.versions);
    }

-- a staged value that is validated
validated-slow : (t : Table) → (with_validated t).version ≤ suc t.version
validated-slow t = by_staged t.staged
  where
    by_staged : (staged : Option Staged) → (option_map_or (λ x. with_staged x.value true t) staged t).version ≤ suc t.version
    by_staged None = omega arith
    by_staged (Some x) = omega arith

few-accept : (n : ℕ) (limits : Limits) (s : State) (app : ℕ) (call : Call) → AreFew n s → AreFew (suc n) ((accept limits s app call).1)
few-accept n limits s app (Register name size option rules) few = by_name (table_named s.tables name)
  where
    by_name : (found : Option Table) →
        AreFew (suc n) ((option_map_or {U = TblAnswer × State} (λ t. (answers.Duplicate t.number, s)) found (answers.Number (s.handles_made + 1), with_new_table limits s app name size option rules)).1)
    by_name None = record {
      handles = omega (arith, few.handles);
      versions = All-push (λ (t : Table). t.version ≤ suc n) s.tables (new_table (s.handles_made + 1) app name size option rules) (one_more n s few).versions (omega arith);
    }
    by_name (Some t) = one_more n s few
few-accept n limits s app (Share name) few = by_name (table_named s.tables name)
  where
    by_name : (found : Option Table) → AreFew (suc n) (option_map_or (λ t. with_new_handle s app t.number t.loaded) found s)
    by_name None = one_more n s few
    by_name (Some t) = record { handles = omega (arith, few.handles); versions = (one_more n s few).versions }
few-accept n limits s app (Unregister handle) few = few-without_handles n s (λ h. h.number == handle) few
few-accept n limits s app (Stage handle offset bytes) few =
    few-with_table_of n s handle (λ t. with_staged (with_range t.value offset bytes) false t) (λ t. omega arith) few
few-accept n limits s app (Validate handle) few = few-with_table_of n s handle with_validated validated-slow few
few-accept n limits s app (Update handle) few = by_table (table_of s handle)
  where
    by_staged : (t : Table) (staged : Option Staged) → AreFew (suc n) (option_map_or (λ x. with_update s x.value t) staged s)
    by_staged t None = one_more n s few
    by_staged t (Some x) = few-with_update n s x.value t few

    by_table : (found : Option Table) → AreFew (suc n) (option_map_or (λ t. option_map_or (λ x. with_update s x.value t) t.staged s) found s)
    by_table None = one_more n s few
    by_table (Some t) = by_staged t t.staged
few-accept n limits s app (Abort handle) few = few-with_table_of n s handle (λ t. record t { staged = None }) (λ t. omega arith) few
few-accept n limits s app (Load handle offset bytes) few = by_table (table_of s handle)
  where
    by_table : (found : Option Table) → AreFew (suc n) (option_map_or (λ t. with_update s (with_range t.value offset bytes) t) found s)
    by_table None = one_more n s few
    by_table (Some t) = few-with_update n s (with_range t.value offset bytes) t few
few-accept n limits s app (GetAddress handle) few = by_table (table_of s handle)
  where
    by_table : (found : Option Table) → AreFew (suc n) (option_map_or (λ t. record s { handles = with_handle (with_hold t.version t.value) handle s.handles }) found s)
    by_table None = one_more n s few
    by_table (Some t) = record { handles = omega (arith, few.handles); versions = (one_more n s few).versions }
few-accept n limits s app (ReleaseAddress handle) few = record { handles = omega (arith, few.handles); versions = (one_more n s few).versions }
few-accept n limits s app (Status handle) few = one_more n s few
few-accept n limits s app End few =
    let left = few-without_handles n s (λ h. h.app == app) few in
    record { handles = left.handles; versions = left.versions }

few-step : (n : ℕ) (limits : Limits) (s : State) (app : ℕ) (call : Call) → AreFew n s → AreFew (suc n) ((step limits s app call).1)
few-step n limits s app call few = by_cause (cause limits s app call)
  where
    by_cause : (why : Option TblStatus) → AreFew (suc n) ((outcome limits s app call why).1)
    by_cause None = few-accept n limits s app call few
    by_cause (Some status) = one_more n s few

few-from : (n : ℕ) (limits : Limits) (s : State) (es : List Entry) → AreFew n s → AreFew (n + length es) (state_from limits s es)
few-from n limits s [] few = subst (λ m. AreFew m s) (plus-zero n) few
  where
    plus-zero : (n : ℕ) → n ≡ n + 0
    plus-zero n = omega arith
few-from n limits s (e ∷ es) few =
    let next = (step limits s e.app e.call).1 in
    subst (λ m. AreFew m (state_from limits next es)) (plus-suc n (length es)) (few-from (suc n) limits next es (few-step n limits s e.app e.call few))
  where
    plus-suc : (n k : ℕ) → suc n + k ≡ n + suc k
    plus-suc n k = omega arith

pub few-after : (limits : Limits) (apps : ℕ) (history : List Entry) → AreFew (length history) (state_from limits (opening limits apps) history)
few-after limits apps history =
    subst (λ m. AreFew m (state_from limits (opening limits apps) history)) (zero-plus (length history))
    (few-from 0 limits (opening limits apps) history (record { handles = omega arith; versions = λ k d within. absurd (omega (arith, within)) }))
  where
    zero-plus : (n : ℕ) → 0 + n ≡ n
    zero-plus n = omega arith

pub handles_go_by_entries : HandlesGoByEntries
handles_go_by_entries limits apps history = (few-after limits apps history).handles

-- what is found in a list has what each of its items has
found-fits : (n number : ℕ) (tables : List Table) (t : Table) → All (λ u. u.version ≤ n) tables → table_at tables number ≡ Some t → t.version ≤ n
found-fits n number [] t few is = absurd (true≢false (sym (ap is_some is)))
found-fits n number (u ∷ tables) t few is =
    elim (u.number == number) as (λ b. cond {A = Option Table} b (Some u) (table_at tables number) ≡ Some t → t.version ≤ n) [
      | true ↦ λ found. subst (λ (o : Option Table). option_map_or (λ x. x.version) o 0 ≤ n) found (All-head (λ (x : Table). x.version ≤ n) u tables few)
      | false ↦ λ found. found-fits n number tables t (All-tail (λ (x : Table). x.version ≤ n) u tables few) found
    ] is

pub versions_go_by_entries : VersionsGoByEntries
versions_go_by_entries limits apps history number t found =
    found-fits (length history) number (state_from limits (opening limits apps) history).tables t (few-after limits apps history).versions found
