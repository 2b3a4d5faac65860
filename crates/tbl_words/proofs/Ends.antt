-- Who has ended, and whose the live handles are: an application that has ended has none, so if all have ended nothing is left.
use Rattle.std.proofs.Common.{◌≡◌, ℕ, zero, suc, ◌+◌, ◌-◌, ◌<◌, ◌≤◌, ◌⊎◌, inl, inr, ◌==◌, ◌&&◌, ◌||◌, if◌then◌else◌, not, Bool, true, false, cond, true≢false, eq-eqb, ne_eqb, List, [], ◌∷◌, length, get_or, map, filter, slice_index_or, slice_set, All, Option, Some, None, IsTrue, refl, ap, sym, ◌∙◌, subst, arith}
use Rattle.std.proofs.lemmas.Bool.{cases_lt}
use Rattle.std.proofs.lemmas.List.{get_or-set_other, get_or_past, length-set, length-replicate}
use Rattle.std.proofs.lemmas.List.Elements.{All-push, All-map, All-filter, All-head, All-tail, filter_passes}
use Rattle.std.specs.Option.{option_map_or, is_some}
use Rattle.fsw_base.specs.Limits.{Limits}
use Rattle.tbl_words.specs.declared.statuses.TblStatus.{TblStatus}
use Rattle.tbl_words.specs.declared.calls.TblAnswer.{TblAnswer}
use Rattle.tbl_words.specs.declared.calls.TblAnswer.TheVariants as answers
use Rattle.tbl_words.specs.declared.history.Call.{Call}
use Rattle.tbl_words.specs.declared.history.Call.TheVariants.{Register, Share, Unregister, Stage, Validate, Update, Abort, Load, GetAddress, ReleaseAddress, Status, End}
use Rattle.tbl_words.specs.declared.history.Entry.{Entry}
use Rattle.tbl_words.specs.Tables.{Table, Staged, Handle, State, opening, has_ended, owns, has_handle, bytes_in_use, table_of, table_named, with_handle, with_mark, with_table}
use Rattle.tbl_words.specs.Machine.{cause, accept, outcome, step, state_from, state_after, may_call, LegalFrom, IsLegal, with_new_handle, with_new_table, with_hold, without_hold, with_staged, with_validated, with_table_of, with_update, with_range}
use Rattle.tbl_words.specs.Leaves.{HoldsNothing}

-- Who has ended. --

-- whether an application is among those that have ended; one that isn't known counts as one
abbrev pub is_closed : List Bool → ℕ → Bool
is_closed ended app = if app == 0 then true else slice_index_or ended (app - 1) true

-- who has ended once this call was made
abbrev pub ended_by : ℕ → Call → List Bool → List Bool
ended_by app End ended = slice_set ended (app - 1) true
ended_by app call ended = ended

-- who goes on has a number
pub has_number : (ended : List Bool) (app : ℕ) → is_closed ended app ≡ false → 1 ≤ app
has_number ended zero going = absurd (true≢false going)
has_number ended (suc app) going = omega arith

-- if an application ends, no other does
pub closed-other : (ended : List Bool) (app other : ℕ) → 1 ≤ app → 1 ≤ other → (other == app) ≡ false → is_closed (slice_set ended (app - 1) true) other ≡ is_closed ended other
closed-other ended app other first second differ =
    let apart : (other - 1 ≡ app - 1) → ⊥ = λ same. true≢false (sym (eq-eqb other app (omega (arith, same, first, second))) ∙ differ) in
    ap (λ b. cond {A = Bool} (other == 0) true b) (get_or-set_other ended (app - 1) (other - 1) true true apart)

set_true : (xs : List Bool) (i : ℕ) → slice_index_or (slice_set xs i true) i true ≡ true
set_true [] i = refl
set_true (x ∷ xs) zero = refl
set_true (x ∷ xs) (suc i) = set_true xs i

-- and it does
pub closed-own : (ended : List Bool) (app : ℕ) → is_closed (slice_set ended (app - 1) true) app ≡ true
closed-own ended app = elim (app == 0) as (λ b. cond {A = Bool} b true (slice_index_or (slice_set ended (app - 1) true) (app - 1) true) ≡ true) [ true ↦ refl | false ↦ set_true ended (app - 1) ]

-- what holds of the application of each handle
abbrev OfApps : (ℕ → Type 0) → List Handle → Type 0
OfApps P handles = All (λ (h : Handle). P h.app) handles

apps-map : (P : ℕ → Type 0) (move : Handle → Handle) (handles : List Handle) → ((h : Handle) → (move h).app ≡ h.app) → OfApps P handles → OfApps P (map move handles)
apps-map P move handles same all =
    All-map (λ (h : Handle). P h.app) move handles (λ k d within. subst P (sym (same (get_or handles k d))) (all k d within))

module _ (limits : Limits) (s : State) (app : ℕ) where
  ended-tables : (handle : ℕ) (change : Table → Table) → (with_table_of s handle change).ended ≡ s.ended
  ended-tables handle change = by_table (table_of s handle)
    where
      by_table : (found : Option Table) → (option_map_or (λ (t : Table). record s { tables = with_table change t.number s.tables }) found s).ended ≡ s.ended
      by_table None = refl
      by_table (Some t) = refl

  -- who has ended once a call is accepted
  ended-accept : (call : Call) → ((accept limits s app call).1).ended ≡ ended_by app call s.ended
  ended-accept (Register name size option rules) = by_name (table_named s.tables name)
    where
      by_name : (found : Option Table) →
          ((option_map_or {U = TblAnswer × State} (λ (t : Table). (answers.Duplicate t.number, s)) found (answers.Number (s.handles_made + 1), with_new_table limits s app name size option rules)).1).ended ≡ s.ended
      by_name None = refl
      by_name (Some t) = refl
  ended-accept (Share name) = by_name (table_named s.tables name)
    where
      by_name : (found : Option Table) → (option_map_or (λ (t : Table). with_new_handle s app t.number t.loaded) found s).ended ≡ s.ended
      by_name None = refl
      by_name (Some t) = refl
  ended-accept (Unregister handle) = refl
  ended-accept (Stage handle offset bytes) = ended-tables handle (λ t. with_staged (with_range t.value offset bytes) false t)
  ended-accept (Validate handle) = ended-tables handle with_validated
  ended-accept (Update handle) = by_table (table_of s handle)
    where
      by_staged : (t : Table) (staged : Option Staged) → (option_map_or (λ (x : Staged). with_update s x.value t) staged s).ended ≡ s.ended
      by_staged t None = refl
      by_staged t (Some x) = refl

      by_table : (found : Option Table) → (option_map_or (λ (t : Table). option_map_or (λ (x : Staged). with_update s x.value t) t.staged s) found s).ended ≡ s.ended
      by_table None = refl
      by_table (Some t) = by_staged t t.staged
  ended-accept (Abort handle) = ended-tables handle (λ t. record t { staged = None })
  ended-accept (Load handle offset bytes) = by_table (table_of s handle)
    where
      by_table : (found : Option Table) → (option_map_or (λ (t : Table). with_update s (with_range t.value offset bytes) t) found s).ended ≡ s.ended
      by_table None = refl
      by_table (Some t) = refl
  ended-accept (GetAddress handle) = by_table (table_of s handle)
    where
      by_table : (found : Option Table) → (option_map_or (λ (t : Table). record s { handles = with_handle (with_hold t.version t.value) handle s.handles }) found s).ended ≡ s.ended
      by_table None = refl
      by_table (Some t) = refl
  ended-accept (ReleaseAddress handle) = refl
  ended-accept (Status handle) = refl
  ended-accept End = refl

  -- a refused call ends nobody, and an end is never refused
  ended-refused : (call : Call) (status : TblStatus) → cause limits s app call ≡ Some status → s.ended ≡ ended_by app call s.ended
  ended-refused (Register name size option rules) status why = refl
  ended-refused (Share name) status why = refl
  ended-refused (Unregister handle) status why = refl
  ended-refused (Stage handle offset bytes) status why = refl
  ended-refused (Validate handle) status why = refl
  ended-refused (Update handle) status why = refl
  ended-refused (Abort handle) status why = refl
  ended-refused (Load handle offset bytes) status why = refl
  ended-refused (GetAddress handle) status why = refl
  ended-refused (ReleaseAddress handle) status why = refl
  ended-refused (Status handle) status why = refl
  ended-refused End status why = absurd (true≢false (sym (ap is_some why)))

  pub ended-step : (call : Call) → ((step limits s app call).1).ended ≡ ended_by app call s.ended
  ended-step call = by_cause (cause limits s app call) refl
    where
      by_cause : (why : Option TblStatus) → cause limits s app call ≡ why → ((outcome limits s app call why).1).ended ≡ ended_by app call s.ended
      by_cause None is = ended-accept call
      by_cause (Some status) is = ended-refused call status is

  -- Handles. --

  apps-tables : (P : ℕ → Type 0) (handle : ℕ) (change : Table → Table) → OfApps P s.handles → OfApps P (with_table_of s handle change).handles
  apps-tables P handle change all = by_table (table_of s handle)
    where
      by_table : (found : Option Table) → OfApps P (option_map_or (λ (t : Table). record s { tables = with_table change t.number s.tables }) found s).handles
      by_table None = all
      by_table (Some t) = all

  apps-marked : (P : ℕ → Type 0) (table : ℕ) → OfApps P s.handles → OfApps P (map (λ h. if h.table == table then with_mark h else h) s.handles)
  apps-marked P table all =
      apps-map P (λ h. if h.table == table then with_mark h else h) s.handles
      (λ h. elim (h.table == table) as (λ b. (cond {A = Handle} b (with_mark h) h).app ≡ h.app) [ true ↦ refl | false ↦ refl ]) all

  apps-one : (P : ℕ → Type 0) (change : Handle → Handle) (number : ℕ) → ((h : Handle) → (change h).app ≡ h.app) → OfApps P s.handles → OfApps P (with_handle change number s.handles)
  apps-one P change number same all =
      apps-map P (λ h. if h.number == number then change h else h) s.handles
      (λ h. elim (h.number == number) as (λ b. (cond {A = Handle} b (change h) h).app ≡ h.app) [ true ↦ same h | false ↦ refl ]) all

  -- the handles that a call leaves are those of applications that had some, or of who made it
  apps-accept : (P : ℕ → Type 0) (call : Call) → P app → OfApps P s.handles → OfApps P ((accept limits s app call).1).handles
  apps-accept P (Register name size option rules) own all = by_name (table_named s.tables name)
    where
      by_name : (found : Option Table) →
          OfApps P ((option_map_or {U = TblAnswer × State} (λ (t : Table). (answers.Duplicate t.number, s)) found (answers.Number (s.handles_made + 1), with_new_table limits s app name size option rules)).1).handles
      by_name None = All-push (λ (h : Handle). P h.app) s.handles _ all own
      by_name (Some t) = all
  apps-accept P (Share name) own all = by_name (table_named s.tables name)
    where
      by_name : (found : Option Table) → OfApps P (option_map_or (λ (t : Table). with_new_handle s app t.number t.loaded) found s).handles
      by_name None = all
      by_name (Some t) = All-push (λ (h : Handle). P h.app) s.handles _ all own
  apps-accept P (Unregister handle) own all = All-filter (λ (h : Handle). not (h.number == handle)) (λ (h : Handle). P h.app) s.handles all
  apps-accept P (Stage handle offset bytes) own all = apps-tables P handle (λ t. with_staged (with_range t.value offset bytes) false t) all
  apps-accept P (Validate handle) own all = apps-tables P handle with_validated all
  apps-accept P (Update handle) own all = by_table (table_of s handle)
    where
      by_staged : (t : Table) (staged : Option Staged) → OfApps P (option_map_or (λ (x : Staged). with_update s x.value t) staged s).handles
      by_staged t None = all
      by_staged t (Some x) = apps-marked P t.number all

      by_table : (found : Option Table) → OfApps P (option_map_or (λ (t : Table). option_map_or (λ (x : Staged). with_update s x.value t) t.staged s) found s).handles
      by_table None = all
      by_table (Some t) = by_staged t t.staged
  apps-accept P (Abort handle) own all = apps-tables P handle (λ t. record t { staged = None }) all
  apps-accept P (Load handle offset bytes) own all = by_table (table_of s handle)
    where
      by_table : (found : Option Table) → OfApps P (option_map_or (λ (t : Table). with_update s (with_range t.value offset bytes) t) found s).handles
      by_table None = all
      by_table (Some t) = apps-marked P t.number all
  apps-accept P (GetAddress handle) own all = by_table (table_of s handle)
    where
      by_table : (found : Option Table) → OfApps P (option_map_or (λ (t : Table). record s { handles = with_handle (with_hold t.version t.value) handle s.handles }) found s).handles
      by_table None = all
      by_table (Some t) = apps-one P (with_hold t.version t.value) handle (λ h. refl) all
  apps-accept P (ReleaseAddress handle) own all = apps-one P without_hold handle (λ h. refl) all
  apps-accept P (Status handle) own all = all
  apps-accept P End own all = All-filter (λ (h : Handle). not (h.app == app)) (λ (h : Handle). P h.app) s.handles all

  -- Owners. --

  -- an accepted call leaves handles of applications that go on
  owned-accept : (call : Call) → is_closed s.ended app ≡ false → OfApps (λ n. is_closed s.ended n ≡ false) s.handles →
      OfApps (λ n. is_closed (ended_by app call s.ended) n ≡ false) ((accept limits s app call).1).handles
  owned-accept (Register name size option rules) = apps-accept (λ n. is_closed s.ended n ≡ false) (Register name size option rules)
  owned-accept (Share name) = apps-accept (λ n. is_closed s.ended n ≡ false) (Share name)
  owned-accept (Unregister handle) = apps-accept (λ n. is_closed s.ended n ≡ false) (Unregister handle)
  owned-accept (Stage handle offset bytes) = apps-accept (λ n. is_closed s.ended n ≡ false) (Stage handle offset bytes)
  owned-accept (Validate handle) = apps-accept (λ n. is_closed s.ended n ≡ false) (Validate handle)
  owned-accept (Update handle) = apps-accept (λ n. is_closed s.ended n ≡ false) (Update handle)
  owned-accept (Abort handle) = apps-accept (λ n. is_closed s.ended n ≡ false) (Abort handle)
  owned-accept (Load handle offset bytes) = apps-accept (λ n. is_closed s.ended n ≡ false) (Load handle offset bytes)
  owned-accept (GetAddress handle) = apps-accept (λ n. is_closed s.ended n ≡ false) (GetAddress handle)
  owned-accept (ReleaseAddress handle) = apps-accept (λ n. is_closed s.ended n ≡ false) (ReleaseAddress handle)
  owned-accept (Status handle) = apps-accept (λ n. is_closed s.ended n ≡ false) (Status handle)
  owned-accept End = λ going all.
      let left = filter (λ (h : Handle). not (h.app == app)) s.handles in
      let kept : OfApps (λ n. is_closed s.ended n ≡ false) left = apps-accept (λ n. is_closed s.ended n ≡ false) End going all in
      let apart : All (λ (h : Handle). not (h.app == app) ≡ true) left = filter_passes (λ (h : Handle). not (h.app == app)) s.handles in
      λ k d within. stays (get_or left k d).app going (kept k d within) (apart k d within)
    where
      other_than : (b : Bool) → not b ≡ true → b ≡ false
      other_than true is = sym is
      other_than false is = refl

      stays : (n : ℕ) → is_closed s.ended app ≡ false → is_closed s.ended n ≡ false → not (n == app) ≡ true → is_closed (slice_set s.ended (app - 1) true) n ≡ false
      stays n going old differ = closed-other s.ended app n (has_number s.ended app going) (has_number s.ended n old) (other_than (n == app) differ) ∙ old

  owned-step : (call : Call) → is_closed s.ended app ≡ false → OfApps (λ n. is_closed s.ended n ≡ false) s.handles →
      OfApps (λ n. has_ended ((step limits s app call).1) n ≡ false) ((step limits s app call).1).handles
  owned-step call going all = subst (λ ended. OfApps (λ n. is_closed ended n ≡ false) ((step limits s app call).1).handles) (sym (ended-step call)) (by_cause (cause limits s app call) refl)
    where
      by_cause : (why : Option TblStatus) → cause limits s app call ≡ why → OfApps (λ n. is_closed (ended_by app call s.ended) n ≡ false) ((outcome limits s app call why).1).handles
      by_cause None is = owned-accept call going all
      by_cause (Some status) is = subst (λ ended. OfApps (λ n. is_closed ended n ≡ false) s.handles) (ended-refused call status is) all

-- who may call goes on
pub goes : (s : State) (app : ℕ) → IsTrue (may_call s app) → has_ended s app ≡ false
goes s app may = elim (has_ended s app) as (λ b. IsTrue (not b) → b ≡ false) [ true ↦ λ is. sym is | false ↦ λ is. refl ] may

-- after every legal history the application of each live handle goes on
owned_from : (limits : Limits) (s : State) (es : List Entry) → LegalFrom limits s es →
    OfApps (λ n. has_ended s n ≡ false) s.handles → OfApps (λ n. has_ended (state_from limits s es) n ≡ false) (state_from limits s es).handles
owned_from limits s [] legal all = all
owned_from limits s (e ∷ es) legal all =
    owned_from limits ((step limits s e.app e.call).1) es legal.2 (owned-step limits s e.app e.call (goes s e.app legal.0) all)

owned_after : (limits : Limits) (apps : ℕ) (history : List Entry) → IsLegal limits apps history →
    All (λ (h : Handle). has_ended (state_after limits apps history) h.app ≡ false) (state_after limits apps history).handles
owned_after limits apps history legal = owned_from limits (opening limits apps) history legal (λ k d within. absurd (omega (arith, within)))

-- so one that has ended owns no handle
owns_none : (s : State) (app number : ℕ) (handles : List Handle) → All (λ (h : Handle). has_ended s h.app ≡ false) handles → has_ended s app ≡ true → owns handles app number ≡ false
owns_none s app number [] owned over = refl
owns_none s app number (h ∷ handles) owned over =
    let rest = owns_none s app number handles (All-tail (λ (x : Handle). has_ended s x.app ≡ false) h handles owned) over in
    let first : has_ended s h.app ≡ false = All-head (λ (x : Handle). has_ended s x.app ≡ false) h handles owned in
    let anothers : (h.app == app) ≡ false = ne_eqb h.app app (λ same. true≢false (sym (ap (has_ended s) same ∙ over) ∙ first)) in
    elim (h.number == number) as (λ b. ((b && h.app == app) || owns handles app number) ≡ false) [
      | true ↦ ap (λ b. b || owns handles app number) anothers ∙ rest
      | false ↦ rest
    ]

pub owners_end : (limits : Limits) (apps app number : ℕ) (history : List Entry) → IsLegal limits apps history →
    has_ended (state_after limits apps history) app ≡ true → owns (state_after limits apps history).handles app number ≡ false
owners_end limits apps app number history legal over =
    owns_none (state_after limits apps history) app number (state_after limits apps history).handles (owned_after limits apps history legal) over

-- Ends of all. --

-- as many applications are known as there are
length-ended_by : (app : ℕ) (call : Call) (ended : List Bool) → length (ended_by app call ended) ≡ length ended
length-ended_by app (Register name size option rules) ended = refl
length-ended_by app (Share name) ended = refl
length-ended_by app (Unregister handle) ended = refl
length-ended_by app (Stage handle offset bytes) ended = refl
length-ended_by app (Validate handle) ended = refl
length-ended_by app (Update handle) ended = refl
length-ended_by app (Abort handle) ended = refl
length-ended_by app (Load handle offset bytes) ended = refl
length-ended_by app (GetAddress handle) ended = refl
length-ended_by app (ReleaseAddress handle) ended = refl
length-ended_by app (Status handle) ended = refl
length-ended_by app End ended = length-set ended (app - 1) true

-- so no call changes how many there are
pub applications_stay : (limits : Limits) (s : State) (app : ℕ) (call : Call) → length ((step limits s app call).1).ended ≡ length s.ended
applications_stay limits s app call = ap (length {A = Bool}) (ended-step limits s app call) ∙ length-ended_by app call s.ended

known_from : (limits : Limits) (s : State) (es : List Entry) → length (state_from limits s es).ended ≡ length s.ended
known_from limits s [] = refl
known_from limits s (e ∷ es) =
    known_from limits ((step limits s e.app e.call).1) es ∙ applications_stay limits s e.app e.call

pub known_after : (limits : Limits) (apps : ℕ) (history : List Entry) → length (state_after limits apps history).ended ≡ apps
known_after limits apps history = known_from limits (opening limits apps) history ∙ length-replicate apps false

-- who isn't among so many applications counts as one that has ended
all_ended : (s : State) (apps : ℕ) → length s.ended ≡ apps → ((app : ℕ) → 1 ≤ app → app ≤ apps → has_ended s app ≡ true) → (app : ℕ) → has_ended s app ≡ true
all_ended s apps many over zero = refl
all_ended s apps many over (suc app) = by_place (cases_lt apps (suc app))
  where
    by_place : (apps < suc app) ⊎ (suc app ≤ apps) → has_ended s (suc app) ≡ true
    by_place (inr within) = over (suc app) (omega arith) within
    by_place (inl past) =
        elim (suc app == 0) as (λ b. cond {A = Bool} b true (slice_index_or s.ended (suc app - 1) true) ≡ true) [
          | true ↦ refl
          | false ↦ get_or_past s.ended (suc app - 1) true (omega (arith, many, past))
        ]

-- if all have ended no handle is left
no_handles : (s : State) (handles : List Handle) → All (λ (h : Handle). has_ended s h.app ≡ false) handles → ((app : ℕ) → has_ended s app ≡ true) → handles ≡ []
no_handles s [] owned over = refl
no_handles s (h ∷ handles) owned over = absurd (true≢false (sym (over h.app) ∙ All-head (λ (x : Handle). has_ended s x.app ≡ false) h handles owned))

-- and if no handle is, no table is
no_tables : (handles : List Handle) (tables : List Table) → handles ≡ [] → All (λ (t : Table). has_handle handles t.number ≡ true) tables → tables ≡ []
no_tables handles [] none all = refl
no_tables handles (t ∷ tables) none all =
    absurd (true≢false (sym (All-head (λ (u : Table). has_handle handles u.number ≡ true) t tables all) ∙ ap (λ left. has_handle left t.number) none))

-- so nothing is left
pub nothing_left : (limits : Limits) (s : State) (apps : ℕ) → length s.ended ≡ apps → ((app : ℕ) → 1 ≤ app → app ≤ apps → has_ended s app ≡ true) →
    All (λ (h : Handle). has_ended s h.app ≡ false) s.handles → All (λ (t : Table). has_handle s.handles t.number ≡ true) s.tables → HoldsNothing limits s
nothing_left limits s apps many over owned had =
    let handles : s.handles ≡ [] = no_handles s s.handles owned (all_ended s apps many over) in
    let tables : s.tables ≡ [] = no_tables s.handles s.tables handles had in
    record { handles = handles; tables = tables; bytes = ap (bytes_in_use limits.sizes) tables }

pub ends_leave_nothing : (limits : Limits) (apps : ℕ) (history : List Entry) → IsLegal limits apps history →
    ((app : ℕ) → 1 ≤ app → app ≤ apps → has_ended (state_after limits apps history) app ≡ true) → All (λ (t : Table). has_handle (state_after limits apps history).handles t.number ≡ true) (state_after limits apps history).tables →
    HoldsNothing limits (state_after limits apps history)
ends_leave_nothing limits apps history legal over had =
    nothing_left limits (state_after limits apps history) apps (known_after limits apps history) over (owned_after limits apps history legal) had
