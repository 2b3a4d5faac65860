-- What a step leaves of what a handle holds.
use Rattle.std.proofs.Common.{◌≡◌, ℕ, ◌+◌, ◌==◌, ◌&&◌, ◌||◌, not, if◌then◌else◌, Bool, true, false, cond, true≢false, eqb-true, List, [], ◌∷◌, ◌++◌, map, filter, Option, Some, None, refl, ap, sym, ◌∙◌, arith}
use Rattle.std.proofs.lemmas.Bool.Decides.{nat_tests}
use Rattle.std.specs.List.{list_any}
use Rattle.std.specs.Option.{option_map_or, option_and_then, is_some}
use Rattle.fsw_base.specs.Limits.{Limits}
use Rattle.tbl_words.specs.declared.statuses.TblStatus.{TblStatus}
use Rattle.tbl_words.specs.declared.statuses.TblStatus.TheVariants.{ErrInvalidHandle, ErrNoAccess, ErrUnregistered}
use Rattle.tbl_words.specs.declared.calls.TblAnswer.{TblAnswer}
use Rattle.tbl_words.specs.declared.calls.TblAnswer.TheVariants as answers
use Rattle.tbl_words.specs.declared.history.Call.{Call}
use Rattle.tbl_words.specs.declared.history.Call.TheVariants.{Register, Share, Unregister, Stage, Validate, Update, Abort, Load, GetAddress, ReleaseAddress, Status, End}
use Rattle.tbl_words.specs.Tables.{Table, Staged, Handle, Hold, State, owns, is_live, handle_at, table_at, table_of, table_named, with_handle, with_table, with_mark, all_marked}
use Rattle.tbl_words.specs.Machine.{cause, accept, outcome, step, access_cause, refused_if, with_new_handle, with_new_table, with_hold, without_hold, with_staged, with_validated, with_table_of, with_update, with_range}
use Rattle.tbl_words.specs.Holds.{hold_of, HoldsStay, AddressesHold}

-- Handles behind changes. --

neither : (a b : Bool) → (a || b) ≡ false → (a ≡ false) × (b ≡ false)
neither a b none = elim a as (λ a. (a || b) ≡ false → (a ≡ false) × (b ≡ false)) [ true ↦ λ is. absurd (true≢false is) | false ↦ λ is. (refl, is) ] none

same-sym : (a b : ℕ) → (a == b) ≡ (b == a)
same-sym a b = grind (arith, nat_tests)

-- one more handle, which holds nothing
hold_of-push : (handles : List Handle) (new : Handle) (number : ℕ) → new.hold ≡ None → hold_of (handles ++ new ∷ []) number ≡ hold_of handles number
hold_of-push [] new number nothing =
    elim (new.number == number) as (λ b. option_and_then (λ h. h.hold) (cond {A = Option Handle} b (Some new) None) ≡ None) [ true ↦ nothing | false ↦ refl ]
hold_of-push (h ∷ handles) new number nothing =
    elim (h.number == number) as (λ b. option_and_then (λ x. x.hold) (cond {A = Option Handle} b (Some h) (handle_at (handles ++ new ∷ []) number)) ≡ option_and_then (λ x. x.hold) (cond {A = Option Handle} b (Some h) (handle_at handles number))) [
      | true ↦ refl
      | false ↦ hold_of-push handles new number nothing
    ]

-- each handle changed by what keeps its number, and keeps what those of this number hold
hold_of-map : (change : Handle → Handle) (handles : List Handle) (number : ℕ) →
    ((h : Handle) → (change h).number ≡ h.number) →
    ((h : Handle) → (h.number == number) ≡ true → (change h).hold ≡ h.hold) →
    hold_of (map change handles) number ≡ hold_of handles number
hold_of-map change [] number numbers holds = refl
hold_of-map change (h ∷ handles) number numbers holds =
    ap (λ n. option_and_then (λ x. x.hold) (cond {A = Option Handle} (n == number) (Some (change h)) (handle_at (map change handles) number))) (numbers h)
    ∙ (elim (h.number == number) as (λ b. (h.number == number) ≡ b → option_and_then (λ x. x.hold) (cond {A = Option Handle} b (Some (change h)) (handle_at (map change handles) number)) ≡ option_and_then (λ x. x.hold) (cond {A = Option Handle} b (Some h) (handle_at handles number))) [
      | true ↦ λ is. holds h is
      | false ↦ λ is. hold_of-map change handles number numbers holds
    ] refl)

-- handles that leave, none of this number among them
hold_of-left : (gone : Handle → Bool) (handles : List Handle) (number : ℕ) → list_any (λ h. h.number == number && gone h) handles ≡ false →
    hold_of (filter (λ h. not (gone h)) handles) number ≡ hold_of handles number
hold_of-left gone [] number none = refl
hold_of-left gone (h ∷ handles) number none =
    let parts = neither (h.number == number && gone h) (list_any (λ x. x.number == number && gone x) handles) none in
    let rest = hold_of-left gone handles number parts.1 in
    let left = filter (λ x. not (gone x)) handles in
    elim (gone h) as (λ b. (h.number == number && b) ≡ false → hold_of (cond {A = List Handle} (not b) (h ∷ left) left) number ≡ hold_of (h ∷ handles) number) [
      | true ↦ λ is. rest ∙ elim (h.number == number) as (λ b. (b && true) ≡ false → hold_of handles number ≡ option_and_then (λ x. x.hold) (cond {A = Option Handle} b (Some h) (handle_at handles number))) [
        | true ↦ λ same. absurd (true≢false same)
        | false ↦ λ same. refl
      ] is
      | false ↦ λ is. elim (h.number == number) as (λ b. option_and_then (λ x. x.hold) (cond {A = Option Handle} b (Some h) (handle_at left number)) ≡ option_and_then (λ x. x.hold) (cond {A = Option Handle} b (Some h) (handle_at handles number))) [
        | true ↦ refl
        | false ↦ rest
      ]
    ] parts.0

-- one handle changed, another than this
hold_of-with_handle : (change : Handle → Handle) (handle number : ℕ) (handles : List Handle) → ((h : Handle) → (change h).number ≡ h.number) →
    (handle == number) ≡ false → hold_of (with_handle change handle handles) number ≡ hold_of handles number
hold_of-with_handle change handle number handles numbers other =
    hold_of-map (λ h. if h.number == handle then change h else h) handles number
    (λ h. elim (h.number == handle) as (λ b. (cond {A = Handle} b (change h) h).number ≡ h.number) [ true ↦ numbers h | false ↦ refl ])
    (λ h is. ap (λ b. (cond {A = Handle} b (change h) h).hold) (ap (λ n. n == handle) (eqb-true h.number number is) ∙ same-sym number handle ∙ other))

-- all handles of a table marked
hold_of-all_marked : (table number : ℕ) (handles : List Handle) → hold_of (all_marked table handles) number ≡ hold_of handles number
hold_of-all_marked table number handles =
    hold_of-map (λ h. if h.table == table then with_mark h else h) handles number
    (λ h. elim (h.table == table) as (λ b. (cond {A = Handle} b (with_mark h) h).number ≡ h.number) [ true ↦ refl | false ↦ refl ])
    (λ h is. elim (h.table == table) as (λ b. (cond {A = Handle} b (with_mark h) h).hold ≡ h.hold) [ true ↦ refl | false ↦ refl ])

-- the handle of this number doesn't leave with another
none_of : (handle number : ℕ) (handles : List Handle) → (handle == number) ≡ false → list_any (λ h. h.number == number && h.number == handle) handles ≡ false
none_of handle number [] other = refl
none_of handle number (h ∷ handles) other =
    ap (λ b. b || list_any (λ x. x.number == number && x.number == handle) handles) (elim (h.number == number) as (λ b. (h.number == number) ≡ b → (b && h.number == handle) ≡ false) [
      | true ↦ λ is. ap (λ n. n == handle) (eqb-true h.number number is) ∙ same-sym number handle ∙ other
      | false ↦ λ is. refl
    ] refl)
    ∙ none_of handle number handles other

-- the handle that has this number holds what it is changed to hold
hold_of-changed : (change : Handle → Handle) (handle : ℕ) (held : Option Hold) (handles : List Handle) →
    ((h : Handle) → (change h).number ≡ h.number) → ((h : Handle) → (change h).hold ≡ held) →
    is_some (handle_at handles handle) ≡ true → hold_of (with_handle change handle handles) handle ≡ held
hold_of-changed change handle held [] numbers holds live = absurd (true≢false (sym live))
hold_of-changed change handle held (h ∷ handles) numbers holds live =
    elim (h.number == handle) as (λ b. (h.number == handle) ≡ b → is_some (cond {A = Option Handle} b (Some h) (handle_at handles handle)) ≡ true →
    hold_of (cond {A = Handle} b (change h) h ∷ with_handle change handle handles) handle ≡ held) [
      | true ↦ λ is found.
          ap (λ b. option_and_then (λ x. x.hold) (cond {A = Option Handle} b (Some (change h)) (handle_at (with_handle change handle handles) handle))) (ap (λ n. n == handle) (numbers h) ∙ is)
          ∙ holds h
      | false ↦ λ is found.
          ap (λ b. option_and_then (λ x. x.hold) (cond {A = Option Handle} b (Some h) (handle_at (with_handle change handle handles) handle))) is
          ∙ hold_of-changed change handle held handles numbers holds found
    ] refl live

-- Calls. --

-- a change of tables alone
hold_of-tables : (s : State) (handle number : ℕ) (change : Table → Table) → hold_of (with_table_of s handle change).handles number ≡ hold_of s.handles number
hold_of-tables s handle number change = by_table (table_of s handle)
  where
    by_table : (found : Option Table) → hold_of (option_map_or (λ t. record s { tables = with_table change t.number s.tables }) found s).handles number ≡ hold_of s.handles number
    by_table None = refl
    by_table (Some t) = refl

-- whether a call names a handle that it may move, or ends the application whose handle it is
abbrev names : List Handle → ℕ → Call → ℕ → Bool
names handles app (Unregister handle) number = handle == number
names handles app (GetAddress handle) number = handle == number
names handles app (ReleaseAddress handle) number = handle == number
names handles app End number = owns handles app number
names handles app call number = false

-- an accepted call keeps what a handle holds that it doesn't name
hold_of-accept : (limits : Limits) (s : State) (app : ℕ) (call : Call) (number : ℕ) → names s.handles app call number ≡ false →
    hold_of ((accept limits s app call).1).handles number ≡ hold_of s.handles number
hold_of-accept limits s app (Register name size option rules) number still = by_name (table_named s.tables name)
  where
    by_name : (found : Option Table) →
        hold_of ((option_map_or {U = TblAnswer × State} (λ t. (answers.Duplicate t.number, s)) found (answers.Number (s.handles_made + 1), with_new_table limits s app name size option rules)).1).handles number
        ≡ hold_of s.handles number
    by_name None = hold_of-push s.handles _ number refl
    by_name (Some t) = refl
hold_of-accept limits s app (Share name) number still = by_name (table_named s.tables name)
  where
    by_name : (found : Option Table) → hold_of (option_map_or (λ t. with_new_handle s app t.number t.loaded) found s).handles number ≡ hold_of s.handles number
    by_name None = refl
    by_name (Some t) = hold_of-push s.handles _ number refl
hold_of-accept limits s app (Unregister handle) number still =
    hold_of-left (λ h. h.number == handle) s.handles number (none_of handle number s.handles still)
hold_of-accept limits s app (Stage handle offset bytes) number still =
    hold_of-tables s handle number (λ t. with_staged (with_range t.value offset bytes) false t)
hold_of-accept limits s app (Validate handle) number still = hold_of-tables s handle number with_validated
hold_of-accept limits s app (Update handle) number still = by_table (table_of s handle)
  where
    by_staged : (t : Table) (staged : Option Staged) → hold_of (option_map_or (λ x. with_update s x.value t) staged s).handles number ≡ hold_of s.handles number
    by_staged t None = refl
    by_staged t (Some x) = hold_of-all_marked t.number number s.handles

    by_table : (found : Option Table) → hold_of (option_map_or (λ t. option_map_or (λ x. with_update s x.value t) t.staged s) found s).handles number ≡ hold_of s.handles number
    by_table None = refl
    by_table (Some t) = by_staged t t.staged
hold_of-accept limits s app (Abort handle) number still = hold_of-tables s handle number (λ t. record t { staged = None })
hold_of-accept limits s app (Load handle offset bytes) number still = by_table (table_of s handle)
  where
    by_table : (found : Option Table) → hold_of (option_map_or (λ t. with_update s (with_range t.value offset bytes) t) found s).handles number ≡ hold_of s.handles number
    by_table None = refl
    by_table (Some t) = hold_of-all_marked t.number number s.handles
hold_of-accept limits s app (GetAddress handle) number still = by_table (table_of s handle)
  where
    by_table : (found : Option Table) → hold_of (option_map_or (λ t. record s { handles = with_handle (with_hold t.version t.value) handle s.handles }) found s).handles number ≡ hold_of s.handles number
    by_table None = refl
    by_table (Some t) = hold_of-with_handle (with_hold t.version t.value) handle number s.handles (λ h. refl) still
hold_of-accept limits s app (ReleaseAddress handle) number still = hold_of-with_handle without_hold handle number s.handles (λ h. refl) still
hold_of-accept limits s app (Status handle) number still = refl
hold_of-accept limits s app End number still = hold_of-left (λ h. h.app == app) s.handles number still

-- a step keeps what a handle holds that the call doesn't name
hold_of-step : (limits : Limits) (s : State) (app : ℕ) (call : Call) (number : ℕ) → names s.handles app call number ≡ false →
    hold_of ((step limits s app call).1).handles number ≡ hold_of s.handles number
hold_of-step limits s app call number still = by_cause (cause limits s app call)
  where
    by_cause : (why : Option TblStatus) → hold_of ((outcome limits s app call why).1).handles number ≡ hold_of s.handles number
    by_cause None = hold_of-accept limits s app call number still
    by_cause (Some status) = refl

-- a call on a handle of another application is refused
hold_of-refused : (limits : Limits) (s : State) (app : ℕ) (call : Call) (handle number : ℕ) (others : Option TblStatus) → owns s.handles app handle ≡ false →
    hold_of ((outcome limits s app call (access_cause s app handle others)).1).handles number ≡ hold_of s.handles number
hold_of-refused limits s app call handle number others foreign = by_tests (is_live s.handles handle) (owns s.handles app handle) foreign
  where
    by_tests : (live owned : Bool) → owned ≡ false →
        hold_of ((outcome limits s app call (refused_if (not live) ErrInvalidHandle (refused_if (not owned) ErrNoAccess others))).1).handles number ≡ hold_of s.handles number
    by_tests false owned is = refl
    by_tests true true is = absurd (true≢false is)
    by_tests true false is = refl

-- a call that names a handle, of this number or of another
hold_of-named : (limits : Limits) (s : State) (app : ℕ) (call : Call) (handle number : ℕ) (others : Option TblStatus) →
    ((handle == number) ≡ false → hold_of ((outcome limits s app call (access_cause s app handle others)).1).handles number ≡ hold_of s.handles number) →
    (handle == number && owns s.handles app number) ≡ false →
    hold_of ((outcome limits s app call (access_cause s app handle others)).1).handles number ≡ hold_of s.handles number
hold_of-named limits s app call handle number others apart still = by_number (handle == number) refl still
  where
    by_number : (b : Bool) → (handle == number) ≡ b → (b && owns s.handles app number) ≡ false →
        hold_of ((outcome limits s app call (access_cause s app handle others)).1).handles number ≡ hold_of s.handles number
    by_number true same foreign = hold_of-refused limits s app call handle number others (ap (owns s.handles app) (eqb-true handle number same) ∙ foreign)
    by_number false other is = apart other

-- a step keeps what a handle holds, unless the call moves it
pub holds_stay : HoldsStay
holds_stay limits s app (Register name size option rules) number still = hold_of-step limits s app (Register name size option rules) number still
holds_stay limits s app (Share name) number still = hold_of-step limits s app (Share name) number still
holds_stay limits s app (Unregister handle) number still =
    hold_of-named limits s app (Unregister handle) handle number
    None
    (hold_of-step limits s app (Unregister handle) number) still
holds_stay limits s app (Stage handle offset bytes) number still = hold_of-step limits s app (Stage handle offset bytes) number still
holds_stay limits s app (Validate handle) number still = hold_of-step limits s app (Validate handle) number still
holds_stay limits s app (Update handle) number still = hold_of-step limits s app (Update handle) number still
holds_stay limits s app (Abort handle) number still = hold_of-step limits s app (Abort handle) number still
holds_stay limits s app (Load handle offset bytes) number still = hold_of-step limits s app (Load handle offset bytes) number still
holds_stay limits s app (GetAddress handle) number still =
    hold_of-named limits s app (GetAddress handle) handle number
    (option_map_or (λ t. refused_if (not t.registered) ErrUnregistered None) (table_of s handle) None)
    (hold_of-step limits s app (GetAddress handle) number) still
holds_stay limits s app (ReleaseAddress handle) number still =
    hold_of-named limits s app (ReleaseAddress handle) handle number
    None
    (hold_of-step limits s app (ReleaseAddress handle) number) still
holds_stay limits s app (Status handle) number still = hold_of-step limits s app (Status handle) number still
holds_stay limits s app End number still = hold_of-step limits s app End number still

-- a handle whose table is there is live
live : (s : State) (handle : ℕ) (t : Table) → table_of s handle ≡ Some t → is_some (handle_at s.handles handle) ≡ true
live s handle t found = by_handle (handle_at s.handles handle) found
  where
    by_handle : (h : Option Handle) → option_and_then (λ x. table_at s.tables x.table) h ≡ Some t → is_some h ≡ true
    by_handle None is = ap is_some is
    by_handle (Some h) is = refl

-- an address gives the present version
pub addresses_hold : AddressesHold
addresses_hold limits s app handle t found none =
    ap (λ why. hold_of ((outcome limits s app (GetAddress handle) why).1).handles handle) none
    ∙ ap (λ (o : Option Table). hold_of (option_map_or (λ x. record s { handles = with_handle (with_hold x.version x.value) handle s.handles }) o s).handles handle) found
    ∙ hold_of-changed (with_hold t.version t.value) handle (Some (record { version = t.version; value = t.value })) s.handles (λ h. refl) (λ h. refl) (live s handle t found)
