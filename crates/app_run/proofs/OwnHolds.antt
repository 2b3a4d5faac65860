-- What an application's own handles hold: no two handles have one number, and what one holds comes by its application's own address.
use Rattle.std.proofs.Common.{◌≡◌, ℕ, ◌+◌, ◌≤◌, ◌==◌, ◌&&◌, ◌||◌, if◌then◌else◌, not, Bool, true, false, cond, true≢false, eqb-true, eq-eqb, List, [], ◌∷◌, ◌++◌, length, map, filter, Option, Some, None, IfSome, refl, ap, sym, ◌∙◌, subst}
use Rattle.std.specs.List.{All}
use Rattle.std.specs.Option.{option_map, option_map_or, option_and_then}
use Rattle.std.proofs.lemmas.List.Elements.{All-head, All-tail}
use Rattle.fsw_base.specs.Limits.{Limits}
use Rattle.bus_words.proofs.Finds.{same-sym}
use Rattle.tbl_words.specs.declared.statuses.TblStatus.{TblStatus}
use Rattle.tbl_words.specs.declared.statuses.TblStatus.TheVariants.{ErrInvalidHandle}
use Rattle.tbl_words.specs.declared.calls.Told.{Told}
use Rattle.tbl_words.specs.declared.calls.TblAnswer.{TblAnswer}
use Rattle.tbl_words.specs.declared.calls.TblAnswer.TheVariants as answers
use Rattle.tbl_words.specs.declared.history.Call.{Call}
use Rattle.tbl_words.specs.declared.history.Call.TheVariants.{Register, Share, Unregister, Stage, Validate, Update, Abort, Load, GetAddress, ReleaseAddress, Status, End}
use Rattle.tbl_words.specs.declared.history.Entry.{Entry}
use Rattle.tbl_words.specs.Holds.{hold_of}
use Rattle.tbl_words.specs.Machine.{cause, accept, outcome, step, state_after, with_new_handle, with_new_table, with_hold, without_hold, with_staged, with_validated, with_table_of, with_update, with_range, told_of}
use Rattle.tbl_words.specs.Tables.{Table, Staged, Handle, Hold, State, owns, handle_at, table_at, table_of, table_named, with_handle, with_table, with_mark, all_marked}
use Rattle.tbl_words.proofs.Holds.{addresses_hold}
use Rattle.tbl_words.proofs.Orders.{handles_rise}
use Rattle.tbl_load.specs.Bags.{held_bytes}
use Rattle.tbl_load.specs.Notes.{gives_for, is_address}
use Rattle.tbl_words.proofs.Others.{Rise, rise-tail, owner_alone}
use Rattle.script_runs.specs.Told.{own_hold}
use Rattle.app_run.proofs.SmallHolds.{small-after}

-- what the handle of a number holds, if it is the application's
abbrev mine : ℕ → List Handle → ℕ → Option Hold
mine app handles number = option_and_then (λ h. if h.app == app then h.hold else None) (handle_at handles number)

-- Handles in order. --

or-true : (b : Bool) → (b || true) ≡ true
or-true true = refl
or-true false = refl

-- of handles in order, the one of a number that the application owns is the one that is found
owned-mine : (app number : ℕ) (handles : List Handle) → Rise handles → cond {A = Option Hold} (owns handles app number) (hold_of handles number) None ≡ mine app handles number
owned-mine app number [] rise = refl
owned-mine app number (h ∷ handles) rise = by_test (h.number == number) (h.app == app) refl refl (owned-mine app number handles (rise-tail h handles rise))
  where
    alone : owns handles app number ≡ true → (h.number == number) ≡ true → h.app ≡ app
    alone own =
        All-head (λ (k : Handle). (k.number == number) ≡ true → k.app ≡ app) h handles
        (owner_alone (h ∷ handles) app number rise (ap (λ b. (h.number == number && h.app == app) || b) own ∙ or-true (h.number == number && h.app == app)))

    foreign : (b : Bool) → owns handles app number ≡ b → (h.number == number) ≡ true → (h.app == app) ≡ false → cond {A = Option Hold} b h.hold None ≡ None
    foreign true own same other = absurd (true≢false (sym (eq-eqb h.app app (alone own same)) ∙ other))
    foreign false own same other = refl

    by_test : (x y : Bool) → (h.number == number) ≡ x → (h.app == app) ≡ y →
        cond {A = Option Hold} (owns handles app number) (hold_of handles number) None ≡ mine app handles number →
        cond {A = Option Hold} ((x && y) || owns handles app number) (option_and_then (λ (k : Handle). k.hold) (cond {A = Option Handle} x (Some h) (handle_at handles number))) None
        ≡ option_and_then (λ (k : Handle). cond {A = Option Hold} (k.app == app) k.hold None) (cond {A = Option Handle} x (Some h) (handle_at handles number))
    by_test true true same own ih = sym (ap (λ b. cond {A = Option Hold} b h.hold None) own)
    by_test true false same other ih =
        foreign (owns handles app number) refl same other ∙ sym (ap (λ b. cond {A = Option Hold} b h.hold None) other)
    by_test false y apart its ih = ih

own-mine : (limits : Limits) (apps : ℕ) (history : List Entry) (app number : ℕ) →
    own_hold (state_after limits apps history) app number ≡ mine app (state_after limits apps history).handles number
own-mine limits apps history app number = owned-mine app number (state_after limits apps history).handles (handles_rise limits apps history)

-- What is seen of it. --

-- the bytes of what the application holds
pub bytes-own : (limits : Limits) (apps : ℕ) (history : List Entry) (app number : ℕ) →
    held_bytes (state_after limits apps history) app number ≡ option_map (λ (hold : Hold). hold.value) (own_hold (state_after limits apps history) app number)
bytes-own limits apps history app number =
    by_found (handle_at (state_after limits apps history).handles number) ∙ ap (option_map (λ (hold : Hold). hold.value)) (sym (own-mine limits apps history app number))
  where
    by_found : (found : Option Handle) →
        option_and_then (λ (h : Handle). cond {A = Option (List ℕ)} (h.app == app) (option_map (λ (hold : Hold). hold.value) h.hold) None) found
        ≡ option_map (λ (hold : Hold). hold.value) (option_and_then (λ (h : Handle). cond {A = Option Hold} (h.app == app) h.hold None) found)
    by_found None = refl
    by_found (Some h) = elim (h.app == app) as (λ b. cond {A = Option (List ℕ)} b (option_map (λ (hold : Hold). hold.value) h.hold) None ≡ option_map (λ (hold : Hold). hold.value) (cond {A = Option Hold} b h.hold None)) [ true ↦ refl | false ↦ refl ]

-- what the application holds is no longer than the largest table
pub own-small : (limits : Limits) (apps : ℕ) (history : List Entry) (app number : ℕ) →
    IfSome (own_hold (state_after limits apps history) app number) (λ (hold : Hold). length hold.value ≤ limits.tablemax)
own-small limits apps history app number =
    by_own (owns handles app number) (found handles (small-after limits apps history))
  where
    P : Hold → Type 0
    P hold = length hold.value ≤ limits.tablemax

    handles : List Handle
    handles = (state_after limits apps history).handles

    found : (hs : List Handle) → All (λ (h : Handle). IfSome h.hold P) hs → IfSome (hold_of hs number) P
    found [] all = tt
    found (h ∷ hs) all =
        elim (h.number == number) as (λ b. IfSome (option_and_then (λ (k : Handle). k.hold) (cond {A = Option Handle} b (Some h) (handle_at hs number))) P) [
          | true ↦ All-head (λ (k : Handle). IfSome k.hold P) h hs all
          | false ↦ found hs (All-tail (λ (k : Handle). IfSome k.hold P) h hs all)
        ]

    by_own : (b : Bool) → IfSome (hold_of handles number) P → IfSome (cond {A = Option Hold} b (hold_of handles number) None) P
    by_own true small = small
    by_own false small = tt

-- Handles behind changes. --

nothing-held : (app : ℕ) (h : Handle) → h.hold ≡ None → cond {A = Option Hold} (h.app == app) h.hold None ≡ None
nothing-held app h nothing = elim (h.app == app) as (λ b. cond {A = Option Hold} b h.hold None ≡ None) [ true ↦ nothing | false ↦ refl ]

mine-push : (app number : ℕ) (handles : List Handle) (new : Handle) → new.hold ≡ None → mine app (handles ++ new ∷ []) number ≡ mine app handles number
mine-push app number [] new nothing =
    elim (new.number == number) as (λ b. option_and_then (λ (h : Handle). cond {A = Option Hold} (h.app == app) h.hold None) (cond {A = Option Handle} b (Some new) None) ≡ None) [
      | true ↦ nothing-held app new nothing
      | false ↦ refl
    ]
mine-push app number (h ∷ handles) new nothing =
    elim (h.number == number) as (λ b.
    option_and_then (λ (k : Handle). cond {A = Option Hold} (k.app == app) k.hold None) (cond {A = Option Handle} b (Some h) (handle_at (handles ++ new ∷ []) number))
    ≡ option_and_then (λ (k : Handle). cond {A = Option Hold} (k.app == app) k.hold None) (cond {A = Option Handle} b (Some h) (handle_at handles number))) [
      | true ↦ refl
      | false ↦ mine-push app number handles new nothing
    ]

-- a change that keeps each handle's number and application, and what the one of this number holds
mine-map : (app number : ℕ) (change : Handle → Handle) (handles : List Handle) → ((h : Handle) → (change h).number ≡ h.number) → ((h : Handle) → (change h).app ≡ h.app) →
    ((h : Handle) → (h.number == number) ≡ true → (change h).hold ≡ h.hold) → mine app (map change handles) number ≡ mine app handles number
mine-map app number change [] numbers apps holds = refl
mine-map app number change (h ∷ handles) numbers apps holds =
    ap (λ n. option_and_then (λ (k : Handle). cond {A = Option Hold} (k.app == app) k.hold None) (cond {A = Option Handle} (n == number) (Some (change h)) (handle_at (map change handles) number))) (numbers h)
    ∙ elim (h.number == number) as (λ b. (h.number == number) ≡ b →
    option_and_then (λ (k : Handle). cond {A = Option Hold} (k.app == app) k.hold None) (cond {A = Option Handle} b (Some (change h)) (handle_at (map change handles) number))
    ≡ option_and_then (λ (k : Handle). cond {A = Option Hold} (k.app == app) k.hold None) (cond {A = Option Handle} b (Some h) (handle_at handles number))) [
      | true ↦ λ is. ap (λ n. cond {A = Option Hold} (n == app) (change h).hold None) (apps h) ∙ ap (λ o. cond {A = Option Hold} (h.app == app) o None) (holds h is)
      | false ↦ λ is. mine-map app number change handles numbers apps holds
    ] refl

mine-with_handle : (app number handle : ℕ) (change : Handle → Handle) (handles : List Handle) → ((h : Handle) → (change h).number ≡ h.number) → ((h : Handle) → (change h).app ≡ h.app) →
    (handle == number) ≡ false → mine app (with_handle change handle handles) number ≡ mine app handles number
mine-with_handle app number handle change handles numbers apps other =
    mine-map app number (λ h. if h.number == handle then change h else h) handles
    (λ h. elim (h.number == handle) as (λ b. (cond {A = Handle} b (change h) h).number ≡ h.number) [ true ↦ numbers h | false ↦ refl ])
    (λ h. elim (h.number == handle) as (λ b. (cond {A = Handle} b (change h) h).app ≡ h.app) [ true ↦ apps h | false ↦ refl ])
    (λ h is. ap (λ b. (cond {A = Handle} b (change h) h).hold) (ap (λ n. n == handle) (eqb-true h.number number is) ∙ same-sym number handle ∙ other))

mine-all_marked : (app number table : ℕ) (handles : List Handle) → mine app (all_marked table handles) number ≡ mine app handles number
mine-all_marked app number table handles =
    mine-map app number (λ h. if h.table == table then with_mark h else h) handles
    (λ h. elim (h.table == table) as (λ b. (cond {A = Handle} b (with_mark h) h).number ≡ h.number) [ true ↦ refl | false ↦ refl ])
    (λ h. elim (h.table == table) as (λ b. (cond {A = Handle} b (with_mark h) h).app ≡ h.app) [ true ↦ refl | false ↦ refl ])
    (λ h is. elim (h.table == table) as (λ b. (cond {A = Handle} b (with_mark h) h).hold ≡ h.hold) [ true ↦ refl | false ↦ refl ])

-- a handle that is released holds nothing
mine-released : (app number : ℕ) (handles : List Handle) → mine app (with_handle without_hold number handles) number ≡ None
mine-released app number [] = refl
mine-released app number (h ∷ handles) =
    elim (h.number == number) as (λ b. (h.number == number) ≡ b →
    option_and_then (λ (k : Handle). cond {A = Option Hold} (k.app == app) k.hold None)
    (cond {A = Option Handle} ((cond {A = Handle} b (without_hold h) h).number == number) (Some (cond {A = Handle} b (without_hold h) h)) (handle_at (with_handle without_hold number handles) number)) ≡ None) [
      | true ↦ λ is.
          ap (λ b. option_and_then (λ (k : Handle). cond {A = Option Hold} (k.app == app) k.hold None) (cond {A = Option Handle} b (Some (without_hold h)) (handle_at (with_handle without_hold number handles) number))) is
          ∙ nothing-held app (without_hold h) refl
      | false ↦ λ is.
          ap (λ b. option_and_then (λ (k : Handle). cond {A = Option Hold} (k.app == app) k.hold None) (cond {A = Option Handle} b (Some h) (handle_at (with_handle without_hold number handles) number))) is
          ∙ mine-released app number handles
    ] refl

-- a handle that left
mine-gone : (app number : ℕ) (handles : List Handle) → mine app (filter (λ h. not (h.number == number)) handles) number ≡ None
mine-gone app number [] = refl
mine-gone app number (h ∷ handles) = by_test (h.number == number) refl (mine-gone app number handles)
  where
    left : List Handle
    left = filter (λ k. not (k.number == number)) handles

    by_test : (b : Bool) → (h.number == number) ≡ b → mine app left number ≡ None → mine app (cond {A = List Handle} (not b) (h ∷ left) left) number ≡ None
    by_test true is rest = rest
    by_test false is rest =
        ap (λ b. option_and_then (λ (k : Handle). cond {A = Option Hold} (k.app == app) k.hold None) (cond {A = Option Handle} b (Some h) (handle_at left number))) is ∙ rest

-- another handle left
mine-left : (app number handle : ℕ) (handles : List Handle) → (handle == number) ≡ false → mine app (filter (λ h. not (h.number == handle)) handles) number ≡ mine app handles number
mine-left app number handle [] other = refl
mine-left app number handle (h ∷ handles) other = by_test (h.number == handle) refl (mine-left app number handle handles other)
  where
    left : List Handle
    left = filter (λ k. not (k.number == handle)) handles

    by_test : (b : Bool) → (h.number == handle) ≡ b → mine app left number ≡ mine app handles number →
        mine app (cond {A = List Handle} (not b) (h ∷ left) left) number ≡ mine app (h ∷ handles) number
    by_test true is rest =
        rest
        ∙ sym (ap (λ b. option_and_then (λ (k : Handle). cond {A = Option Hold} (k.app == app) k.hold None) (cond {A = Option Handle} b (Some h) (handle_at handles number)))
        (ap (λ n. n == number) (eqb-true h.number handle is) ∙ other))
    by_test false is rest =
        elim (h.number == number) as (λ b.
        option_and_then (λ (k : Handle). cond {A = Option Hold} (k.app == app) k.hold None) (cond {A = Option Handle} b (Some h) (handle_at left number))
        ≡ option_and_then (λ (k : Handle). cond {A = Option Hold} (k.app == app) k.hold None) (cond {A = Option Handle} b (Some h) (handle_at handles number))) [
          | true ↦ refl
          | false ↦ rest
        ]

-- all of the application's left
mine-ended : (app number : ℕ) (handles : List Handle) → mine app (filter (λ h. not (h.app == app)) handles) number ≡ None
mine-ended app number [] = refl
mine-ended app number (h ∷ handles) = by_test (h.app == app) refl (mine-ended app number handles)
  where
    left : List Handle
    left = filter (λ k. not (k.app == app)) handles

    by_test : (b : Bool) → (h.app == app) ≡ b → mine app left number ≡ None → mine app (cond {A = List Handle} (not b) (h ∷ left) left) number ≡ None
    by_test true is rest = rest
    by_test false is rest =
        elim (h.number == number) as (λ b. option_and_then (λ (k : Handle). cond {A = Option Hold} (k.app == app) k.hold None) (cond {A = Option Handle} b (Some h) (handle_at left number)) ≡ None) [
          | true ↦ ap (λ b. cond {A = Option Hold} b h.hold None) is
          | false ↦ rest
        ]

-- Calls. --

-- what the application holds by a handle, it held by it before
abbrev IsFrom : ℕ → ℕ → List Handle → List Handle → Type 0
IsFrom app number before after = (hold : Hold) → mine app after number ≡ Some hold → mine app before number ≡ Some hold

from-same : (app number : ℕ) (before after : List Handle) → mine app after number ≡ mine app before number → IsFrom app number before after
from-same app number before after same hold is = sym same ∙ is

from-none : (app number : ℕ) (before after : List Handle) → mine app after number ≡ None → IsFrom app number before after
from-none app number before after none hold is = absurd (cc (none, is))

from-tables : (s : State) (app number handle : ℕ) (change : Table → Table) → IsFrom app number s.handles (with_table_of s handle change).handles
from-tables s app number handle change = by_table (table_of s handle)
  where
    by_table : (found : Option Table) → IsFrom app number s.handles (option_map_or (λ t. record s { tables = with_table change t.number s.tables }) found s).handles
    by_table None = λ hold is. is
    by_table (Some t) = λ hold is. is

-- an address, if it is refused by none of the causes: what it answers and leaves
abbrev addressed : State → ℕ → Option Handle → TblAnswer × State
addressed s handle found =
    let table = option_and_then (λ (x : Handle). table_at s.tables x.table) found in (
      option_map_or (λ (h : Handle). option_map_or (λ (t : Table). answers.Address (told_of t h) t.version) table (answers.Refused ErrInvalidHandle)) found (answers.Refused ErrInvalidHandle),
      option_map_or (λ (t : Table). record s { handles = with_handle (with_hold t.version t.value) handle s.handles }) table s,
    )

from-address : (s : State) (app number handle : ℕ) → (handle == number && is_address (addressed s handle (handle_at s.handles handle)).0) ≡ false →
    IsFrom app number s.handles ((addressed s handle (handle_at s.handles handle)).1).handles
from-address s app number handle = by_handle (handle_at s.handles handle)
  where
    apart : (b : Bool) → (b && true) ≡ false → b ≡ false
    apart true is = is
    apart false is = refl

    by_table : (h : Handle) (table : Option Table) →
        (handle == number && is_address (option_map_or (λ (t : Table). answers.Address (told_of t h) t.version) table (answers.Refused ErrInvalidHandle))) ≡ false →
        IsFrom app number s.handles (option_map_or (λ (t : Table). record s { handles = with_handle (with_hold t.version t.value) handle s.handles }) table s).handles
    by_table h None gives = λ hold is. is
    by_table h (Some t) gives =
        from-same app number s.handles (with_handle (with_hold t.version t.value) handle s.handles)
        (mine-with_handle app number handle (with_hold t.version t.value) s.handles (λ k. refl) (λ k. refl) (apart (handle == number) gives))

    by_handle : (found : Option Handle) → (handle == number && is_address (addressed s handle found).0) ≡ false → IsFrom app number s.handles ((addressed s handle found).1).handles
    by_handle None gives = λ hold is. is
    by_handle (Some h) gives = by_table h (table_at s.tables h.table) gives

from-accept : (limits : Limits) (s : State) (app : ℕ) (call : Call) (number : ℕ) → gives_for number call (accept limits s app call).0 ≡ false →
    IsFrom app number s.handles ((accept limits s app call).1).handles
from-accept limits s app (Register name size option rules) number gives = by_name (table_named s.tables name)
  where
    by_name : (found : Option Table) →
        IsFrom app number s.handles ((option_map_or {U = TblAnswer × State} (λ t. (answers.Duplicate t.number, s)) found (answers.Number (s.handles_made + 1), with_new_table limits s app name size option rules)).1).handles
    by_name None = from-same app number s.handles _ (mine-push app number s.handles _ refl)
    by_name (Some t) = λ hold is. is
from-accept limits s app (Share name) number gives = by_name (table_named s.tables name)
  where
    by_name : (found : Option Table) → IsFrom app number s.handles (option_map_or (λ t. with_new_handle s app t.number t.loaded) found s).handles
    by_name None = λ hold is. is
    by_name (Some t) = from-same app number s.handles _ (mine-push app number s.handles _ refl)
from-accept limits s app (Unregister handle) number gives = by_number (handle == number) refl
  where
    left : List Handle
    left = filter (λ h. not (h.number == handle)) s.handles

    by_number : (b : Bool) → (handle == number) ≡ b → IsFrom app number s.handles left
    by_number true same =
        from-none app number s.handles left (ap (λ n. mine app (filter (λ h. not (h.number == n)) s.handles) number) (eqb-true handle number same) ∙ mine-gone app number s.handles)
    by_number false other = from-same app number s.handles left (mine-left app number handle s.handles other)
from-accept limits s app (Stage handle offset bytes) number gives = from-tables s app number handle (λ t. with_staged (with_range t.value offset bytes) false t)
from-accept limits s app (Validate handle) number gives = from-tables s app number handle with_validated
from-accept limits s app (Update handle) number gives = by_table (table_of s handle)
  where
    by_staged : (t : Table) (staged : Option Staged) → IsFrom app number s.handles (option_map_or (λ x. with_update s x.value t) staged s).handles
    by_staged t None = λ hold is. is
    by_staged t (Some x) = from-same app number s.handles _ (mine-all_marked app number t.number s.handles)

    by_table : (found : Option Table) → IsFrom app number s.handles (option_map_or (λ t. option_map_or (λ x. with_update s x.value t) t.staged s) found s).handles
    by_table None = λ hold is. is
    by_table (Some t) = by_staged t t.staged
from-accept limits s app (Abort handle) number gives = from-tables s app number handle (λ t. record t { staged = None })
from-accept limits s app (Load handle offset bytes) number gives = by_table (table_of s handle)
  where
    by_table : (found : Option Table) → IsFrom app number s.handles (option_map_or (λ t. with_update s (with_range t.value offset bytes) t) found s).handles
    by_table None = λ hold is. is
    by_table (Some t) = from-same app number s.handles _ (mine-all_marked app number t.number s.handles)
from-accept limits s app (GetAddress handle) number gives = from-address s app number handle gives
from-accept limits s app (ReleaseAddress handle) number gives = by_number (handle == number) refl
  where
    by_number : (b : Bool) → (handle == number) ≡ b → IsFrom app number s.handles (with_handle without_hold handle s.handles)
    by_number true same =
        from-none app number s.handles (with_handle without_hold handle s.handles)
        (ap (λ n. mine app (with_handle without_hold n s.handles) number) (eqb-true handle number same) ∙ mine-released app number s.handles)
    by_number false other =
        from-same app number s.handles (with_handle without_hold handle s.handles) (mine-with_handle app number handle without_hold s.handles (λ h. refl) (λ h. refl) other)
from-accept limits s app (Status handle) number gives = λ hold is. is
from-accept limits s app End number gives = from-none app number s.handles (filter (λ h. not (h.app == app)) s.handles) (mine-ended app number s.handles)

from-step : (limits : Limits) (s : State) (app : ℕ) (call : Call) (number : ℕ) → gives_for number call (step limits s app call).0 ≡ false →
    IsFrom app number s.handles ((step limits s app call).1).handles
from-step limits s app call number = by_cause (cause limits s app call)
  where
    by_cause : (why : Option TblStatus) → gives_for number call (outcome limits s app call why).0 ≡ false → IsFrom app number s.handles ((outcome limits s app call why).1).handles
    by_cause None gives = from-accept limits s app call number gives
    by_cause (Some status) gives = λ hold is. is

-- what an application holds after its call, that gave no address for it, it held before
pub own-from : (limits : Limits) (apps : ℕ) (history : List Entry) (e : Entry) (number : ℕ) (hold : Hold) →
    gives_for number e.call (step limits (state_after limits apps history) e.app e.call).0 ≡ false →
    state_after limits apps (history ++ e ∷ []) ≡ (step limits (state_after limits apps history) e.app e.call).1 →
    own_hold (step limits (state_after limits apps history) e.app e.call).1 e.app number ≡ Some hold → own_hold (state_after limits apps history) e.app number ≡ Some hold
own-from limits apps history e number hold gives after is =
    let s = state_after limits apps history in
    let t = (step limits s e.app e.call).1 in
    own-mine limits apps history e.app number
    ∙ from-step limits s e.app e.call number gives hold
    (sym (subst (λ (x : State). own_hold x e.app number ≡ mine e.app x.handles number) after (own-mine limits apps (history ++ e ∷ []) e.app number)) ∙ is)

-- a call for an address gave this version of the handle's table
abbrev Gave : Limits → State → ℕ → ℕ → ℕ → Type 0
Gave limits s app handle version = (t : Table) × (table_of s handle ≡ Some t) × (t.version ≡ version) × (cause limits s app (GetAddress handle) ≡ None)

-- the version that an address tells is the one held
pub address-version : (limits : Limits) (s : State) (app handle : ℕ) (told : Told) (version : ℕ) → answers.Address told version ≡ (step limits s app (GetAddress handle)).0 →
    IfSome (own_hold ((step limits s app (GetAddress handle)).1) app handle) (λ (hold : Hold). hold.version ≡ version)
address-version limits s app handle told version is =
    let its = by_cause (cause limits s app (GetAddress handle)) refl is in
    by_own (owns ((step limits s app (GetAddress handle)).1).handles app handle) (hold_of ((step limits s app (GetAddress handle)).1).handles handle) its.0 (addresses_hold limits s app handle its.0 its.1 its.3) its.2
  where
    by_own : (b : Bool) (found : Option Hold) (t : Table) → found ≡ Some (record { version = t.version; value = t.value }) → t.version ≡ version →
        IfSome (cond {A = Option Hold} b found None) (λ (hold : Hold). hold.version ≡ version)
    by_own false found t is same = tt
    by_own true found t is same = subst (λ o. IfSome o (λ (hold : Hold). hold.version ≡ version)) (sym is) same

    by_table : (found : Option Handle) (table : Option Table) → cause limits s app (GetAddress handle) ≡ None → table_of s handle ≡ table →
        answers.Address told version
        ≡ option_map_or (λ (h : Handle). option_map_or (λ (t : Table). answers.Address (told_of t h) t.version) table (answers.Refused ErrInvalidHandle)) found (answers.Refused ErrInvalidHandle) → Gave limits s app handle version
    by_table None table free found is = absurd (cc is)
    by_table (Some h) None free found is = absurd (cc is)
    by_table (Some h) (Some t) free found is = (t, found, cc is, free)

    by_cause : (why : Option TblStatus) → cause limits s app (GetAddress handle) ≡ why → answers.Address told version ≡ (outcome limits s app (GetAddress handle) why).0 → Gave limits s app handle version
    by_cause None free is = by_table (handle_at s.handles handle) (table_of s handle) free refl is
    by_cause (Some status) why is = absurd (cc is)
