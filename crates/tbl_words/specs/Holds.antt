-- What applications hold. A hold is a copy, so that no load, update or other application's call
-- changes it.
use Rattle.std.specs.Prelude.{◌≡◌, ℕ, ◌==◌, ◌&&◌, Bool, false, List, Option, Some, None}
use Rattle.std.specs.Option.{option_and_then}
use Rattle.fsw_base.specs.Limits.{Limits}
use Rattle.tbl_words.specs.declared.history.Call.{Call}
use Rattle.tbl_words.specs.declared.history.Call.TheVariants.{Unregister, GetAddress, ReleaseAddress, End}
use Rattle.tbl_words.specs.Tables.{Table, Handle, Hold, State, handle_at, owns, table_of}
use Rattle.tbl_words.specs.Machine.{cause, step}

-- what a handle holds; nothing if it isn't live
abbrev pub hold_of : List Handle → ℕ → Option Hold
hold_of handles number = option_and_then (λ h. h.hold) (handle_at handles number)

-- whether a call is one by which an application moves what a handle of its own holds: its address
-- or its release, or that it is unregistered, by itself or with all that are the application's
abbrev pub moves_hold : List Handle → ℕ → Call → ℕ → Bool
moves_hold handles app (Unregister handle) number = handle == number && owns handles app number
moves_hold handles app (GetAddress handle) number = handle == number && owns handles app number
moves_hold handles app (ReleaseAddress handle) number = handle == number && owns handles app number
moves_hold handles app End number = owns handles app number
moves_hold handles app call number = false

-- whatever the state, and whatever call is made: a handle holds what it held, unless the call is
-- one that moves it
abbrev pub HoldsStay : Type 0
HoldsStay =
    (limits : Limits) (s : State) (app : ℕ) (call : Call) (number : ℕ) →
    moves_hold s.handles app call number ≡ false →
    hold_of ((step limits s app call).1).handles number ≡ hold_of s.handles number

-- an address that isn't refused has the handle hold its table's present version
abbrev pub AddressesHold : Type 0
AddressesHold =
    (limits : Limits) (s : State) (app handle : ℕ) (t : Table) →
    table_of s handle ≡ Some t →
    cause limits s app (GetAddress handle) ≡ None →
    hold_of ((step limits s app (GetAddress handle)).1).handles handle ≡
    Some (record { version = t.version; value = t.value })
