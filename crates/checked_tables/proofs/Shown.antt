-- What an application's view of a handle shows.
use Rattle.std.proofs.Common.{◌≡◌, ℕ, ◌==◌, Bool, true, false, cond, List, Option, Some, None, refl}
use Rattle.std.specs.Option.{option_map, option_and_then}
use Rattle.lend_block.specs.Loan.{LentBytes}
use Rattle.tbl_words.specs.Tables.{Handle, Hold, handle_at}
use Rattle.table_core.specs.Core.{Plain, loan_of, view_of, view_due}
use Rattle.checked_tables.specs.Box.{held_value}

-- the bytes of the view that is due are those that the handle holds
pub bytes_due : (core : Plain) (app number : ℕ) → option_map (λ (view : LentBytes). view.bytes) (view_due core app number) ≡ held_value core app number
bytes_due core app number = by_handle (handle_at core.state.handles number)
  where
    by_hold : (h : Handle) (own : Bool) (hold : Option Hold) →
        option_map (λ (view : LentBytes). view.bytes)
        (cond {A = Option LentBytes} own (option_map (λ (x : Hold). record { loan = loan_of core.lent h.number; bytes = x.value }) hold) None)
        ≡ cond {A = Option (List ℕ)} own (option_map (λ (x : Hold). x.value) hold) None
    by_hold h true None = refl
    by_hold h true (Some hold) = refl
    by_hold h false hold = refl

    by_handle : (found : Option Handle) →
        option_map (λ (view : LentBytes). view.bytes) (option_and_then (λ (h : Handle). cond {A = Option LentBytes} (h.app == app) (view_of core.lent h) None) found)
        ≡ option_and_then (λ (h : Handle). cond {A = Option (List ℕ)} (h.app == app) (option_map (λ (x : Hold). x.value) h.hold) None) found
    by_handle None = refl
    by_handle (Some h) = by_hold h (h.app == app) h.hold
