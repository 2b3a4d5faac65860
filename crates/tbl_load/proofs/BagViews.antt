-- What the bag of an application shows.
use Rattle.std.proofs.Common.{◌≡◌, ℕ, Bool, true, false, cond, eqb, List, Option, Some, None, refl, ap, ◌∙◌}
use Rattle.std.specs.Option.{option_map, option_and_then}
use Rattle.lend_block.specs.Loan.{LentBytes}
use Rattle.tbl_words.specs.Tables.{Handle, Hold, handle_at}
use Rattle.table_blocks.specs.Held.{HeldViews}
use Rattle.table_core.specs.Core.{loan_of}
use Rattle.tbl_load.specs.Bags.{HasBag, bytes_seen, held_bytes, loans_of}
use Rattle.tbl_load.specs.Core.{Core, state_of}
use Rattle.tbl_load.proofs.Dues.{due_by, viewed}

-- the bytes of what a handle of the application's holds
pub shown : (core : Core) (app number : ℕ) (bag : HeldViews) → HasBag core app bag → bytes_seen bag number ≡ held_bytes (state_of core) app number
shown core app number bag has =
    ap (λ o. option_map (λ (view : LentBytes). view.bytes) o) (has.seen number) ∙ by_found (handle_at (state_of core).handles number)
  where
    by_tests : (b : Bool) (loan : ℕ) (o : Option Hold) → option_map (λ (view : LentBytes). view.bytes) (cond {A = Option LentBytes} b (viewed loan o) None) ≡ cond {A = Option (List ℕ)} b (option_map (λ (hold : Hold). hold.value) o) None
    by_tests true loan None = refl
    by_tests true loan (Some hold) = refl
    by_tests false loan o = refl

    by_found : (o : Option Handle) → option_map (λ (view : LentBytes). view.bytes) (due_by (loan_of (loans_of core)) app o)
        ≡ option_and_then (λ (h : Handle). cond {A = Option (List ℕ)} (eqb h.app app) (option_map (λ (hold : Hold). hold.value) h.hold) None) o
    by_found None = refl
    by_found (Some h) = by_tests (eqb h.app app) (loan_of (loans_of core) h.number) h.hold
