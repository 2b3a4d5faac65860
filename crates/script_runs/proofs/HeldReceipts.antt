-- What an application's handles hold, and what is told of it, changes by its own calls alone.
use Rattle.std.proofs.Common.{◌≡◌, ℕ, ne_eqb, List, [], ◌∷◌, ◌++◌, length, sum, take, Option, Some, None, refl, ap, ◌∙◌}
use Rattle.std.specs.Option.{option_map}
use Rattle.fsw_base.specs.Limits.{Limits}
use Rattle.bus_words.specs.declared.receipts.Receipt.{Receipt}
use Rattle.bus_words.specs.declared.receipts.Receipt.TheVariants.{Table}
use Rattle.tbl_words.specs.declared.history.Call.{Call}
use Rattle.tbl_words.specs.declared.history.Entry.{Entry}
use Rattle.tbl_words.specs.declared.receipts.TheConstants.{HEAD_BYTES}
use Rattle.tbl_words.specs.Machine.{step, state_after, IsLegal}
use Rattle.tbl_words.specs.Receipts.{table_receipt}
use Rattle.tbl_words.specs.Tables.{Hold, State, opening}
use Rattle.tbl_words.proofs.Others.{hold_alone, receipt_alone, receipt-owned}
use Rattle.tbl_words.proofs.Replay.{state_from-push}
use Rattle.script_runs.specs.Told.{own_hold, held_in}

-- the receipt of a version that a handle holds
abbrev pub held_receipt : ℕ → Hold → Receipt
held_receipt handle hold = Table handle hold.version (length hold.value) (sum hold.value) (take HEAD_BYTES hold.value)

-- what is told of a handle is the receipt of what it holds
pub held-own : (t : State) (app handle : ℕ) → held_in t app handle ≡ option_map (held_receipt handle) (own_hold t app handle)
held-own t app handle =
    ap (option_map (λ r. Table r.handle r.version r.size r.sum_of_bytes r.head)) (receipt-owned t app handle)
    ∙ by_hold (own_hold t app handle)
  where
    by_hold : (held : Option Hold) →
        option_map (λ r. Table r.handle r.version r.size r.sum_of_bytes r.head) (option_map (λ (hold : Hold). table_receipt handle hold.version hold.value) held) ≡ option_map (held_receipt handle) held
    by_hold None = refl
    by_hold (Some hold) = refl

-- a call of another application leaves what a handle holds
pub own_hold-other : (limits : Limits) (apps app handle : ℕ) (history : List Entry) (who : ℕ) (call : Call) → ¬ (who ≡ app) →
    own_hold ((step limits (state_after limits apps history) who call).1) app handle ≡ own_hold (state_after limits apps history) app handle
own_hold-other limits apps app handle history who call other = hold_alone limits apps who app handle history call (ne_eqb who app other)

-- and so what is told of it
pub held-other : (limits : Limits) (apps app handle : ℕ) (history : List Entry) (who : ℕ) (call : Call) → IsLegal limits apps history → ¬ (who ≡ app) →
    held_in ((step limits (state_after limits apps history) who call).1) app handle ≡ held_in (state_after limits apps history) app handle
held-other limits apps app handle history who call legal other =
    ap (option_map (λ r. Table r.handle r.version r.size r.sum_of_bytes r.head)) (receipt_alone limits apps who app handle history call (ne_eqb who app other))

-- an entry of another application leaves it
pub held_stays : (limits : Limits) (apps app handle : ℕ) (history : List Entry) (e : Entry) → IsLegal limits apps (history ++ e ∷ []) → ¬ (e.app ≡ app) →
    held_in (state_after limits apps (history ++ e ∷ [])) app handle ≡ held_in (state_after limits apps history) app handle
held_stays limits apps app handle history e legal other =
    ap (λ t. held_in t app handle) (state_from-push limits (opening limits apps) history e)
    ∙ ap (option_map (λ r. Table r.handle r.version r.size r.sum_of_bytes r.head)) (receipt_alone limits apps e.app app handle history e.call (ne_eqb e.app app other))
