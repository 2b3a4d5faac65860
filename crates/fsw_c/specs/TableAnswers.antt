-- What a call of the tables does to the core behind a handle, and the status that it answers.
use Rattle.std.specs.Prelude.{◌≡◌, ℕ, Option, Some, None}
use Rattle.tbl_words.specs.declared.calls.TblAnswer.{TblAnswer}
use Rattle.tbl_words.specs.declared.history.Call.{Call}
use Rattle.tbl_words.specs.declared.history.Call.TheVariants.{Unregister, Update, Load, GetAddress, ReleaseAddress}
use Rattle.tbl_words.specs.Tables.{State}
use Rattle.table_core.specs.Core.{Acts, HasNextVersion, answer_behind_last}
use Rattle.checked_tables.specs.declared.refusal.Refusal.{Refusal}
use Rattle.checked_tables.specs.Asked.{unasked}
use Rattle.checked_tables.specs.Box.{Boxed, KeepsOtherBags, KeepsOtherViews, bag_of}
use Rattle.fsw_core.specs.declared.Core.{Core}
use Rattle.fsw_c.specs.Codes.{closed_code}
use Rattle.fsw_c.specs.TableCodes.{unasked_table_code, table_code}

-- No number is left for the version that the call makes; no other call makes one.
abbrev pub IsSpent : State → Call → Type 0
IsSpent s (Update handle) = HasNextVersion s handle → ⊥
IsSpent s (Load handle offset bytes) = HasNextVersion s handle → ⊥
IsSpent s call = ⊥

-- What of the applications' bags stays: of a call that takes or gives an address or gives a handle
-- back all but the caller's view of this handle, of any other call all.
abbrev pub KeepsBags : Boxed → Boxed → ℕ → Call → Type 0
KeepsBags o n app (Unregister handle) =
    KeepsOtherBags o n app × KeepsOtherViews (bag_of o app) (bag_of n app) handle
KeepsBags o n app (GetAddress handle) =
    KeepsOtherBags o n app × KeepsOtherViews (bag_of o app) (bag_of n app) handle
KeepsBags o n app (ReleaseAddress handle) =
    KeepsOtherBags o n app × KeepsOtherViews (bag_of o app) (bag_of n app) handle
KeepsBags o n app call = n.bags ≡ o.bags

-- The handle is closed; or the tables aren't asked, for this reason; or they take one step of their
-- machine; or no version is left, and they answer as they do then. The status is the number of the
-- answer. The bus never changes.
pub data TableCall (old new : Option Core) (app : ℕ) (call : Call) (status : ℕ) : Type 0 where
  Closed : old ≡ None → new ≡ None → status ≡ closed_code → TableCall old new app call status
  Unasked : (o : Core) (why : Refusal) → old ≡ Some o → new ≡ Some o →
      unasked o.tables.core app call ≡ Some why → status ≡ unasked_table_code why →
      TableCall old new app call status
  Asked : (o n : Core) (answer : TblAnswer) → old ≡ Some o → new ≡ Some n → n.bus ≡ o.bus →
      unasked o.tables.core app call ≡ None →
      Acts o.tables.core n.tables.core app call answer → KeepsBags o.tables n.tables app call →
      status ≡ table_code answer → TableCall old new app call status
  Spent : (o : Core) → old ≡ Some o → new ≡ Some o → unasked o.tables.core app call ≡ None →
      IsSpent o.tables.core.state call →
      status ≡ table_code (answer_behind_last o.tables.core app call) →
      TableCall old new app call status

-- The answer of an accepted call of the tables.
abbrev pub AnswersTables : Option Core → Option Core → ℕ → Call → TblAnswer → Type 0
AnswersTables old new app call answer =
    (o n : Core) → old ≡ Some o → new ≡ Some n →
    Acts o.tables.core n.tables.core app call answer
