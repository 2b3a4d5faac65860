-- An application's last messages change by its own calls alone.
use Rattle.std.proofs.Common.{◌≡◌, ℕ, ◌==◌, false, IsTrue, ne_eqb, List, [], ◌∷◌, ◌++◌, refl, ap, sym, ◌∙◌, subst}
use Rattle.std.specs.Option.{option_map}
use Rattle.fsw_base.specs.Limits.{Limits}
use Rattle.bus_words.specs.declared.history.Call.{Call}
use Rattle.bus_words.specs.declared.history.Entry.{Entry}
use Rattle.bus_words.specs.Bus.{State, opening, standing_of}
use Rattle.bus_words.specs.Machine.{step, may_call, state_after, IsLegal}
use Rattle.bus_words.specs.Receipts.{message_receipt, receipt_in}
use Rattle.bus_words.proofs.Finds.{same-sym}
use Rattle.bus_words.proofs.Replay.{state_from-push}
use Rattle.script_runs.specs.Told.{own_last}
use Rattle.bus_words.proofs.KeptPipes.{IsKept}
use Rattle.bus_words.proofs.LegalSteps.{AreWaiters, AreWaiters-after, kept-step, legal-last}
use Rattle.script_runs.proofs.OwnLasts.{receipt_in-own, own_last-kept}

-- what another application's step, after a legal history, leaves of an application's pipe
step-keeps : (limits : Limits) (apps : ℕ) (history : List Entry) (s : State) (who app pipe : ℕ) (call : Call) →
    IsLegal limits apps history → s ≡ state_after limits apps history → IsTrue (may_call (standing_of s who) call) → (app == who) ≡ false →
    IsKept s.pipes ((step limits history s who call).1).pipes app pipe
step-keeps limits apps history s who app pipe call legal is may differ =
    kept-step limits history s who app pipe call (subst AreWaiters (sym is) (AreWaiters-after limits apps history legal)) may differ

-- the same last messages make the same receipts
same-receipt : (s t : State) (app pipe : ℕ) → own_last t.pipes app pipe ≡ own_last s.pipes app pipe → receipt_in t app pipe ≡ receipt_in s app pipe
same-receipt s t app pipe same =
    receipt_in-own t app pipe ∙ ap (option_map (λ item. message_receipt pipe item.number item.message)) same ∙ sym (receipt_in-own s app pipe)

-- a call of another application, made after a legal history, leaves the last message
pub own_last-other : (limits : Limits) (apps app pipe : ℕ) (history : List Entry) (who : ℕ) (call : Call) → IsLegal limits apps history →
    IsTrue (may_call (standing_of (state_after limits apps history) who) call) → ¬ (who ≡ app) →
    own_last ((step limits history (state_after limits apps history) who call).1).pipes app pipe ≡ own_last (state_after limits apps history).pipes app pipe
own_last-other limits apps app pipe history who call legal may other =
    own_last-kept (state_after limits apps history).pipes ((step limits history (state_after limits apps history) who call).1).pipes app pipe
    (step-keeps limits apps history (state_after limits apps history) who app pipe call legal refl may (same-sym app who ∙ ne_eqb who app other))

-- and so the receipt
pub receipt-other : (limits : Limits) (apps app pipe : ℕ) (history : List Entry) (who : ℕ) (call : Call) → IsLegal limits apps history →
    IsTrue (may_call (standing_of (state_after limits apps history) who) call) → ¬ (who ≡ app) →
    receipt_in ((step limits history (state_after limits apps history) who call).1) app pipe ≡ receipt_in (state_after limits apps history) app pipe
receipt-other limits apps app pipe history who call legal may other =
    same-receipt (state_after limits apps history) ((step limits history (state_after limits apps history) who call).1) app pipe
    (own_last-other limits apps app pipe history who call legal may other)

-- an entry of another application leaves the receipt
pub last_stays : (limits : Limits) (apps app pipe : ℕ) (history : List Entry) (e : Entry) → IsLegal limits apps (history ++ e ∷ []) → ¬ (e.app ≡ app) →
    receipt_in (state_after limits apps (history ++ e ∷ [])) app pipe ≡ receipt_in (state_after limits apps history) app pipe
last_stays limits apps app pipe history e legal other =
    let parts = legal-last limits [] (opening limits apps) history e legal in
    ap (λ t. receipt_in t app pipe) (state_from-push limits [] (opening limits apps) history e)
    ∙ receipt-other limits apps app pipe history e.app e.call parts.0 parts.1 other
