-- One more entry behind a history: the state that it leaves, and that the history stays legal.
use Rattle.std.proofs.Common.{◌≡◌, ℕ, List, [], ◌∷◌, ◌++◌, IsTrue, refl, ap, sym, ◌∙◌, append_assoc, append-nil}
use Rattle.fsw_base.specs.Limits.{Limits}
use Rattle.tbl_words.specs.declared.calls.TblAnswer.{TblAnswer}
use Rattle.tbl_words.specs.declared.history.Entry.{Entry}
use Rattle.tbl_words.specs.Tables.{State, opening}
use Rattle.tbl_words.specs.Machine.{step, state_from, state_after, may_call, LegalFrom, IsLegal}
use Rattle.tbl_words.specs.Runs.{callers, run_from, Follows}

-- the state after one entry more is that of its step
pub state_from-push : (limits : Limits) (s : State) (es : List Entry) (e : Entry) →
    state_from limits s (es ++ e ∷ []) ≡ (step limits (state_from limits s es) e.app e.call).1
state_from-push limits s [] e = refl
state_from-push limits s (x ∷ es) e = state_from-push limits ((step limits s x.app x.call).1) es e

-- a legal history stays legal with one entry more, whose application may make its call and is answered by the step
pub LegalFrom-push : (limits : Limits) (s : State) (es : List Entry) (e : Entry) →
    LegalFrom limits s es →
    IsTrue (may_call (state_from limits s es) e.app) →
    e.answer ≡ (step limits (state_from limits s es) e.app e.call).0 →
    LegalFrom limits s (es ++ e ∷ [])
LegalFrom-push limits s [] e legal may answered = (may, answered, tt)
LegalFrom-push limits s (x ∷ es) e legal may answered =
    (legal.0, legal.1, LegalFrom-push limits ((step limits s x.app x.call).1) es e legal.2 may answered)

-- a history goes on by a step
pub goes_on : (limits : Limits) (apps : ℕ) (history : List Entry) (e : Entry) →
    IsLegal limits apps history →
    IsTrue (may_call (state_after limits apps history) e.app) →
    e.answer ≡ (step limits (state_after limits apps history) e.app e.call).0 →
    Follows limits apps history e
goes_on limits apps history e legal may answered = record {
  legal = LegalFrom-push limits (opening limits apps) history e legal may answered;
  state = state_from-push limits (opening limits apps) history e;
}

-- the calls of a legal history, made from where it began, give it and its state again
pub run_from-legal : (limits : Limits) (history : List Entry) (s : State) (es : List Entry) → LegalFrom limits s es →
    run_from limits history s (callers es) ≡ (history ++ es, state_from limits s es)
run_from-legal limits history s [] legal = ap (λ h. (h, s)) (sym (append-nil history))
run_from-legal limits history s (x ∷ es) legal =
    let next = (step limits s x.app x.call).1 in
    let again : List Entry → List Entry × State = λ h. run_from limits h next (callers es) in
    ap (λ (a : TblAnswer). again (history ++ record { app = x.app; call = x.call; answer = a } ∷ [])) (sym legal.1)
    ∙ run_from-legal limits (history ++ x ∷ []) next es legal.2
    ∙ ap (λ h. (h, state_from limits next es)) (append_assoc history (x ∷ []) es)
