-- One more entry behind a history: the state that it leaves, and that the history stays legal.
use Rattle.std.proofs.Common.{◌≡◌, ℕ, List, [], ◌∷◌, ◌++◌, IsTrue, ap, sym, ◌∙◌, append_assoc, append-nil}
use Rattle.fsw_base.specs.Limits.{Limits}
use Rattle.bus_words.specs.declared.calls.BusAnswer.{BusAnswer}
use Rattle.bus_words.specs.declared.history.Entry.{Entry}
use Rattle.bus_words.specs.Bus.{State, opening, standing_of}
use Rattle.bus_words.specs.Machine.{step, state_from, state_after, may_call, makes_entry, brings, LegalFrom, IsLegal}
use Rattle.bus_words.specs.Runs.{callers, stepped, Follows}

-- the state after one entry more is that of its step
pub state_from-push : (limits : Limits) (history : List Entry) (s : State) (es : List Entry) (e : Entry) →
    state_from limits history s (es ++ e ∷ []) ≡ (step limits (history ++ es) (state_from limits history s es) e.app e.call).1
state_from-push limits history s [] e = ap (λ h. (step limits h s e.app e.call).1) (sym (append-nil history))
state_from-push limits history s (x ∷ es) e =
    let next = (step limits history s x.app x.call).1 in
    let now = history ++ x ∷ [] in
    state_from-push limits now next es e
    ∙ ap (λ h. (step limits h (state_from limits now next es) e.app e.call).1) (append_assoc history (x ∷ []) es)

-- a legal history stays legal with one entry more, whose application may make its call and is answered by the step
pub LegalFrom-push : (limits : Limits) (history : List Entry) (s : State) (es : List Entry) (e : Entry) →
    LegalFrom limits history s es →
    IsTrue (may_call (standing_of (state_from limits history s es) e.app) e.call) →
    e.answer ≡ (step limits (history ++ es) (state_from limits history s es) e.app e.call).0 →
    IsTrue (makes_entry e.call e.answer) →
    IsTrue (brings (state_from limits history s es).unsent e.app e.call) →
    LegalFrom limits history s (es ++ e ∷ [])
LegalFrom-push limits history s [] e legal may answered entered whole =
    (may, answered ∙ ap (λ h. (step limits h s e.app e.call).0) (append-nil history), entered, whole, tt)
LegalFrom-push limits history s (x ∷ es) e legal may answered entered whole =
    let next = (step limits history s x.app x.call).1 in
    let now = history ++ x ∷ [] in (
      legal.0,
      legal.1,
      legal.2,
      legal.3,
      LegalFrom-push limits now next es e legal.4 may
          (answered ∙ ap (λ h. (step limits h (state_from limits now next es) e.app e.call).0) (sym (append_assoc history (x ∷ []) es)))
          entered whole,
    )

-- a history goes on by a step
pub goes_on : (limits : Limits) (apps : ℕ) (history : List Entry) (e : Entry) →
    IsLegal limits apps history →
    IsTrue (may_call (standing_of (state_after limits apps history) e.app) e.call) →
    e.answer ≡ (step limits history (state_after limits apps history) e.app e.call).0 →
    IsTrue (makes_entry e.call e.answer) →
    IsTrue (brings (state_after limits apps history).unsent e.app e.call) →
    Follows limits apps history e
goes_on limits apps history e legal may answered entered whole = record {
  legal = LegalFrom-push limits [] (opening limits apps) history e legal may answered entered whole;
  state = state_from-push limits [] (opening limits apps) history e;
}

-- the calls of a legal history, made from where it began, give it and its state again
pub stepped-legal : (limits : Limits) (history : List Entry) (s : State) (es : List Entry) → LegalFrom limits history s es →
    stepped limits history s (callers es) ≡ (history ++ es, state_from limits history s es)
stepped-legal limits history s [] legal = ap (λ h. (h, s)) (sym (append-nil history))
stepped-legal limits history s (x ∷ es) legal =
    let next = (step limits history s x.app x.call).1 in
    let again : List Entry → List Entry × State = λ h. stepped limits h next (callers es) in
    ap (λ (a : BusAnswer). again (history ++ record { app = x.app; call = x.call; answer = a } ∷ [])) (sym legal.1)
    ∙ stepped-legal limits (history ++ x ∷ []) next es legal.4
    ∙ ap (λ h. (h, state_from limits (history ++ x ∷ []) next es)) (append_assoc history (x ∷ []) es)
