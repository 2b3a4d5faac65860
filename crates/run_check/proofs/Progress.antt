-- How far an application is, from its first entry to its end.
use Rattle.std.proofs.Common.{◌≡◌, ℕ, ◌≤◌, ◌==◌, Bool, true, false, eqb-true, if◌then◌else◌, List, [], ◌∷◌, ◌++◌, length, Option, Some, None, IsTrue, refl, ap, sym, ◌∙◌, subst, append_assoc, append-nil}
use Rattle.std.proofs.lemmas.List.Elements.{All-append, All-cons, All-nil, filter-append}
use Rattle.fsw_base.specs.Limits.{Limits}
use Rattle.bus_words.specs.declared.calls.BusAnswer.{BusAnswer}
use Rattle.bus_words.specs.declared.calls.BusAnswer.TheVariants.{Pending}
use Rattle.bus_words.specs.declared.history.Call.{Call}
use Rattle.bus_words.specs.declared.history.Call.TheVariants as calls
use Rattle.bus_words.specs.declared.history.Entry.{Entry}
use Rattle.bus_words.specs.Bus.{Standing, Active, Waiting, Ended, State, opening, standing_of}
use Rattle.bus_words.specs.Machine.{LegalFrom, brings, makes_entry, may_call, state_from, step}
use Rattle.bus_words.proofs.Replay.{goes_on}
use Rattle.script_lines.specs.declared.line.Line.{Line}
use Rattle.app_script.specs.Script.{ScriptText, app_at}
use Rattle.script_runs.specs.Owing.{Owes}
use Rattle.script_runs.specs.Rotation.{Running, behind}
use Rattle.script_runs.specs.Trace.{AfterAnswer, IsEnd, LineEntries, Registers, Trace, call_of, first_registers, own_entries, registers_after}
use Rattle.script_runs.specs.Written.{Written, first_written, written_after, written_by}
use Rattle.run_check.specs.Begun.{AreAllOf}
use Rattle.run_check.specs.Progress.{ApplicationsGoOn, IsAnswered, IsAt, NextCallsAreKnown, NextCallsMayCome, behind_line, first_call, next_call, standing_then}
use Rattle.run_check.proofs.Beginnings.{trace_some}
use Rattle.run_check.proofs.Entries.{app_range, own_at}

-- Which call comes next. --

end_call : (e : Entry) (es : List Entry) → IsEnd (e ∷ es) → e.call ≡ calls.End
end_call e [] end = end
end_call e (f ∷ es) end = absurd end

-- the first of what lines owe has their first call, if that is a call of the bus
line_call : (made : Option Call) (Next : Call → BusAnswer → List Entry → Type 0) (Same : List Entry → Type 0) (call : Call) (e : Entry) (es : List Entry) →
    made ≡ Some call → LineEntries made Next Same (e ∷ es) → e.call ≡ call
line_call None Next Same call e es is owed = absurd (cc is)
line_call (Some made) Next Same call e es is owed = owed.0 ∙ cc is

-- what is owed begins with the call that comes next; if none does, nothing is owed or the line is silent
owed_call : (standing : Standing) (left : Option Running) (call : Call) (e : Entry) (es : List Entry) → next_call standing left ≡ Some call → Owes standing left (e ∷ es) → e.call ≡ call
owed_call Active (Some r) call e es is owed = by r.lines is owed
  where
    by : (lines : List Line) → first_call r lines ≡ Some call → Trace r.registers r.written lines (e ∷ es) → e.call ≡ call
    by [] is owed = end_call e es owed ∙ cc is
    by (line ∷ lines) is owed =
        line_call (call_of r.registers r.written line)
        (λ call answer rest. Trace (registers_after r.registers line answer) (written_after r.written call answer) lines rest)
        (λ rest. Trace r.registers (written_by r.written r.registers.buffers line) lines rest) call e es is owed
owed_call (Waiting pipe) (Some r) call e es is owed = owed.0 ∙ cc is
owed_call Ended (Some r) call e es is owed = absurd owed
owed_call standing None call e es is owed = absurd (cc is)

-- The bus's answer. --

pub legal_last : (limits : Limits) (apps : ℕ) (history : List Entry) (s : State) (p : List Entry) (e : Entry) → LegalFrom limits history s (p ++ e ∷ []) →
    IsTrue (may_call (standing_of (state_from limits history s p) e.app) e.call)
    × (e.answer ≡ (step limits (history ++ p) (state_from limits history s p) e.app e.call).0)
    × IsTrue (makes_entry e.call e.answer)
    × IsTrue (brings (state_from limits history s p).unsent e.app e.call)
legal_last limits apps history s [] e legal =
    (legal.0, legal.1 ∙ ap (λ h. (step limits h s e.app e.call).0) (sym (append-nil history)), legal.2, legal.3)
legal_last limits apps history s (x ∷ p) e legal =
    let next = (step limits history s x.app x.call).1 in
    let now = history ++ x ∷ [] in
    let found = legal_last limits apps now next p e legal.4 in (
      found.0,
      found.1 ∙ ap (λ h. (step limits h (state_from limits now next p) e.app e.call).0) (append_assoc history (x ∷ []) p),
      found.2,
      found.3,
    )

pub next_calls_are_known : NextCallsAreKnown
next_calls_are_known script history e standing left call at comes begun = (called, answered)
  where
    called : e.call ≡ call
    called =
        let range = app_range script history e [] begun in
        let all = begun.each e.app range.0 range.1 in
        let P : List Entry → Type 0 = AreAllOf script e.app in
        let whole = subst P (ap (λ l. l ++ all.0) (own_at e.app history e [] refl) ∙ append_assoc (own_entries e.app history) (e ∷ []) all.0) all.1 in
        owed_call standing left call e all.0 comes (at.owes (e ∷ all.0) whole)

    answered : IsAnswered script history e
    answered =
        let found = legal_last script.limits (length script.apps) [] (opening script.limits (length script.apps)) history e begun.legal in
        record { may = found.0; answer = found.1; entered = found.2; brought = found.3 }

-- The next entry may come. --

-- some entries settle a call so answered
after_some : (call : Call) (answer : BusAnswer) (Rest : List Entry → Type 0) → (es : List Entry) × Rest es → (es : List Entry) × AfterAnswer call answer Rest es
after_some (calls.Pend pipe) Pending Rest found = (record { app = 1; call = calls.Look pipe; answer = Pending } ∷ found.0, (refl, found.1))
after_some (calls.Pend pipe) answer Rest found = found
after_some call answer Rest found = found

line_owed : (made : Option Call) (Next : Call → BusAnswer → List Entry → Type 0) (Same : List Entry → Type 0) (e : Entry) → made ≡ Some e.call →
    ((call : Call) (answer : BusAnswer) → (es : List Entry) × Next call answer es) → (es : List Entry) × LineEntries made Next Same (e ∷ es)
line_owed None Next Same e is next = absurd (cc is)
line_owed (Some call) Next Same e is next =
    let found = after_some call e.answer (Next call e.answer) (next call e.answer) in
    let same : e.call ≡ call = cc is in
    (found.0, (same, found.1))

-- what is owed may begin with an entry that has the call which comes next
owed_some : (standing : Standing) (left : Option Running) (e : Entry) → next_call standing left ≡ Some e.call → (es : List Entry) × Owes standing left (e ∷ es)
owed_some Active (Some r) e is = by r.lines is
  where
    by : (lines : List Line) → first_call r lines ≡ Some e.call → (es : List Entry) × Trace r.registers r.written lines (e ∷ es)
    by [] is = let end : e.call ≡ calls.End = cc is in ([], end)
    by (line ∷ lines) is =
        line_owed (call_of r.registers r.written line)
        (λ call answer rest. Trace (registers_after r.registers line answer) (written_after r.written call answer) lines rest)
        (λ rest. Trace r.registers (written_by r.written r.registers.buffers line) lines rest) e is
        (λ call answer. trace_some (registers_after r.registers line answer) (written_after r.written call answer) lines)
owed_some (Waiting pipe) (Some r) e is =
    let found = trace_some r.registers r.written r.lines in let look : e.call ≡ calls.Look pipe = cc is in (found.0, (look, found.1))
owed_some Ended (Some r) e is = absurd (cc is)
owed_some standing None e is = absurd (cc is)

-- an entry is none of another application's
pub own_other : (app : ℕ) (p : List Entry) (e : Entry) → (e.app == app) ≡ false → own_entries app (p ++ e ∷ []) ≡ own_entries app p
own_other app p e apart =
    filter-append (λ x. x.app == app) p (e ∷ [])
    ∙ ap (λ (b : Bool). own_entries app p ++ (if b then e ∷ [] else [])) apart
    ∙ append-nil (own_entries app p)

pub next_calls_may_come : NextCallsMayCome
next_calls_may_come script history e standing left begun first last at comes answered = record {
  legal = (goes_on script.limits (length script.apps) history e begun.legal answered.may answered.answer answered.entered answered.brought).legal;
  each = λ app one few. by app (e.app == app) refl (begun.each app one few);
  nobody_else =
      All-append (λ (x : Entry). (1 ≤ x.app) × (x.app ≤ length script.apps)) history (e ∷ []) begun.nobody_else
      (All-cons (λ (x : Entry). (1 ≤ x.app) × (x.app ≤ length script.apps)) e [] (first, last) (All-nil (λ (x : Entry). (1 ≤ x.app) × (x.app ≤ length script.apps))));
}
  where
    Front : ℕ → List Entry → Type 0
    Front app own = (rest : List Entry) × AreAllOf script app (own ++ rest)

    its : Front e.app (own_entries e.app (history ++ e ∷ []))
    its =
        let owed = owed_some standing left e comes in
        let P : List Entry → Type 0 = AreAllOf script e.app in (
          owed.0,
          subst P
              (sym (ap (λ l. l ++ owed.0) (own_at e.app history e [] refl) ∙ append_assoc (own_entries e.app history) (e ∷ []) owed.0))
              (at.enough (e ∷ owed.0) owed.1),
        )

    by : (app : ℕ) (b : Bool) → (e.app == app) ≡ b → Front app (own_entries app history) → Front app (own_entries app (history ++ e ∷ []))
    by app true mine before = let P : ℕ → Type 0 = λ a. Front a (own_entries a (history ++ e ∷ [])) in subst P (eqb-true e.app app mine) its
    by app false apart before = let P : List Entry → Type 0 = Front app in subst P (sym (own_other app history e apart)) before

-- From entry to entry. --

-- before its first entry an application has all its lines before it
at_first : (script : ScriptText) (app : ℕ) (handles : List ℕ) →
    IsAt script app [] Active (Some (record { app = app; lines = (app_at script app).lines; registers = first_registers; handles = handles; written = first_written }))
at_first script app handles = record { owes = λ es all. all; enough = λ es owed. owed }

-- a line that the bus doesn't see is passed
at_silent : (script : ScriptText) (app : ℕ) (own : List Entry) (r : Running) (line : Line) (lines : List Line) → r.lines ≡ line ∷ lines → call_of r.registers r.written line ≡ None →
    IsAt script app own Active (Some r) → IsAt script app own Active (Some (behind r lines r.registers (written_by r.written r.registers.buffers line)))
at_silent script app own r line lines is silent at = record {
  owes = λ es all. let T : Option Call → Type 0 = λ made. Lines made es in subst T silent (there es (at.owes es all));
  enough = λ es owed. at.enough es (back es (let T : Option Call → Type 0 = λ made. Lines made es in subst T (sym silent) owed));
}
  where
    Lines : Option Call → List Entry → Type 0
    Lines made es =
        LineEntries made (λ call answer rest. Trace (registers_after r.registers line answer) (written_after r.written call answer) lines rest)
        (λ rest. Trace r.registers (written_by r.written r.registers.buffers line) lines rest) es

    there : (es : List Entry) → Trace r.registers r.written r.lines es → Lines (call_of r.registers r.written line) es
    there es owed = let T : List Line → Type 0 = λ l. Trace r.registers r.written l es in subst T is owed

    back : (es : List Entry) → Lines (call_of r.registers r.written line) es → Trace r.registers r.written r.lines es
    back es owed = let T : List Line → Type 0 = λ l. Trace r.registers r.written l es in subst T (sym is) owed

-- behind an entry, what is behind it is behind its own entries
one_more : (script : ScriptText) (app : ℕ) (own : List Entry) (e : Entry) (standing next : Standing) (left after : Option Running) → IsAt script app own standing left →
    ((es : List Entry) → Owes standing left (e ∷ es) → Owes next after es) → ((es : List Entry) → Owes next after es → Owes standing left (e ∷ es)) →
    IsAt script app (own ++ e ∷ []) next after
one_more script app own e standing next left after at there back =
    let P : List Entry → Type 0 = AreAllOf script app in
    record {
      owes = λ es all. there es (at.owes (e ∷ es) (subst P (append_assoc own (e ∷ []) es) all));
      enough = λ es owed. subst P (sym (append_assoc own (e ∷ []) es)) (at.enough (e ∷ es) (back es owed));
    }

after_owes : (call : Call) (answer : BusAnswer) (r : Running) (es : List Entry) →
    AfterAnswer call answer (λ rest. Trace r.registers r.written r.lines rest) es → Owes (standing_then call answer) (Some r) es
after_owes (calls.Pend pipe) Pending r [] owed = owed
after_owes (calls.Pend pipe) Pending r (f ∷ es) owed = owed
after_owes (calls.Pend pipe) answer r es owed = owed
after_owes call answer r es owed = owed

owes_after : (call : Call) (answer : BusAnswer) (r : Running) (es : List Entry) →
    Owes (standing_then call answer) (Some r) es → AfterAnswer call answer (λ rest. Trace r.registers r.written r.lines rest) es
owes_after (calls.Pend pipe) Pending r [] owed = owed
owes_after (calls.Pend pipe) Pending r (f ∷ es) owed = owed
owes_after (calls.Pend pipe) answer r es owed = owed
owes_after call answer r es owed = owed

at_line : (script : ScriptText) (app : ℕ) (own : List Entry) (r : Running) (line : Line) (lines : List Line) (e : Entry) → r.lines ≡ line ∷ lines → call_of r.registers r.written line ≡ Some e.call →
    IsAt script app own Active (Some r) → IsAt script app (own ++ e ∷ []) (standing_then e.call e.answer) (Some (behind_line r line lines e.call e.answer))
at_line script app own r line lines e is calls at =
    one_more script app own e Active (standing_then e.call e.answer) (Some r) (Some (behind_line r line lines e.call e.answer)) at there back
  where
    Lines : Option Call → List Entry → Type 0
    Lines made es =
        LineEntries made (λ call answer rest. Trace (registers_after r.registers line answer) (written_after r.written call answer) lines rest)
        (λ rest. Trace r.registers (written_by r.written r.registers.buffers line) lines rest) es

    there : (es : List Entry) → Trace r.registers r.written r.lines (e ∷ es) → Owes (standing_then e.call e.answer) (Some (behind_line r line lines e.call e.answer)) es
    there es owed =
        let L : List Line → Type 0 = λ l. Trace r.registers r.written l (e ∷ es) in
        let M : Option Call → Type 0 = λ made. Lines made (e ∷ es) in
        let found : Lines (Some e.call) (e ∷ es) = subst M calls (subst L is owed) in
        after_owes e.call e.answer (behind_line r line lines e.call e.answer) es found.1

    back : (es : List Entry) → Owes (standing_then e.call e.answer) (Some (behind_line r line lines e.call e.answer)) es → Trace r.registers r.written r.lines (e ∷ es)
    back es owed =
        let L : List Line → Type 0 = λ l. Trace r.registers r.written l (e ∷ es) in
        let M : Option Call → Type 0 = λ made. Lines made (e ∷ es) in
        let found : Lines (Some e.call) (e ∷ es) = (refl, owes_after e.call e.answer (behind_line r line lines e.call e.answer) es owed) in
        subst L (sym is) (subst M (sym calls) found)

at_look : (script : ScriptText) (app : ℕ) (own : List Entry) (r : Running) (pipe : ℕ) (e : Entry) → e.call ≡ calls.Look pipe →
    IsAt script app own (Waiting pipe) (Some r) → IsAt script app (own ++ e ∷ []) Active (Some r)
at_look script app own r pipe e is at =
    one_more script app own e (Waiting pipe) Active (Some r) (Some r) at (λ es owed. owed.1) (λ es owed. (is, owed))

at_end : (script : ScriptText) (app : ℕ) (own : List Entry) (r : Running) (e : Entry) → r.lines ≡ [] → e.call ≡ calls.End →
    IsAt script app own Active (Some r) → IsAt script app (own ++ e ∷ []) Ended None
at_end script app own r e is end at = one_more script app own e Active Ended (Some r) None at there back
  where
    none : (es : List Entry) → IsEnd (e ∷ es) → es ≡ []
    none [] owed = refl
    none (f ∷ es) owed = absurd owed

    there : (es : List Entry) → Trace r.registers r.written r.lines (e ∷ es) → es ≡ []
    there es owed = let L : List Line → Type 0 = λ l. Trace r.registers r.written l (e ∷ es) in none es (subst L is owed)

    back : (es : List Entry) → es ≡ [] → Trace r.registers r.written r.lines (e ∷ es)
    back es same =
        let L : List Line → Type 0 = λ l. Trace r.registers r.written l (e ∷ es) in
        let E : List Entry → Type 0 = λ l. IsEnd (e ∷ l) in
        subst L (sym is) (subst E (sym same) end)

-- lines make some entry
line_some_entry : (made : Option Call) (Next : Call → BusAnswer → List Entry → Type 0) (Same : List Entry → Type 0) → ¬ Same [] → ¬ LineEntries made Next Same []
line_some_entry None Next Same same owed = same owed
line_some_entry (Some call) Next Same same owed = owed

some_entry : (registers : Registers) (written : Written) (lines : List Line) → ¬ Trace registers written lines []
some_entry registers written [] owed = owed
some_entry registers written (line ∷ lines) owed =
    line_some_entry (call_of registers written line)
    (λ call answer rest. Trace (registers_after registers line answer) (written_after written call answer) lines rest)
    (λ rest. Trace registers (written_by written registers.buffers line) lines rest)
    (some_entry registers (written_by written registers.buffers line) lines) owed

missing : (script : ScriptText) (app : ℕ) (own : List Entry) (standing : Standing) (r : Running) → IsAt script app own standing (Some r) → ¬ AreAllOf script app own
missing script app own standing r at all = by standing (at.owes [] (let P : List Entry → Type 0 = AreAllOf script app in subst P (sym (append-nil own)) all))
  where
    by : (s : Standing) → ¬ Owes s (Some r) []
    by Active owed = some_entry r.registers r.written r.lines owed
    by (Waiting pipe) owed = owed
    by Ended owed = owed

pub applications_go_on : ApplicationsGoOn
applications_go_on script app = record {
  first = at_first script app;
  silent = at_silent script app;
  line = at_line script app;
  look = at_look script app;
  end = at_end script app;
  whole = λ own at. let P : List Entry → Type 0 = AreAllOf script app in subst P (append-nil own) (at.enough [] refl);
  missing = missing script app;
}
