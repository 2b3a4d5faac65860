-- How far an application is at the tables, from its first entry to its end.
use Rattle.std.proofs.Common.{◌≡◌, ℕ, ◌≤◌, ◌==◌, Bool, true, false, eqb-true, if◌then◌else◌, List, [], ◌∷◌, ◌++◌, length, Option, Some, None, IsTrue, refl, ap, sym, ◌∙◌, subst, append_assoc, append-nil}
use Rattle.std.proofs.lemmas.List.Elements.{All-append, All-cons, All-nil, filter-append}
use Rattle.fsw_base.specs.Limits.{Limits}
use Rattle.tbl_words.specs.declared.calls.TblAnswer.{TblAnswer}
use Rattle.tbl_words.specs.declared.history.Call.{Call}
use Rattle.tbl_words.specs.declared.history.Call.TheVariants as calls
use Rattle.tbl_words.specs.declared.history.Entry.{Entry}
use Rattle.tbl_words.specs.Machine.{LegalFrom, may_call, state_from, step}
use Rattle.tbl_words.specs.Tables.{State, opening}
use Rattle.tbl_words.proofs.Replay.{goes_on}
use Rattle.script_lines.specs.declared.line.Line.{Line}
use Rattle.app_script.specs.Script.{ScriptText}
use Rattle.script_runs.specs.Owing.{TableOwes}
use Rattle.script_runs.specs.Rotation.{Running, behind_table}
use Rattle.script_runs.specs.TableTrace.{IsTableEnd, TableLineEntries, TableTrace, handles_after, own_table_entries, table_call_of}
use Rattle.run_check.specs.Begun.{AreAllTablesOf}
use Rattle.run_check.specs.TableProgress.{ApplicationsGoOnAtTables, IsAtTables, IsTableAnswered, NextTableCallsAreKnown, NextTableCallsMayCome, first_table_call, next_table_call}
use Rattle.run_check.proofs.Beginnings.{table_trace_some}
use Rattle.run_check.proofs.TableEntries.{own_at, table_app_range}

-- what a line owes, with what comes behind it
abbrev Lines : Running → Line → List Line → Option Call → List Entry → Type 0
Lines r line lines made es =
    TableLineEntries made (λ answer rest. TableTrace (handles_after r.handles line answer) lines rest) (λ rest. TableTrace r.handles lines rest) es

-- Which call comes next. --

end_call : (e : Entry) (es : List Entry) → IsTableEnd (e ∷ es) → e.call ≡ calls.End
end_call e [] end = end
end_call e (f ∷ es) end = absurd end

line_call : (made : Option Call) (Next : TblAnswer → List Entry → Type 0) (Same : List Entry → Type 0) (call : Call) (e : Entry) (es : List Entry) →
    made ≡ Some call → TableLineEntries made Next Same (e ∷ es) → e.call ≡ call
line_call None Next Same call e es is owed = absurd (cc is)
line_call (Some made) Next Same call e es is owed = owed.0 ∙ cc is

owed_call : (left : Option Running) (call : Call) (e : Entry) (es : List Entry) → next_table_call left ≡ Some call → TableOwes left (e ∷ es) → e.call ≡ call
owed_call (Some r) call e es is owed = by r.lines is owed
  where
    by : (lines : List Line) → first_table_call r lines ≡ Some call → TableTrace r.handles lines (e ∷ es) → e.call ≡ call
    by [] is owed = end_call e es owed ∙ cc is
    by (line ∷ lines) is owed =
        line_call (table_call_of r.handles line) (λ answer rest. TableTrace (handles_after r.handles line answer) lines rest)
        (λ rest. TableTrace r.handles lines rest) call e es is owed
owed_call None call e es is owed = absurd (cc is)

pub legal_last : (limits : Limits) (s : State) (p : List Entry) (e : Entry) → LegalFrom limits s (p ++ e ∷ []) →
    IsTrue (may_call (state_from limits s p) e.app) × (e.answer ≡ (step limits (state_from limits s p) e.app e.call).0)
legal_last limits s [] e legal = (legal.0, legal.1)
legal_last limits s (x ∷ p) e legal = legal_last limits ((step limits s x.app x.call).1) p e legal.2

pub next_table_calls_are_known : NextTableCallsAreKnown
next_table_calls_are_known script history e left call at comes begun = (called, answered)
  where
    called : e.call ≡ call
    called =
        let range = table_app_range script history e [] begun in
        let all = begun.each e.app range.0 range.1 in
        let P : List Entry → Type 0 = AreAllTablesOf script e.app in
        let whole = subst P (ap (λ l. l ++ all.0) (own_at e.app history e [] refl) ∙ append_assoc (own_table_entries e.app history) (e ∷ []) all.0) all.1 in
        owed_call left call e all.0 comes (at.owes (e ∷ all.0) whole)

    answered : IsTableAnswered script history e
    answered =
        let found = legal_last script.limits (opening script.limits (length script.apps)) history e begun.legal in
        record { may = found.0; answer = found.1 }

-- The next entry may come. --

line_owed : (made : Option Call) (Next : TblAnswer → List Entry → Type 0) (Same : List Entry → Type 0) (e : Entry) → made ≡ Some e.call →
    ((answer : TblAnswer) → (es : List Entry) × Next answer es) → (es : List Entry) × TableLineEntries made Next Same (e ∷ es)
line_owed None Next Same e is next = absurd (cc is)
line_owed (Some call) Next Same e is next =
    let found = next e.answer in let same : e.call ≡ call = cc is in (found.0, (same, found.1))

owed_some : (left : Option Running) (e : Entry) → next_table_call left ≡ Some e.call → (es : List Entry) × TableOwes left (e ∷ es)
owed_some (Some r) e is = by r.lines is
  where
    by : (lines : List Line) → first_table_call r lines ≡ Some e.call → (es : List Entry) × TableTrace r.handles lines (e ∷ es)
    by [] is = let end : e.call ≡ calls.End = cc is in ([], end)
    by (line ∷ lines) is =
        line_owed (table_call_of r.handles line) (λ answer rest. TableTrace (handles_after r.handles line answer) lines rest)
        (λ rest. TableTrace r.handles lines rest) e is (λ answer. table_trace_some (handles_after r.handles line answer) lines)
owed_some None e is = absurd (cc is)

pub own_other : (app : ℕ) (p : List Entry) (e : Entry) → (e.app == app) ≡ false → own_table_entries app (p ++ e ∷ []) ≡ own_table_entries app p
own_other app p e apart =
    filter-append (λ x. x.app == app) p (e ∷ [])
    ∙ ap (λ (b : Bool). own_table_entries app p ++ (if b then e ∷ [] else [])) apart
    ∙ append-nil (own_table_entries app p)

pub next_table_calls_may_come : NextTableCallsMayCome
next_table_calls_may_come script history e left begun first last at comes answered = record {
  legal = (goes_on script.limits (length script.apps) history e begun.legal answered.may answered.answer).legal;
  each = λ app one few. by app (e.app == app) refl (begun.each app one few);
  nobody_else =
      All-append (λ (x : Entry). (1 ≤ x.app) × (x.app ≤ length script.apps)) history (e ∷ []) begun.nobody_else
      (All-cons (λ (x : Entry). (1 ≤ x.app) × (x.app ≤ length script.apps)) e [] (first, last) (All-nil (λ (x : Entry). (1 ≤ x.app) × (x.app ≤ length script.apps))));
}
  where
    Front : ℕ → List Entry → Type 0
    Front app own = (rest : List Entry) × AreAllTablesOf script app (own ++ rest)

    its : Front e.app (own_table_entries e.app (history ++ e ∷ []))
    its =
        let owed = owed_some left e comes in
        let P : List Entry → Type 0 = AreAllTablesOf script e.app in (
          owed.0,
          subst P
              (sym (ap (λ l. l ++ owed.0) (own_at e.app history e [] refl) ∙ append_assoc (own_table_entries e.app history) (e ∷ []) owed.0))
              (at.enough (e ∷ owed.0) owed.1),
        )

    by : (app : ℕ) (b : Bool) → (e.app == app) ≡ b → Front app (own_table_entries app history) → Front app (own_table_entries app (history ++ e ∷ []))
    by app true mine before = let P : ℕ → Type 0 = λ a. Front a (own_table_entries a (history ++ e ∷ [])) in subst P (eqb-true e.app app mine) its
    by app false apart before = let P : List Entry → Type 0 = Front app in subst P (sym (own_other app history e apart)) before

-- From entry to entry. --

at_unseen : (script : ScriptText) (app : ℕ) (own : List Entry) (r : Running) (line : Line) (lines : List Line) → r.lines ≡ line ∷ lines → table_call_of r.handles line ≡ None →
    IsAtTables script app own (Some r) → IsAtTables script app own (Some (behind_table r lines r.handles))
at_unseen script app own r line lines is unseen at = record {
  owes = λ es all.
      let L : List Line → Type 0 = λ l. TableTrace r.handles l es in
      let M : Option Call → Type 0 = λ made. Lines r line lines made es in
      subst M unseen (subst L is (at.owes es all));
  enough = λ es owed.
      let L : List Line → Type 0 = λ l. TableTrace r.handles l es in
      let M : Option Call → Type 0 = λ made. Lines r line lines made es in
      at.enough es (subst L (sym is) (subst M (sym unseen) owed));
}

one_more : (script : ScriptText) (app : ℕ) (own : List Entry) (e : Entry) (left after : Option Running) → IsAtTables script app own left →
    ((es : List Entry) → TableOwes left (e ∷ es) → TableOwes after es) → ((es : List Entry) → TableOwes after es → TableOwes left (e ∷ es)) →
    IsAtTables script app (own ++ e ∷ []) after
one_more script app own e left after at there back =
    let P : List Entry → Type 0 = AreAllTablesOf script app in
    record {
      owes = λ es all. there es (at.owes (e ∷ es) (subst P (append_assoc own (e ∷ []) es) all));
      enough = λ es owed. subst P (sym (append_assoc own (e ∷ []) es)) (at.enough (e ∷ es) (back es owed));
    }

at_line : (script : ScriptText) (app : ℕ) (own : List Entry) (r : Running) (line : Line) (lines : List Line) (e : Entry) → r.lines ≡ line ∷ lines → table_call_of r.handles line ≡ Some e.call →
    IsAtTables script app own (Some r) → IsAtTables script app (own ++ e ∷ []) (Some (behind_table r lines (handles_after r.handles line e.answer)))
at_line script app own r line lines e is calls at =
    one_more script app own e (Some r) (Some (behind_table r lines (handles_after r.handles line e.answer))) at there back
  where
    there : (es : List Entry) → TableTrace r.handles r.lines (e ∷ es) → TableTrace (handles_after r.handles line e.answer) lines es
    there es owed =
        let L : List Line → Type 0 = λ l. TableTrace r.handles l (e ∷ es) in
        let M : Option Call → Type 0 = λ made. Lines r line lines made (e ∷ es) in
        let found : Lines r line lines (Some e.call) (e ∷ es) = subst M calls (subst L is owed) in
        found.1

    back : (es : List Entry) → TableTrace (handles_after r.handles line e.answer) lines es → TableTrace r.handles r.lines (e ∷ es)
    back es owed =
        let L : List Line → Type 0 = λ l. TableTrace r.handles l (e ∷ es) in
        let M : Option Call → Type 0 = λ made. Lines r line lines made (e ∷ es) in
        let found : Lines r line lines (Some e.call) (e ∷ es) = (refl, owed) in
        subst L (sym is) (subst M (sym calls) found)

at_end : (script : ScriptText) (app : ℕ) (own : List Entry) (r : Running) (e : Entry) → r.lines ≡ [] → e.call ≡ calls.End →
    IsAtTables script app own (Some r) → IsAtTables script app (own ++ e ∷ []) None
at_end script app own r e is end at = one_more script app own e (Some r) None at there back
  where
    none : (es : List Entry) → IsTableEnd (e ∷ es) → es ≡ []
    none [] owed = refl
    none (f ∷ es) owed = absurd owed

    there : (es : List Entry) → TableTrace r.handles r.lines (e ∷ es) → es ≡ []
    there es owed = let L : List Line → Type 0 = λ l. TableTrace r.handles l (e ∷ es) in none es (subst L is owed)

    back : (es : List Entry) → es ≡ [] → TableTrace r.handles r.lines (e ∷ es)
    back es same =
        let L : List Line → Type 0 = λ l. TableTrace r.handles l (e ∷ es) in
        let E : List Entry → Type 0 = λ l. IsTableEnd (e ∷ l) in
        subst L (sym is) (subst E (sym same) end)

line_some_entry : (made : Option Call) (Next : TblAnswer → List Entry → Type 0) (Same : List Entry → Type 0) → ¬ Same [] → ¬ TableLineEntries made Next Same []
line_some_entry None Next Same same owed = same owed
line_some_entry (Some call) Next Same same owed = owed

some_entry : (handles : List ℕ) (lines : List Line) → ¬ TableTrace handles lines []
some_entry handles [] owed = owed
some_entry handles (line ∷ lines) owed =
    line_some_entry (table_call_of handles line) (λ answer rest. TableTrace (handles_after handles line answer) lines rest)
    (λ rest. TableTrace handles lines rest) (some_entry handles lines) owed

pub applications_go_on_at_tables : ApplicationsGoOnAtTables
applications_go_on_at_tables script app = record {
  first = λ registers written. record { owes = λ es all. all; enough = λ es owed. owed };
  unseen = at_unseen script app;
  line = at_line script app;
  end = at_end script app;
  whole = λ own at. let P : List Entry → Type 0 = AreAllTablesOf script app in subst P (append-nil own) (at.enough [] refl);
  missing = λ own r at all.
      some_entry r.handles r.lines (at.owes [] (let P : List Entry → Type 0 = AreAllTablesOf script app in subst P (sym (append-nil own)) all));
}
