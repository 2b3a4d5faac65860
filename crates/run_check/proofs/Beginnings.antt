-- Histories that are under way: their beginnings are, and the empty one is.
use Rattle.std.proofs.Common.{ℕ, ◌≤◌, ◌==◌, List, [], ◌∷◌, ◌++◌, length, All, Option, Some, None, refl, ap, ◌∙◌, subst, append_assoc}
use Rattle.std.proofs.lemmas.List.Elements.{All-nil, All-cons, All-head, All-tail, filter-append}
use Rattle.fsw_base.specs.Limits.{Limits}
use Rattle.bus_words.specs.declared.calls.BusAnswer.{BusAnswer}
use Rattle.bus_words.specs.declared.calls.BusAnswer.TheVariants as answers
use Rattle.bus_words.specs.declared.history.Call.{Call}
use Rattle.bus_words.specs.declared.history.Call.TheVariants as calls
use Rattle.bus_words.specs.declared.history.Entry.{Entry}
use Rattle.bus_words.specs.Bus.{State, opening}
use Rattle.bus_words.specs.Machine.{LegalFrom, step}
use Rattle.tbl_words.specs.declared.calls.TblAnswer.{TblAnswer}
use Rattle.tbl_words.specs.declared.calls.TblAnswer.TheVariants.{Done}
use Rattle.tbl_words.specs.declared.history.Call.{Call as TableCall}
use Rattle.tbl_words.specs.declared.history.Call.TheVariants as table_calls
use Rattle.tbl_words.specs.declared.history.Entry.{Entry as TableEntry}
use Rattle.tbl_words.specs.Machine.{LegalFrom as AreLegalFrom, step as table_step}
use Rattle.tbl_words.specs.Tables.{State as Tables, opening as no_tables}
use Rattle.script_lines.specs.declared.line.Line.{Line}
use Rattle.app_script.specs.Script.{ScriptText, app_at}
use Rattle.script_runs.specs.TableTrace.{TableLineEntries, TableTrace, first_handles, handles_after, own_table_entries, table_call_of}
use Rattle.script_runs.specs.Trace.{AfterAnswer, LineEntries, Registers, Trace, call_of, first_registers, own_entries, registers_after}
use Rattle.script_runs.specs.Written.{Written, first_written, written_after, written_by}
use Rattle.run_check.specs.Begun.{AreAllOf, AreAllTablesOf, AreBegunTables, IsBegun}

-- Beginnings. --

all_front : {E : Type 0} (P : E → Type 0) (p r : List E) → All P (p ++ r) → All P p
all_front P [] r all = All-nil P
all_front P (x ∷ p) r all = All-cons P x p (All-head P x (p ++ r) all) (all_front P p r (All-tail P x (p ++ r) all))

legal_front : (limits : Limits) (history : List Entry) (s : State) (p r : List Entry) → LegalFrom limits history s (p ++ r) → LegalFrom limits history s p
legal_front limits history s [] r legal = tt
legal_front limits history s (x ∷ p) r legal =
    (legal.0, legal.1, legal.2, legal.3, legal_front limits (history ++ x ∷ []) ((step limits history s x.app x.call).1) p r legal.4)

pub begun_front : (script : ScriptText) (p r : List Entry) → IsBegun script (p ++ r) → IsBegun script p
begun_front script p r begun = record {
  legal = legal_front script.limits [] (opening script.limits (length script.apps)) p r begun.legal;
  each = λ app first last.
      let all = begun.each app first last in
      let P : List Entry → Type 0 = AreAllOf script app in (
        own_entries app r ++ all.0,
        subst P (ap (λ l. l ++ all.0) (filter-append (λ e. e.app == app) p r) ∙ append_assoc (own_entries app p) (own_entries app r) all.0) all.1,
      );
  nobody_else = all_front (λ (e : Entry). (1 ≤ e.app) × (e.app ≤ length script.apps)) p r begun.nobody_else;
}

legal_tables_front : (limits : Limits) (s : Tables) (p r : List TableEntry) → AreLegalFrom limits s (p ++ r) → AreLegalFrom limits s p
legal_tables_front limits s [] r legal = tt
legal_tables_front limits s (x ∷ p) r legal = (legal.0, legal.1, legal_tables_front limits ((table_step limits s x.app x.call).1) p r legal.2)

pub begun_tables_front : (script : ScriptText) (p r : List TableEntry) → AreBegunTables script (p ++ r) → AreBegunTables script p
begun_tables_front script p r begun = record {
  legal = legal_tables_front script.limits (no_tables script.limits (length script.apps)) p r begun.legal;
  each = λ app first last.
      let all = begun.each app first last in
      let P : List TableEntry → Type 0 = AreAllTablesOf script app in (
        own_table_entries app r ++ all.0,
        subst P (ap (λ l. l ++ all.0) (filter-append (λ e. e.app == app) p r) ∙ append_assoc (own_table_entries app p) (own_table_entries app r) all.0) all.1,
      );
  nobody_else = all_front (λ (e : TableEntry). (1 ≤ e.app) × (e.app ≤ length script.apps)) p r begun.nobody_else;
}

-- Nothing yet. --

-- if each call is done, some entries are all that lines make
after_done : (call : Call) (Rest : List Entry → Type 0) (es : List Entry) → Rest es → AfterAnswer call answers.Done Rest es
after_done (calls.Pend pipe) Rest es rest = rest
after_done call Rest es rest = rest

line_some : (made : Option Call) (Next : Call → BusAnswer → List Entry → Type 0) (Same : List Entry → Type 0) →
    ((call : Call) (answer : BusAnswer) → (es : List Entry) × Next call answer es) → (es : List Entry) × Same es → (es : List Entry) × LineEntries made Next Same es
line_some None Next Same next same = same
line_some (Some call) Next Same next same =
    let others = next call answers.Done in
    (record { app = 1; call = call; answer = answers.Done } ∷ others.0, (refl, after_done call (Next call answers.Done) others.0 others.1))

pub trace_some : (registers : Registers) (written : Written) (lines : List Line) → (es : List Entry) × Trace registers written lines es
trace_some registers written [] = (record { app = 1; call = calls.End; answer = answers.Done } ∷ [], refl)
trace_some registers written (line ∷ lines) =
    line_some (call_of registers written line)
    (λ call answer rest. Trace (registers_after registers line answer) (written_after written call answer) lines rest)
    (λ rest. Trace registers (written_by written registers.buffers line) lines rest)
    (λ call answer. trace_some (registers_after registers line answer) (written_after written call answer) lines)
    (trace_some registers (written_by written registers.buffers line) lines)

pub begun_nothing : (script : ScriptText) → IsBegun script []
begun_nothing script = record {
  legal = tt;
  each = λ app first last. trace_some first_registers first_written (app_at script app).lines;
  nobody_else = All-nil (λ (e : Entry). (1 ≤ e.app) × (e.app ≤ length script.apps));
}

table_line_some : (made : Option TableCall) (Next : TblAnswer → List TableEntry → Type 0) (Same : List TableEntry → Type 0) →
    ((answer : TblAnswer) → (es : List TableEntry) × Next answer es) → (es : List TableEntry) × Same es → (es : List TableEntry) × TableLineEntries made Next Same es
table_line_some None Next Same next same = same
table_line_some (Some call) Next Same next same =
    let others = next Done in (record { app = 1; call = call; answer = Done } ∷ others.0, (refl, others.1))

pub table_trace_some : (handles : List ℕ) (lines : List Line) → (es : List TableEntry) × TableTrace handles lines es
table_trace_some handles [] = (record { app = 1; call = table_calls.End; answer = Done } ∷ [], refl)
table_trace_some handles (line ∷ lines) =
    table_line_some (table_call_of handles line) (λ answer rest. TableTrace (handles_after handles line answer) lines rest)
    (λ rest. TableTrace handles lines rest) (λ answer. table_trace_some (handles_after handles line answer) lines) (table_trace_some handles lines)

pub begun_no_tables : (script : ScriptText) → AreBegunTables script []
begun_no_tables script = record {
  legal = tt;
  each = λ app first last. table_trace_some first_handles (app_at script app).lines;
  nobody_else = All-nil (λ (e : TableEntry). (1 ≤ e.app) × (e.app ≤ length script.apps));
}
