-- Histories that merge a script's calls end each of its applications, so that nothing is held behind them.
use Rattle.std.proofs.Common.{◌≡◌, ◌⊎◌, inl, inr, ⊎_elim, ℕ, zero, suc, ◌+◌, ◌*◌, ◌-◌, ◌<◌, ◌≤◌, ◌==◌, Bool, true, false, true≢false, cond, eqb-true, List, [], ◌∷◌, ◌++◌, length, length-append, slice_index_or, slice_set, Option, Some, None, refl, ap, sym, ◌∙◌, subst, arith}
use Rattle.std.specs.Prelude.{slice_index}
use native.Mathlib.Nat.{mul-le-mul}
use Rattle.fsw_base.specs.Limits.{Limits}
use Rattle.fsw_base.specs.PoolAccounts.{cost_of, overhead}
use Rattle.bus_words.specs.declared.calls.BusAnswer.{BusAnswer}
use Rattle.bus_words.specs.declared.calls.BusAnswer.TheVariants.{Done, Number, Name, Sent, Got, TimeOut, Pending, Pool, Bus, Sb, Es, Evs}
use Rattle.bus_words.specs.declared.history.Call.{Call}
use Rattle.bus_words.specs.declared.history.Call.TheVariants as calls
use Rattle.bus_words.specs.declared.history.Entry.{Entry}
use Rattle.bus_words.specs.Bus.{State, Ended, opening, standing_of, has_ended}
use Rattle.bus_words.specs.Held.{account_of, bytes_of, numbers_to}
use Rattle.bus_words.specs.Numbers.{numbers_in}
use Rattle.bus_words.specs.Machine.{IsLegal, LegalFrom, state_after, state_from, step}
use Rattle.bus_words.proofs.Balance.{IsAccounted-after}
use Rattle.bus_words.proofs.HeldBlocks.{holds_nothing}
use Rattle.bus_words.proofs.Isolation.{stands_alone}
use Rattle.bus_words.proofs.Numbers.{numbers_in_order}
use Rattle.bus_words.proofs.LegalSteps.{standing-ended, standing-step}
use Rattle.bus_words.proofs.Owners.{AreOwned-after, AreHanded-after, none_left, none_handed, all_ended}
use Rattle.bus_words.proofs.Steps.{length-standings}
use Rattle.tbl_words.specs.declared.calls.TblAnswer.{TblAnswer}
use Rattle.tbl_words.specs.declared.history.Call.{Call as TableCall}
use Rattle.tbl_words.specs.declared.history.Call.TheVariants as table_calls
use Rattle.tbl_words.specs.declared.history.Entry.{Entry as TableEntry}
use Rattle.tbl_words.specs.Machine.{state_after as tables_after, state_from as tables_from, step as table_step}
use Rattle.tbl_words.specs.Tables.{State as Tables, has_ended as has_ended_at_tables, opening as no_tables}
use Rattle.tbl_words.proofs.Ends.{is_closed, ended-step, ended_by, ends_leave_nothing}
use Rattle.tbl_words.proofs.Orders.{tables_have_handles}
use Rattle.script_lines.specs.declared.line.Line.{Line}
use Rattle.app_script.specs.Script.{ScriptText, app_at}
use Rattle.script_runs.specs.Histories.{Histories}
use Rattle.script_runs.specs.Runs.{IsRunOf, Guarantees, StaysInPool}
use Rattle.script_runs.specs.TableTrace.{TableLineEntries, TableTrace, IsTableEnd, first_handles, handles_after, own_table_entries, table_call_of}
use Rattle.script_runs.specs.Trace.{AfterAnswer, IsEnd, LineEntries, Registers, Trace, call_of, first_registers, own_entries, registers_after}
use Rattle.script_runs.specs.Written.{Written, first_written, written_after, written_by}
use Rattle.script_runs.proofs.OneTurn.{is_ended}
use Rattle.script_runs.proofs.HeldTables.{tables_stay}
use Rattle.script_runs.proofs.KeptMessages.{messages_stay}
use Rattle.script_runs.proofs.ScriptHistories.{caller-live}
use Rattle.script_runs.proofs.TableHistories.{closed_at}

-- The end among entries. --

-- one of these entries is an end
abbrev pub HasEnd : List Entry → Type 0
HasEnd [] = ⊥
HasEnd (e ∷ es) = (e.call ≡ calls.End) ⊎ HasEnd es

abbrev pub HasTableEnd : List TableEntry → Type 0
HasTableEnd [] = ⊥
HasTableEnd (e ∷ es) = (e.call ≡ table_calls.End) ⊎ HasTableEnd es

-- what follows a line's entry has one, a look before it or not
behind : (call : Call) (answer : BusAnswer) (Rest : List Entry → Type 0) → ((es : List Entry) → Rest es → HasEnd es) → (es : List Entry) → AfterAnswer call answer Rest es → HasEnd es
behind (calls.Create depth name) answer Rest on es after = on es after
behind (calls.Delete pipe) answer Rest on es after = on es after
behind (calls.SetOpts pipe bits) answer Rest on es after = on es after
behind (calls.GetOpts pipe) answer Rest on es after = on es after
behind (calls.Find name) answer Rest on es after = on es after
behind (calls.PipeName pipe) answer Rest on es after = on es after
behind (calls.Subscribe id pipe limit scope) answer Rest on es after = on es after
behind (calls.Unsubscribe id pipe) answer Rest on es after = on es after
behind (calls.Transmit bytes inc) answer Rest on es after = on es after
behind (calls.Receive pipe) answer Rest on es after = on es after
behind (calls.Pend pipe) Done Rest on es after = on es after
behind (calls.Pend pipe) (Number n) Rest on es after = on es after
behind (calls.Pend pipe) (Name name) Rest on es after = on es after
behind (calls.Pend pipe) (Sent number reached) Rest on es after = on es after
behind (calls.Pend pipe) (Got number) Rest on es after = on es after
behind (calls.Pend pipe) TimeOut Rest on es after = on es after
behind (calls.Pend pipe) Pending Rest on [] after = absurd after
behind (calls.Pend pipe) Pending Rest on (e ∷ es) after = inr (on es after.1)
behind (calls.Pend pipe) (Pool figures) Rest on es after = on es after
behind (calls.Pend pipe) (Bus figures) Rest on es after = on es after
behind (calls.Pend pipe) (Sb status) Rest on es after = on es after
behind (calls.Pend pipe) (Es status) Rest on es after = on es after
behind (calls.Pend pipe) (Evs status) Rest on es after = on es after
behind (calls.Look pipe) answer Rest on es after = on es after
behind (calls.Allocate size) answer Rest on es after = on es after
behind (calls.TransmitBuffer buf bytes inc) answer Rest on es after = on es after
behind (calls.Release buf) answer Rest on es after = on es after
behind (calls.PoolCreate bytes) answer Rest on es after = on es after
behind (calls.PoolGet pool size) answer Rest on es after = on es after
behind (calls.PoolPut pool grant) answer Rest on es after = on es after
behind (calls.PoolFigures pool) answer Rest on es after = on es after
behind (calls.Register filters) answer Rest on es after = on es after
behind (calls.SendEvent id kind text) answer Rest on es after = on es after
behind (calls.ResetFilter id) answer Rest on es after = on es after
behind (calls.LogMode mode) answer Rest on es after = on es after
behind calls.ClearLog answer Rest on es after = on es after
behind calls.Housekeeping answer Rest on es after = on es after
behind calls.Figures answer Rest on es after = on es after
behind calls.End answer Rest on es after = on es after

at-end : (es : List Entry) → IsEnd es → HasEnd es
at-end [] is = absurd is
at-end (e ∷ []) is = inl is
at-end (e ∷ f ∷ es) is = absurd is

line-ends : (made : Option Call) (Next : Call → BusAnswer → List Entry → Type 0) (Same : List Entry → Type 0) →
    ((call : Call) (answer : BusAnswer) (es : List Entry) → Next call answer es → HasEnd es) → ((es : List Entry) → Same es → HasEnd es) →
    (es : List Entry) → LineEntries made Next Same es → HasEnd es
line-ends None Next Same next same es entries = same es entries
line-ends (Some call) Next Same next same [] entries = absurd entries
line-ends (Some call) Next Same next same (e ∷ es) entries = inr (behind call e.answer (Next call e.answer) (next call e.answer) es entries.1)

-- The entries of lines have one, behind all others.
pub trace-ends : (registers : Registers) (written : Written) (lines : List Line) (es : List Entry) → Trace registers written lines es → HasEnd es
trace-ends registers written [] es trace = at-end es trace
trace-ends registers written (line ∷ lines) es trace =
    line-ends (call_of registers written line)
    (λ call answer rest. Trace (registers_after registers line answer) (written_after written call answer) lines rest)
    (λ rest. Trace registers (written_by written registers.buffers line) lines rest)
    (λ call answer rest. trace-ends (registers_after registers line answer) (written_after written call answer) lines rest)
    (λ rest. trace-ends registers (written_by written registers.buffers line) lines rest) es trace

at-table_end : (es : List TableEntry) → IsTableEnd es → HasTableEnd es
at-table_end [] is = absurd is
at-table_end (e ∷ []) is = inl is
at-table_end (e ∷ f ∷ es) is = absurd is

table_line-ends : (made : Option TableCall) (Next : TblAnswer → List TableEntry → Type 0) (Same : List TableEntry → Type 0) →
    ((answer : TblAnswer) (es : List TableEntry) → Next answer es → HasTableEnd es) → ((es : List TableEntry) → Same es → HasTableEnd es) →
    (es : List TableEntry) → TableLineEntries made Next Same es → HasTableEnd es
table_line-ends None Next Same next same es entries = same es entries
table_line-ends (Some call) Next Same next same [] entries = absurd entries
table_line-ends (Some call) Next Same next same (e ∷ es) entries = inr (next e.answer es entries.1)

pub table_trace-ends : (handles : List ℕ) (lines : List Line) (es : List TableEntry) → TableTrace handles lines es → HasTableEnd es
table_trace-ends handles [] es trace = at-table_end es trace
table_trace-ends handles (line ∷ lines) es trace =
    table_line-ends (table_call_of handles line) (λ answer rest. TableTrace (handles_after handles line answer) lines rest) (λ rest. TableTrace handles lines rest)
    (λ answer rest. table_trace-ends (handles_after handles line answer) lines rest) (λ rest. table_trace-ends handles lines rest) es trace

-- Ended on the bus. --

-- who has ended stays so: a call of others leaves the standing, and one of one's own isn't made
stays-ended : (limits : Limits) (history : List Entry) (s : State) (app : ℕ) (es : List Entry) → LegalFrom limits history s es → standing_of s app ≡ Ended →
    standing_of (state_from limits history s es) app ≡ Ended
stays-ended limits history s app [] legal over = over
stays-ended limits history s app (e ∷ es) legal over =
    let after = (step limits history s e.app e.call).1 in
    stays-ended limits (history ++ e ∷ []) after app es legal.4
    (elim (app == e.app) as (λ b. (app == e.app) ≡ b → standing_of after app ≡ Ended) [
      | true ↦ λ same.
          let mine : standing_of s e.app ≡ Ended = ap (standing_of s) (sym (eqb-true app e.app same)) ∙ over in
          absurd (true≢false (sym (ap is_ended mine) ∙ caller-live (standing_of s e.app) e.call legal.0))
      | false ↦ λ differ. standing-step limits history s e.app app e.call legal.0 differ ∙ over
    ] refl)

-- the call that ends
end-step : (limits : Limits) (history : List Entry) (s : State) (app who : ℕ) (call : Call) → who ≡ app → call ≡ calls.End →
    standing_of ((step limits history s who call).1) app ≡ Ended
end-step limits history s app who call same is =
    ap (λ c. standing_of ((step limits history s who c).1) app) is ∙ ap (λ k. standing_of ((step limits history s k calls.End).1) app) same ∙ standing-ended s app

ended-from : (limits : Limits) (history : List Entry) (s : State) (app : ℕ) (es : List Entry) → LegalFrom limits history s es → HasEnd (own_entries app es) →
    standing_of (state_from limits history s es) app ≡ Ended
ended-from limits history s app [] legal some = absurd some
ended-from limits history s app (e ∷ es) legal some =
    let after = (step limits history s e.app e.call).1 in
    let here = λ (b : Bool). cond {A = List Entry} b (e ∷ own_entries app es) (own_entries app es) in
    elim (e.app == app) as (λ b. (e.app == app) ≡ b → standing_of (state_from limits (history ++ e ∷ []) after es) app ≡ Ended) [
      | true ↦ λ same.
          ⊎_elim (λ is. stays-ended limits (history ++ e ∷ []) after app es legal.4 (end-step limits history s app e.app e.call (eqb-true e.app app same) is))
          (λ later. ended-from limits (history ++ e ∷ []) after app es legal.4 later) (subst HasEnd (ap here same) some)
      | false ↦ λ differ. ended-from limits (history ++ e ∷ []) after app es legal.4 (subst HasEnd (ap here differ) some)
    ] refl

pub ended-after : (limits : Limits) (apps app : ℕ) (history : List Entry) → IsLegal limits apps history → HasEnd (own_entries app history) →
    has_ended (standing_of (state_after limits apps history) app) ≡ true
ended-after limits apps app history legal some = ap has_ended (ended-from limits [] (opening limits apps) app history legal some)

-- Ended at the tables. --

stay-true : (xs : List Bool) (i j : ℕ) → slice_index_or xs j true ≡ true → slice_index_or (slice_set xs i true) j true ≡ true
stay-true [] i j over = over
stay-true (x ∷ xs) zero zero over = refl
stay-true (x ∷ xs) zero (suc j) over = over
stay-true (x ∷ xs) (suc i) zero over = over
stay-true (x ∷ xs) (suc i) (suc j) over = stay-true xs i j over

set-true : (xs : List Bool) (i : ℕ) → slice_index_or (slice_set xs i true) i true ≡ true
set-true [] i = refl
set-true (x ∷ xs) zero = refl
set-true (x ∷ xs) (suc i) = set-true xs i

stays-closed : (who app : ℕ) (call : TableCall) (ended : List Bool) → is_closed ended app ≡ true → is_closed (ended_by who call ended) app ≡ true
stays-closed who zero table_calls.End ended over = refl
stays-closed who (suc app) table_calls.End ended over =
    closed_at (slice_set ended (who - 1) true) app ∙ stay-true ended (who - 1) app (sym (closed_at ended app) ∙ over)
stays-closed who app call ended over = over

stays-ended_at_tables : (limits : Limits) (s : Tables) (app : ℕ) (es : List TableEntry) → has_ended_at_tables s app ≡ true →
    has_ended_at_tables (tables_from limits s es) app ≡ true
stays-ended_at_tables limits s app [] over = over
stays-ended_at_tables limits s app (e ∷ es) over =
    stays-ended_at_tables limits ((table_step limits s e.app e.call).1) app es
    (ap (λ ended. is_closed ended app) (ended-step limits s e.app e.call) ∙ stays-closed e.app app e.call s.ended over)

end-closes : (app : ℕ) (ended : List Bool) → is_closed (slice_set ended (app - 1) true) app ≡ true
end-closes zero ended = refl
end-closes (suc app) ended = closed_at (slice_set ended (suc app - 1) true) app ∙ ap (λ n. slice_index_or (slice_set ended n true) app true) (minus app) ∙ set-true ended app
  where
    minus : (app : ℕ) → suc app - 1 ≡ app
    minus app = omega arith

table_end-step : (limits : Limits) (s : Tables) (app who : ℕ) (call : TableCall) → who ≡ app → call ≡ table_calls.End →
    has_ended_at_tables ((table_step limits s who call).1) app ≡ true
table_end-step limits s app who call same is =
    ap (λ c. has_ended_at_tables ((table_step limits s who c).1) app) is ∙ ap (λ k. has_ended_at_tables ((table_step limits s k table_calls.End).1) app) same
    ∙ ap (λ ended. is_closed ended app) (ended-step limits s app table_calls.End) ∙ end-closes app s.ended

ended-from_at_tables : (limits : Limits) (s : Tables) (app : ℕ) (es : List TableEntry) → HasTableEnd (own_table_entries app es) →
    has_ended_at_tables (tables_from limits s es) app ≡ true
ended-from_at_tables limits s app [] some = absurd some
ended-from_at_tables limits s app (e ∷ es) some =
    let after = (table_step limits s e.app e.call).1 in
    let here = λ (b : Bool). cond {A = List TableEntry} b (e ∷ own_table_entries app es) (own_table_entries app es) in
    elim (e.app == app) as (λ b. (e.app == app) ≡ b → has_ended_at_tables (tables_from limits after es) app ≡ true) [
      | true ↦ λ same.
          ⊎_elim (λ is. stays-ended_at_tables limits after app es (table_end-step limits s app e.app e.call (eqb-true e.app app same) is))
          (λ later. ended-from_at_tables limits after app es later) (subst HasTableEnd (ap here same) some)
      | false ↦ λ differ. ended-from_at_tables limits after app es (subst HasTableEnd (ap here differ) some)
    ] refl

pub ended-after_at_tables : (limits : Limits) (apps app : ℕ) (history : List TableEntry) → HasTableEnd (own_table_entries app history) →
    has_ended_at_tables (tables_after limits apps history) app ≡ true
ended-after_at_tables limits apps app history some = ended-from_at_tables limits (no_tables limits apps) app history some

-- Runs. --

-- blocks that were made are paid for, so those that are out are within the pool
out-paid : (out made sizes : List ℕ) → ((class : ℕ) → class < length sizes → slice_index out class ≤ slice_index made class) → bytes_of out sizes ≤ cost_of made sizes
out-paid [] made sizes most = omega arith
out-paid (o ∷ out) made [] most = omega arith
out-paid (o ∷ out) [] (size ∷ sizes) most = omega (arith, none o size (most 0 (omega arith)), out-paid out [] sizes (λ class past. most (suc class) (omega (arith, past))))
  where
    none : (o size : ℕ) → o ≤ 0 → o * size ≡ 0
    none zero size least = omega arith
    none (suc o) size least = absurd (omega (arith, least))
out-paid (o ∷ out) (m ∷ made) (size ∷ sizes) most =
    omega (arith, mul-le-mul (most 0 (omega arith)) wider, out-paid out made sizes (λ class past. most (suc class) (omega (arith, past))))
  where
    wider : size ≤ size + overhead
    wider = omega arith

-- after any entries the pool keeps within what it has
stays_in_pool : (script : ScriptText) (history : List Entry) → StaysInPool script history
stays_in_pool script history =
    let s = state_after script.limits (length script.apps) history in
    let accounted = IsAccounted-after script.limits (length script.apps) history in
    record {
      blocks = accounted.most;
      bytes = omega (arith, accounted.paid, out-paid (account_of script.limits s).out s.made script.limits.sizes accounted.most);
    }

length-numbers_to : (n : ℕ) → length (numbers_to n) ≡ n
length-numbers_to zero = refl
length-numbers_to (suc n) = omega (arith, length-append (numbers_to n) (suc n ∷ []), length-numbers_to n)

-- send numbers are as many as are given
numbers_given_all : (limits : Limits) (apps : ℕ) (history : List Entry) → IsLegal limits apps history → numbers_in history ≡ numbers_to (length (numbers_in history))
numbers_given_all limits apps history legal =
    let order = numbers_in_order limits apps history legal in
    order ∙ ap numbers_to (sym (ap length order ∙ length-numbers_to (state_after limits apps history).numbers_given))

-- What runs guarantee, by the laws of both machines, at applications that have all ended.
pub run-guarantees : (script : ScriptText) (histories : Histories) → IsRunOf script histories → Guarantees script histories
run-guarantees script histories run =
    let apps = length script.apps in
    let s = state_after script.limits apps histories.bus in
    let over : (app : ℕ) → 1 ≤ app → app ≤ apps → has_ended (standing_of s app) ≡ true =
    λ app first last. ended-after script.limits apps app histories.bus run.legal
    (trace-ends first_registers first_written (app_at script app).lines (own_entries app histories.bus) (run.merges.each app first last)) in
    let all = all_ended s apps (length-standings script.limits apps histories.bus) over in
    record {
      alone = λ pipe. stands_alone script.limits apps pipe histories.bus run.legal;
      numbers = numbers_given_all script.limits apps histories.bus run.legal;
      pool = λ front rest is. stays_in_pool script front;
      messages_stay = messages_stay script.limits apps histories.bus run.legal;
      tables_stay = tables_stay script.limits apps histories.tables run.legal_tables;
      nothing = holds_nothing script.limits s
          (none_left s s.pipes (AreOwned-after script.limits apps histories.bus run.legal) all)
          (none_handed s (AreHanded-after script.limits apps histories.bus run.legal) all);
      no_tables = ends_leave_nothing script.limits apps histories.tables run.legal_tables
          (λ app first last. ended-after_at_tables script.limits apps app histories.tables
          (table_trace-ends first_handles (app_at script app).lines (own_table_entries app histories.tables) (run.merges.each_at_tables app first last)))
          (tables_have_handles script.limits apps histories.tables);
    }
