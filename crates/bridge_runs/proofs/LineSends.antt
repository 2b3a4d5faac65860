-- The applications of side 1 send no more messages than their lines do, and the bridge sends none there.
use Rattle.std.proofs.Common.{◌≡◌, ℕ, ◌+◌, ◌≤◌, ◌==◌, Bool, true, false, cond, List, [], ◌∷◌, ◌++◌, length, map, Option, Some, None, refl, ap, ◌∙◌, arith}
use Rattle.std.specs.Prelude.{All}
use Rattle.fsw_base.specs.declared.config.Scope.TheVariants.{Global}
use Rattle.std.proofs.lemmas.List.Elements.{filter-append}
use Rattle.std.proofs.lemmas.List.Sums.{sum_by-append, sum_by-cons}
use Rattle.bus_words.specs.declared.calls.BusAnswer.{BusAnswer}
use Rattle.bus_words.specs.declared.calls.BusAnswer.TheVariants as answers
use Rattle.bus_words.specs.declared.history.Call.{Call}
use Rattle.bus_words.specs.declared.history.Call.TheVariants as calls
use Rattle.bus_words.specs.declared.history.Entry.{Entry}
use Rattle.bus_words.specs.Runs.{callers}
use Rattle.script_lines.specs.declared.line.Line.{Line}
use Rattle.script_lines.specs.declared.line.Line.TheVariants as lines
use Rattle.script_settings.specs.declared.account.Account.{Account}
use Rattle.script_settings.specs.Accounts.{with_line, no_calls}
use Rattle.app_script.specs.Script.{Application, app_at}
use Rattle.script_runs.specs.LineCalls.{line_call_of}
use Rattle.script_runs.specs.Trace.{AfterAnswer, LineEntries, Registers, Trace, call_of, first_registers, own_entries, registers_after}
use Rattle.script_runs.specs.Written.{Written, first_written, written_after, written_by}
use Rattle.bridge_plan.specs.declared.routes.Route.{Route}
use Rattle.bridge_plan.specs.Plan.{PlanText, bridge_of}
use Rattle.bridge_plan.specs.Sends.{sent_by, sent_from, sends_of}
use Rattle.bridge_runs.specs.Bridge.{BridgesFrom, Waits, WaitsAndEnds, first_calls, is_pending}
use Rattle.bridge_runs.specs.Lefts.{is_send, sends_in}
use Rattle.bridge_runs.proofs.Weights.{all_within, most_of, weigh}

abbrev one_send : Call → ℕ
one_send call = cond (is_send call) 1 0

pub sends-cons : (e : Entry) (es : List Entry) → sends_in (e ∷ es) ≡ one_send e.call + sends_in es
sends-cons e es = sum_by-cons (λ (x : Entry). cond (is_send x.call) 1 0) e es

sends-append : (xs ys : List Entry) → sends_in (xs ++ ys) ≡ sends_in xs + sends_in ys
sends-append xs ys = sum_by-append (λ (x : Entry). cond (is_send x.call) 1 0) xs ys

-- ---- the lines of an application

abbrev call_sends : Option Call → ℕ
call_sends None = 0
call_sends (Some call) = one_send call

line_sends : (registers : Registers) (written : Written) (account : Account) (line : Line) → call_sends (call_of registers written line) ≤ (sent_by account line).lines
unfolding call_of line_call_of sent_by
line_sends registers written account (lines.Send id size fill inc) = omega arith
line_sends registers written account (lines.SendRaw bytes inc) = omega arith
line_sends registers written account (lines.TransmitBuffer buf inc) = omega arith
line_sends registers written account lines.Housekeeping = omega arith
line_sends registers written account line = omega arith

after_answer : (call : Call) (answer : BusAnswer) (Rest : List Entry → Type 0) (n : ℕ) → ((es : List Entry) → Rest es → sends_in es ≤ n) → (es : List Entry) → AfterAnswer call answer Rest es → sends_in es ≤ n
after_answer (calls.Pend pipe) answers.Pending Rest n on [] after = absurd after
after_answer (calls.Pend pipe) answers.Pending Rest n on (e ∷ es) after = omega (arith, sends-cons e es, ap one_send after.0, on es after.1)
after_answer call answer Rest n on es after = on es after

line_entries : (call : Option Call) (Next : Call → BusAnswer → List Entry → Type 0) (Same : List Entry → Type 0) (n : ℕ) → ((c : Call) (answer : BusAnswer) (es : List Entry) → Next c answer es → sends_in es ≤ n) → ((es : List Entry) → Same es → sends_in es ≤ n)
    → (es : List Entry) → LineEntries call Next Same es → sends_in es ≤ call_sends call + n
line_entries None Next Same n next same es there = omega (arith, same es there)
line_entries (Some c) Next Same n next same [] there = absurd there
line_entries (Some c) Next Same n next same (e ∷ es) there =
    omega (arith, sends-cons e es, ap one_send there.0, after_answer c e.answer (Next c e.answer) n (next c e.answer) es there.1)

pub trace_sends : (registers : Registers) (written : Written) (account : Account) (lines : List Line) (es : List Entry) → Trace registers written lines es → sends_in es ≤ (sent_from account lines).lines
trace_sends registers written account [] [] ends = absurd ends
trace_sends registers written account [] (e ∷ []) ends = omega (arith, sends-cons e [], ap one_send ends)
trace_sends registers written account [] (e ∷ f ∷ es) ends = absurd ends
trace_sends registers written account (line ∷ lines) es trace =
    let rest = (sent_from (with_line account line) lines).lines in
    omega (
      arith,
      line_sends registers written account line,
      line_entries (call_of registers written line)
          (λ call answer rest. Trace (registers_after registers line answer) (written_after written call answer) lines rest)
          (λ rest. Trace registers (written_by written registers.buffers line) lines rest) rest
          (λ call answer es there. trace_sends (registers_after registers line answer) (written_after written call answer) (with_line account line) lines es there)
          (λ es there. trace_sends registers (written_by written registers.buffers line) (with_line account line) lines es there) es trace,
    )

-- ---- the bridge

own_with : (b : Bool) (n : ℕ) (e : Entry) (es : List Entry) → (e.app == n) ≡ b → sends_in (own_entries n (e ∷ es)) ≡ cond b (one_send e.call) 0 + sends_in (own_entries n es)
own_with true n e es same = ap (λ b. sends_in (cond b (e ∷ own_entries n es) (own_entries n es))) same ∙ sends-cons e (own_entries n es)
own_with false n e es same =
    let kept : sends_in (own_entries n (e ∷ es)) ≡ sends_in (own_entries n es) = ap (λ b. sends_in (cond b (e ∷ own_entries n es) (own_entries n es))) same in
    omega (arith, kept)

own_fewer : (app : ℕ) (es : List Entry) → sends_in (own_entries app es) ≤ sends_in es
own_fewer app [] = omega arith
own_fewer app (e ∷ es) =
    elim (e.app == app) as (λ b. (e.app == app) ≡ b → sends_in (own_entries app (e ∷ es)) ≤ sends_in (e ∷ es)) [
      | true ↦ λ same. omega (arith, own_with true app e es same, sends-cons e es, own_fewer app es)
      | false ↦ λ same. omega (arith, own_with false app e es same, sends-cons e es, own_fewer app es)
    ] refl

abbrev calls_send : List Call → ℕ
calls_send [] = 0
calls_send (call ∷ calls) = one_send call + calls_send calls

called : (es : List Entry) → sends_in es ≡ calls_send (map (λ (x : ℕ × Call). x.1) (callers es))
called [] = refl
called (e ∷ es) = omega (arith, sends-cons e es, called es)

routes_send : (app p : ℕ) (routes : List Route) → calls_send (map (λ (x : ℕ × Call). x.1) (map (λ (call : Call). (app, call)) (map (λ (route : Route). calls.Subscribe route.id p route.limit Global) routes))) ≡ 0
routes_send app p [] = refl
routes_send app p (route ∷ routes) = omega (arith, routes_send app p routes)

waits_send : (p : ℕ) (b : Bool) (es : List Entry) → Waits p b es → sends_in es ≡ 0
waits_send p false [] waits = refl
waits_send p true [] waits = absurd waits
waits_send p false (e ∷ es) waits = omega (arith, sends-cons e es, ap one_send waits.0, waits_send p (is_pending e.answer) es waits.1)
waits_send p true (e ∷ es) waits = omega (arith, sends-cons e es, ap one_send waits.0, waits_send p false es waits.1)

ends_send : (p : ℕ) (es : List Entry) → WaitsAndEnds p es → sends_in es ≡ 0
ends_send p es waits =
    let front = waits_send p false (waits.before ++ waits.last ∷ []) waits.waits in
    omega (arith, ap sends_in waits.all, sends-append waits.before (waits.last ∷ waits.end ∷ []), sends-append waits.before (waits.last ∷ []), sends-cons waits.last (waits.end ∷ []), sends-cons waits.last [], sends-cons waits.end [], ap one_send waits.ends, front)

pub bridge_sends : (plan : PlanText) (p : ℕ) (history : List Entry) → BridgesFrom plan p history → sends_in (own_entries (bridge_of plan.one) history) ≡ 0
bridge_sends plan p history from =
    let app = bridge_of plan.one in
    let parts = ap (own_entries app) from.begins.whole ∙ filter-append (λ (e : Entry). e.app == app) from.first from.rest in
    let first : sends_in from.first ≡ 0 = called from.first ∙ ap (λ cs. calls_send (map (λ (x : ℕ × Call). x.1) cs)) from.begins.calls ∙ none in
    omega (arith, ap sends_in parts, sends-append (own_entries app from.first) (own_entries app from.rest), own_fewer app from.first, first, ends_send p (own_entries app from.rest) from.waits)
  where
    none : calls_send (map (λ (x : ℕ × Call). x.1) (map (λ (call : Call). (bridge_of plan.one, call)) (first_calls plan p))) ≡ 0
    none = omega (arith, routes_send (bridge_of plan.one) p plan.routes)

-- of its first calls, waits and its end, whether the last wait timed out or not
pub waits_beside : (plan : PlanText) (p : ℕ) (first waits : List Entry) (end : Entry) → callers first ≡ map (λ (call : Call). (bridge_of plan.one, call)) (first_calls plan p) → Waits p false waits → end.call ≡ calls.End →
    sends_in (first ++ (waits ++ end ∷ [])) ≡ 0
waits_beside plan p first waits end begins waited ends =
    let firsts : sends_in first ≡ 0 = called first ∙ ap (λ cs. calls_send (map (λ (x : ℕ × Call). x.1) cs)) begins ∙ none in
    omega (arith, sends-append first (waits ++ end ∷ []), sends-append waits (end ∷ []), sends-cons end [], ap one_send ends, firsts, waits_send p false waits waited)
  where
    none : calls_send (map (λ (x : ℕ × Call). x.1) (map (λ (call : Call). (bridge_of plan.one, call)) (first_calls plan p))) ≡ 0
    none = omega (arith, routes_send (bridge_of plan.one) p plan.routes)

-- ---- side 1

-- sends are entries that weigh one each
weighs : (es : List Entry) → sends_in es ≡ weigh (λ e. one_send e.call) es
weighs [] = refl
weighs (e ∷ es) = omega (arith, sends-cons e es, weighs es)

most_lines : (apps : List Application) → most_of (λ e. one_send e.call) (λ app. (sent_from no_calls app.lines).lines) apps ≡ (sends_of apps).lines
most_lines [] = refl
most_lines (app ∷ apps) = ap (λ n. (sent_from no_calls app.lines).lines + n) (most_lines apps)

-- if one application more sends nothing
pub sends_beside : (plan : PlanText) (history : List Entry)
    → ((app : ℕ) → 1 ≤ app → app ≤ length plan.one.apps → Trace first_registers first_written (app_at plan.one app).lines (own_entries app history))
    → All (λ e. (1 ≤ e.app) × (e.app ≤ bridge_of plan.one)) history → sends_in (own_entries (bridge_of plan.one) history) ≡ 0 → sends_in history ≤ (sends_of plan.one.apps).lines
sends_beside plan history each nobody_else none =
    let apps = plan.one.apps in
    let bound = all_within (λ e. one_send e.call) (λ app. (sent_from no_calls app.lines).lines) apps history nobody_else
    (λ app first last. omega (
      arith,
      weighs (own_entries app history),
      trace_sends first_registers first_written no_calls (app_at plan.one app).lines (own_entries app history) (each app first last),
    )) in
    omega (arith, weighs history, bound, most_lines apps, weighs (own_entries (bridge_of plan.one) history), none)

pub sends_within : (plan : PlanText) (p : ℕ) (history : List Entry)
    → ((app : ℕ) → 1 ≤ app → app ≤ length plan.one.apps → Trace first_registers first_written (app_at plan.one app).lines (own_entries app history))
    → All (λ e. (1 ≤ e.app) × (e.app ≤ bridge_of plan.one)) history → BridgesFrom plan p history → sends_in history ≤ (sends_of plan.one.apps).lines
sends_within plan p history each nobody_else from = sends_beside plan history each nobody_else (bridge_sends plan p history from)
