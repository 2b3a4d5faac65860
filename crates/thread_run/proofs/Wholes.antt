-- The script of a run, with the application beside its own.
use Rattle.std.proofs.Common.{◌≡◌, ℕ, zero, suc, ◌+◌, ◌-◌, ◌≤◌, false, List, [], ◌∷◌, ◌++◌, length, fold, replicate, Option, Some, None, refl, ap, sym, ◌∙◌, arith, length-append}
use Rattle.std.proofs.lemmas.List.{map-append}
use lib.ListN.{get_or-append}
use Rattle.fsw_base.specs.declared.config.Budget.{Budget}
use Rattle.script_lines.specs.declared.line.Line.{Line}
use Rattle.script_lines.specs.declared.line.Line.TheVariants.{Send, Housekeeping}
use Rattle.script_settings.specs.declared.account.Account.{Account}
use Rattle.script_settings.specs.Accounts.{no_calls, charge_of, waits_of, buffers_of, sizes_after, with_line, account_of, budget_in, budget_of}
use Rattle.app_script.specs.Script.{Application, ScriptText, app_at}
use Rattle.app_run.specs.Openings.{budgets_for}
use Rattle.app_run.specs.Runners.{beginning}
use Rattle.script_runs.specs.TableTrace.{first_handles}
use Rattle.script_runs.specs.Trace.{first_registers}
use Rattle.thread_run.specs.Whole.{lines_for, app_beside, whole_of, CanBeBeside}

-- its limits are the script's
pub limits-whole : (script : ScriptText) (beside : Option Budget) → (whole_of script beside).limits ≡ script.limits
limits-whole script None = refl
limits-whole script (Some budget) = refl

-- and so are its first applications
pub apps-within : (script : ScriptText) (beside : Option Budget) (app : ℕ) → app ≤ length script.apps → app ≤ length (whole_of script beside).apps
apps-within script None app known = known
apps-within script (Some budget) app known = omega (arith, known, length-append script.apps (app_beside budget ∷ []))

pub app_at-whole : (script : ScriptText) (beside : Option Budget) (app : ℕ) → 1 ≤ app → app ≤ length script.apps → app_at (whole_of script beside) app ≡ app_at script app
app_at-whole script None app some known = refl
app_at-whole script (Some budget) app some known =
    get_or-append script.apps (app_beside budget ∷ []) (record { name = []; lines = [] }) (app - 1) (omega (arith, some, known))

pub beginning-whole : (script : ScriptText) (beside : Option Budget) (app : ℕ) → 1 ≤ app → app ≤ length script.apps → beginning script app ≡ beginning (whole_of script beside) app
beginning-whole script beside app some known =
    ap
    (λ (a : Application).
    record { running = record { app = app; begun = 0; lines = a.lines; registers = first_registers; handles = first_handles }; waits_on = None; ended = false; receipts = [] })
    (sym (app_at-whole script beside app some known))

-- Budgets. --

-- so many calls more, which take nothing else
abbrev calls_more : ℕ → Account → Account
calls_more n a = record { calls = a.calls + n; waits = a.waits; bytes = a.bytes; buffers = a.buffers; sizes = a.sizes }

housekeeping_counted : (a : Account) → with_line a Housekeeping ≡ record { calls = a.calls + 1; waits = a.waits + 0; bytes = a.bytes + 0; buffers = a.buffers + 0; sizes = a.sizes }
unfolding charge_of waits_of buffers_of sizes_after
housekeeping_counted a = refl

housekeeping_one : (a : Account) → with_line a Housekeeping ≡ calls_more 1 a
housekeeping_one a =
    let waits : a.waits + 0 ≡ a.waits = omega arith in
    let bytes : a.bytes + 0 ≡ a.bytes = omega arith in
    let buffers : a.buffers + 0 ≡ a.buffers = omega arith in
    housekeeping_counted a ∙ λ i. record { calls = a.calls + 1; waits = waits i; bytes = bytes i; buffers = buffers i; sizes = a.sizes }

housekeeping_all : (n : ℕ) (a : Account) → fold with_line a (replicate n Housekeeping) ≡ calls_more n a
housekeeping_all zero a = let calls : a.calls ≡ a.calls + 0 = omega arith in λ i. record { calls = calls i; waits = a.waits; bytes = a.bytes; buffers = a.buffers; sizes = a.sizes }
housekeeping_all (suc n) a =
    let calls : a.calls + 1 + n ≡ a.calls + suc n = omega arith in
    ap (λ (x : Account). fold with_line x (replicate n Housekeeping)) (housekeeping_one a)
    ∙ housekeeping_all n (calls_more 1 a)
    ∙ λ i. record { calls = calls i; waits = a.waits; bytes = a.bytes; buffers = a.buffers; sizes = a.sizes }

abbrev bytes_sent : ℕ → Account
bytes_sent bytes = record { calls = 0 + 1; waits = 0 + 0; bytes = 0 + bytes; buffers = 0 + 0; sizes = replicate 64 0 }

send_counted : (bytes : ℕ) → with_line no_calls (Send 0 bytes 0 false) ≡ bytes_sent bytes
unfolding charge_of waits_of buffers_of sizes_after
send_counted bytes = refl

budget_account : (lines : List Line) → budget_of lines ≡ budget_in (fold with_line no_calls lines)
unfolding budget_of account_of
budget_account lines = refl

abbrev budget_with : ℕ → ℕ → Budget
budget_with entries bytes = record { entries = entries; bytes = bytes; buffers = 0 }

budget_lines : (entries bytes : ℕ) → 1 ≤ entries → (entries ≤ 1 → bytes ≡ 0) → budget_of (lines_for entries bytes) ≡ budget_with entries bytes
budget_lines zero bytes some few = absurd (omega (arith, some))
budget_lines (suc zero) bytes some few = budget_account [] ∙ ap (budget_with 1) (sym (few (omega arith)))
budget_lines (suc (suc n)) bytes some few =
    let all : 0 + 1 + n + (0 + 0) + 1 ≡ suc (suc n) = omega arith in
    let theirs : 0 + bytes ≡ bytes = omega arith in
    budget_account (Send 0 bytes 0 false ∷ replicate n Housekeeping)
    ∙ ap (λ (a : Account). budget_in (fold with_line a (replicate n Housekeeping))) (send_counted bytes)
    ∙ ap budget_in (housekeeping_all n (bytes_sent bytes))
    ∙ λ i. budget_with (all i) (theirs i)

-- the lines of the one beside take its budget
pub budget_beside : (budget : Budget) → CanBeBeside budget → budget_of (app_beside budget).lines ≡ budget
budget_beside budget can =
    budget_lines budget.entries budget.bytes can.some can.bytes
    ∙ λ i. record { entries = budget.entries; bytes = budget.bytes; buffers = sym can.none i }

-- so the budgets are the script's, and its own
pub budgets_beside : (script : ScriptText) (budget : Budget) → CanBeBeside budget → budgets_for (whole_of script (Some budget)) ≡ budgets_for script ++ budget ∷ []
budgets_beside script budget can =
    map-append (λ (a : Application). budget_of a.lines) script.apps (app_beside budget ∷ [])
    ∙ ap (λ (b : Budget). budgets_for script ++ b ∷ []) (budget_beside budget can)
