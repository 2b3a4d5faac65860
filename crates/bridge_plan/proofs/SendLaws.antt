-- What lines send, counted one after the other.
use Rattle.std.proofs.Common.{◌≡◌, ℕ, ◌+◌, ◌<◌, ◌≤◌, List, ◌∷◌, length, drop, get_or, fold, Some, sym, ap, ◌∙◌, arith}
use Rattle.std.specs.List.{slice_get}
use Rattle.std.proofs.lemmas.List.{drop_all}
use Rattle.std.proofs.lemmas.Option.{get_or_from_slice_get, slice_get_within}
use Rattle.script_lines.specs.declared.line.Line.{Line}
use Rattle.script_settings.specs.declared.account.Account.{Account}
use Rattle.script_settings.specs.Accounts.{no_calls, account_of, charge_of, with_line}
use Rattle.script_words.proofs.ListLemmas.{drop_cut}
use Rattle.app_script.specs.Script.{Application}
use Rattle.app_script.specs.ScriptRanges.{all_calls, all_bytes}
use Rattle.app_script.proofs.LineCounts.{counted_more, counted_within}
use Rattle.bridge_plan.specs.declared.budgets.Sends.{Sends}
use Rattle.bridge_plan.specs.Sends.{together, sent_by, sent_from, sends_of}

abbrev nothing : Sends
nothing = record { lines = 0; bytes = 0 }

together_assoc : (a b c : Sends) → together (together a b) c ≡ together a (together b c)
together_assoc a b c =
    let lines : a.lines + b.lines + c.lines ≡ a.lines + (b.lines + c.lines) = omega arith in
    let bytes : a.bytes + b.bytes + c.bytes ≡ a.bytes + (b.bytes + c.bytes) = omega arith in
    λ i. record { lines = lines i; bytes = bytes i }

-- nothing was sent before, and nothing comes behind
pub none_before : (sends : Sends) → together nothing sends ≡ sends
none_before sends =
    let lines : 0 + sends.lines ≡ sends.lines = omega arith in
    let bytes : 0 + sends.bytes ≡ sends.bytes = omega arith in
    λ i. record { lines = lines i; bytes = bytes i }

none_behind : (sends : Sends) → together sends nothing ≡ sends
none_behind sends =
    let lines : sends.lines + 0 ≡ sends.lines = omega arith in
    let bytes : sends.bytes + 0 ≡ sends.bytes = omega arith in
    λ i. record { lines = lines i; bytes = bytes i }

-- ---- lines

-- what is left of a list begins with the item at this place
pub is_next : {X : Type 0} (xs : List X) (i : ℕ) (x : X) → x ≡ get_or xs i x → i < length xs → drop i xs ≡ x ∷ drop (i + 1) xs
is_next xs i x at within = drop_cut xs i x within ∙ ap (λ y. y ∷ drop (i + 1) xs) (sym at)

-- the same, by a read of that place
read_at : {X : Type 0} (xs : List X) (i : ℕ) (x : X) → slice_get xs i ≡ Some x → x ≡ get_or xs i x
read_at xs i x at = sym (get_or_from_slice_get xs i x x at)

-- one line more is counted, and is no heavier than all
pub account_on : (lines : List Line) (i : ℕ) (line : Line) (account now : Account) → slice_get lines i ≡ Some line → now ≡ with_line account line → fold with_line account (drop i lines) ≡ account_of lines
    → fold with_line now (drop (i + 1) lines) ≡ account_of lines
account_on lines i line account now at is left =
    ap (λ a. fold with_line a (drop (i + 1) lines)) is ∙ counted_more lines i line account (read_at lines i line at) (slice_get_within lines i line at) left

pub charge_within : (lines : List Line) (i : ℕ) (line : Line) (account : Account) → slice_get lines i ≡ Some line → fold with_line account (drop i lines) ≡ account_of lines → account.bytes + charge_of account line ≤ (account_of lines).bytes
charge_within lines i line account at left = counted_within lines i line account (read_at lines i line at) (slice_get_within lines i line at) left

pub line_sent : (lines : List Line) (i : ℕ) (line : Line) (account now : Account) (sends sent total : Sends) → slice_get lines i ≡ Some line → now ≡ with_line account line → sent ≡ sent_by account line
    → together sends (sent_from account (drop i lines)) ≡ total → together (together sends sent) (sent_from now (drop (i + 1) lines)) ≡ total
line_sent lines i line account now sends sent total at is told so_far =
    let left = is_next lines i line (read_at lines i line at) (slice_get_within lines i line at) in
    ap (λ s. together (together sends s) (sent_from now (drop (i + 1) lines))) told ∙
    ap (λ a. together (together sends (sent_by account line)) (sent_from a (drop (i + 1) lines))) is ∙
    together_assoc sends (sent_by account line) (sent_from (with_line account line) (drop (i + 1) lines)) ∙ sym (ap (λ l. together sends (sent_from account l)) left) ∙ so_far

-- ---- applications

-- those that are left are one more
pub calls_left : (apps : List Application) (i : ℕ) (app : Application) → drop i apps ≡ app ∷ drop (i + 1) apps → all_calls (drop i apps) ≡ length app.lines + all_calls (drop (i + 1) apps)
calls_left apps i app left = ap all_calls left

pub bytes_left : (apps : List Application) (i : ℕ) (app : Application) → drop i apps ≡ app ∷ drop (i + 1) apps → all_bytes (drop i apps) ≡ (account_of app.lines).bytes + all_bytes (drop (i + 1) apps)
bytes_left apps i app left = ap all_bytes left

pub app_sent : (apps : List Application) (i : ℕ) (app : Application) (sends sent total : Sends) → sent ≡ sent_from no_calls app.lines → drop i apps ≡ app ∷ drop (i + 1) apps
    → together sends (sends_of (drop i apps)) ≡ total → together (together sends sent) (sends_of (drop (i + 1) apps)) ≡ total
app_sent apps i app sends sent total is left so_far =
    ap (λ s. together (together sends s) (sends_of (drop (i + 1) apps))) is ∙
    together_assoc sends (sent_from no_calls app.lines) (sends_of (drop (i + 1) apps)) ∙ sym (ap (λ l. together sends (sends_of l)) left) ∙ so_far

pub apps_sent : (apps : List Application) (i : ℕ) (sends total : Sends) → length apps ≤ i → together sends (sends_of (drop i apps)) ≡ total → sends ≡ total
apps_sent apps i sends total past so_far =
    sym (none_behind sends) ∙ sym (ap (λ l. together sends (sends_of l)) (drop_all i apps past)) ∙ so_far
