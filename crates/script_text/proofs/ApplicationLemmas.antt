-- What an application's lines are.
use Rattle.std.proofs.Common.{◌≡◌, ℕ, ◌+◌, ◌<◌, ◌≤◌, List, [], ◌∷◌, ◌++◌, length, fold, decimal, sym, ap, ◌∙◌, arith, add-one, append_assoc}
use Rattle.std.proofs.lemmas.Fmt.{decimal_digit}
use Rattle.std.proofs.lemmas.List.Sums.{fold-append}
use Rattle.script_lines.specs.declared.line.Line.{Line}
use Rattle.script_settings.specs.declared.account.Account.{Account}
use Rattle.script_settings.specs.Accounts.{account_of, no_calls, with_line, charge_of, sizes_after}
use Rattle.app_script.specs.Script.{Application}
use Rattle.script_text.specs.Generated.{first_lines, actions, application, applications}
use Rattle.script_text.proofs.ActionLemmas.{numbered_name}
use Rattle.script_text.proofs.LineLemmas.{actions_few, actions_light}

-- the charge of the lines before the actions is that of the pipe's name
first_light : (app : ℕ) → app < 10 → (fold with_line no_calls (first_lines app)).bytes ≡ 2
unfolding first_lines charge_of sizes_after
first_light app digit = omega (arith, ap (λ (name : List ℕ). length name) (decimal_digit app digit))

pub lines_few : (app number : ℕ) → length (first_lines app ++ (actions 250 number).0) ≤ 753
unfolding first_lines
lines_few app number = omega (arith, actions_few 250 number)

pub lines_light : (app number : ℕ) → app < 10 → (account_of (first_lines app ++ (actions 250 number).0)).bytes ≤ 16002
unfolding account_of
lines_light app number digit =
    let first = first_lines app in let others = (actions 250 number).0 in
    omega (arith, ap (λ (a : Account). a.bytes) (fold-append with_line no_calls first others), first_light app digit, actions_light 250 number (fold with_line no_calls first))

-- an application is what was pushed and drawn for it
pub application_pushed : (app number : ℕ) (name : List ℕ) (none first lines : List Line) → name ≡ 71 ∷ (48 + app) ∷ [] → app < 10 → none ≡ [] → first ≡ none ++ first_lines app → lines ≡ first ++ (actions 250 number).0
    → record { name = name; lines = lines } ≡ (application app number).0
unfolding application
application_pushed app number name none first lines named digit empty pushed drawn =
    ap (λ (n : List ℕ). record { name = n; lines = lines }) (named ∙ numbered_name 71 app digit)
    ∙ ap (λ (l : List Line). record { name = 71 ∷ decimal app; lines = l }) (drawn ∙ ap (λ f. f ++ (actions 250 number).0) (pushed ∙ ap (λ n. n ++ first_lines app) empty))

-- the applications that are left begin with the next one
pub applications_next : (app count left number : ℕ) → left ≡ count + 1
    → applications app left number ≡ ((application app number).0 ∷ (applications (app + 1) count (application app number).1).0, (applications (app + 1) count (application app number).1).1)
unfolding applications
applications_next app count left number one = ap (λ n. applications app n number) (one ∙ add-one count)

pub apps_next : (apps new : List Application) (made : Application) (app count left number next : ℕ) → left ≡ count + 1 → new ≡ apps ++ made ∷ [] → made ≡ (application app number).0 → next ≡ (application app number).1
    → new ++ (applications (app + 1) count next).0 ≡ apps ++ (applications app left number).0
apps_next apps new made app count left number next one pushed drawn moved =
    ap (λ l. l ++ (applications (app + 1) count next).0) pushed
    ∙ append_assoc apps (made ∷ []) (applications (app + 1) count next).0
    ∙ ap (λ m. apps ++ m ∷ (applications (app + 1) count next).0) drawn
    ∙ ap (λ n. apps ++ (application app number).0 ∷ (applications (app + 1) count n).0) moved
    ∙ sym (ap (λ (d : List Application × ℕ). apps ++ d.0) (applications_next app count left number one))

pub applications_none : (app left number : ℕ) → left ≡ 0 → applications app left number ≡ ([], number)
unfolding applications
applications_none app left number none = ap (λ n. applications app n number) none
