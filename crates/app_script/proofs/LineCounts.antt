-- The account of call lines that are counted one after the other.
use Rattle.std.proofs.Common.{◌≡◌, ℕ, suc, ◌+◌, ◌<◌, ◌≤◌, List, [], ◌∷◌, length, drop, get_or, fold, refl, sym, ap, ◌∙◌, arith, add-one}
use Rattle.std.proofs.Math.Seq.{drop-cons}
use Rattle.std.proofs.lemmas.List.{drop_all}
use Rattle.script_settings.specs.declared.account.Account.{Account}
use Rattle.script_lines.specs.declared.line.Line.{Line}
use Rattle.script_settings.specs.Accounts.{account_of, with_line, no_calls, charge_of}

-- before the first line all are left
pub counted_none : (lines : List Line) → fold with_line no_calls lines ≡ account_of lines
unfolding account_of
counted_none lines = refl

-- the lines that are left begin with the one at this place
left_with : (lines : List Line) (i : ℕ) (line : Line) → line ≡ get_or lines i line → i < length lines → drop i lines ≡ line ∷ drop (i + 1) lines
left_with lines i line at within = rw add-one (drop-cons lines i line within ∙ ap (λ l. l ∷ drop (suc i) lines) (sym at))

-- one line more is counted
pub counted_more : (lines : List Line) (i : ℕ) (line : Line) (account : Account) → line ≡ get_or lines i line → i < length lines
    → fold with_line account (drop i lines) ≡ account_of lines → fold with_line (with_line account line) (drop (i + 1) lines) ≡ account_of lines
counted_more lines i line account at within left = sym (ap (λ l. fold with_line account l) (left_with lines i line at within)) ∙ left

-- all lines are counted
pub counted_all : (lines : List Line) (i : ℕ) (account : Account) → length lines ≤ i → fold with_line account (drop i lines) ≡ account_of lines → account ≡ account_of lines
counted_all lines i account past left = sym (ap (λ l. fold with_line account l) (drop_all i lines past)) ∙ left

-- lines that are counted make an account no lighter
no_lighter : (lines : List Line) (account : Account) → account.bytes ≤ (fold with_line account lines).bytes
no_lighter [] account = omega arith
no_lighter (line ∷ lines) account = omega (arith, no_lighter lines (with_line account line))

-- so no line is heavier than the account of all, with those before it
pub counted_within : (lines : List Line) (i : ℕ) (line : Line) (account : Account) → line ≡ get_or lines i line → i < length lines
    → fold with_line account (drop i lines) ≡ account_of lines → account.bytes + charge_of account line ≤ (account_of lines).bytes
counted_within lines i line account at within left =
    omega (arith, no_lighter (drop (i + 1) lines) (with_line account line), ap (λ (a : Account). a.bytes) (counted_more lines i line account at within left))
