-- A script that a text gives has not too many call lines and charges: what was read so far has not, line by line.
use Rattle.std.proofs.Common.{◌≡◌, ℕ, ◌+◌, ◌≤◌, Bool, true, false, cond, nat_le, nat_lt, List, [], ◌∷◌, ◌++◌, length, sum_by, Option, Some, None, Ok, ap, arith, eqb, codes}
use Rattle.std.specs.List.{list_any, list_all, starts_with}
use Rattle.std.proofs.lemmas.Bool.{leb-false, ltb-false}
use Rattle.std.proofs.lemmas.List.{length-append}
use Rattle.std.proofs.lemmas.List.Sums.{sum_by_push}
use Rattle.fsw_base.specs.declared.script_faults.FaultKind.TheVariants.{LineTooLong, Misplaced, OutOfRange, Repeated, TooManyApps, TooManyCalls, TooManyBytes}
use Rattle.script_words.specs.Text.{words_of, behind_word, is_text, is_same}
use Rattle.script_words.specs.Counts.{Word}
use Rattle.script_lines.specs.declared.line.Line.{Line}
use Rattle.script_lines.specs.CallLines.{call_line_of}
use Rattle.script_lines.specs.FileLines.{tfile_of}
use Rattle.script_lines.proofs.ReadingLaws.{Holds, then, any, refuse, either}
use Rattle.app_script.specs.declared.forms.Form.{Form}
use Rattle.app_script.specs.declared.forms.Form.TheVariants.{Script, Set, Sizes, Seq, App, Call, File}
use Rattle.app_script.specs.Forms.{form_in, is_misplaced}
use Rattle.script_settings.specs.Settings.{is_among, set_of, sizes_of, seq_of, app_of, script_of}
use Rattle.script_settings.specs.Accounts.{account_of, charge_of, budget_of}
use Rattle.app_script.specs.Script.{Application, ScriptText}
use Rattle.app_script.specs.Grammar.{Progress, opening, apps_of, after_version, after_set, after_sizes, after_seq, after_app, after_call, after_file, after_form, after_known, after_words, after_line, after_lines}
use Rattle.app_script.proofs.ScriptLemmas.{account_of_push}
use Rattle.app_script.proofs.ReadWalk.{lines_keep}

-- how many lines and bytes an application has
abbrev lines_in : Application → ℕ
lines_in a = length a.lines

abbrev bytes_in : Application → ℕ
bytes_in a = (budget_of a.lines).bytes

-- what was read so far is within the ranges
record Kept (s : Progress) : Type 0 where
  calls : sum_by lines_in s.done + length s.present.lines ≤ s.calls
  few : s.calls ≤ 20000
  bytes : sum_by bytes_in s.done + bytes_in s.present ≤ s.charged
  light : s.charged ≤ 16777216

kept_opening : Kept opening
unfolding budget_of account_of
kept_opening = record { calls = omega arith; few = omega arith; bytes = omega arith; light = omega arith }

-- ---- version and configuration

version_keeps : (s : Progress) (words : List Word) → Kept s → Holds Kept (after_version s words)
unfolding after_version
version_keeps s words kept = any Kept (script_of words) _ (λ version. record { calls = kept.calls; few = kept.few; bytes = kept.bytes; light = kept.light })

set_keeps : (s : Progress) (words : List Word) → Kept s → Holds Kept (after_set s words)
unfolding after_set
set_keeps s words kept = any Kept (set_of words) _ (λ set. refuse Kept (is_among set.0 s.named) Repeated _ (λ h. record { calls = kept.calls; few = kept.few; bytes = kept.bytes; light = kept.light }))

sizes_keep : (s : Progress) (words : List Word) → Kept s → Holds Kept (after_sizes s words)
unfolding after_sizes
sizes_keep s words kept = any Kept (sizes_of words) _ (λ sizes. refuse Kept s.sized Repeated _ (λ h. record { calls = kept.calls; few = kept.few; bytes = kept.bytes; light = kept.light }))

seq_keeps : (s : Progress) (words : List Word) → Kept s → Holds Kept (after_seq s words)
unfolding after_seq
seq_keeps s words kept = any Kept (seq_of words) _ (λ start. refuse Kept (nat_le 16 (length s.limits.starts)) OutOfRange _ (λ h. refuse Kept (list_any (λ other. eqb other.0 start.0) s.limits.starts) Repeated _ (λ g. record { calls = kept.calls; few = kept.few; bytes = kept.bytes; light = kept.light })))

-- ---- applications

record Whole (s : Progress) (apps : List Application) : Type 0 where
  calls : sum_by lines_in apps ≤ s.calls
  bytes : sum_by bytes_in apps ≤ s.charged

whole_apps : (s : Progress) → Kept s → (b : Bool) → Whole s (cond b (s.done ++ s.present ∷ []) s.done)
whole_apps s kept true =
    let some = kept.calls in
    let bytes = kept.bytes in
    let more = sum_by_push lines_in s.done s.present in
    let heavier = sum_by_push bytes_in s.done s.present in
    record { calls = omega arith; bytes = omega arith }
whole_apps s kept false =
    let some = kept.calls in
    let bytes = kept.bytes in
    record { calls = omega arith; bytes = omega arith }

app_keeps : (s : Progress) (words : List Word) → Kept s → Holds Kept (after_app s words)
unfolding after_app budget_of account_of
app_keeps s words kept =
    let whole = whole_apps s kept s.started in
    let some = whole.calls in
    let bytes = whole.bytes in
    any Kept (app_of words) _ (λ name. refuse Kept (list_any (λ app. is_same app.name name) (apps_of s)) Repeated _ (λ h. refuse Kept (nat_le 16 (length (apps_of s))) TooManyApps _ (λ g. record { calls = omega arith; few = kept.few; bytes = omega arith; light = kept.light })))

-- ---- call lines

budget_push : (lines : List Line) (line : Line) → (budget_of (lines ++ line ∷ [])).bytes ≡ (budget_of lines).bytes + charge_of (account_of lines) line
unfolding budget_of
budget_push lines line = ap (λ a. a.bytes) (account_of_push lines line)

call_keeps : (s : Progress) (line : Line) → Kept s → Holds Kept (after_call s line)
unfolding after_call
call_keeps s line kept =
    refuse Kept (nat_le 20000 s.calls) TooManyCalls _ (λ h. refuse Kept (nat_lt 16777216 (s.charged + charge_of (account_of s.present.lines) line)) TooManyBytes _ (λ g.
    let room = leb-false 20000 s.calls h in
    let light = ltb-false 16777216 (s.charged + charge_of (account_of s.present.lines) line) g in
    let longer = length-append s.present.lines (line ∷ []) in
    let heavier = budget_push s.present.lines line in
    let calls = kept.calls in
    let bytes = kept.bytes in
    record { calls = omega arith; few = omega arith; bytes = omega arith; light = omega arith }))

-- ---- lines

file_keeps : (s : Progress) (calls : Line × Line) → Kept s → Holds Kept (after_file s calls)
unfolding after_file
file_keeps s calls kept =
    refuse Kept (nat_le 19999 s.calls) TooManyCalls _ (λ room. then Kept Kept (after_call s calls.0) (λ t. after_call t calls.1) (call_keeps s calls.0 kept) (λ t h. call_keeps t calls.1 h))

form_keeps : (s : Progress) (form : Form) (rest : List ℕ) → Kept s → Holds Kept (after_form s form rest)
unfolding after_form
form_keeps s Script rest kept = version_keeps s (words_of rest) kept
form_keeps s Set rest kept = set_keeps s (words_of rest) kept
form_keeps s Sizes rest kept = sizes_keep s (words_of rest) kept
form_keeps s Seq rest kept = seq_keeps s (words_of rest) kept
form_keeps s App rest kept = app_keeps s (words_of rest) kept
form_keeps s (Call first) rest kept = any Kept (call_line_of first rest) (after_call s) (λ line. call_keeps s line kept)
form_keeps s File rest kept = any Kept (tfile_of (words_of rest)) (after_file s) (λ calls. file_keeps s calls kept)

known_keeps : (s : Progress) (form : Option Form) (rest : List ℕ) → Kept s → Holds Kept (after_known s form rest)
unfolding after_known
known_keeps s None rest kept = tt
known_keeps s (Some form) rest kept =
    refuse Kept (is_misplaced form s.begun s.started) Misplaced _ (λ h. form_keeps (record s { begun = true }) form rest (record { calls = kept.calls; few = kept.few; bytes = kept.bytes; light = kept.light }))

words_keep : (s : Progress) (words : List Word) (rest : List ℕ) → Kept s → Holds Kept (after_words s words rest)
unfolding after_words
words_keep s [] rest kept = kept
words_keep s (first ∷ words) rest kept = either Kept (starts_with (λ a b. eqb a b) first (codes "#")) _ _ kept (known_keeps s (form_in s.limits.version first) rest kept)

line_keeps : (s : Progress) (line : List ℕ) → Kept s → Holds Kept (after_line s line)
unfolding after_line
line_keeps s line kept = refuse Kept (nat_lt 1024 (length line)) LineTooLong _ (λ h. either Kept (list_all is_text line) _ _ (words_keep s (words_of line) (behind_word line) kept) tt)

-- ---- all lines

-- a script has at most so many call lines and charges
pub record Bounded (script : ScriptText) : Type 0 where
  pub calls : sum_by lines_in script.apps ≤ 20000
  pub bytes : sum_by bytes_in script.apps ≤ 16777216

pub lines_bounded : (n : ℕ) (lines : List (List ℕ)) (s : Progress) → after_lines n opening lines ≡ Ok s → Bounded (record { limits = s.limits; apps = apps_of s })
lines_bounded n lines s so =
    let kept = lines_keep Kept line_keeps n opening s lines kept_opening so in
    let whole = whole_apps s kept s.started in
    let few = kept.few in
    let light = kept.light in
    let calls = whole.calls in
    let bytes = whole.bytes in
    record { calls = omega arith; bytes = omega arith }
