-- A script that a text can be is within the bounds of a run.
use Rattle.std.proofs.Common.{◌≡◌, ℕ, ◌+◌, ◌≤◌, true, ◌&&◌, not, nat_le, nat_lt, List, [], ◌∷◌, length, All, sum_by, ap, refl, sym, ◌∙◌, arith, codes}
use Rattle.std.specs.List.{list_all}
use Rattle.std.proofs.lemmas.Bool.{leb-true}
use Rattle.std.proofs.lemmas.List.Elements.{All-nil, All-cons}
use Rattle.std.proofs.lemmas.List.Sums.{sum_by-cons}
use Rattle.script_words.specs.Content.{content_len}
use Rattle.script_words.specs.Text.{is_text, is_same, trimmed}
use Rattle.script_words.specs.declared.content.Content.{Content}
use Rattle.script_words.specs.declared.content.Content.TheVariants.{Hex, Fill}
use Rattle.script_lines.specs.declared.line.Line.{Line}
use Rattle.script_lines.specs.declared.line.Line.TheVariants.{Create, Find, Send, SendRaw, SendEvent, LogMode, TableRegister, TableShare, Stage, Load}
use Rattle.script_lines.specs.Ranges.{is_visible, is_name, is_event_text, is_content, is_rule, is_readable}
use Rattle.script_lines.proofs.Booleans.{and_first, and_second}
use Rattle.script_settings.specs.Settings.{is_app_name}
use Rattle.script_settings.specs.Accounts.{account_of, budget_of}
use Rattle.app_script.specs.Script.{Application, ScriptText}
use Rattle.app_script.specs.Ranges.{IsLoadInRange, IsLineInRange, IsInRange}
use Rattle.app_script.specs.ScriptRanges.{is_application, all_calls, all_bytes, IsScript}

-- ---- lines

name_short : (name : List ℕ) → is_name name ≡ true → length name ≤ 64
name_short name h =
    leb-true (length name) 64 (and_first (nat_le (length name) 64) (list_all is_visible name) (and_first (nat_le (length name) 64 && list_all is_visible name) (not (is_same name (codes "-"))) h))

text_short : (text : List ℕ) → is_event_text text ≡ true → length text ≤ 200
text_short text h =
    leb-true (length text) 200 (and_first (nat_le (length text) 200) (list_all is_text text) (and_first (nat_le (length text) 200 && list_all is_text text) (is_same (trimmed text) text) h))

content_short : (content : Content) → is_content content ≡ true → (1 ≤ content_len content) × (content_len content ≤ 65536)
content_short (Hex bytes) h =
    let sizes = and_first (nat_le 1 (length bytes) && nat_le (length bytes) 256) (list_all (λ byte. nat_le byte 255) bytes) h in
    let least = leb-true 1 (length bytes) (and_first (nat_le 1 (length bytes)) (nat_le (length bytes) 256) sizes) in
    let most = leb-true (length bytes) 256 (and_second (nat_le 1 (length bytes)) (nat_le (length bytes) 256) sizes) in
    (least, omega (arith, most))
content_short (Fill len byte) h =
    let sizes = and_first (nat_le 1 len && nat_le len 65536) (nat_le byte 255) h in
    (leb-true 1 len (and_first (nat_le 1 len) (nat_le len 65536) sizes), leb-true len 65536 (and_second (nat_le 1 len) (nat_le len 65536) sizes))

load_short : (handle offset : ℕ) (content : Content) → (nat_lt handle 64 && nat_le offset 65536 && is_content content) ≡ true → IsLoadInRange offset content
load_short handle offset content h =
    let sizes = content_short content (and_second (nat_lt handle 64 && nat_le offset 65536) (is_content content) h) in
    let place = and_first (nat_lt handle 64 && nat_le offset 65536) (is_content content) h in
    (leb-true offset 65536 (and_second (nat_lt handle 64) (nat_le offset 65536) place), sizes.0, sizes.1)

line_in : (line : Line) → is_readable line ≡ true → IsLineInRange line
unfolding is_readable IsLineInRange
line_in (Create pipe depth name) h = name_short name (and_second (nat_lt pipe 64 && nat_le depth 65535) (is_name name) h)
line_in (Find pipe name) h = name_short name (and_second (nat_lt pipe 64) (is_name name) h)
line_in (Send id size fill inc) h =
    let sizes = and_first (nat_le id 65535 && nat_le 7 size && nat_le size 65542) (nat_le fill 255) h in (
      leb-true 7 size (and_second (nat_le id 65535) (nat_le 7 size) (and_first (nat_le id 65535 && nat_le 7 size) (nat_le size 65542) sizes)),
      leb-true size 65542 (and_second (nat_le id 65535 && nat_le 7 size) (nat_le size 65542) sizes),
    )
line_in (SendRaw bytes inc) h =
    let short = leb-true (length bytes) 256 (and_second (nat_le 1 (length bytes)) (nat_le (length bytes) 256) (and_first (nat_le 1 (length bytes) && nat_le (length bytes) 256) (list_all (λ byte. nat_le byte 255) bytes) h)) in
    omega arith
line_in (SendEvent id kind text) h = text_short text (and_second (nat_le id 65535) (is_event_text text) h)
line_in (LogMode mode) h = leb-true mode 1 h
line_in (TableRegister handle name size option rules) h =
    let front = nat_lt handle 64 && is_name name in
    let rules_apart = and_first (front && nat_le size 1000000 && nat_le option 7 && nat_le (length rules) 8) (list_all is_rule rules) h in
    let count_apart = and_first (front && nat_le size 1000000 && nat_le option 7) (nat_le (length rules) 8) rules_apart in
    let option_apart = and_first (front && nat_le size 1000000) (nat_le option 7) count_apart in
    name_short name (and_second (nat_lt handle 64) (is_name name) (and_first front (nat_le size 1000000) option_apart))
line_in (TableShare handle name) h = name_short name (and_second (nat_lt handle 64) (is_name name) h)
line_in (Stage handle offset content) h = load_short handle offset content h
line_in (Load handle offset content) h = load_short handle offset content h
line_in line h = tt

lines_in : (lines : List Line) → list_all is_readable lines ≡ true → All IsLineInRange lines
lines_in [] h = All-nil IsLineInRange
lines_in (line ∷ lines) h =
    All-cons IsLineInRange line lines (line_in line (and_first (is_readable line) (list_all is_readable lines) h)) (lines_in lines (and_second (is_readable line) (list_all is_readable lines) h))

-- ---- applications

abbrev HasLines : Application → Type 0
HasLines a = All IsLineInRange a.lines

apps_in : (apps : List Application) → list_all is_application apps ≡ true → All HasLines apps
apps_in [] h = All-nil HasLines
apps_in (app ∷ apps) h =
    All-cons HasLines app apps (lines_in app.lines (and_second (is_app_name app.name) (list_all is_readable app.lines) (and_first (is_application app) (list_all is_application apps) h)))
    (apps_in apps (and_second (is_application app) (list_all is_application apps) h))

pub all_calls_sum : (apps : List Application) → all_calls apps ≡ sum_by (λ a. length a.lines) apps
all_calls_sum [] = refl
all_calls_sum (app ∷ apps) = ap (λ n. length app.lines + n) (all_calls_sum apps) ∙ sym (sum_by-cons (λ a. length a.lines) app apps)

pub all_bytes_sum : (apps : List Application) → all_bytes apps ≡ sum_by (λ a. (budget_of a.lines).bytes) apps
unfolding budget_of
all_bytes_sum [] = refl
all_bytes_sum (app ∷ apps) = ap (λ n. (account_of app.lines).bytes + n) (all_bytes_sum apps) ∙ sym (sum_by-cons (λ a. (budget_of a.lines).bytes) app apps)

pub in_range : (script : ScriptText) → IsScript script → IsInRange script
in_range script is =
    let calls = is.calls in
    let bytes = is.bytes in
    let same_calls = all_calls_sum script.apps in
    let same_bytes = all_bytes_sum script.apps in
    record { lines = apps_in script.apps is.applications; calls = omega arith; bytes = omega arith }
