-- How long the spelling of a generated script is: no longer than a text may be.
use Rattle.std.proofs.Common.{◌≡◌, ℕ, zero, suc, ◌+◌, ◌*◌, ◌%◌, ◌<◌, ◌≤◌, true, List, [], ◌∷◌, ◌++◌, length, map, fold, Ok, codes, decimal, ap, arith}
use Rattle.std.specs.List.{flat_map}
use Rattle.std.proofs.lemmas.List.{length-append, map-append}
use Rattle.std.proofs.lemmas.Fmt.{length-decimal-le}
use Rattle.fsw_base.specs.declared.config.Scope.TheVariants.{Global}
use Rattle.text_page.specs.Texts.{hex_id, name_text}
use Rattle.script_lines.specs.declared.line.Line.{Line}
use Rattle.script_lines.specs.declared.line.Line.TheVariants.{Create, Subscribe, Send, Receive, Allocate, Form, TransmitBuffer}
use Rattle.script_text.specs.Spelling.{spaced, line_words, line_text, pipe_word, buffer_word}
use Rattle.app_script.specs.Script.{Application}
use Rattle.app_script.specs.Grammar.{grammar}
use Rattle.script_text.specs.ScriptSpelling.{app_lines, ended, version_lines, set_lines_of, sizes_lines, spelled_lines, spelled_script}
use Rattle.script_text.proofs.PrintLemmas.{ended-append}
use Rattle.script_text.proofs.AppsBack.{scripts_back}
use Rattle.script_text.specs.declared.draws.Draft.{Draft}
use Rattle.script_text.specs.declared.draws.Kind.{Kind}
use Rattle.script_text.specs.declared.draws.Kind.TheVariants as kinds
use Rattle.script_text.specs.Draws.{draw, first_number}
use Rattle.script_text.specs.Generated.{id_of, draft, kind_of, action, action_of, actions, first_lines, application, applications, generated}
use Rattle.script_text.proofs.DrawLemmas.{IsSmall, draft_small}
use Rattle.script_text.proofs.ScriptLemmas.{generated_in}

-- ---- texts

-- words behind the first one, with a space before each
behind_length : List (List ℕ) → ℕ
behind_length [] = 0
behind_length (word ∷ words) = length word + 1 + behind_length words

spaced_length : (word : List ℕ) (words : List (List ℕ)) → length (fold (λ text next. text ++ 32 ∷ next) word words) ≡ length word + behind_length words
unfolding behind_length
spaced_length word [] = omega arith
spaced_length word (next ∷ words) = omega (arith, spaced_length (word ++ 32 ∷ next) words, length-append word (32 ∷ next))

ended_length : (line : List ℕ) (lines : List (List ℕ)) → length (ended (line ∷ lines)) ≡ length line + 1 + length (ended lines)
ended_length line lines = omega (arith, length-append (line ++ 10 ∷ []) (ended lines), length-append line (10 ∷ []))

-- a number of at most three digits
three_digits : (number : ℕ) → number < 1000 → length (decimal number) ≤ 3
three_digits number small = length-decimal-le 3 number (omega arith) (omega (arith, small)) (omega (arith, small))

-- ---- actions

-- how many bytes lines have, each with its line feed
abbrev text_length : List Line → ℕ
text_length lines = length (ended (map line_text lines))

send_short : (m : Draft) → IsSmall m → text_length (Send m.id m.size m.fill true ∷ []) ≤ 64
unfolding line_words behind_length
send_short m small =
    omega (
      arith,
      ended_length (line_text (Send m.id m.size m.fill true)) [],
      spaced_length (codes "send") (hex_id m.id ∷ decimal m.size ∷ decimal m.fill ∷ codes "inc" ∷ []),
      three_digits m.size (omega (arith, small.greatest)),
      three_digits m.fill (omega (arith, small.fill)),
    )

buffer_short : (m : Draft) → IsSmall m → text_length (Allocate 0 m.size ∷ Form 0 m.id m.fill ∷ TransmitBuffer 0 true ∷ []) ≤ 64
unfolding line_words behind_length
buffer_short m small =
    let sent = line_text (TransmitBuffer 0 true) ∷ [] in
    let formed = line_text (Form 0 m.id m.fill) ∷ sent in
    omega (
      arith,
      ended_length (line_text (Allocate 0 m.size)) formed,
      ended_length (line_text (Form 0 m.id m.fill)) sent,
      ended_length (line_text (TransmitBuffer 0 true)) [],
      spaced_length (codes "alloc") (buffer_word 0 ∷ decimal m.size ∷ []),
      spaced_length (codes "form") (buffer_word 0 ∷ hex_id m.id ∷ decimal m.fill ∷ []),
      spaced_length (codes "xmit") (buffer_word 0 ∷ codes "inc" ∷ []),
      length-decimal-le 1 0 (omega arith) (omega arith) (omega arith),
      three_digits m.size (omega (arith, small.greatest)),
      three_digits m.fill (omega (arith, small.fill)),
    )

receive_short : text_length (Receive 0 ∷ []) ≤ 64
unfolding line_words behind_length
receive_short =
    omega (arith, ended_length (line_text (Receive 0)) [], spaced_length (codes "recv") (pipe_word 0 ∷ []), length-decimal-le 1 0 (omega arith) (omega arith) (omega arith))

kind_short : (kind : Kind) (number : ℕ) → text_length (action_of kind number).0 ≤ 64
unfolding action_of
kind_short kinds.Send number = send_short (draft number).0 (draft_small number)
kind_short kinds.SendBuffer number = buffer_short (draft number).0 (draft_small number)
kind_short kinds.Receive number = receive_short

action_short : (number : ℕ) → text_length (action number).0 ≤ 64
unfolding action
action_short number = kind_short (kind_of (draw 4 number).0) (draw 4 number).1

text_append : (lines others : List Line) → text_length (lines ++ others) ≡ text_length lines + text_length others
text_append lines others =
    omega (
      arith,
      ap (λ (l : List (List ℕ)). length (ended l)) (map-append line_text lines others),
      ap (λ (l : List ℕ). length l) (ended-append (map line_text lines) (map line_text others)),
      length-append (ended (map line_text lines)) (ended (map line_text others)),
    )

actions_short : (count number : ℕ) → text_length (actions count number).0 ≤ 64 * count
unfolding actions
actions_short zero number = omega arith
actions_short (suc count) number =
    omega (arith, text_append (action number).0 (actions count (action number).1).0, action_short number, actions_short count (action number).1)

-- ---- applications

first_short : (app : ℕ) → app < 10 → text_length (first_lines app) ≤ 100
unfolding first_lines line_words behind_length
first_short app digit =
    let one = Subscribe (id_of app) 0 4 Global in
    let other = Subscribe (id_of (app % 4 + 1)) 0 4 Global in
    let create = Create 0 8 (80 ∷ decimal app) in
    omega (
      arith,
      ended_length (line_text create) (line_text one ∷ line_text other ∷ []),
      ended_length (line_text one) (line_text other ∷ []),
      ended_length (line_text other) [],
      spaced_length (codes "create") (pipe_word 0 ∷ decimal 8 ∷ name_text (80 ∷ decimal app) ∷ []),
      spaced_length (codes "sub") (hex_id (id_of app) ∷ pipe_word 0 ∷ decimal 4 ∷ codes "global" ∷ []),
      spaced_length (codes "sub") (hex_id (id_of (app % 4 + 1)) ∷ pipe_word 0 ∷ decimal 4 ∷ codes "global" ∷ []),
      three_digits 0 (omega arith),
      three_digits 4 (omega arith),
      three_digits 8 (omega arith),
      three_digits app (omega (arith, digit)),
    )

app_word : (app : ℕ) → app < 10 → length (spaced (codes "app" ∷ (71 ∷ decimal app) ∷ [])) ≤ 10
unfolding behind_length
app_word app digit = omega (arith, spaced_length (codes "app") ((71 ∷ decimal app) ∷ []), three_digits app (omega (arith, digit)))

application_short : (app number : ℕ) → app < 10 → length (ended (app_lines (application app number).0)) ≤ 17000
unfolding application
application_short app number digit =
    let lines = first_lines app ++ (actions 250 number).0 in
    omega (
      arith,
      ended_length (spaced (codes "app" ∷ (71 ∷ decimal app) ∷ [])) (map line_text lines),
      app_word app digit,
      text_append (first_lines app) (actions 250 number).0,
      first_short app digit,
      actions_short 250 number,
    )

apps_length : (app : Application) (apps : List Application) → length (ended (flat_map app_lines (app ∷ apps))) ≡ length (ended (app_lines app)) + length (ended (flat_map app_lines apps))
apps_length app apps =
    omega (arith, ap (λ (l : List ℕ). length l) (ended-append (app_lines app) (flat_map app_lines apps)), length-append (ended (app_lines app)) (ended (flat_map app_lines apps)))

script_short : (script : ℕ) → length (spelled_script (generated script)) ≤ 1048576
unfolding spelled_script spelled_lines version_lines set_lines_of sizes_lines generated applications
script_short script =
    let first = first_number script in
    let second = (application 1 first).1 in
    let third = (application 2 second).1 in
    let fourth = (application 3 third).1 in
    let four = (application 4 fourth).0 ∷ [] in
    let three = (application 3 third).0 ∷ four in
    let two = (application 2 second).0 ∷ three in
    omega (
      arith,
      apps_length (application 1 first).0 two,
      apps_length (application 2 second).0 three,
      apps_length (application 3 third).0 four,
      apps_length (application 4 fourth).0 [],
      application_short 1 first (omega arith),
      application_short 2 second (omega arith),
      application_short 3 third (omega arith),
      application_short 4 fourth (omega arith),
    )

pub reads_back : (script : ℕ) → grammar (spelled_script (generated script)) ≡ Ok (generated script)
reads_back script = scripts_back (generated script) (generated_in script) (script_short script)
