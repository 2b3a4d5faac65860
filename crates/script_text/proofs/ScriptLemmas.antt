-- What a generated script is: one that a text can be.
use Rattle.std.proofs.Common.{◌≡◌, ℕ, ◌+◌, ◌%◌, ◌<◌, ◌≤◌, Bool, true, ◌&&◌, List, [], ◌∷◌, ◌++◌, length, decimal, refl, ap, ◌∙◌, arith}
use Rattle.std.specs.List.{list_all}
use Rattle.std.proofs.lemmas.Fmt.{decimal_digit}
use Rattle.fsw_base.specs.Limits.{Limits, usual_limits}
use Rattle.fsw_base.specs.declared.config.Scope.TheVariants.{Global}
use Rattle.script_lines.specs.declared.line.Line.{Line}
use Rattle.script_lines.specs.declared.line.Line.TheVariants.{Create, Subscribe}
use Rattle.script_lines.specs.Ranges.{is_readable}
use Rattle.script_settings.specs.Settings.{is_app_name}
use Rattle.script_settings.specs.Accounts.{account_of}
use Rattle.app_script.specs.Script.{Application}
use Rattle.app_script.specs.ScriptRanges.{is_application, have_new_names, all_calls, IsScript}
use Rattle.script_text.specs.Draws.{first_number}
use Rattle.script_text.specs.Generated.{id_of, first_lines, actions, application, applications, generated}
use Rattle.script_text.proofs.LineLemmas.{all_both, actions_readable}
use Rattle.script_text.proofs.ApplicationLemmas.{lines_few, lines_light}

-- ---- an application of the four

-- its name and its lines can be those of a text, if its number is one digit
application_in : (app number : ℕ) → is_app_name (71 ∷ decimal app) ≡ true → list_all is_readable (first_lines app) ≡ true → is_application (application app number).0 ≡ true
unfolding application
application_in app number named first = ap (λ b. b && list_all is_readable (first_lines app ++ (actions 250 number).0)) named ∙ all_both is_readable (first_lines app) (actions 250 number).0 first (actions_readable 250 number)

few : (app number : ℕ) → length (application app number).0.lines ≤ 753
unfolding application
few app number = lines_few app number

light : (app number : ℕ) → app < 10 → (account_of (application app number).0.lines).bytes ≤ 16002
unfolding application
light app number digit = lines_light app number digit

-- its lines before the actions can be those of a text, if they can be with the digit in its place
first_in : (app : ℕ) → app < 10 → list_all is_readable (Create 0 8 (80 ∷ (48 + app) ∷ []) ∷ Subscribe (id_of app) 0 4 Global ∷ Subscribe (id_of (app % 4 + 1)) 0 4 Global ∷ []) ≡ true
    → list_all is_readable (first_lines app) ≡ true
unfolding first_lines
first_in app digit readable =
    ap (λ (d : List ℕ). list_all is_readable (Create 0 8 (80 ∷ d) ∷ Subscribe (id_of app) 0 4 Global ∷ Subscribe (id_of (app % 4 + 1)) 0 4 Global ∷ [])) (decimal_digit app digit) ∙ readable

name_in : (app : ℕ) → app < 10 → is_app_name (71 ∷ (48 + app) ∷ []) ≡ true → is_app_name (71 ∷ decimal app) ≡ true
name_in app digit named = ap (λ (d : List ℕ). is_app_name (71 ∷ d)) (decimal_digit app digit) ∙ named

application_1 : (number : ℕ) → is_application (application 1 number).0 ≡ true
unfolding is_readable is_app_name
application_1 number = application_in 1 number (name_in 1 (omega arith) refl) (first_in 1 (omega arith) refl)

application_2 : (number : ℕ) → is_application (application 2 number).0 ≡ true
unfolding is_readable is_app_name
application_2 number = application_in 2 number (name_in 2 (omega arith) refl) (first_in 2 (omega arith) refl)

application_3 : (number : ℕ) → is_application (application 3 number).0 ≡ true
unfolding is_readable is_app_name
application_3 number = application_in 3 number (name_in 3 (omega arith) refl) (first_in 3 (omega arith) refl)

application_4 : (number : ℕ) → is_application (application 4 number).0 ≡ true
unfolding is_readable is_app_name
application_4 number = application_in 4 number (name_in 4 (omega arith) refl) (first_in 4 (omega arith) refl)

-- ---- the script

all_more : {X : Type 0} (p : X → Bool) (x : X) (xs : List X) → p x ≡ true → list_all p xs ≡ true → list_all p (x ∷ xs) ≡ true
all_more p x xs one others = ap (λ b. b && list_all p xs) one ∙ others

all_four : (a b c d : Application) → is_application a ≡ true → is_application b ≡ true → is_application c ≡ true → is_application d ≡ true → list_all is_application (a ∷ b ∷ c ∷ d ∷ []) ≡ true
all_four a b c d one two three four =
    all_more is_application a (b ∷ c ∷ d ∷ []) one (all_more is_application b (c ∷ d ∷ []) two (all_more is_application c (d ∷ []) three (all_more is_application d [] four refl)))

-- four names that differ in their digit
names_differ : (a b c d : List Line) (one two three four : List ℕ) → one ≡ 71 ∷ 49 ∷ [] → two ≡ 71 ∷ 50 ∷ [] → three ≡ 71 ∷ 51 ∷ [] → four ≡ 71 ∷ 52 ∷ []
    → have_new_names [] (record { name = one; lines = a } ∷ record { name = two; lines = b } ∷ record { name = three; lines = c } ∷ record { name = four; lines = d } ∷ []) ≡ true
names_differ a b c d one two three four first second third fourth = rw (first, second, third, fourth) refl

name_of : (app : ℕ) → app < 10 → 71 ∷ decimal app ≡ 71 ∷ (48 + app) ∷ []
name_of app digit = ap (λ (d : List ℕ). 71 ∷ d) (decimal_digit app digit)

new_names : (a b c d : ℕ) → have_new_names [] ((application 1 a).0 ∷ (application 2 b).0 ∷ (application 3 c).0 ∷ (application 4 d).0 ∷ []) ≡ true
unfolding application
new_names a b c d =
    names_differ (application 1 a).0.lines (application 2 b).0.lines (application 3 c).0.lines (application 4 d).0.lines (71 ∷ decimal 1) (71 ∷ decimal 2) (71 ∷ decimal 3) (71 ∷ decimal 4)
    (name_of 1 (omega arith)) (name_of 2 (omega arith)) (name_of 3 (omega arith)) (name_of 4 (omega arith))

pub generated_in : (script : ℕ) → IsScript (generated script)
unfolding generated applications
generated_in script =
    let first = first_number script in
    let second = (application 1 first).1 in
    let third = (application 2 second).1 in
    let fourth = (application 3 third).1 in
    record {
      version = refl;
      limits = refl;
      sizes = refl;
      starts = refl;
      some = omega arith;
      few = omega arith;
      names = new_names first second third fourth;
      applications = all_four (application 1 first).0 (application 2 second).0 (application 3 third).0 (application 4 fourth).0 (application_1 first) (application_2 second) (application_3 third) (application_4 fourth);
      calls = omega (arith, few 1 first, few 2 second, few 3 third, few 4 fourth);
      bytes = omega (arith, light 1 first (omega arith), light 2 second (omega arith), light 3 third (omega arith), light 4 fourth (omega arith));
    }

pub generated_few : (script : ℕ) → all_calls (generated script).apps ≤ 3012
unfolding generated applications
generated_few script =
    let first = first_number script in
    let second = (application 1 first).1 in
    let third = (application 2 second).1 in
    let fourth = (application 3 third).1 in
    omega (arith, few 1 first, few 2 second, few 3 third, few 4 fourth)

-- the script of these limits and applications is the generated one
pub generated_from : (script number : ℕ) (limits : Limits) (apps : List Application) → limits ≡ usual_limits → number ≡ first_number script → apps ≡ (applications 1 4 number).0
    → record { limits = limits; apps = apps } ≡ generated script
unfolding generated
generated_from script number limits apps usual start drawn =
    ap (λ (l : Limits). record { limits = l; apps = apps }) usual ∙ ap (λ (a : List Application). record { limits = usual_limits; apps = a }) (drawn ∙ ap (λ n. (applications 1 4 n).0) start)
