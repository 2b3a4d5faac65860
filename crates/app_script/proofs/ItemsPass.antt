-- Items in the order of a script are taken in.
use Rattle.std.proofs.Common.{◌≡◌, ℕ, ◌+◌, ◌<◌, ◌≤◌, Bool, true, false, cond, not, nat_le, nat_lt, List, [], ◌∷◌, ◌++◌, length, map, fold, Option, Some, None, Ok, Err, refl, ap, sym, ◌∙◌, subst, arith, append_assoc, append-nil}
use Rattle.std.specs.List.{list_any, flat_map}
use Rattle.std.proofs.lemmas.Bool.{le-ltb, lt-leb}
use Rattle.std.proofs.lemmas.List.{length-append}
use Rattle.std.proofs.lemmas.Grind.{fold-append}
use Rattle.fsw_base.specs.declared.script_faults.FaultKind.TheVariants.{Misplaced, OutOfRange, Repeated, TooManyApps}
use Rattle.fsw_base.specs.Limits.{Limits, usual_limits}
use Rattle.script_words.specs.Readings.{◌>>=◌}
use Rattle.script_words.specs.Text.{is_same}
use Rattle.script_lines.specs.declared.line.Line.{Line}
use Rattle.script_settings.specs.Accounts.{account_of, charge_of}
use Rattle.script_lines.proofs.Booleans.{and_first, and_second}
use Rattle.app_script.specs.Items.{Setting, Limit, Sizes, Start, Item, Version, Configures, Begins, Calls}
use Rattle.app_script.specs.Language.{with_setting, version_in, configured, is_same_setting, are_new_settings, app_items, version_items, script_items}
use Rattle.app_script.specs.Script.{Application}
use Rattle.app_script.specs.ScriptRanges.{have_new_names, all_calls, all_bytes}
use Rattle.app_script.specs.Grammar.{Progress, opening, apps_of, after_call}
use Rattle.app_script.proofs.ScriptLemmas.{account_of_push}
use Rattle.app_script.proofs.ReadScripts.{set_starts}
use Rattle.app_script.proofs.ReadingStates.{Calling, Ready, account_grows, nothing_taken}
use Rattle.app_script.proofs.ItemSteps.{is_again, is_past, with_version, set_to, begun_by, after_item, called, taken, all_taken, taken_on}
use Rattle.app_script.proofs.ItemsTell.{Given, nothing_given, given_more}

-- from here these items are taken in, and lead to such a progress
abbrev pub Passes : Progress → List Item → (Progress → Type 0) → Type 0
Passes s items p = (t : Progress) × (all_taken s items ≡ Ok t) × p t

passes_then : (s : Progress) (xs ys : List Item) (p q : Progress → Type 0) → Passes s xs p → ((t : Progress) → p t → Passes t ys q) → Passes s (xs ++ ys) q
passes_then s xs ys p q first next =
    let others = next first.0 first.2 in
    (others.0, taken_on xs ys s first.0 first.1 ∙ others.1, others.2)

passes_one : (s t : Progress) (item : Item) (p : Progress → Type 0) → taken s item ≡ Ok t → p t → Passes s (item ∷ []) p
passes_one s t item p e h = (t, ap (λ r. r >>= λ u. all_taken u []) e, h)

not_true : (b : Bool) → not b ≡ true → b ≡ false
not_true true h = absurd cc
not_true false h = refl

-- ---- configuration

record Configuring (version : ℕ) (settings : List Setting) (s : Progress) : Type 0 where
  given : Given version settings s.limits s.named s.sized
  started : s.started ≡ false
  done : s.done ≡ []
  calls : s.calls ≡ 0
  charged : s.charged ≡ 0

version_passes : (v : Option ℕ) → Passes opening (version_items v) (Configuring (version_in v) [])
version_passes (Some version) =
    passes_one opening (with_version (record opening { begun = true }) version) (Version version) (Configuring version []) refl (record { given = nothing_given version; started = refl; done = refl; calls = refl; charged = refl })
version_passes None = (opening, refl, record { given = nothing_given 1; started = refl; done = refl; calls = refl; charged = refl })

setting_passes : (version : ℕ) (settings : List Setting) (setting : Setting) (s : Progress) → Configuring version settings s → list_any (λ other. is_same_setting other setting) settings ≡ false → is_past s.limits setting ≡ false
    → Passes s (Configures setting ∷ []) (Configuring version (settings ++ setting ∷ []))
setting_passes version settings setting s now new room =
    let after = set_to (record s { begun = true }) setting in
    let again : is_again s.limits s.named s.sized setting ≡ false = sym (now.given.again setting) ∙ new in
    passes_one s after (Configures setting) (Configuring version (settings ++ setting ∷ []))
    (ap (λ b. cond b (Err Misplaced) (after_item (record s { begun = true }) (Configures setting))) now.started
    ∙ ap (λ b. cond b (Err OutOfRange) (cond (is_again s.limits s.named s.sized setting) (Err Repeated) (Ok after))) room
    ∙ ap (λ b. cond b (Err Repeated) (Ok after)) again)
    (record { given = given_more version settings s.limits s.named s.sized setting now.given; started = now.started; done = now.done; calls = now.calls; charged = now.charged })

-- counts are added alone
one_grows : (limits : Limits) (setting : Setting) → length limits.starts ≤ length (with_setting limits setting).starts
one_grows limits (Limit name value) = omega (arith, ap (λ (l : List (ℕ × ℕ)). length l) (set_starts limits name value))
one_grows limits (Sizes sizes) = omega arith
one_grows limits (Start id count) = omega (arith, length-append limits.starts ((id, count) ∷ []))

starts_grow : (rest : List Setting) (limits : Limits) → length limits.starts ≤ length (fold with_setting limits rest).starts
starts_grow [] limits = omega arith
starts_grow (setting ∷ rest) limits = omega (arith, one_grows limits setting, starts_grow rest (with_setting limits setting))

has_room : (rest : List Setting) (limits : Limits) (setting : Setting) → length (fold with_setting (with_setting limits setting) rest).starts ≤ 16 → is_past limits setting ≡ false
has_room rest limits (Limit name value) few = refl
has_room rest limits (Sizes sizes) few = refl
has_room rest limits (Start id count) few =
    lt-leb 16 (length limits.starts) (omega (arith, few, starts_grow rest (with_setting limits (Start id count)), length-append limits.starts ((id, count) ∷ [])))

settings_pass : (version : ℕ) (rest settings : List Setting) (s : Progress) → Configuring version settings s → are_new_settings settings rest ≡ true → length (configured version (settings ++ rest)).starts ≤ 16 → Passes s (map Configures rest) (Configuring version (settings ++ rest))
settings_pass version [] settings s now new few = (s, refl, subst (λ l. Configuring version l s) (sym (append-nil settings)) now)
settings_pass version (setting ∷ rest) settings s now new few =
    let whole : (settings ++ setting ∷ []) ++ rest ≡ settings ++ setting ∷ rest = append_assoc settings (setting ∷ []) rest in
    let again = list_any (λ other. is_same_setting other setting) settings in
    let alike : length (fold with_setting (with_setting (configured version settings) setting) rest).starts ≤ 16 =
    subst (λ (l : Limits). length l.starts ≤ 16) (fold-append with_setting (record usual_limits { version = version }) settings (setting ∷ rest)) few in
    let room : is_past s.limits setting ≡ false = ap (λ l. is_past l setting) now.given.limits_are ∙ has_room rest (configured version settings) setting alike in
    passes_then s (Configures setting ∷ []) (map Configures rest) (Configuring version (settings ++ setting ∷ [])) (Configuring version (settings ++ setting ∷ rest))
    (setting_passes version settings setting s now (not_true again (and_first (not again) (are_new_settings (settings ++ setting ∷ []) rest) new)) room)
    (λ t after. subst (λ (l : List Setting). Passes t (map Configures rest) (Configuring version l)) whole
    (settings_pass version rest (settings ++ setting ∷ []) t after (and_second (not again) (are_new_settings (settings ++ setting ∷ []) rest) new)
    (subst (λ (l : List Setting). length (configured version l).starts ≤ 16) (sym whole) few)))

-- ---- call lines

call_passes : (s : Progress) (limits : Limits) (front : List Application) (name : List ℕ) (calls bytes : ℕ) (lines : List Line) (line : Line) → Calling limits front name calls bytes lines s
    → calls + length lines < 20000 → bytes + (account_of (lines ++ line ∷ [])).bytes ≤ 16777216 → Passes s (Calls line ∷ []) (Calling limits front name calls bytes (lines ++ line ∷ []))
unfolding after_call
call_passes s limits front name calls bytes lines line now room budget =
    let here : s.present.lines ≡ lines = ap (λ (a : Application). a.lines) now.present in
    let more : (account_of (lines ++ line ∷ [])).bytes ≡ (account_of lines).bytes + charge_of (account_of lines) line = ap (λ a. a.bytes) (account_of_push lines line) in
    let charge : charge_of (account_of s.present.lines) line ≡ charge_of (account_of lines) line = ap (λ (l : List Line). charge_of (account_of l) line) here in
    let few : nat_le 20000 s.calls ≡ false = lt-leb 20000 s.calls (omega (arith, now.counted)) in
    let light : nat_lt 16777216 (s.charged + charge_of (account_of s.present.lines) line) ≡ false = le-ltb 16777216 (s.charged + charge_of (account_of s.present.lines) line) (omega (arith, now.charged)) in
    let after : after_call (record s { begun = true }) line ≡ Ok (called (record s { begun = true }) line) = rw few (rw light refl) in
    passes_one s (called (record s { begun = true }) line) (Calls line) (Calling limits front name calls bytes (lines ++ line ∷ []))
    (ap (λ b. cond (not b) (Err Misplaced) (after_call (record s { begun = true }) line)) now.started ∙ after)
    (record {
      has = now.has;
      started = now.started;
      done = now.done;
      present = ap (λ (a : Application). record a { lines = a.lines ++ line ∷ [] }) now.present;
      counted = omega (arith, now.counted, length-append lines (line ∷ []));
      charged = omega (arith, now.charged);
    })

calls_pass : (rest lines : List Line) (s : Progress) (limits : Limits) (front : List Application) (name : List ℕ) (calls bytes : ℕ) → Calling limits front name calls bytes lines s
    → calls + length (lines ++ rest) ≤ 20000 → bytes + (account_of (lines ++ rest)).bytes ≤ 16777216 → Passes s (map Calls rest) (Calling limits front name calls bytes (lines ++ rest))
calls_pass [] lines s limits front name calls bytes now few light = (s, refl, subst (λ (l : List Line). Calling limits front name calls bytes l s) (sym (append-nil lines)) now)
calls_pass (line ∷ rest) lines s limits front name calls bytes now few light =
    let whole : (lines ++ line ∷ []) ++ rest ≡ lines ++ line ∷ rest = append_assoc lines (line ∷ []) rest in
    let grows = account_grows (lines ++ line ∷ []) rest in
    passes_then s (Calls line ∷ []) (map Calls rest) (Calling limits front name calls bytes (lines ++ line ∷ [])) (Calling limits front name calls bytes (lines ++ line ∷ rest))
    (call_passes s limits front name calls bytes lines line now (omega (arith, length-append lines (line ∷ rest))) (omega (arith, ap (λ (l : List Line). (account_of l).bytes) whole)))
    (λ t after. subst (λ (l : List Line). Passes t (map Calls rest) (Calling limits front name calls bytes l)) whole
    (calls_pass rest (lines ++ line ∷ []) t limits front name calls bytes after (omega (arith, ap (λ (l : List Line). length l) whole)) (omega (arith, ap (λ (l : List Line). (account_of l).bytes) whole))))

-- ---- applications

begin_passes : (s : Progress) (limits : Limits) (apps : List Application) (name : List ℕ) (calls bytes : ℕ) → Ready limits apps calls bytes s → length apps < 16 → list_any (λ other. is_same other.name name) apps ≡ false
    → Passes s (Begins name ∷ []) (Calling limits apps name calls bytes [])
begin_passes s limits apps name calls bytes now few new =
    let after = begun_by (record s { begun = true }) name in
    let fresh : list_any (λ other. is_same other.name name) (apps_of s) ≡ false = ap (list_any (λ other. is_same other.name name)) now.read ∙ new in
    let room : nat_le 16 (length (apps_of s)) ≡ false = ap (λ (l : List Application). nat_le 16 (length l)) now.read ∙ lt-leb 16 (length apps) few in
    passes_one s after (Begins name) (Calling limits apps name calls bytes [])
    (ap (λ b. cond b (Err Repeated) (cond (nat_le 16 (length (apps_of s))) (Err TooManyApps) (Ok after))) fresh ∙ ap (λ b. cond b (Err TooManyApps) (Ok after)) room)
    (record {
      has = now.has;
      started = refl;
      done = now.read;
      present = refl;
      counted = omega (arith, now.counted);
      charged = omega (arith, now.charged, nothing_taken);
    })

app_passes : (s : Progress) (limits : Limits) (apps : List Application) (app : Application) (calls bytes : ℕ) → Ready limits apps calls bytes s → length apps < 16 → list_any (λ other. is_same other.name app.name) apps ≡ false
    → calls + length app.lines ≤ 20000 → bytes + (account_of app.lines).bytes ≤ 16777216 → Passes s (app_items app) (Ready limits (apps ++ app ∷ []) (calls + length app.lines) (bytes + (account_of app.lines).bytes))
app_passes s limits apps app calls bytes now few new room light =
    passes_then s (Begins app.name ∷ []) (map Calls app.lines) (Calling limits apps app.name calls bytes []) (Ready limits (apps ++ app ∷ []) (calls + length app.lines) (bytes + (account_of app.lines).bytes))
    (begin_passes s limits apps app.name calls bytes now few new)
    (λ t begun.
    let lines = calls_pass app.lines [] t limits apps app.name calls bytes begun room light in
    let end = lines.2 in (
      lines.0,
      lines.1,
      record {
        has = end.has;
        read = ap (λ b. cond b (lines.0.done ++ lines.0.present ∷ []) lines.0.done) end.started ∙ ap (λ (l : List Application). l ++ lines.0.present ∷ []) end.done ∙ ap (λ (a : Application). apps ++ a ∷ []) end.present;
        begins = λ some. end.started;
        counted = end.counted;
        charged = end.charged;
      },
    ))

apps_pass : (rest apps : List Application) (s : Progress) (limits : Limits) (calls bytes : ℕ) → Ready limits apps calls bytes s → have_new_names apps rest ≡ true → length (apps ++ rest) ≤ 16
    → calls + all_calls rest ≤ 20000 → bytes + all_bytes rest ≤ 16777216 → Passes s (flat_map app_items rest) (Ready limits (apps ++ rest) (calls + all_calls rest) (bytes + all_bytes rest))
apps_pass [] apps s limits calls bytes now new few room light = (
  s,
  refl,
  record {
    has = now.has;
    read = now.read ∙ sym (append-nil apps);
    begins = λ some. now.begins (subst (λ (l : List Application). 1 ≤ length l) (append-nil apps) some);
    counted = omega (arith, now.counted);
    charged = omega (arith, now.charged);
  },
)
apps_pass (app ∷ rest) apps s limits calls bytes now new few room light =
    let whole : (apps ++ app ∷ []) ++ rest ≡ apps ++ app ∷ rest = append_assoc apps (app ∷ []) rest in
    let same = list_any (λ other. is_same other.name app.name) apps in
    let sum_calls : calls + length app.lines + all_calls rest ≡ calls + (length app.lines + all_calls rest) = omega arith in
    let sum_bytes : bytes + (account_of app.lines).bytes + all_bytes rest ≡ bytes + ((account_of app.lines).bytes + all_bytes rest) = omega arith in
    passes_then s (app_items app) (flat_map app_items rest) (Ready limits (apps ++ app ∷ []) (calls + length app.lines) (bytes + (account_of app.lines).bytes)) (Ready limits (apps ++ app ∷ rest) (calls + (length app.lines + all_calls rest)) (bytes + ((account_of app.lines).bytes + all_bytes rest)))
    (app_passes s limits apps app calls bytes now (omega (arith, length-append apps (app ∷ rest))) (not_true same (and_first (not same) (have_new_names (apps ++ app ∷ []) rest) new)) (omega arith) (omega arith))
    (λ t after.
    let others = apps_pass rest (apps ++ app ∷ []) t limits (calls + length app.lines) (bytes + (account_of app.lines).bytes) after
    (and_second (not same) (have_new_names (apps ++ app ∷ []) rest) new) (omega (arith, ap (λ (l : List Application). length l) whole)) (omega arith) (omega arith) in
    let end = others.2 in (
      others.0,
      others.1,
      record {
        has = end.has;
        read = end.read ∙ whole;
        begins = λ some. end.begins (subst (λ (l : List Application). 1 ≤ length l) (sym whole) some);
        counted = end.counted ∙ sum_calls;
        charged = end.charged ∙ sum_bytes;
      },
    ))

-- ---- the whole

ready : (version : ℕ) (settings : List Setting) (s : Progress) → Configuring version settings s → Ready (configured version settings) [] 0 0 s
ready version settings s now = record {
  has = now.given.limits_are;
  read = ap (λ b. cond b (s.done ++ s.present ∷ []) s.done) now.started ∙ now.done;
  begins = λ some. absurd (omega arith);
  counted = now.calls;
  charged = now.charged;
}

pub script_passes : (v : Option ℕ) (settings : List Setting) (apps : List Application) → are_new_settings [] settings ≡ true → length (configured (version_in v) settings).starts ≤ 16 → have_new_names [] apps ≡ true → length apps ≤ 16 → all_calls apps ≤ 20000
    → all_bytes apps ≤ 16777216 → Passes opening (script_items v settings apps) (Ready (configured (version_in v) settings) apps (0 + all_calls apps) (0 + all_bytes apps))
script_passes v settings apps once starts names few calls bytes =
    passes_then opening (version_items v ++ map Configures settings) (flat_map app_items apps) (Configuring (version_in v) settings) (Ready (configured (version_in v) settings) apps (0 + all_calls apps) (0 + all_bytes apps))
    (passes_then opening (version_items v) (map Configures settings) (Configuring (version_in v) []) (Configuring (version_in v) settings) (version_passes v) (λ t now. settings_pass (version_in v) settings [] t now once starts))
    (λ t now. apps_pass apps [] t (configured (version_in v) settings) 0 0 (ready (version_in v) settings t now) names few (omega (arith, calls)) (omega (arith, bytes)))
