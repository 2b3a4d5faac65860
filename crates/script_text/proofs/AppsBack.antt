-- The applications of a script are read again from their spelling, and so is the whole script.
use Rattle.std.proofs.Common.{◌≡◌, ℕ, ◌+◌, ◌<◌, ◌≤◌, Bool, true, false, cond, not, ◌&&◌, ◌||◌, eqb, nat_le, nat_lt, List, [], ◌∷◌, ◌++◌, length, map, Option, Some, None, Ok, Err, refl, ap, sym, ◌∙◌, subst, arith, append_assoc, append-nil, codes}
use Rattle.std.specs.List.{list_all, list_any, flat_map, starts_with}
use Rattle.std.proofs.lemmas.Bool.{eqb-true, ne_eqb, le-ltb, lt-leb, leb-true}
use Rattle.std.proofs.lemmas.List.{length-append}
use Rattle.fsw_base.specs.Limits.{Limits}
use Rattle.script_words.specs.Readings.{◌>>=◌}
use Rattle.script_words.specs.Text.{is_same, is_text, has_bytes, words_of, behind_word}
use Rattle.script_words.specs.Counts.{Word, next, none, one}
use Rattle.script_words.specs.Numbers.{is_digit}
use Rattle.script_lines.specs.declared.line.Line.{Line}
use Rattle.script_lines.specs.declared.call_lines.CallWord.{CallWord}
use Rattle.script_lines.specs.BusLines.{bus_word}
use Rattle.script_lines.specs.MemoryLines.{memory_word}
use Rattle.script_lines.specs.EventLines.{event_word}
use Rattle.script_lines.specs.TableLines.{table_word}
use Rattle.script_lines.specs.CallLines.{table_or_show, event_or_table, memory_or_event, call_word}
use Rattle.script_text.specs.Spelling.{spaced, line_text}
use Rattle.script_lines.specs.Ranges.{is_visible, is_readable}
use Rattle.script_lines.proofs.Booleans.{and_first, and_second, both, all_weaker, between, at_least, at_most}
use Rattle.script_text.proofs.WordLemmas.{IsWord, AreWords, no_words, ◌◃◌, keyword}
use Rattle.script_text.proofs.LinesBack.{reads_back}
use Rattle.app_script.specs.declared.forms.Form.{Form}
use Rattle.app_script.specs.declared.forms.Form.TheVariants.{App, Call}
use Rattle.app_script.specs.Forms.{call_form, form_of, is_misplaced}
use Rattle.app_script.specs.Script.{Application, ScriptText}
use Rattle.script_settings.specs.Settings.{is_name_byte, is_app_name, app_of}
use Rattle.script_settings.specs.Accounts.{account_of, charge_of}
use Rattle.fsw_base.specs.declared.script_faults.FaultKind.TheVariants.{LineTooLong, BadByte}
use Rattle.app_script.specs.Grammar.{Progress, opening, apps_of, after_app, after_call, after_form, after_words, after_line, after_lines, at_line, grammar, ◌>=>◌}
use Rattle.script_text.specs.ScriptSpelling.{app_lines, ended, version_lines, set_lines, sizes_lines, seq_text, spelled_lines, spelled_script}
use Rattle.app_script.specs.ScriptRanges.{have_new_names, is_application, all_calls, all_bytes, IsScript}
use Rattle.app_script.proofs.ScriptLemmas.{account_of_push}
use Rattle.app_script.proofs.ReadingStates.{Calling, Ready, account_grows, nothing_taken, progress_back, grammar_back}
use Rattle.script_text.proofs.PrintLemmas.{same_numbers}
use Rattle.script_text.proofs.LinesAgain.{lines_again, Leads, leads_none, leads_one, leads_then, known_line, spaced_line}
use Rattle.script_text.proofs.SettingsBack.{Starting, settings_lead}

-- ---- the form of a call line

-- no call line's first word is one of the others
other_word : (first keyword : Word) (word : CallWord) → call_word first ≡ Some word → call_word keyword ≡ None → is_same first keyword ≡ false
other_word first keyword word known none = decide (is_same first keyword) refl
  where
    decide : (b : Bool) → is_same first keyword ≡ b → is_same first keyword ≡ false
    decide true e = let f : Some word ≡ None = sym known ∙ ap call_word (same_numbers first keyword e) ∙ none in absurd cc
    decide false e = e

no_script : call_word (codes "script") ≡ None
unfolding call_word bus_word memory_or_event memory_word event_or_table event_word table_or_show table_word
no_script = refl

no_set : call_word (codes "set") ≡ None
unfolding call_word bus_word memory_or_event memory_word event_or_table event_word table_or_show table_word
no_set = refl

no_sizes : call_word (codes "sizes") ≡ None
unfolding call_word bus_word memory_or_event memory_word event_or_table event_word table_or_show table_word
no_sizes = refl

no_seq : call_word (codes "seq") ≡ None
unfolding call_word bus_word memory_or_event memory_word event_or_table event_word table_or_show table_word
no_seq = refl

no_app : call_word (codes "app") ≡ None
unfolding call_word bus_word memory_or_event memory_word event_or_table event_word table_or_show table_word
no_app = refl

no_comment : (word : List ℕ) → call_word (35 ∷ word) ≡ None
unfolding call_word bus_word memory_or_event memory_word event_or_table event_word table_or_show table_word
no_comment word = refl

call_form_known : (first : Word) (word : CallWord) → call_word first ≡ Some word → call_form first ≡ Some (Call word)
unfolding call_form
call_form_known first word known = ap (λ (o : Option CallWord). elim o as (λ _. Option Form) [ Some w ↦ Some (Call w) | None ↦ None ]) known

call_known : (first : Word) (word : CallWord) → call_word first ≡ Some word → form_of first ≡ Some (Call word)
unfolding form_of
call_known first word known =
    let a = other_word first (codes "script") word known no_script in
    let b = other_word first (codes "set") word known no_set in
    let c = other_word first (codes "sizes") word known no_sizes in
    let d = other_word first (codes "seq") word known no_seq in
    let e = other_word first (codes "app") word known no_app in
    rw (a, b, c, d, e) (call_form_known first word known)

call_no_comment : (first : Word) (word : CallWord) → call_word first ≡ Some word → starts_with (λ a b. eqb a b) first (codes "#") ≡ false
call_no_comment [] word known = refl
call_no_comment (byte ∷ rest) word known =
    let other : eqb 35 byte ≡ false = ne_eqb 35 byte (λ e. let f : Some word ≡ None = sym known ∙ ap (λ b. call_word (b ∷ rest)) (sym e) ∙ no_comment rest in absurd cc) in
    ap (λ b. b && true) other

-- ---- call lines

call_line : (s : Progress) (limits : Limits) (front : List Application) (name : List ℕ) (calls bytes : ℕ) (lines : List Line) (line : Line) → Calling limits front name calls bytes lines s → is_readable line ≡ true
    → calls + length lines < 20000 → bytes + (account_of (lines ++ line ∷ [])).bytes ≤ 16777216
    → (t : Progress) × (after_line s (line_text line) ≡ Ok t) × Calling limits front name calls bytes (lines ++ line ∷ []) t
unfolding after_form after_call
call_line s limits front name calls bytes lines line now readable room budget =
    let back = reads_back line readable in
    let placed : is_misplaced (Call back.word) s.begun s.started ≡ false = ap not now.started in
    let step = known_line s (line_text line) back.first back.others (Call back.word) back.short back.printed back.words (call_no_comment back.first back.word back.known) (call_known back.first back.word back.known) placed in
    let here : s.present.lines ≡ lines = ap (λ (a : Application). a.lines) now.present in
    let more : (account_of (lines ++ line ∷ [])).bytes ≡ (account_of lines).bytes + charge_of (account_of lines) line = ap (λ a. a.bytes) (account_of_push lines line) in
    let charge : charge_of (account_of s.present.lines) line ≡ charge_of (account_of lines) line = ap (λ (l : List Line). charge_of (account_of l) line) here in
    let few : nat_le 20000 s.calls ≡ false = lt-leb 20000 s.calls (omega (arith, now.counted)) in
    let light : nat_lt 16777216 (s.charged + charge_of (account_of s.present.lines) line) ≡ false = le-ltb 16777216 (s.charged + charge_of (account_of s.present.lines) line) (omega (arith, now.charged)) in
    let after : after_call (record s { begun = true }) line ≡ Ok (record s { begun = true; present = record s.present { lines = s.present.lines ++ line ∷ [] }; calls = s.calls + 1; charged = s.charged + charge_of (account_of s.present.lines) line }) = rw few (rw light refl) in (
      (record s { begun = true; present = record s.present { lines = s.present.lines ++ line ∷ [] }; calls = s.calls + 1; charged = s.charged + charge_of (account_of s.present.lines) line }),
      step ∙ ap (λ r. r >>= after_call (record s { begun = true })) back.reads ∙ after,
      record {
        has = now.has;
        started = now.started;
        done = now.done;
        present = ap (λ (a : Application). record a { lines = a.lines ++ line ∷ [] }) now.present;
        counted = omega (arith, now.counted, length-append lines (line ∷ []));
        charged = omega (arith, now.charged);
      },
    )

calls_lead : (rest lines : List Line) (s : Progress) (limits : Limits) (front : List Application) (name : List ℕ) (calls bytes : ℕ) → Calling limits front name calls bytes lines s → list_all is_readable rest ≡ true
    → calls + length (lines ++ rest) ≤ 20000 → bytes + (account_of (lines ++ rest)).bytes ≤ 16777216 → Leads s (map line_text rest) (Calling limits front name calls bytes (lines ++ rest))
calls_lead [] lines s limits front name calls bytes now readable few light =
    leads_none s (Calling limits front name calls bytes (lines ++ [])) (subst (λ (l : List Line). Calling limits front name calls bytes l s) (sym (append-nil lines)) now)
calls_lead (line ∷ rest) lines s limits front name calls bytes now readable few light =
    let whole : (lines ++ line ∷ []) ++ rest ≡ lines ++ line ∷ rest = append_assoc lines (line ∷ []) rest in
    let grows = account_grows (lines ++ line ∷ []) rest in
    leads_then s (line_text line ∷ []) (map line_text rest) (Calling limits front name calls bytes (lines ++ line ∷ [])) (Calling limits front name calls bytes (lines ++ line ∷ rest))
    (leads_one s (line_text line) (Calling limits front name calls bytes (lines ++ line ∷ []))
    (call_line s limits front name calls bytes lines line now (and_first (is_readable line) (list_all is_readable rest) readable)
    (omega (arith, length-append lines (line ∷ rest))) (omega (arith, ap (λ (l : List Line). (account_of l).bytes) whole))))
    (λ t after. subst (λ (l : List Line). Leads t (map line_text rest) (Calling limits front name calls bytes l)) whole
    (calls_lead rest (lines ++ line ∷ []) t limits front name calls bytes after (and_second (is_readable line) (list_all is_readable rest) readable)
    (omega (arith, ap (λ (l : List Line). length l) whole)) (omega (arith, ap (λ (l : List Line). (account_of l).bytes) whole))))

-- ---- applications

app_known : form_of (codes "app") ≡ Some App
unfolding form_of
app_known = refl

name_byte_visible : (byte : ℕ) → is_name_byte byte ≡ true → is_visible byte ≡ true
name_byte_visible byte h = elim (is_digit byte) as (λ b. is_digit byte ≡ b → is_visible byte ≡ true) [
  | true ↦ λ e. let low = at_least 48 57 byte e in let high = at_most 48 57 byte e in between 33 126 byte (omega arith) (omega arith)
  | false ↦ λ e. elim (nat_le 65 byte && nat_le byte 90) as (λ b. (nat_le 65 byte && nat_le byte 90) ≡ b → is_visible byte ≡ true) [
    | true ↦ λ f. let low = at_least 65 90 byte f in let high = at_most 65 90 byte f in between 33 126 byte (omega arith) (omega arith)
    | false ↦ λ f. elim (nat_le 97 byte && nat_le byte 122) as (λ b. (nat_le 97 byte && nat_le byte 122) ≡ b → is_visible byte ≡ true) [
      | true ↦ λ g. let low = at_least 97 122 byte g in let high = at_most 97 122 byte g in between 33 126 byte (omega arith) (omega arith)
      | false ↦ λ g.
          let last : eqb byte 95 ≡ true = sym (ap (λ b. b || (nat_le 65 byte && nat_le byte 90) || (nat_le 97 byte && nat_le byte 122) || eqb byte 95) e ∙ ap (λ b. b || (nat_le 97 byte && nat_le byte 122) || eqb byte 95) f ∙ ap (λ b. b || eqb byte 95) g) ∙ h in
          let same = eqb-true byte 95 last in
          between 33 126 byte (omega arith) (omega arith)
    ] refl
  ] refl
] refl

app_name_reads : (name : List ℕ) → is_app_name name ≡ true → app_of (name ∷ []) ≡ Ok name
unfolding app_of one next none
app_name_reads name h = rw h refl

some_name : (name : List ℕ) → 1 ≤ length name → has_bytes name ≡ true
some_name [] h = absurd (omega arith)
some_name (byte ∷ name) h = refl

app_name_fits : (name : List ℕ) → is_app_name name ≡ true → IsWord 19 name
unfolding is_app_name
app_name_fits name h =
    let counts = and_first (nat_le 1 (length name) && nat_le (length name) 19) (list_all is_name_byte name) h in
    let some = leb-true 1 (length name) (and_first (nat_le 1 (length name)) (nat_le (length name) 19) counts) in
    record {
      form = both (some_name name some) (all_weaker is_name_byte is_visible name_byte_visible name (and_second (nat_le 1 (length name) && nat_le (length name) 19) (list_all is_name_byte name) h));
      short = leb-true (length name) 19 (and_second (nat_le 1 (length name)) (nat_le (length name) 19) counts);
    }

app_line : (s : Progress) (limits : Limits) (apps : List Application) (name : List ℕ) (calls bytes : ℕ) → Ready limits apps calls bytes s → is_app_name name ≡ true → length apps < 16 → list_any (λ other. is_same other.name name) apps ≡ false
    → (t : Progress) × (after_line s (spaced (codes "app" ∷ name ∷ [])) ≡ Ok t) × Calling limits apps name calls bytes [] t
unfolding after_form after_app
app_line s limits apps name calls bytes now valid few new =
    let are : AreWords 29 (codes "app" ∷ name ∷ []) = keyword (codes "app") refl refl ◃ app_name_fits name valid ◃ no_words in
    let spelled = spaced_line (codes "app") (name ∷ []) are (omega arith) in
    let line = known_line s (spaced (codes "app" ∷ name ∷ [])) (codes "app") (name ∷ []) App spelled.short spelled.printed spelled.words refl app_known refl in
    let reads = app_name_reads name valid in
    let fresh : list_any (λ other. is_same other.name name) (apps_of s) ≡ false = ap (list_any (λ other. is_same other.name name)) now.read ∙ new in
    let room : nat_le 16 (length (apps_of s)) ≡ false = ap (λ (l : List Application). nat_le 16 (length l)) now.read ∙ lt-leb 16 (length apps) few in
    let after : after_app (record s { begun = true }) (name ∷ []) ≡ Ok (record s { begun = true; started = true; done = apps_of s; present = record { name = name; lines = [] } }) = rw reads (rw fresh (rw room refl)) in (
      (record s { begun = true; started = true; done = apps_of s; present = record { name = name; lines = [] } }),
      line ∙ ap (after_app (record s { begun = true })) spelled.back ∙ after,
      record {
        has = now.has;
        started = refl;
        done = now.read;
        present = refl;
        counted = omega (arith, now.counted);
        charged = omega (arith, now.charged, nothing_taken);
      },
    )

-- an application and its lines
app_leads : (s : Progress) (limits : Limits) (apps : List Application) (app : Application) (calls bytes : ℕ) → Ready limits apps calls bytes s → is_application app ≡ true → length apps < 16 → list_any (λ other. is_same other.name app.name) apps ≡ false
    → calls + length app.lines ≤ 20000 → bytes + (account_of app.lines).bytes ≤ 16777216 → Leads s (app_lines app) (Ready limits (apps ++ app ∷ []) (calls + length app.lines) (bytes + (account_of app.lines).bytes))
app_leads s limits apps app calls bytes now valid few new room light =
    leads_then s (spaced (codes "app" ∷ app.name ∷ []) ∷ []) (map line_text app.lines) (Calling limits apps app.name calls bytes []) (Ready limits (apps ++ app ∷ []) (calls + length app.lines) (bytes + (account_of app.lines).bytes))
    (leads_one s (spaced (codes "app" ∷ app.name ∷ [])) (Calling limits apps app.name calls bytes []) (app_line s limits apps app.name calls bytes now (and_first (is_app_name app.name) (list_all is_readable app.lines) valid) few new))
    (λ t begun n.
    let lines = calls_lead app.lines [] t limits apps app.name calls bytes begun (and_second (is_app_name app.name) (list_all is_readable app.lines) valid) room light n in
    let end = lines.2 in (
      lines.0,
      lines.1,
      record {
        has = end.has;
        read = ap (λ b. cond b (lines.0.done ++ lines.0.present ∷ []) lines.0.done) end.started ∙ ap (λ (l : List Application). l ++ lines.0.present ∷ []) end.done ∙ ap (λ (a : Application). apps ++ a ∷ []) end.present;
        begins = λ some. end.started;
        counted = end.counted;
        charged = end.charged;
      },
    ))

apps_lead : (rest apps : List Application) (s : Progress) (limits : Limits) (calls bytes : ℕ) → Ready limits apps calls bytes s → list_all is_application rest ≡ true → have_new_names apps rest ≡ true → length (apps ++ rest) ≤ 16
    → calls + all_calls rest ≤ 20000 → bytes + all_bytes rest ≤ 16777216 → Leads s (flat_map app_lines rest) (Ready limits (apps ++ rest) (calls + all_calls rest) (bytes + all_bytes rest))
apps_lead [] apps s limits calls bytes now valid new few room light =
    leads_none s (Ready limits (apps ++ []) (calls + 0) (bytes + 0)) (record {
      has = now.has;
      read = now.read ∙ sym (append-nil apps);
      begins = λ some. now.begins (subst (λ (l : List Application). 1 ≤ length l) (append-nil apps) some);
      counted = omega (arith, now.counted);
      charged = omega (arith, now.charged);
    })
apps_lead (app ∷ rest) apps s limits calls bytes now valid new few room light =
    let whole : (apps ++ app ∷ []) ++ rest ≡ apps ++ app ∷ rest = append_assoc apps (app ∷ []) rest in
    let fresh = not_true (list_any (λ other. is_same other.name app.name) apps) (and_first (not (list_any (λ other. is_same other.name app.name) apps)) (have_new_names (apps ++ app ∷ []) rest) new) in
    let sum_calls : calls + length app.lines + all_calls rest ≡ calls + (length app.lines + all_calls rest) = omega arith in
    let sum_bytes : bytes + (account_of app.lines).bytes + all_bytes rest ≡ bytes + ((account_of app.lines).bytes + all_bytes rest) = omega arith in
    leads_then s (app_lines app) (flat_map app_lines rest) (Ready limits (apps ++ app ∷ []) (calls + length app.lines) (bytes + (account_of app.lines).bytes)) (Ready limits (apps ++ app ∷ rest) (calls + (length app.lines + all_calls rest)) (bytes + ((account_of app.lines).bytes + all_bytes rest)))
    (app_leads s limits apps app calls bytes now (and_first (is_application app) (list_all is_application rest) valid) (omega (arith, length-append apps (app ∷ rest))) fresh (omega arith) (omega arith))
    (λ t after n.
    let others = apps_lead rest (apps ++ app ∷ []) t limits (calls + length app.lines) (bytes + (account_of app.lines).bytes) after (and_second (is_application app) (list_all is_application rest) valid)
    (and_second (not (list_any (λ other. is_same other.name app.name) apps)) (have_new_names (apps ++ app ∷ []) rest) new) (omega (arith, ap (λ (l : List Application). length l) whole)) (omega arith) (omega arith) n in
    let end = others.2 in (
      others.0,
      others.1,
      record {
        has = end.has;
        read = end.read ∙ whole;
        begins = λ some. end.begins (subst (λ (l : List Application). 1 ≤ length l) (sym whole) some);
        counted = end.counted ∙ sum_calls;
        charged = end.charged ∙ sum_bytes;
      },
    ))
  where
    not_true : (b : Bool) → not b ≡ true → b ≡ false
    not_true true h = absurd cc
    not_true false h = refl

-- ---- the whole

ready : (limits : Limits) (s : Progress) → Starting limits s → Ready limits [] 0 0 s
ready limits s now = record {
  has = now.has;
  read = ap (λ b. cond b (s.done ++ s.present ∷ []) s.done) now.started ∙ now.done;
  begins = λ some. absurd (omega arith);
  counted = now.calls;
  charged = now.charged;
}

script_leads : (script : ScriptText) → IsScript script → Leads opening (spelled_lines script) (Ready script.limits script.apps (all_calls script.apps) (all_bytes script.apps))
unfolding spelled_lines
script_leads script is =
    leads_then opening (((version_lines script.limits.version ++ set_lines script.limits) ++ sizes_lines script.limits.sizes) ++ map seq_text script.limits.starts) (flat_map app_lines script.apps) (Starting script.limits) (Ready script.limits script.apps (all_calls script.apps) (all_bytes script.apps))
    (settings_lead script.limits is.version is.limits is.sizes is.starts)
    (λ t now n.
    let apps = apps_lead script.apps [] t script.limits 0 0 (ready script.limits t now) is.applications is.names is.few (let c = is.calls in omega arith) (let b = is.bytes in omega arith) n in
    let end = apps.2 in (
      apps.0,
      apps.1,
      record {
        has = end.has;
        read = end.read;
        begins = end.begins;
        counted = omega (arith, end.counted);
        charged = omega (arith, end.charged);
      },
    ))

-- a line that was read is printed text
line_is_text : (s : Progress) (line : List ℕ) (t : Progress) → after_line s line ≡ Ok t → list_all is_text line ≡ true
unfolding after_line
line_is_text s line t h =
    elim (list_all is_text line) as (λ b. list_all is_text line ≡ b → list_all is_text line ≡ true) [
      | true ↦ λ e. e
      | false ↦ λ e. absurd (elim (nat_lt 1024 (length line)) as (λ long. cond long (Err LineTooLong) (cond (list_all is_text line) (after_words s (words_of line) (behind_word line)) (Err BadByte)) ≡ Ok t → ⊥) [
        | true ↦ λ f. cc
        | false ↦ λ f. let g : cond false (after_words s (words_of line) (behind_word line)) (Err BadByte) ≡ Ok t = ap (λ b. cond b (after_words s (words_of line) (behind_word line)) (Err BadByte)) (sym e) ∙ f in cc
      ] h)
    ] refl

lines_are_text : (lines : List (List ℕ)) (n : ℕ) (s t : Progress) → after_lines n s lines ≡ Ok t → list_all (list_all is_text) lines ≡ true
unfolding after_lines
lines_are_text [] n s t h = refl
lines_are_text (line ∷ lines) n s t h =
    elim (after_line s line) as (λ r. after_line s line ≡ r → (at_line n r >=> λ u. after_lines (n + 1) u lines) ≡ Ok t → list_all (list_all is_text) (line ∷ lines) ≡ true) [
      | Ok u ↦ λ e f. both (line_is_text s line u e) (lines_are_text lines (n + 1) u t f)
      | Err fault ↦ λ e f. absurd cc
    ] refl h

-- the spelling of a script is read as that script
pub scripts_back : (script : ScriptText) → IsScript script → length (spelled_script script) ≤ 1048576 → grammar (spelled_script script) ≡ Ok script
unfolding spelled_script
scripts_back script is short =
    let leads = script_leads script is 1 in
    let end = leads.2 in
    let again = lines_again (spelled_lines script) (lines_are_text (spelled_lines script) 1 opening leads.0 leads.1) in
    grammar_back (ended (spelled_lines script)) leads.0 script (progress_back (ended (spelled_lines script)) (spelled_lines script) leads.0 short again leads.1 (end.begins is.some)) end.has end.read
