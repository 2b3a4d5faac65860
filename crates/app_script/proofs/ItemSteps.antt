-- Reading line by line is taking in what the lines tell, item by item, in the version that the whole script has.
use Rattle.std.proofs.Common.{◌≡◌, ℕ, ◌+◌, Bool, true, false, cond, not, ◌&&◌, eqb, nat_le, nat_lt, List, [], ◌∷◌, ◌++◌, length, fold, Option, Some, None, Result, Ok, Err, refl, ap, sym, ◌∙◌, subst, arith, codes}
use Rattle.std.specs.List.{list_all, list_any}
use Rattle.std.proofs.lemmas.Bool.{ltb-false, le-leb, leb-true, leb-false, lt-leb, le-ltb}
use Rattle.fsw_base.specs.declared.script_faults.FaultKind.{FaultKind}
use Rattle.fsw_base.specs.declared.script_faults.FaultKind.TheVariants.{LineTooLong, BadByte, Misplaced, OutOfRange, Repeated, TooManyApps, TooManyCalls, TooManyBytes}
use Rattle.script_words.specs.Readings.{◌>>=◌}
use Rattle.script_words.specs.Text.{words_of, behind_word, is_text, is_same}
use Rattle.script_words.specs.Counts.{Word}
use Rattle.script_lines.specs.declared.line.Line.{Line}
use Rattle.script_lines.specs.CallLines.{call_line_of}
use Rattle.script_lines.specs.FileLines.{tfile_of}
use Rattle.script_settings.specs.Accounts.{account_of, charge_of}
use Rattle.script_settings.specs.Settings.{with_limit, is_among, set_of, sizes_of, seq_of, app_of, script_of}
use Rattle.script_settings.specs.declared.settings.LimitName.{LimitName}
use Rattle.fsw_base.specs.Limits.{Limits}
use Rattle.script_lines.proofs.Booleans.{and_first, and_second, both}
use Rattle.app_script.specs.declared.forms.Form.{Form}
use Rattle.app_script.specs.declared.forms.Form.TheVariants as form
use Rattle.app_script.specs.Forms.{form_of, file_form, form_in, is_misplaced}
use Rattle.app_script.specs.Items.{Setting, Limit, Sizes, Start, Item, Version, Configures, Begins, Calls, is_skipped, items_of, items_known, items_in}
use Rattle.app_script.specs.Language.{is_plain, told_among, items_on, told_by, with_setting}
use Rattle.app_script.specs.Grammar.{Progress, apps_of, after_version, after_set, after_sizes, after_seq, after_app, after_call, after_file, after_form, after_known, after_words, after_line, after_lines, at_line, ◌>=>◌}
use Rattle.app_script.proofs.ReadScripts.{set_version}

-- ---- one item

-- whether the setting was given before
abbrev pub is_again : Limits → List LimitName → Bool → Setting → Bool
is_again limits named sized (Limit name value) = is_among name named
is_again limits named sized (Sizes sizes) = sized
is_again limits named sized (Start id count) = list_any (λ other. eqb other.0 id) limits.starts

-- whether it is one count too many
abbrev pub is_past : Limits → Setting → Bool
is_past limits (Limit name value) = false
is_past limits (Sizes sizes) = false
is_past limits (Start id count) = nat_le 16 (length limits.starts)

abbrev pub named_after : List LimitName → Setting → List LimitName
named_after named (Limit name value) = named ++ name ∷ []
named_after named (Sizes sizes) = named
named_after named (Start id count) = named

abbrev pub sized_after : Bool → Setting → Bool
sized_after sized (Limit name value) = sized
sized_after sized (Sizes sizes) = true
sized_after sized (Start id count) = sized

-- after the version, after a setting, and after an application's name
abbrev pub with_version : Progress → ℕ → Progress
with_version s version = record s { limits = record s.limits { version = version } }

abbrev pub set_to : Progress → Setting → Progress
set_to s setting = record s { limits = with_setting s.limits setting; named = named_after s.named setting; sized = sized_after s.sized setting }

abbrev pub begun_by : Progress → Word → Progress
begun_by s name = record s { started = true; done = apps_of s; present = record { name = name; lines = [] } }

-- after an item that stands if it may
abbrev pub after_item : Progress → Item → Result Progress FaultKind
after_item s (Version version) = Ok (with_version s version)
after_item s (Configures setting) = cond (is_past s.limits setting) (Err OutOfRange) (cond (is_again s.limits s.named s.sized setting) (Err Repeated) (Ok (set_to s setting)))
after_item s (Begins name) = cond (list_any (λ app. is_same app.name name) (apps_of s)) (Err Repeated) (cond (nat_le 16 (length (apps_of s))) (Err TooManyApps) (Ok (begun_by s name)))
after_item s (Calls line) = after_call s line

abbrev pub is_out : Item → Bool → Bool → Bool
is_out (Version version) begun started = begun
is_out (Configures setting) begun started = started
is_out (Begins name) begun started = false
is_out (Calls line) begun started = not started

-- after an item
abbrev pub taken : Progress → Item → Result Progress FaultKind
taken s item = cond (is_out item s.begun s.started) (Err Misplaced) (after_item (record s { begun = true }) item)

-- after items in order
abbrev pub all_taken : Progress → List Item → Result Progress FaultKind
all_taken s [] = Ok s
all_taken s (item ∷ items) = taken s item >>= λ t. all_taken t items

-- items one after another
pub taken_on : (xs ys : List Item) (s t : Progress) → all_taken s xs ≡ Ok t → all_taken s (xs ++ ys) ≡ all_taken t ys
taken_on [] ys s t e =
    let same : s ≡ t = cc in
    ap (λ u. all_taken u ys) same
taken_on (x ∷ xs) ys s t e =
    elim (taken s x) as (λ r. (r >>= λ u. all_taken u xs) ≡ Ok t → (r >>= λ u. all_taken u (xs ++ ys)) ≡ all_taken t ys) [
      | Ok u ↦ λ h. taken_on xs ys u t h
      | Err fault ↦ λ h. absurd cc
    ] e

-- what was taken in of both was taken in of one and then of the other
taken_apart : (xs ys : List Item) (s t : Progress) → all_taken s (xs ++ ys) ≡ Ok t → (u : Progress) × (all_taken s xs ≡ Ok u) × (all_taken u ys ≡ Ok t)
taken_apart [] ys s t e = (s, refl, e)
taken_apart (x ∷ xs) ys s t e =
    elim (taken s x) as (λ r. (r >>= λ v. all_taken v (xs ++ ys)) ≡ Ok t → (u : Progress) × ((r >>= λ v. all_taken v xs) ≡ Ok u) × (all_taken u ys ≡ Ok t)) [
      | Ok v ↦ λ h. taken_apart xs ys v t h
      | Err fault ↦ λ h. absurd cc
    ] e

-- ---- what passed

-- what passes a test is what is behind it
pub passes : {A : Type 0} (b : Bool) (fault : FaultKind) (r : Result A FaultKind) (x : A) → cond b (Err fault) r ≡ Ok x → (b ≡ false) × (r ≡ Ok x)
passes true fault r x e = absurd cc
passes false fault r x e = (refl, e)

-- after a call line
abbrev pub called : Progress → Line → Progress
called s line = record s {
  present = record s.present { lines = s.present.lines ++ line ∷ [] };
  calls = s.calls + 1;
  charged = s.charged + charge_of (account_of s.present.lines) line;
}

pub call_read : (s u : Progress) (line : Line) → after_call s line ≡ Ok u → called s line ≡ u
unfolding after_call
call_read s u line e =
    let few = passes (nat_le 20000 s.calls) TooManyCalls (cond (nat_lt 16777216 (s.charged + charge_of (account_of s.present.lines) line)) (Err TooManyBytes) (Ok (called s line))) u e in
    let light = passes (nat_lt 16777216 (s.charged + charge_of (account_of s.present.lines) line)) TooManyBytes (Ok (called s line)) u few.1 in
    let f = light.1 in
    cc

pub not_false_is : (b : Bool) → not b ≡ false → b ≡ true
not_false_is true h = refl
not_false_is false h = absurd cc

-- ---- the version stays

-- after an item something has begun, and the version is the one from before, if something had begun
record Goes (s u : Progress) : Type 0 where
  begun : u.begun ≡ true
  version : s.begun ≡ true → u.limits.version ≡ s.limits.version

set_goes : (limits : Limits) (setting : Setting) → (with_setting limits setting).version ≡ limits.version
set_goes limits (Limit name value) = set_version limits name value
set_goes limits (Sizes sizes) = refl
set_goes limits (Start id count) = refl

item_goes : (s u : Progress) (item : Item) → taken s item ≡ Ok u → Goes s u
item_goes s u (Version version) e =
    let way = passes s.begun Misplaced (Ok (with_version (record s { begun = true }) version)) u e in
    let same : with_version (record s { begun = true }) version ≡ u = (let f = way.1 in cc) in
    record { begun = ap (λ (v : Progress). v.begun) (sym same); version = λ h. let f : true ≡ false = sym h ∙ way.0 in absurd cc }
item_goes s u (Configures setting) e =
    let way = passes s.started Misplaced (after_item (record s { begun = true }) (Configures setting)) u e in
    let room = passes (is_past s.limits setting) OutOfRange (cond (is_again s.limits s.named s.sized setting) (Err Repeated) (Ok (set_to (record s { begun = true }) setting))) u way.1 in
    let new = passes (is_again s.limits s.named s.sized setting) Repeated (Ok (set_to (record s { begun = true }) setting)) u room.1 in
    let same : set_to (record s { begun = true }) setting ≡ u = (let f = new.1 in cc) in
    record { begun = ap (λ (v : Progress). v.begun) (sym same); version = λ h. ap (λ (v : Progress). v.limits.version) (sym same) ∙ set_goes s.limits setting }
item_goes s u (Begins name) e =
    let new = passes (list_any (λ app. is_same app.name name) (apps_of s)) Repeated (cond (nat_le 16 (length (apps_of s))) (Err TooManyApps) (Ok (begun_by (record s { begun = true }) name))) u e in
    let room = passes (nat_le 16 (length (apps_of s))) TooManyApps (Ok (begun_by (record s { begun = true }) name)) u new.1 in
    let same : begun_by (record s { begun = true }) name ≡ u = (let f = room.1 in cc) in
    record { begun = ap (λ (v : Progress). v.begun) (sym same); version = λ h. ap (λ (v : Progress). v.limits.version) (sym same) }
item_goes s u (Calls line) e =
    let way = passes (not s.started) Misplaced (after_call (record s { begun = true }) line) u e in
    let same = call_read (record s { begun = true }) u line way.1 in
    record { begun = ap (λ (v : Progress). v.begun) (sym same); version = λ h. ap (λ (v : Progress). v.limits.version) (sym same) }

-- if something has begun, the version is the last one
version_stays : (items : List Item) (s t : Progress) → all_taken s items ≡ Ok t → s.begun ≡ true → t.limits.version ≡ s.limits.version
version_stays [] s t e begun =
    let same : s ≡ t = cc in
    ap (λ (v : Progress). v.limits.version) (sym same)
version_stays (item ∷ items) s t e begun =
    elim (taken s item) as (λ r. taken s item ≡ r → (r >>= λ u. all_taken u items) ≡ Ok t → t.limits.version ≡ s.limits.version) [
      | Ok u ↦ λ one h. let goes = item_goes s u item one in version_stays items u t h goes.begun ∙ goes.version begun
      | Err fault ↦ λ one h. absurd cc
    ] refl e

-- an application begins if something has begun
abbrev pub IsBehind : Progress → Type 0
IsBehind s = s.started ≡ true → s.begun ≡ true

behind_stays : (items : List Item) (s t : Progress) → all_taken s items ≡ Ok t → IsBehind s → IsBehind t
behind_stays [] s t e behind =
    let same : s ≡ t = cc in
    subst IsBehind same behind
behind_stays (item ∷ items) s t e behind =
    elim (taken s item) as (λ r. taken s item ≡ r → (r >>= λ u. all_taken u items) ≡ Ok t → IsBehind t) [
      | Ok u ↦ λ one h. behind_stays items u t h (λ started. (item_goes s u item one).begun)
      | Err fault ↦ λ one h. absurd cc
    ] refl e

-- ---- a line of a form

-- a line that tells one item is read as that item is taken in
read_one : {A : Type 0} (s u : Progress) (out : Bool) (r : Result A FaultKind) (h : A → Result Progress FaultKind) (item : A → Item) → cond out (Err Misplaced) (r >>= h) ≡ Ok u → ((x : A) → cond out (Err Misplaced) (h x) ≡ taken s (item x))
    → (items : List Item) × ((r >>= λ x. Ok (item x ∷ [])) ≡ Ok items) × (all_taken s items ≡ Ok u)
read_one s u out (Ok x) h item e same = (item x ∷ [], refl, ap (λ (r : Result Progress FaultKind). r >>= λ t. Ok t) (sym (same x) ∙ e))
read_one s u out (Err fault) h item e same = let f = (passes out Misplaced (Err fault) u e).1 in absurd cc

whole : (r : Result Progress FaultKind) (u : Progress) → (r >>= λ t. Ok t) ≡ Ok u → r ≡ Ok u
whole (Ok t) u e = e
whole (Err fault) u e = absurd cc

back_one : {A : Type 0} (s u : Progress) (out : Bool) (r : Result A FaultKind) (h : A → Result Progress FaultKind) (item : A → Item) (items : List Item) → (r >>= λ x. Ok (item x ∷ [])) ≡ Ok items → all_taken s items ≡ Ok u
    → ((x : A) → cond out (Err Misplaced) (h x) ≡ taken s (item x)) → cond out (Err Misplaced) (r >>= h) ≡ Ok u
back_one s u out (Ok x) h item items e takes same =
    let made : item x ∷ [] ≡ items = cc in
    same x ∙ whole (taken s (item x)) u (ap (all_taken s) made ∙ takes)
back_one s u out (Err fault) h item items e takes same = absurd cc

-- both call lines of a table file are taken in
read_second : (s u : Progress) (calls : Line × Line) → s.started ≡ true → (r : Result Progress FaultKind) → after_call (record s { begun = true }) calls.0 ≡ r → (r >>= λ t. after_call t calls.1) ≡ Ok u → (r >>= λ t. all_taken t (Calls calls.1 ∷ [])) ≡ Ok u
read_second s u calls started (Ok t) one e =
    let now = record s { begun = true } in
    subst (λ (v : Progress). after_call v calls.1 ≡ Ok u → all_taken v (Calls calls.1 ∷ []) ≡ Ok u) (call_read now t calls.0 one)
    (λ h. ap (λ b. cond (not b) (Err Misplaced) (after_call (called now calls.0) calls.1) >>= λ v. Ok v) started ∙ ap (λ (r : Result Progress FaultKind). r >>= λ v. Ok v) h) e
read_second s u calls started (Err fault) one e = absurd cc

read_file : (s u : Progress) (calls : Line × Line) → cond (not s.started) (Err Misplaced) (after_file (record s { begun = true }) calls) ≡ Ok u → all_taken s (Calls calls.0 ∷ Calls calls.1 ∷ []) ≡ Ok u
unfolding after_file
read_file s u calls e =
    let now = record s { begun = true } in
    let way = passes (not s.started) Misplaced (after_file now calls) u e in
    let started = not_false_is s.started way.0 in
    let room = passes (nat_le 19999 s.calls) TooManyCalls (after_call now calls.0 >>= λ t. after_call t calls.1) u way.1 in
    ap (λ b. cond (not b) (Err Misplaced) (after_call now calls.0) >>= λ t. all_taken t (Calls calls.1 ∷ [])) started ∙ read_second s u calls started (after_call now calls.0) refl room.1

-- of two call lines the first one leaves room
has_room : (s u : Progress) (first second : Line) → after_call (called s first) second ≡ Ok u → nat_le 19999 s.calls ≡ false
unfolding after_call
has_room s u first second e =
    let next = called s first in
    let charge = next.charged + charge_of (account_of next.present.lines) second in
    let room = passes (nat_le 20000 (s.calls + 1)) TooManyCalls (cond (nat_lt 16777216 charge) (Err TooManyBytes) (Ok (called next second))) u e in
    lt-leb 19999 s.calls (omega (arith, leb-false 20000 (s.calls + 1) room.0))

back_second : (s u : Progress) (calls : Line × Line) → (r : Result Progress FaultKind) → after_call (record s { begun = true }) calls.0 ≡ r → (r >>= λ t. all_taken t (Calls calls.1 ∷ [])) ≡ Ok u → after_file (record s { begun = true }) calls ≡ Ok u
unfolding after_file
back_second s u calls (Ok t) one e =
    let now = record s { begun = true } in
    let is = call_read now t calls.0 one in
    let takes : taken (called now calls.0) (Calls calls.1) ≡ Ok u = whole (taken (called now calls.0) (Calls calls.1)) u (ap (λ (v : Progress). all_taken v (Calls calls.1 ∷ [])) is ∙ e) in
    let second = (passes (not s.started) Misplaced (after_call (called now calls.0) calls.1) u takes).1 in
    ap (λ b. cond b (Err TooManyCalls) (after_call now calls.0 >>= λ v. after_call v calls.1)) (has_room now u calls.0 calls.1 second)
    ∙ ap (λ (r : Result Progress FaultKind). r >>= λ v. after_call v calls.1) one
    ∙ ap (λ (v : Progress). after_call v calls.1) (sym is)
    ∙ second
back_second s u calls (Err fault) one e = absurd cc

back_file : (s u : Progress) (calls : Line × Line) → all_taken s (Calls calls.0 ∷ Calls calls.1 ∷ []) ≡ Ok u → cond (not s.started) (Err Misplaced) (after_file (record s { begun = true }) calls) ≡ Ok u
back_file s u calls e = decide s.started e
  where
    decide : (b : Bool) → (cond (not b) (Err Misplaced) (after_call (record s { begun = true }) calls.0) >>= λ t. all_taken t (Calls calls.1 ∷ [])) ≡ Ok u → cond (not b) (Err Misplaced) (after_file (record s { begun = true }) calls) ≡ Ok u
    decide true h = back_second s u calls (after_call (record s { begun = true }) calls.0) refl h
    decide false h = absurd cc

file_read : (s u : Progress) (r : Result (Line × Line) FaultKind) → cond (not s.started) (Err Misplaced) (r >>= after_file (record s { begun = true })) ≡ Ok u
    → (items : List Item) × ((r >>= λ calls. Ok (Calls calls.0 ∷ Calls calls.1 ∷ [])) ≡ Ok items) × (all_taken s items ≡ Ok u)
file_read s u (Ok calls) e = (Calls calls.0 ∷ Calls calls.1 ∷ [], refl, read_file s u calls e)
file_read s u (Err fault) e = let f = (passes (not s.started) Misplaced (Err fault) u e).1 in absurd cc

file_back : (s u : Progress) (r : Result (Line × Line) FaultKind) (items : List Item) → (r >>= λ calls. Ok (Calls calls.0 ∷ Calls calls.1 ∷ [])) ≡ Ok items → all_taken s items ≡ Ok u
    → cond (not s.started) (Err Misplaced) (r >>= after_file (record s { begun = true })) ≡ Ok u
file_back s u (Ok calls) items e takes =
    let made : Calls calls.0 ∷ Calls calls.1 ∷ [] ≡ items = cc in
    back_file s u calls (ap (all_taken s) made ∙ takes)
file_back s u (Err fault) items e takes = absurd cc

form_read : (s u : Progress) (f : Form) (rest : List ℕ) → cond (is_misplaced f s.begun s.started) (Err Misplaced) (after_form (record s { begun = true }) f rest) ≡ Ok u → (items : List Item) × (items_of f rest ≡ Ok items) × (all_taken s items ≡ Ok u)
unfolding after_form items_of after_version after_set after_sizes after_seq after_app
form_read s u form.Script rest e = read_one s u s.begun (script_of (words_of rest)) _ (λ version. Version version) e (λ version. refl)
form_read s u form.Set rest e = read_one s u s.started (set_of (words_of rest)) _ (λ set. Configures (Limit set.0 set.1)) e (λ set. refl)
form_read s u form.Sizes rest e = read_one s u s.started (sizes_of (words_of rest)) _ (λ sizes. Configures (Sizes sizes)) e (λ sizes. refl)
form_read s u form.Seq rest e = read_one s u s.started (seq_of (words_of rest)) _ (λ start. Configures (Start start.0 start.1)) e (λ start. refl)
form_read s u form.App rest e = read_one s u false (app_of (words_of rest)) _ (λ name. Begins name) e (λ name. refl)
form_read s u (form.Call first) rest e = read_one s u (not s.started) (call_line_of first rest) (after_call (record s { begun = true })) (λ line. Calls line) e (λ line. refl)
form_read s u form.File rest e = file_read s u (tfile_of (words_of rest)) e

form_back : (s u : Progress) (f : Form) (rest : List ℕ) (items : List Item) → items_of f rest ≡ Ok items → all_taken s items ≡ Ok u → cond (is_misplaced f s.begun s.started) (Err Misplaced) (after_form (record s { begun = true }) f rest) ≡ Ok u
unfolding after_form items_of after_version after_set after_sizes after_seq after_app
form_back s u form.Script rest items e takes = back_one s u s.begun (script_of (words_of rest)) _ (λ version. Version version) items e takes (λ version. refl)
form_back s u form.Set rest items e takes = back_one s u s.started (set_of (words_of rest)) _ (λ set. Configures (Limit set.0 set.1)) items e takes (λ set. refl)
form_back s u form.Sizes rest items e takes = back_one s u s.started (sizes_of (words_of rest)) _ (λ sizes. Configures (Sizes sizes)) items e takes (λ sizes. refl)
form_back s u form.Seq rest items e takes = back_one s u s.started (seq_of (words_of rest)) _ (λ start. Configures (Start start.0 start.1)) items e takes (λ start. refl)
form_back s u form.App rest items e takes = back_one s u false (app_of (words_of rest)) _ (λ name. Begins name) items e takes (λ name. refl)
form_back s u (form.Call first) rest items e takes = back_one s u (not s.started) (call_line_of first rest) (after_call (record s { begun = true })) (λ line. Calls line) items e takes (λ line. refl)
form_back s u form.File rest items e takes = file_back s u (tfile_of (words_of rest)) items e takes

known_read : (s u : Progress) (o : Option Form) (rest : List ℕ) → after_known s o rest ≡ Ok u → (items : List Item) × (items_known o rest ≡ Ok items) × (all_taken s items ≡ Ok u)
unfolding after_known
known_read s u None rest e = absurd cc
known_read s u (Some f) rest e = form_read s u f rest e

known_back : (s u : Progress) (o : Option Form) (rest : List ℕ) (items : List Item) → items_known o rest ≡ Ok items → all_taken s items ≡ Ok u → after_known s o rest ≡ Ok u
unfolding after_known
known_back s u None rest items e takes = absurd cc
known_back s u (Some f) rest items e takes = form_back s u f rest items e takes

-- ---- versions

-- before the first application no table file is read, in whatever version
no_file : (s u : Progress) (is : Bool) (rest : List ℕ) → s.started ≡ false → after_known s (cond is (Some form.File) None) rest ≡ Ok u → ⊥
unfolding after_known
no_file s u true rest before e =
    let way = passes (not s.started) Misplaced (after_form (record s { begun = true }) form.File rest) u e in
    let f : true ≡ false = ap not (sym before) ∙ way.0 in
    absurd cc
no_file s u false rest before e = absurd cc

-- what is read in one version is read in another, if they are one within an application
other_version : (s u : Progress) (v w : ℕ) (first : Word) (rest : List ℕ) → (s.started ≡ true → v ≡ w) → after_known s (form_in v first) rest ≡ Ok u → after_known s (form_in w first) rest ≡ Ok u
unfolding form_in file_form
other_version s u v w first rest same e = decide s.started refl
  where
    decide : (b : Bool) → s.started ≡ b → after_known s (form_in w first) rest ≡ Ok u
    decide true started = ap (λ n. after_known s (form_in n first) rest) (sym (same started)) ∙ e
    decide false before = known (form_of first) e
      where
        known : (o : Option Form) → after_known s (elim o as (λ _. Option Form) [ Some f ↦ Some f | None ↦ file_form v first ]) rest ≡ Ok u
            → after_known s (elim o as (λ _. Option Form) [ Some f ↦ Some f | None ↦ file_form w first ]) rest ≡ Ok u
        known (Some f) h = h
        known None h = absurd (no_file s u (nat_le 2 v && is_same first (codes "tfile")) rest before h)

-- ---- a line

words_skipped : (s : Progress) (words : List Word) (rest : List ℕ) → is_skipped words ≡ true → after_words s words rest ≡ Ok s
unfolding after_words is_skipped
words_skipped s [] rest skipped = refl
words_skipped s (first ∷ words) rest skipped = ap (λ b. cond b (Ok s) (after_known s (form_in s.limits.version first) rest)) skipped

words_read : (s u : Progress) (version : ℕ) (words : List Word) (rest : List ℕ) → (s.started ≡ true → s.limits.version ≡ version) → is_skipped words ≡ false → after_words s words rest ≡ Ok u
    → (items : List Item) × (items_in version words rest ≡ Ok items) × (all_taken s items ≡ Ok u)
unfolding after_words is_skipped items_in
words_read s u version [] rest same told e = absurd cc
words_read s u version (first ∷ words) rest same told e =
    known_read s u (form_in version first) rest (other_version s u s.limits.version version first rest same
    (sym (ap (λ b. cond b (Ok s) (after_known s (form_in s.limits.version first) rest)) told) ∙ e))

words_back : (s u : Progress) (version : ℕ) (words : List Word) (rest : List ℕ) (items : List Item) → (s.started ≡ true → s.limits.version ≡ version) → is_skipped words ≡ false → items_in version words rest ≡ Ok items → all_taken s items ≡ Ok u
    → after_words s words rest ≡ Ok u
unfolding after_words is_skipped items_in
words_back s u version [] rest items same told e takes = absurd cc
words_back s u version (first ∷ words) rest items same told e takes =
    ap (λ b. cond b (Ok s) (after_known s (form_in s.limits.version first) rest)) told
    ∙ other_version s u version s.limits.version first rest (λ started. sym (same started)) (known_back s u (form_in version first) rest items e takes)

plain_line : (s : Progress) (line : List ℕ) → is_plain line ≡ true → after_line s line ≡ after_words s (words_of line) (behind_word line)
unfolding after_line
plain_line s line plain =
    let long : nat_lt 1024 (length line) ≡ false = le-ltb 1024 (length line) (leb-true (length line) 1024 (and_first (nat_le (length line) 1024) (list_all is_text line) plain)) in
    let printed = and_second (nat_le (length line) 1024) (list_all is_text line) plain in
    rw (long, printed) refl

accepted : {A : Type 0} (b : Bool) (r : Result A FaultKind) (fault : FaultKind) (x : A) → cond b r (Err fault) ≡ Ok x → b ≡ true
accepted true r fault x e = refl
accepted false r fault x e = absurd cc

line_plain : (s : Progress) (line : List ℕ) (t : Progress) → after_line s line ≡ Ok t → is_plain line ≡ true
unfolding after_line
line_plain s line t e =
    let short = passes (nat_lt 1024 (length line)) LineTooLong (cond (list_all is_text line) (after_words s (words_of line) (behind_word line)) (Err BadByte)) t e in
    both (le-leb (length line) 1024 (ltb-false 1024 (length line) short.0)) (accepted (list_all is_text line) (after_words s (words_of line) (behind_word line)) BadByte t short.1)

-- ---- lines

-- what lines tell, if they are read, in the version that stands at the end
pub record Tells (s : Progress) (lines : List (List ℕ)) (t : Progress) : Type 0 where
  pub plain : list_all is_plain lines ≡ true
  pub items : List Item
  pub told : told_by t.limits.version (told_among lines) ≡ Ok items
  pub taken : all_taken s items ≡ Ok t

ok_same : {A : Type 0} (x y : A) (r : Result A FaultKind) → r ≡ Ok x → r ≡ Ok y → x ≡ y
ok_same x y (Ok z) a b = cc
ok_same x y (Err fault) a b = absurd cc

line_skipped : (s : Progress) (line : List ℕ) (u : Progress) (lines : List (List ℕ)) (t : Progress) → after_line s line ≡ Ok u → is_skipped (words_of line) ≡ true → Tells u lines t → Tells s (line ∷ lines) t
line_skipped s line u lines t e skipped rest =
    let plain = line_plain s line u e in
    let same = ok_same s u (after_line s line) (plain_line s line plain ∙ words_skipped s (words_of line) (behind_word line) skipped) e in
    record {
      plain = both plain rest.plain;
      items = rest.items;
      told = ap (λ b. told_by t.limits.version (cond (not b) (line ∷ told_among lines) (told_among lines))) skipped ∙ rest.told;
      taken = ap (λ v. all_taken v rest.items) same ∙ rest.taken;
    }

line_told : (s : Progress) (line : List ℕ) (u : Progress) (lines : List (List ℕ)) (t : Progress) (here : List Item) → IsBehind s → after_line s line ≡ Ok u → is_skipped (words_of line) ≡ false → all_taken s here ≡ Ok u → Tells u lines t → Tells s (line ∷ lines) t
unfolding told_by
line_told s line u lines t here behind e told takes rest =
    let plain = line_plain s line u e in
    let same : s.started ≡ true → s.limits.version ≡ t.limits.version = λ started. sym (version_stays (here ++ rest.items) s t (taken_on here rest.items s u takes ∙ rest.taken) (behind started)) in
    let one = words_read s u t.limits.version (words_of line) (behind_word line) same told (sym (plain_line s line plain) ∙ e) in
    record {
      plain = both plain rest.plain;
      items = one.0 ++ rest.items;
      told = ap (λ b. told_by t.limits.version (cond (not b) (line ∷ told_among lines) (told_among lines))) told
          ∙ ap (λ (r : Result (List Item) FaultKind). r >>= λ items. told_by t.limits.version (told_among lines) >>= λ others. Ok (items ++ others)) one.1
          ∙ ap (λ (r : Result (List Item) FaultKind). r >>= λ others. Ok (one.0 ++ others)) rest.told;
      taken = taken_on one.0 rest.items s u one.2 ∙ rest.taken;
    }

line_tells : (s : Progress) (line : List ℕ) (u : Progress) (lines : List (List ℕ)) (t : Progress) → IsBehind s → after_line s line ≡ Ok u → (b : Bool) → is_skipped (words_of line) ≡ b → (IsBehind u → Tells u lines t) → Tells s (line ∷ lines) t
line_tells s line u lines t behind one true skipped rest =
    let plain = line_plain s line u one in
    let same = ok_same s u (after_line s line) (plain_line s line plain ∙ words_skipped s (words_of line) (behind_word line) skipped) one in
    line_skipped s line u lines t one skipped (rest (subst IsBehind same behind))
line_tells s line u lines t behind one false told rest =
    let plain = line_plain s line u one in
    let here = words_read s u s.limits.version (words_of line) (behind_word line) (λ started. refl) told (sym (plain_line s line plain) ∙ one) in
    line_told s line u lines t here.0 behind one told here.2 (rest (behind_stays here.0 s u here.2 behind))

pub lines_tell : (lines : List (List ℕ)) (n : ℕ) (s t : Progress) → IsBehind s → after_lines n s lines ≡ Ok t → Tells s lines t
unfolding after_lines told_by
lines_tell [] n s t behind e =
    let same : s ≡ t = cc in
    record { plain = refl; items = []; told = refl; taken = ap Ok same }
lines_tell (line ∷ lines) n s t behind e =
    elim (after_line s line) as (λ r. after_line s line ≡ r → (at_line n r >=> λ u. after_lines (n + 1) u lines) ≡ Ok t → Tells s (line ∷ lines) t) [
      | Ok u ↦ λ one h. line_tells s line u lines t behind one (is_skipped (words_of line)) refl (λ after. lines_tell lines (n + 1) u t after h)
      | Err fault ↦ λ one h. absurd cc
    ] refl e

-- what a line and those behind it tell
record Parts (r q : Result (List Item) FaultKind) (items : List Item) : Type 0 where
  here : List Item
  others : List Item
  first : r ≡ Ok here
  rest : q ≡ Ok others
  all : here ++ others ≡ items

parts : (r q : Result (List Item) FaultKind) (items : List Item) → (r >>= λ a. q >>= λ b. Ok (a ++ b)) ≡ Ok items → Parts r q items
parts (Ok a) (Ok b) items e = record { here = a; others = b; first = refl; rest = refl; all = cc }
parts (Ok a) (Err fault) items e = absurd cc
parts (Err fault) q items e = absurd cc

-- lines that tell items are read as these
line_read : (n : ℕ) (s t : Progress) (line : List ℕ) (lines : List (List ℕ)) (items : List Item) → IsBehind s → is_plain line ≡ true
    → ((u : Progress) (rest : List Item) → IsBehind u → told_by t.limits.version (told_among lines) ≡ Ok rest → all_taken u rest ≡ Ok t → after_lines (n + 1) u lines ≡ Ok t)
    → (b : Bool) → is_skipped (words_of line) ≡ b → told_by t.limits.version (cond (not b) (line ∷ told_among lines) (told_among lines)) ≡ Ok items → all_taken s items ≡ Ok t → after_lines n s (line ∷ lines) ≡ Ok t
unfolding after_lines told_by
line_read n s t line lines items behind plain others true skipped told takes =
    ap (λ r. at_line n r >=> λ v. after_lines (n + 1) v lines) (plain_line s line plain ∙ words_skipped s (words_of line) (behind_word line) skipped) ∙ others s items behind told takes
line_read n s t line lines items behind plain others false e told takes =
    let two = parts (items_on t.limits.version line) (told_by t.limits.version (told_among lines)) items told in
    let apart = taken_apart two.here two.others s t (ap (all_taken s) two.all ∙ takes) in
    let same : s.started ≡ true → s.limits.version ≡ t.limits.version = λ started. sym (version_stays items s t takes (behind started)) in
    ap (λ r. at_line n r >=> λ v. after_lines (n + 1) v lines) (plain_line s line plain ∙ words_back s apart.0 t.limits.version (words_of line) (behind_word line) two.here same e two.first apart.1)
    ∙ others apart.0 two.others (behind_stays two.here s apart.0 apart.1 behind) two.rest apart.2

pub lines_read : (lines : List (List ℕ)) (n : ℕ) (s t : Progress) (items : List Item) → IsBehind s → list_all is_plain lines ≡ true → told_by t.limits.version (told_among lines) ≡ Ok items → all_taken s items ≡ Ok t → after_lines n s lines ≡ Ok t
unfolding after_lines told_by
lines_read [] n s t items behind plain told takes =
    let none : [] ≡ items = cc in
    ap (at_line n) (ap (all_taken s) none ∙ takes)
lines_read (line ∷ lines) n s t items behind plain told takes =
    line_read n s t line lines items behind (and_first (is_plain line) (list_all is_plain lines) plain)
    (λ u rest after h g. lines_read lines (n + 1) u t rest after (and_second (is_plain line) (list_all is_plain lines) plain) h g) (is_skipped (words_of line)) refl told takes

-- ---- the version of a whole script

pub settings_keep_version : (settings : List Setting) (limits : Limits) → (fold with_setting limits settings).version ≡ limits.version
settings_keep_version [] limits = refl
settings_keep_version (setting ∷ settings) limits = settings_keep_version settings (with_setting limits setting) ∙ set_goes limits setting
