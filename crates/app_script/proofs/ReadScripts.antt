-- A script that a text gives is one that a text can be: its limits, its names and its call lines are in their ranges.
use Rattle.std.proofs.Common.{◌≡◌, ℕ, ◌+◌, ◌<◌, ◌≤◌, Bool, true, false, cond, not, ◌&&◌, nat_le, nat_lt, eqb, List, [], ◌∷◌, ◌++◌, length, Option, Some, None, Result, Ok, Err, refl, sym, ap, ◌∙◌, subst, arith, append_assoc, append-nil, codes}
use Rattle.std.specs.List.{list_all, list_any, starts_with}
use Rattle.std.proofs.lemmas.Bool.{leb-false}
use Rattle.std.proofs.lemmas.List.{length-append}
use Rattle.fsw_base.specs.Limits.{Limits, usual_limits}
use Rattle.fsw_base.specs.Blocks.{are_block_sizes}
use Rattle.fsw_base.specs.Starts.{is_start, are_count_starts}
use Rattle.fsw_base.specs.declared.script_faults.FaultKind.TheVariants.{LineTooLong, BadByte, BadWord, Misplaced, OutOfRange, Repeated, TooManyApps, TooManyCalls, TooManyBytes}
use Rattle.fsw_base.specs.declared.script_faults.ScriptFault.{ScriptFault}
use Rattle.script_words.specs.Text.{lines_of, words_of, behind_word, is_text, is_same}
use Rattle.script_words.specs.Lists.{each}
use Rattle.script_words.specs.Counts.{Word, one, two, few}
use Rattle.script_words.specs.Numbers.{number_of, within}
use Rattle.script_lines.specs.declared.line.Line.{Line}
use Rattle.script_lines.specs.CallLines.{call_line_of}
use Rattle.script_lines.specs.FileLines.{tfile_of}
use Rattle.script_lines.specs.Ranges.{is_readable}
use Rattle.script_lines.proofs.Booleans.{and_first, and_second, both, not_false}
use Rattle.script_lines.proofs.ReadingLaws.{Holds, then, any, guard, refuse, either, accept}
use Rattle.script_lines.proofs.ReadTexts.{behind_is_text}
use Rattle.script_lines.proofs.ReadWords.{within_in, below_in}
use Rattle.script_lines.proofs.ReadLines.{call_readable}
use Rattle.script_lines.proofs.FileReadings.{AreReadable, files_readable}
use Rattle.script_settings.specs.declared.settings.LimitName.{LimitName}
use Rattle.script_settings.specs.declared.settings.LimitName.TheVariants.{MsgIds, Pipes, Dests, Depth, MsgMax, Pool, AppPool, Tables, Handles, TableMax, TablePool}
use Rattle.app_script.specs.declared.forms.Form.{Form}
use Rattle.app_script.specs.declared.forms.Form.TheVariants.{Script, Set, Sizes, Seq, App, Call, File}
use Rattle.app_script.specs.Forms.{form_in, is_misplaced}
use Rattle.script_settings.specs.Settings.{least, greatest, with_limit, is_among, limit_named, set_of, some_words, sizes_within, sizes_of, seq_of, is_app_name, app_of, is_version, script_of}
use Rattle.script_settings.specs.Accounts.{account_of, charge_of}
use Rattle.app_script.specs.Script.{Application, ScriptText}
use Rattle.app_script.specs.ScriptRanges.{limit_of}
use Rattle.app_script.specs.ScriptRanges.{are_limits, have_new_names, is_application, IsScript}
use Rattle.app_script.specs.Grammar.{Progress, opening, apps_of, after_version, after_set, after_sizes, after_seq, after_app, after_call, after_file, after_form, after_known, after_words, after_line, after_lines, progress_of, grammar, ◌>=>◌}
use Rattle.app_script.proofs.ScriptLemmas.{list_all_push, starts_push}
use Rattle.app_script.proofs.ReadWalk.{lines_keep, whole_read}
use Rattle.app_script.proofs.RunRanges.{lines_bounded}
use Rattle.app_script.proofs.InRange.{all_calls_sum, all_bytes_sum}

-- ---- limits

abbrev is_limit : Limits → LimitName → Bool
is_limit limits name = nat_le (least name) (limit_of limits name) && nat_le (limit_of limits name) (greatest name)

usual_fits : (name : LimitName) → is_limit usual_limits name ≡ true
usual_fits MsgIds = refl
usual_fits Pipes = refl
usual_fits Dests = refl
usual_fits Depth = refl
usual_fits MsgMax = refl
usual_fits Pool = refl
usual_fits AppPool = refl
usual_fits Tables = refl
usual_fits Handles = refl
usual_fits TableMax = refl
usual_fits TablePool = refl

set_fits : (limits : Limits) (set : LimitName) (value : ℕ) → ((name : LimitName) → is_limit limits name ≡ true) → (nat_le (least set) value && nat_le value (greatest set)) ≡ true → (name : LimitName) → is_limit (with_limit limits set value) name ≡ true
set_fits limits MsgIds value h fits MsgIds = fits
set_fits limits MsgIds value h fits name = h name
set_fits limits Pipes value h fits Pipes = fits
set_fits limits Pipes value h fits name = h name
set_fits limits Dests value h fits Dests = fits
set_fits limits Dests value h fits name = h name
set_fits limits Depth value h fits Depth = fits
set_fits limits Depth value h fits name = h name
set_fits limits MsgMax value h fits MsgMax = fits
set_fits limits MsgMax value h fits name = h name
set_fits limits Pool value h fits Pool = fits
set_fits limits Pool value h fits name = h name
set_fits limits AppPool value h fits AppPool = fits
set_fits limits AppPool value h fits name = h name
set_fits limits Tables value h fits Tables = fits
set_fits limits Tables value h fits name = h name
set_fits limits Handles value h fits Handles = fits
set_fits limits Handles value h fits name = h name
set_fits limits TableMax value h fits TableMax = fits
set_fits limits TableMax value h fits name = h name
set_fits limits TablePool value h fits TablePool = fits
set_fits limits TablePool value h fits name = h name

set_sizes : (limits : Limits) (name : LimitName) (value : ℕ) → (with_limit limits name value).sizes ≡ limits.sizes
set_sizes limits MsgIds value = refl
set_sizes limits Pipes value = refl
set_sizes limits Dests value = refl
set_sizes limits Depth value = refl
set_sizes limits MsgMax value = refl
set_sizes limits Pool value = refl
set_sizes limits AppPool value = refl
set_sizes limits Tables value = refl
set_sizes limits Handles value = refl
set_sizes limits TableMax value = refl
set_sizes limits TablePool value = refl

pub set_starts : (limits : Limits) (name : LimitName) (value : ℕ) → (with_limit limits name value).starts ≡ limits.starts
set_starts limits MsgIds value = refl
set_starts limits Pipes value = refl
set_starts limits Dests value = refl
set_starts limits Depth value = refl
set_starts limits MsgMax value = refl
set_starts limits Pool value = refl
set_starts limits AppPool value = refl
set_starts limits Tables value = refl
set_starts limits Handles value = refl
set_starts limits TableMax value = refl
set_starts limits TablePool value = refl

pub set_version : (limits : Limits) (name : LimitName) (value : ℕ) → (with_limit limits name value).version ≡ limits.version
set_version limits MsgIds value = refl
set_version limits Pipes value = refl
set_version limits Dests value = refl
set_version limits Depth value = refl
set_version limits MsgMax value = refl
set_version limits Pool value = refl
set_version limits AppPool value = refl
set_version limits Tables value = refl
set_version limits Handles value = refl
set_version limits TableMax value = refl
set_version limits TablePool value = refl

other_version : (limits : Limits) (version : ℕ) → ((name : LimitName) → is_limit limits name ≡ true) → (name : LimitName) → is_limit (record limits { version = version }) name ≡ true
other_version limits version h MsgIds = h MsgIds
other_version limits version h Pipes = h Pipes
other_version limits version h Dests = h Dests
other_version limits version h Depth = h Depth
other_version limits version h MsgMax = h MsgMax
other_version limits version h Pool = h Pool
other_version limits version h AppPool = h AppPool
other_version limits version h Tables = h Tables
other_version limits version h Handles = h Handles
other_version limits version h TableMax = h TableMax
other_version limits version h TablePool = h TablePool

all_fit : (limits : Limits) → ((name : LimitName) → is_limit limits name ≡ true) → are_limits limits ≡ true
all_fit limits h = both (h MsgIds) (both (h Pipes) (both (h Dests) (both (h Depth) (both (h MsgMax) (both (h Pool) (both (h AppPool) (both (h Tables) (both (h Handles) (both (h TableMax) (both (h TablePool) refl))))))))))

-- ---- words of the settings

set_in : (words : List Word) → Holds (λ set. (nat_le (least set.0) set.1 && nat_le set.1 (greatest set.0)) ≡ true) (set_of words)
unfolding set_of
set_in words =
    any _ (two words) _ (λ w. any _ (limit_named w.0) _ (λ name. any _ (number_of w.1) _ (λ spelled. then _ _ (within (least name) (greatest name) spelled) _ (within_in (least name) (greatest name) spelled) (λ value h. h))))

sizes_in : (words : List Word) → Holds (λ sizes. are_block_sizes sizes ≡ true) (sizes_of words)
unfolding sizes_of sizes_within
sizes_in words =
    any _ (some_words words) _ (λ one. any _ (few 17 words) _ (λ count. any _ (each number_of words) _ (λ sizes. guard (λ sizes. are_block_sizes sizes ≡ true) (are_block_sizes sizes) sizes OutOfRange (λ h. h))))

seq_in : (words : List Word) → Holds (λ start. is_start start ≡ true) (seq_of words)
unfolding seq_of
seq_in words =
    any _ (two words) _ (λ w. any _ (number_of w.0) _ (λ number. any _ (number_of w.1) _ (λ start.
    then _ _ (within 1 8191 number) _ (within_in 1 8191 number) (λ id a. then _ _ (within 0 16383 start) _ (below_in 16383 start) (λ count b. both a b)))))

app_in : (words : List Word) → Holds (λ name. is_app_name name ≡ true) (app_of words)
unfolding app_of
app_in words = any _ (one words) _ (λ word. guard (λ name. is_app_name name ≡ true) (is_app_name word) word BadWord (λ h. h))

-- ---- what was read so far

record Stands (s : Progress) : Type 0 where
  version : is_version s.limits.version ≡ true
  limits : (name : LimitName) → is_limit s.limits name ≡ true
  sizes : are_block_sizes s.limits.sizes ≡ true
  starts : are_count_starts s.limits.starts ≡ true
  names : have_new_names [] s.done ≡ true
  few : length s.done ≤ 16
  ready : list_all is_application s.done ≡ true
  room : s.started ≡ true → length s.done < 16
  new : s.started ≡ true → list_any (λ other. is_same other.name s.present.name) s.done ≡ false
  named : s.started ≡ true → is_app_name s.present.name ≡ true
  lines : list_all is_readable s.present.lines ≡ true

stands_opening : Stands opening
stands_opening = record {
  version = refl;
  limits = usual_fits;
  sizes = refl;
  starts = refl;
  names = refl;
  few = omega arith;
  ready = refl;
  room = λ h. absurd cc;
  new = λ h. absurd cc;
  named = λ h. absurd cc;
  lines = refl;
}

-- other limits
limits_stand : (s : Progress) (begun : Bool) (limits : Limits) (named : List LimitName) (sized : Bool) → Stands s → is_version limits.version ≡ true → ((name : LimitName) → is_limit limits name ≡ true) → are_block_sizes limits.sizes ≡ true
    → are_count_starts limits.starts ≡ true → Stands (record s { begun = begun; limits = limits; named = named; sized = sized })
limits_stand s begun limits named sized so version fit sizes starts =
    record { version = version; limits = fit; sizes = sizes; starts = starts; names = so.names; few = so.few; ready = so.ready; room = so.room; new = so.new; named = so.named; lines = so.lines }

version_in_range : (words : List Word) → Holds (λ version. is_version version ≡ true) (script_of words)
unfolding script_of
version_in_range words = any _ (one words) _ (λ word. any _ (number_of word) _ (λ version. within_in 1 2 version))

version_stands : (s : Progress) (words : List Word) → Stands s → Holds Stands (after_version s words)
unfolding after_version
version_stands s words so =
    then _ Stands (script_of words) _ (version_in_range words) (λ version h. limits_stand s s.begun (record s.limits { version = version }) s.named s.sized so h (other_version s.limits version so.limits) so.sizes so.starts)

set_stands : (s : Progress) (words : List Word) → Stands s → Holds Stands (after_set s words)
unfolding after_set
set_stands s words so =
    then _ Stands (set_of words) _ (set_in words) (λ set h. refuse Stands (is_among set.0 s.named) Repeated _ (λ new.
    limits_stand s s.begun (with_limit s.limits set.0 set.1) _ s.sized so (ap is_version (set_version s.limits set.0 set.1) ∙ so.version) (set_fits s.limits set.0 set.1 so.limits h) (ap are_block_sizes (set_sizes s.limits set.0 set.1) ∙ so.sizes) (ap are_count_starts (set_starts s.limits set.0 set.1) ∙ so.starts)))

sizes_stand : (s : Progress) (words : List Word) → Stands s → Holds Stands (after_sizes s words)
unfolding after_sizes
sizes_stand s words so =
    then _ Stands (sizes_of words) _ (sizes_in words) (λ sizes h. refuse Stands s.sized Repeated _ (λ new. limits_stand s s.begun (record s.limits { sizes = sizes }) s.named true so so.version so.limits h so.starts))

seq_stands : (s : Progress) (words : List Word) → Stands s → Holds Stands (after_seq s words)
unfolding after_seq
seq_stands s words so =
    then _ Stands (seq_of words) _ (seq_in words) (λ start h. refuse Stands (nat_le 16 (length s.limits.starts)) OutOfRange _ (λ full. refuse Stands (list_any (λ other. eqb other.0 start.0) s.limits.starts) Repeated _ (λ new.
    limits_stand s s.begun (record s.limits { starts = s.limits.starts ++ start ∷ [] }) s.named s.sized so so.version so.limits so.sizes
    (starts_push s.limits.starts start so.starts (leb-false 16 (length s.limits.starts) full) h new))))

-- ---- applications

names_push : (before apps : List Application) (app : Application) → have_new_names before apps ≡ true → list_any (λ other. is_same other.name app.name) (before ++ apps) ≡ false → have_new_names before (apps ++ app ∷ []) ≡ true
names_push before [] app h new = both (not_false (ap (list_any (λ other. is_same other.name app.name)) (sym (append-nil before)) ∙ new)) refl
names_push before (first ∷ apps) app h new =
    let alone = not (list_any (λ other. is_same other.name first.name) before) in
    both (and_first alone (have_new_names (before ++ first ∷ []) apps) h)
    (names_push (before ++ first ∷ []) apps app (and_second alone (have_new_names (before ++ first ∷ []) apps) h) (ap (list_any (λ other. is_same other.name app.name)) (append_assoc before (first ∷ []) apps) ∙ new))

record Whole (apps : List Application) : Type 0 where
  names : have_new_names [] apps ≡ true
  few : length apps ≤ 16
  ready : list_all is_application apps ≡ true

whole_apps : (s : Progress) → Stands s → (b : Bool) → s.started ≡ b → Whole (cond b (s.done ++ s.present ∷ []) s.done)
whole_apps s so true started =
    let room = so.room started in
    let longer = length-append s.done (s.present ∷ []) in
    record {
      names = names_push [] s.done s.present so.names (so.new started);
      few = omega arith;
      ready = list_all_push is_application s.done s.present so.ready (both (so.named started) so.lines);
    }
whole_apps s so false started = record { names = so.names; few = so.few; ready = so.ready }

app_stands : (s : Progress) (words : List Word) → Stands s → Holds Stands (after_app s words)
unfolding after_app
app_stands s words so =
    let whole = whole_apps s so s.started refl in
    then _ Stands (app_of words) _ (app_in words) (λ name h. refuse Stands (list_any (λ app. is_same app.name name) (apps_of s)) Repeated _ (λ new. refuse Stands (nat_le 16 (length (apps_of s))) TooManyApps _ (λ full.
    record {
      version = so.version;
      limits = so.limits;
      sizes = so.sizes;
      starts = so.starts;
      names = whole.names;
      few = whole.few;
      ready = whole.ready;
      room = λ started. leb-false 16 (length (apps_of s)) full;
      new = λ started. new;
      named = λ started. h;
      lines = refl;
    })))

-- ---- call lines

call_stands : (s : Progress) (line : Line) → is_readable line ≡ true → Stands s → Holds Stands (after_call s line)
unfolding after_call
call_stands s line readable so =
    refuse Stands (nat_le 20000 s.calls) TooManyCalls _ (λ h. refuse Stands (nat_lt 16777216 (s.charged + charge_of (account_of s.present.lines) line)) TooManyBytes _ (λ g.
    record {
      version = so.version;
      limits = so.limits;
      sizes = so.sizes;
      starts = so.starts;
      names = so.names;
      few = so.few;
      ready = so.ready;
      room = so.room;
      new = so.new;
      named = so.named;
      lines = list_all_push is_readable s.present.lines line so.lines readable;
    }))

file_stands : (s : Progress) (calls : Line × Line) → AreReadable calls → Stands s → Holds Stands (after_file s calls)
unfolding after_file
file_stands s calls readable so =
    refuse Stands (nat_le 19999 s.calls) TooManyCalls _ (λ room. then Stands Stands (after_call s calls.0) (λ t. after_call t calls.1) (call_stands s calls.0 readable.0 so) (λ t h. call_stands t calls.1 readable.1 h))

-- ---- lines

form_stands : (s : Progress) (form : Form) (rest : List ℕ) → list_all is_text rest ≡ true → Stands s → Holds Stands (after_form s form rest)
unfolding after_form
form_stands s Script rest h so = version_stands s (words_of rest) so
form_stands s Set rest h so = set_stands s (words_of rest) so
form_stands s Sizes rest h so = sizes_stand s (words_of rest) so
form_stands s Seq rest h so = seq_stands s (words_of rest) so
form_stands s App rest h so = app_stands s (words_of rest) so
form_stands s (Call first) rest h so = then _ Stands (call_line_of first rest) (after_call s) (call_readable first rest h) (λ line readable. call_stands s line readable so)
form_stands s File rest h so = then AreReadable Stands (tfile_of (words_of rest)) (after_file s) (files_readable (words_of rest)) (λ calls readable. file_stands s calls readable so)

known_stands : (s : Progress) (form : Option Form) (rest : List ℕ) → list_all is_text rest ≡ true → Stands s → Holds Stands (after_known s form rest)
unfolding after_known
known_stands s None rest h so = tt
known_stands s (Some form) rest h so =
    refuse Stands (is_misplaced form s.begun s.started) Misplaced _ (λ placed. form_stands (record s { begun = true }) form rest h (limits_stand s true s.limits s.named s.sized so so.version so.limits so.sizes so.starts))

words_stand : (s : Progress) (words : List Word) (rest : List ℕ) → list_all is_text rest ≡ true → Stands s → Holds Stands (after_words s words rest)
unfolding after_words
words_stand s [] rest h so = so
words_stand s (first ∷ words) rest h so = either Stands (starts_with (λ a b. eqb a b) first (codes "#")) _ _ so (known_stands s (form_in s.limits.version first) rest h so)

line_stands : (s : Progress) (line : List ℕ) → Stands s → Holds Stands (after_line s line)
unfolding after_line
line_stands s line so =
    refuse Stands (nat_lt 1024 (length line)) LineTooLong _ (λ short. accept Stands (list_all is_text line) _ BadByte (λ h. words_stand s (words_of line) (behind_word line) (behind_is_text line h) so))

-- ---- all lines

some_apps : (b : Bool) (done : List Application) (present : Application) → b ≡ true → 1 ≤ length (cond b (done ++ present ∷ []) done)
some_apps true done present h = let longer = length-append done (present ∷ []) in omega arith
some_apps false done present h = absurd cc

-- what lines from any number on are read as is a script that a text can be, if an application has begun
pub lines_are_script : (n : ℕ) (lines : List (List ℕ)) (s : Progress) → after_lines n opening lines ≡ Ok s → s.started ≡ true → IsScript (record { limits = s.limits; apps = apps_of s })
lines_are_script n lines s read started =
    let so = lines_keep Stands line_stands n opening s lines stands_opening read in
    let whole = whole_apps s so s.started refl in
    let bounded = lines_bounded n lines s read in
    let calls = bounded.calls in
    let bytes = bounded.bytes in
    let same_calls = all_calls_sum (apps_of s) in
    let same_bytes = all_bytes_sum (apps_of s) in
    record {
      version = so.version;
      limits = all_fit s.limits so.limits;
      sizes = so.sizes;
      starts = so.starts;
      some = some_apps s.started s.done s.present started;
      few = whole.few;
      names = whole.names;
      applications = whole.ready;
      calls = omega arith;
      bytes = omega arith;
    }

-- and so is a whole text
pub read_script_is : (bytes : List ℕ) (s : Progress) → progress_of bytes ≡ Ok s → IsScript (record { limits = s.limits; apps = apps_of s })
read_script_is bytes s read =
    let whole = whole_read bytes s read in
    lines_are_script 1 (lines_of bytes) s whole.1 whole.2

pub scripts : (bytes : List ℕ) (script : ScriptText) → grammar bytes ≡ Ok script → IsScript script
unfolding grammar
scripts bytes script e = decide (progress_of bytes) refl e
  where
    decide : (r : Result Progress ScriptFault) → progress_of bytes ≡ r → (r >=> λ s. Ok (record { limits = s.limits; apps = apps_of s })) ≡ Ok script → IsScript script
    decide (Ok s) so h =
        let same : record { limits = s.limits; apps = apps_of s } ≡ script = cc in
        subst IsScript same (read_script_is bytes s so)
    decide (Err fault) so h = absurd cc
