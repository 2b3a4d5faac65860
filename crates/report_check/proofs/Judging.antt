-- What was judged of a report is the answer on it.
use Rattle.std.proofs.Common.{◌≡◌, ℕ, ◌+◌, ◌-◌, ◌≤◌, Bool, true, false, List, [], ◌++◌, length, codes, Option, Some, None, Result, Ok, Err, IfOk, refl, ap, sym, ◌∙◌, subst, arith, append_assoc, append-nil}
use Rattle.std.specs.Prelude.{slice_get}
use Rattle.std.specs.Option.{option_map}
use Rattle.std.proofs.lemmas.List.{append_cancel_left}
use Rattle.std.proofs.lemmas.Option.{slice_get_within}
use Rattle.bus_words.specs.declared.history.Entry.{Entry}
use Rattle.tbl_words.specs.declared.history.Entry.{Entry as TableEntry}
use Rattle.run_report.specs.TableText.{table_entries_text}
use Rattle.run_report.specs.BusText.{entries_text}
use Rattle.app_script.specs.Script.{ScriptText}
use Rattle.app_script.specs.ScriptRanges.{IsScript}
use Rattle.script_runs.specs.Histories.{Histories}
use Rattle.script_runs.specs.Runs.{IsRunOf}
use Rattle.run_check.specs.declared.judgement.Judgement.{Judgement}
use Rattle.run_check.specs.declared.judgement.Judgement.TheVariants.{Yes, No}
use Rattle.run_check.specs.Begun.{AreBegunTables, AreWholeTables, IsBegun, IsWhole}
use Rattle.run_check.specs.Checks.{IsAnswer}
use Rattle.run_check.specs.Fronts.{line_ends, wrong_line}
use Rattle.run_check.specs.Judged.{Begins, NoHead, NoTables, Right, WrongEnd, entries_part}
use Rattle.run_check.specs.Openings.{bus_part, head, report}
use Rattle.run_check.specs.Places.{Place, place_after}
use Rattle.run_check.specs.TablePlaces.{table_place_after}
use Rattle.run_check.proofs.Judgements.{judged_is_answered}
use Rattle.replay_parts.specs.Compared.{Compared, GoesPast, Takes}
use Rattle.replay_parts.proofs.Passing.{goes_past_both, wrong_behind}
use Rattle.bus_replay.specs.Replayed.{AreWholeLines}
use Rattle.bus_replay.specs.Places.{Kept, place_of}
use Rattle.bus_replay.specs.Replays.{IsReplayed, IsUnderWay, Replay}
use Rattle.table_replay.specs.Replayed.{AreWholeLines as AreTableLines}
use Rattle.table_replay.specs.Replays.{IsReplayed as AreReplayed, Replay as TableReplay}
use Rattle.report_check.specs.Tails.{tail_kept}
use Rattle.report_check.specs.Verdicts.{AreBehind, IsPastBus, IsTailJudged, unread}
use Rattle.report_check.proofs.Ending.{tail_is}

-- a text that was there, and one that wasn't
pub taken : (there : Bool) (from to : Compared) (text : List ℕ) → there ≡ true → Takes there from to text → GoesPast from to text
taken there from to text is takes = subst (λ b. Takes b from to text) is takes

pub not_taken : (there : Bool) (from to : Compared) (text : List ℕ) → there ≡ false → Takes there from to text → (¬ Begins from.rest text) × (to ≡ from)
not_taken there from to text is takes = subst (λ b. Takes b from to text) is takes

-- The number of a wrong line behind a front of a report. --

past_lines : (bytes front : List ℕ) (at : Compared) → GoesPast (unread bytes) at front → at.lines ≡ line_ends front
past_lines bytes front at past = omega (arith, past.lines)

pub number_behind : (bytes front text : List ℕ) (at : Compared) → GoesPast (unread bytes) at front → at.lines + wrong_line at.rest text ≡ wrong_line bytes (front ++ text)
number_behind bytes front text at past =
    ap (λ n. n + wrong_line at.rest text) (past_lines bytes front at past)
    ∙ sym (wrong_behind front at.rest text)
    ∙ ap (λ b. wrong_line b (front ++ text)) (sym past.rest)

-- the number of a line is read if the text still is
read_there : (at from : Compared) (text : List ℕ) (line : ℕ) → at ≡ from → line ≡ at.lines + wrong_line at.rest text → line ≡ from.lines + wrong_line from.rest text
read_there at from text line same is = is ∙ ap (λ (t : Compared). t.lines + wrong_line t.rest text) same

-- The first two lines. --

pub no_head : (script : ScriptText) (bytes : List ℕ) (at : Compared) (line : ℕ) → IsScript script → ¬ Begins bytes (head script) → at ≡ unread bytes →
    line ≡ at.lines + wrong_line at.rest (head script) → IsAnswer script bytes (No line)
no_head script bytes at line fine wrong same is =
    let number : line ≡ wrong_line bytes (head script) = omega (arith, read_there at (unread bytes) (head script) line same is) in
    judged_is_answered script bytes (No line) fine (NoHead wrong (ap No number))

pub wrong_on_bus : (script : ScriptText) (bytes : List ℕ) (at : Compared) (line : ℕ) → GoesPast (unread bytes) at (head script) →
    (at.lines ≡ line_ends (head script) → IsAnswer script (head script ++ at.rest) (No line)) → IsAnswer script bytes (No line)
wrong_on_bus script bytes at line past answer =
    let P : List ℕ → Type 0 = λ b. IsAnswer script b (No line) in subst P (sym past.rest) (answer (past_lines bytes (head script) at past))

pub past_bus : (script : ScriptText) (bytes : List ℕ) (at to : Compared) (r : Replay) → GoesPast (unread bytes) at (head script) → AreWholeLines script at to r → IsPastBus script bytes to r
past_bus script bytes at to r past lines = record {
  history = lines.history;
  same = lines.same;
  replayed = lines.replayed;
  whole = lines.whole;
  text = goes_past_both (unread bytes) at to (head script) (entries_text lines.history) past lines.text;
}

-- The heading of the tables. --

begun_on : (script : ScriptText) (history : List Entry) (r : Replay) → r.script ≡ script → IsReplayed history r → IsBegun script history
begun_on script history r same replayed = let P : ScriptText → Type 0 = λ s. IsBegun s history in subst P same replayed.begun

pub no_heading : (script : ScriptText) (bytes : List ℕ) (at to : Compared) (r : Replay) (line : ℕ) → IsScript script → IsPastBus script bytes at r →
    ¬ Begins at.rest (codes "tables\n") → to ≡ at → line ≡ to.lines + wrong_line to.rest (codes "tables\n") → IsAnswer script bytes (No line)
no_heading script bytes at to r line fine past wrong same is =
    judged_is_answered script bytes (No line) fine
    (NoTables past.history at.rest (begun_on script past.history r past.same past.replayed) past.whole past.text.rest wrong
    (ap No (read_there to at (codes "tables\n") line same is ∙ number_behind bytes (bus_part script past.history) (codes "tables\n") at past.text)))

-- past the heading
pub past_heading : (script : ScriptText) (bytes : List ℕ) (from at : Compared) (r : Replay) (past : IsPastBus script bytes from r) → GoesPast from at (codes "tables\n") →
    GoesPast (unread bytes) at (bus_part script past.history ++ codes "tables\n")
past_heading script bytes from at r past heading = goes_past_both (unread bytes) from at (bus_part script past.history) (codes "tables\n") past.text heading

pub wrong_on_tables : (script : ScriptText) (bytes : List ℕ) (from at : Compared) (r : Replay) (line : ℕ) → IsPastBus script bytes from r → GoesPast from at (codes "tables\n") →
    ((bus : List Entry) → IsBegun script bus → IsWhole script bus → at.lines ≡ line_ends (bus_part script bus ++ codes "tables\n") →
    IsAnswer script ((bus_part script bus ++ codes "tables\n") ++ at.rest) (No line)) → IsAnswer script bytes (No line)
wrong_on_tables script bytes from at r line past heading answer =
    let whole = past_heading script bytes from at r past heading in
    let P : List ℕ → Type 0 = λ b. IsAnswer script b (No line) in
    subst P (sym whole.rest) (answer past.history (begun_on script past.history r past.same past.replayed) past.whole (past_lines bytes (bus_part script past.history ++ codes "tables\n") at whole))

-- The end. --

-- the histories of both services
abbrev pub both : {script : ScriptText} {bytes : List ℕ} {from at to : Compared} {r : Replay} {t : TableReplay} → IsPastBus script bytes from r → AreTableLines script at to t → Histories
both past lines = record { bus = past.history; tables = lines.history }

-- histories of which nothing is missing are those of a run
pub run_of : (script : ScriptText) (h : Histories) → IsBegun script h.bus → IsWhole script h.bus → AreBegunTables script h.tables → AreWholeTables script h.tables → IsRunOf script h
run_of script h begun whole tables all = record {
  legal = begun.legal;
  legal_tables = tables.legal;
  merges = record { each = whole; each_at_tables = all; nobody_else = begun.nobody_else; nobody_else_at_tables = tables.nobody_else };
}

-- if both services are behind the lines of the report, all of it is that of a run
pub behind_both : (script : ScriptText) (bytes : List ℕ) (from at to : Compared) (r : Replay) (t : TableReplay) (past : IsPastBus script bytes from r) → GoesPast from at (codes "tables\n") →
    (lines : AreTableLines script at to t) → AreBehind script (both past lines) r t
behind_both script bytes from at to r t past heading lines = record {
  same = past.same;
  replayed = past.replayed;
  whole = past.whole;
  same_tables = lines.same;
  replayed_tables = lines.replayed;
  whole_tables = lines.whole;
}

-- the end is there and nothing else, or it isn't
pub tail_there : (at to : Compared) (tail : List ℕ) → GoesPast at to tail → to.rest ≡ [] → at.rest ≡ tail
tail_there at to tail past none = past.rest ∙ ap (λ t. tail ++ t) none ∙ append-nil tail

pub tail_missing : (at : Compared) (tail : List ℕ) → ¬ Begins at.rest tail → ¬ (at.rest ≡ tail)
tail_missing at tail wrong same = wrong ([], same ∙ sym (append-nil tail))

pub more_behind : (at to : Compared) (tail : List ℕ) → GoesPast at to tail → ¬ (to.rest ≡ []) → ¬ (at.rest ≡ tail)
more_behind at to tail past more same = more (append_cancel_left tail to.rest [] (sym past.rest ∙ same ∙ sym (append-nil tail)))

-- the number of the line behind an end that is there
pub line_behind_end : (at to : Compared) (tail : List ℕ) → GoesPast at to tail → to.lines + wrong_line to.rest [] ≡ at.lines + wrong_line at.rest tail
line_behind_end at to tail past =
    ap (λ n. n + wrong_line to.rest []) past.lines
    ∙ moved
    ∙ ap (λ n. at.lines + n) (sym (wrong_behind tail to.rest []))
    ∙ ap (λ t. at.lines + wrong_line (tail ++ to.rest) t) (append-nil tail)
    ∙ ap (λ b. at.lines + wrong_line b tail) (sym past.rest)
  where
    moved : (at.lines + line_ends tail) + wrong_line to.rest [] ≡ at.lines + (line_ends tail + wrong_line to.rest [])
    moved = omega arith

-- what is judged of the end is the answer on the whole
pub end_is_answered : (script : ScriptText) (bytes tail : List ℕ) (h : Histories) (at : Compared) (verdict : Judgement) → IsScript script → IsRunOf script h →
    GoesPast (unread bytes) at (entries_part script h) → report script h ≡ entries_part script h ++ tail → IsTailJudged at tail verdict → IsAnswer script bytes verdict
end_is_answered script bytes tail h at Yes fine run past parts judged =
    judged_is_answered script bytes Yes fine (Right h run (past.rest ∙ ap (λ t. entries_part script h ++ t) judged ∙ sym parts) refl)
end_is_answered script bytes tail h at (No line) fine run past parts judged =
    judged_is_answered script bytes (No line) fine
    (WrongEnd h at.rest run past.rest (λ same. judged.0 (append_cancel_left (entries_part script h) _ _ (sym past.rest ∙ same ∙ parts)))
    (ap No (judged.1 ∙ number_behind bytes (entries_part script h) tail at past ∙ ap (wrong_line bytes) (sym parts))))

tables_on : (script : ScriptText) (history : List TableEntry) (t : TableReplay) → t.script ≡ script → AreReplayed history t → AreBegunTables script history
tables_on script history t same replayed = let P : ScriptText → Type 0 = λ s. AreBegunTables s history in subst P same replayed.begun

-- past the lines of both services the end is judged, and is what the run's report has
pub judged_at_end : (script : ScriptText) (bytes : List ℕ) (from at to : Compared) (r : Replay) (t : TableReplay) (tail : List ℕ) (verdict : Judgement) → IsScript script →
    IsPastBus script bytes from r → GoesPast from at (codes "tables\n") → AreTableLines script at to t → tail ≡ tail_kept (length script.apps) r t → IsTailJudged to tail verdict →
    IsAnswer script bytes verdict
judged_at_end script bytes from at to r t tail verdict fine past heading lines kept judged =
    let h = both past lines in
    let run = run_of script h (begun_on script past.history r past.same past.replayed) past.whole (tables_on script lines.history t lines.same lines.replayed) lines.whole in
    let whole = past_heading script bytes from at r past heading in
    let P : List ℕ → Type 0 = GoesPast (unread bytes) to in
    let there = subst P (append_assoc (bus_part script past.history) (codes "tables\n") (table_entries_text lines.history))
    (goes_past_both (unread bytes) at to (bus_part script past.history ++ codes "tables\n") (table_entries_text lines.history) whole lines.text) in
    end_is_answered script bytes tail h to verdict fine run there
    (tail_is script h r t (behind_both script bytes from at to r t past heading lines) run ∙ ap (λ l. entries_part script h ++ l) (sym kept)) judged

-- What the code has. --

-- the first two lines, looked for in a report of which nothing was compared yet
pub head_missing : (script : ScriptText) (bytes : List ℕ) (from to : Compared) (text : List ℕ) (there : Bool) (line : ℕ) → IsScript script → from ≡ unread bytes → text ≡ head script →
    there ≡ false → Takes there from to text → line ≡ to.lines + wrong_line to.rest text → IsAnswer script bytes (No line)
head_missing script bytes from to text there line fine new is missing takes says =
    let found = not_taken there from to text missing takes in
    let wrong : ¬ Begins bytes (head script) = λ begins.
    let P : List ℕ → Type 0 = Begins from.rest in
    let Q : Compared → Type 0 = λ t. Begins t.rest (head script) in
    found.0 (subst P (sym is) (subst Q (sym new) begins)) in
    no_head script bytes to line fine wrong (found.1 ∙ new) (says ∙ ap (λ (t : List ℕ). to.lines + wrong_line to.rest t) is)

pub head_there : (script : ScriptText) (bytes : List ℕ) (from to : Compared) (text : List ℕ) (there : Bool) → from ≡ unread bytes → text ≡ head script → there ≡ true → Takes there from to text →
    GoesPast (unread bytes) to (head script)
head_there script bytes from to text there new is found takes =
    let P : List ℕ → Type 0 = GoesPast (unread bytes) to in
    let Q : Compared → Type 0 = λ t. GoesPast t to text in
    subst P is (subst Q new (taken there from to text found takes))

-- one fact of an Ok gives another
pub if_ok_more : {T E : Type 0} {P Q : T → Type 0} (r : Result T E) → ((x : T) → P x → Q x) → IfOk r P → IfOk r Q
if_ok_more (Ok x) more holds = more x holds
if_ok_more (Err e) more holds = tt

-- a place that is told of is there
there_is : (o : Option Kept) (p : Place) → option_map place_of o ≡ Some p → (k : Kept) × (o ≡ Some k)
there_is None p is = absurd (cc is)
there_is (Some k) p is = (k, refl)

-- each application has a place
pub bus_places : (script : ScriptText) (r : Replay) → IsUnderWay r → r.script ≡ script → 1 ≤ length script.apps → length script.apps ≤ length r.places
bus_places script r (history, at) same some =
    let n = length r.script.apps in
    let apps : length r.script.apps ≡ length script.apps = ap (λ (s : ScriptText). length s.apps) same in
    let found = there_is (slice_get r.places (n - 1)) (place_after r.script n history) (at.places n (omega (arith, apps, some)) (omega arith)) in
    omega (arith, apps, some, slice_get_within r.places (n - 1) found.0 found.1)

pub table_places : (script : ScriptText) (t : TableReplay) (history : List TableEntry) → AreReplayed history t → t.script ≡ script → 1 ≤ length script.apps → length script.apps ≤ length t.places
table_places script t history at same some =
    let n = length t.script.apps in
    let apps : length t.script.apps ≡ length script.apps = ap (λ (s : ScriptText). length s.apps) same in
    let found = at.places n (omega (arith, apps, some)) (omega arith) in
    omega (arith, apps, some, slice_get_within t.places (n - 1) (table_place_after t.script n history) found)

-- a replay that is past the lines on the bus is behind their history
pub under_way : (script : ScriptText) (at to : Compared) (r : Replay) → AreWholeLines script at to r → IsUnderWay r
under_way script at to r lines = (lines.history, lines.replayed)
