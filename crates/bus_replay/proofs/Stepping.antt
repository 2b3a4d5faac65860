-- What a step does, from what its calls say.
use Rattle.std.proofs.Common.{◌≡◌, ◌≢◌, ℕ, ◌+◌, ◌-◌, ◌<◌, ◌≤◌, arith, Bool, true, false, true≢false, List, [], ◌∷◌, ◌++◌, length, get_or, Option, Some, None, refl, ap, sym, ◌∙◌, subst}
use Rattle.std.specs.Prelude.{slice_get, is_some, IsSome}
use Rattle.std.specs.Option.{option_map}
use Rattle.std.proofs.lemmas.Option.{get_or_from_slice_get, slice_get-get_or, slice_get_within}
use Rattle.bus_words.specs.declared.history.Call.{Call}
use Rattle.bus_words.specs.declared.history.Entry.{Entry}
use Rattle.bus_words.specs.Acts.{Whole as All, act, whole_after}
use Rattle.bus_words.specs.Bus.{Ended, Standing, standing_of}
use Rattle.bus_words.specs.Machine.{brings, makes_entry}
use Rattle.app_script.specs.Script.{Application, ScriptText}
use Rattle.list_bus.specs.Played.{IsPlayed, Played}
use Rattle.run_report.specs.BusText.{entry_text}
use Rattle.run_check.specs.Begun.{IsBegun}
use Rattle.run_check.specs.Fronts.{wrong_line}
use Rattle.run_check.specs.Judged.{Begins, entry_head}
use Rattle.run_check.specs.Places.{Place, lines_of, place_after}
use Rattle.run_check.proofs.BusGoesOn.{places_stand}
use Rattle.replay_parts.specs.Compared.{Compared, GoesPast, Takes}
use Rattle.bus_replay.specs.declared.replay.BusStep.TheVariants.{Entered, Whole, Wrong}
use Rattle.bus_replay.specs.Places.{Kept, call_at, place_of}
use Rattle.bus_replay.specs.Replays.{Another, IsNextCaller, IsReplayed, IsSettled, IsUnderWay, Nobodys, Replay, Steps, have_all_ended}
use Rattle.bus_replay.proofs.Entering.{entered, may_come}
use Rattle.bus_replay.proofs.Nexts.{call_there}
use Rattle.bus_replay.proofs.Stopping.{are_whole, can_not, nobodys, one_missing, this_missing}

-- What is read off the lists. --

-- a member of a list, whatever stands for it past the end
pub member_is : {X : Type 0} (xs : List X) (i : ℕ) (x d : X) → i < length xs → x ≡ get_or xs i x → x ≡ get_or xs i d
member_is xs i x d within is = is ∙ get_or_from_slice_get xs i (get_or xs i d) x (slice_get-get_or xs i d within)

-- an application's lines
pub lines_are : (script : ScriptText) (app : ℕ) (found : Application) → 1 ≤ app → app ≤ length script.apps → found ≡ get_or script.apps (app - 1) found → found.lines ≡ lines_of script app
lines_are script app found one few is =
    ap (λ (a : Application). a.lines) (member_is script.apps (app - 1) found (record { name = []; lines = [] }) (omega (arith, one, few)) is)

-- a place that is there
there_is : (o : Option Kept) (p : Place) → option_map place_of o ≡ Some p → (k : Kept) × (o ≡ Some k) × (place_of k ≡ p)
there_is None p is = absurd (cc is)
there_is (Some k) p is = (k, refl, cc is)

-- each application has one
pub place_within : (r : Replay) (app : ℕ) → IsUnderWay r → 1 ≤ app → app ≤ length r.script.apps → app - 1 < length r.places
place_within r app (history, at) one few =
    let found = there_is (slice_get r.places (app - 1)) (place_after r.script app history) (at.places app one few) in
    slice_get_within r.places (app - 1) found.0 found.1

-- which is where it is behind the history
pub place_is : (history : List Entry) (r : Replay) (app : ℕ) (kept : Kept) → IsReplayed history r → 1 ≤ app → app ≤ length r.script.apps → kept ≡ get_or r.places (app - 1) kept →
    place_of kept ≡ place_after r.script app history
place_is history r app kept at one few is =
    let found = there_is (slice_get r.places (app - 1)) (place_after r.script app history) (at.places app one few) in
    ap place_of (is ∙ get_or_from_slice_get r.places (app - 1) found.0 kept found.1) ∙ found.2

-- there is a call that comes next
pub call_comes : (r : Replay) (app : ℕ) (kept : Kept) → IsUnderWay r → 1 ≤ app → app ≤ length r.script.apps → standing_of r.played.whole.bus app ≢ Ended → kept ≡ get_or r.places (app - 1) kept →
    is_some (call_at (standing_of r.played.whole.bus app) (lines_of r.script app) (place_of kept)) ≡ true
call_comes r app kept (history, at) one few going is =
    ap (λ p. is_some (call_at (standing_of r.played.whole.bus app) (lines_of r.script app) p)) (place_is history r app kept at one few is)
    ∙ ap (λ (s : Standing). is_some (call_at s (lines_of r.script app) p)) same
    ∙ call_there (standing_of w.bus app) (lines_of r.script app) p (places_stand r.script history app at.begun one few).1 (λ ended. going (same ∙ ended))
  where
    w : All
    w = whole_after r.script.limits (length r.script.apps) history

    p : Place
    p = place_after r.script app history

    same : standing_of r.played.whole.bus app ≡ standing_of w.bus app
    same = ap (λ (x : All). standing_of x.bus app) at.whole

-- The next line. --

-- What is known of the call of the application that the line names.
pub record Comes (history : List Entry) (r : Replay) (app : ℕ) (call : Call) (text : Compared) : Type 0 where
  pub at : IsReplayed history r
  pub one : 1 ≤ app
  pub caller : IsNextCaller r app text
  pub call_is : call_at (standing_of r.played.whole.bus app) (lines_of r.script app) (place_after r.script app history) ≡ Some call

pub comes : (history : List Entry) (r : Replay) (app : ℕ) (call : Call) (kept : Kept) (text : Compared) → IsReplayed history r → IsNextCaller r app text → 1 ≤ app → kept ≡ get_or r.places (app - 1) kept →
    Some call ≡ call_at (standing_of r.played.whole.bus app) (lines_of r.script app) (place_of kept) → Comes history r app call text
comes history r app call kept text at caller one is coming = record {
  at = at;
  one = one;
  caller = caller;
  call_is = ap (λ p. call_at (standing_of r.played.whole.bus app) (lines_of r.script app) p) (sym (place_is history r app kept at one caller.known is)) ∙ sym coming;
}

-- it makes no entry
pub steps_never : (history : List Entry) (r now : Replay) (app : ℕ) (call : Call) (from to : Compared) (line : ℕ) → Comes history r app call from →
    ((makes_entry call ((act r.played.limits r.played.whole app call).0) ≡ true) → (brings r.played.whole.bus.unsent app call ≡ true) → ⊥) →
    line ≡ from.lines + wrong_line from.rest [] → Steps history r now from to (Wrong line)
steps_never history r now app call from to line next never says =
    Nobodys (this_missing history r next.at app next.one next.caller.known next.caller.going)
    (can_not history r next.at from.rest app call next.caller.only next.call_is never) says

-- it makes one
pub next_begun : (history : List Entry) (r : Replay) (e : Entry) (text : Compared) → Comes history r e.app e.call text → e.answer ≡ (act r.played.limits r.played.whole e.app e.call).0 →
    makes_entry e.call e.answer ≡ true → brings r.played.whole.bus.unsent e.app e.call ≡ true → IsBegun r.script (history ++ e ∷ [])
next_begun history r e text next answered enters brought = may_come history r next.at e next.one next.caller.known next.call_is answered enters brought

-- but its line isn't there
pub steps_wrong : (history : List Entry) (r now : Replay) (e : Entry) (from then to : Compared) (number line : ℕ) (text : List ℕ) → Comes history r e.app e.call from → IsBegun r.script (history ++ e ∷ []) →
    number ≡ r.entries + 1 → text ≡ entry_text number e → (¬ Begins from.rest text) × (then ≡ from) → line ≡ then.lines + wrong_line then.rest text →
    Steps history r now from to (Wrong line)
steps_wrong history r now e from then to number line text next begun counted is another says =
    Another e begun (subst (λ n. Begins from.rest (entry_head (n + 1) e.app)) next.at.entries next.caller.headed) (subst (λ t. ¬ Begins from.rest t) text_is another.0)
    (says ∙ ap (λ (t : Compared). t.lines + wrong_line t.rest text) another.1 ∙ ap (λ t. from.lines + wrong_line from.rest t) text_is)
  where
    text_is : text ≡ entry_text (length history + 1) e
    text_is = is ∙ ap (λ n. entry_text n e) (counted ∙ ap (λ n. n + 1) next.at.entries)

-- its line is there, and everything past it
pub steps_on : (history : List Entry) (r now : Replay) (then : Played) (e : Entry) (from to : Compared) (number : ℕ) (text : List ℕ) → Comes history r e.app e.call from → IsBegun r.script (history ++ e ∷ []) →
    number ≡ r.entries + 1 → text ≡ entry_text number e → GoesPast from to text →
    act r.played.limits r.played.whole e.app e.call ≡ (e.answer, then.whole) → then.limits ≡ r.played.limits → IsPlayed then →
    IsSettled (record r { played = then }) now number e → Steps history r now from to Entered
steps_on history r now then e from to number text next begun counted is past acted limits kept moved = (
  moved.script,
  record {
    entry = e;
    replayed = entered history r next.at then now e begun next.one next.caller.known acted limits kept (subst (λ n. IsSettled (record r { played = then }) now n e) counted moved);
    text = subst (λ t. GoesPast from to t) (is ∙ ap (λ n. entry_text n e) (counted ∙ ap (λ n. n + 1) next.at.entries)) past;
  },
)

-- no entry is missing
pub steps_whole : (history : List Entry) (r : Replay) (text : Compared) → IsReplayed history r → have_all_ended r.played.whole.bus (length r.script.apps) ≡ true → Steps history r r text text Whole
steps_whole history r text at all = (are_whole history r at all, refl, refl)

-- the line begins with the number of none that hasn't ended
pub steps_nobodys : (history : List Entry) (r now : Replay) (from to : Compared) (line : ℕ) → IsReplayed history r → have_all_ended r.played.whole.bus (length r.script.apps) ≡ false →
    ((app : ℕ) → 1 ≤ app → app ≤ length r.script.apps → Begins from.rest (entry_head (r.entries + 1) app) → standing_of r.played.whole.bus app ≡ Ended) →
    line ≡ from.lines + wrong_line from.rest [] → Steps history r now from to (Wrong line)
steps_nobodys history r now from to line at some none says = Nobodys (one_missing history r at some) (nobodys history r at from.rest none) says

-- what stands for something is there
pub some_there : {A B : Type 0} (f : A → B) (o : Option A) → is_some (option_map f o) ≡ true → IsSome o
some_there f None is = absurd (true≢false (sym is))
some_there f (Some a) is = refl

-- a text that was there, and one that wasn't
pub taken : (there : Bool) (from to : Compared) (text : List ℕ) → there ≡ true → Takes there from to text → GoesPast from to text
taken there from to text is takes = subst (λ b. Takes b from to text) is takes

pub not_taken : (there : Bool) (from to : Compared) (text : List ℕ) → there ≡ false → Takes there from to text → (¬ Begins from.rest text) × (to ≡ from)
not_taken there from to text is takes = subst (λ b. Takes b from to text) is takes
