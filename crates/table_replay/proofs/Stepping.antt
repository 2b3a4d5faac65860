-- What a step does, from what its calls say.
use Rattle.std.proofs.Common.{◌≡◌, ℕ, ◌+◌, ◌-◌, ◌<◌, ◌≤◌, arith, Bool, true, false, true≢false, List, [], ◌∷◌, ◌++◌, length, get_or, Option, Some, None, refl, ap, sym, ◌∙◌, subst}
use Rattle.std.specs.Prelude.{is_some, IsSome}
use Rattle.std.specs.Option.{option_map}
use Rattle.std.proofs.lemmas.Option.{get_or_from_slice_get, slice_get-get_or, slice_get_within}
use Rattle.tbl_words.specs.declared.history.Entry.{Entry}
use Rattle.tbl_words.specs.Machine.{step}
use Rattle.tbl_words.specs.Tables.{has_ended}
use Rattle.app_script.specs.Script.{Application, ScriptText}
use Rattle.run_report.specs.TableText.{table_entry_text}
use Rattle.run_check.specs.Begun.{AreBegunTables}
use Rattle.run_check.specs.Fronts.{wrong_line}
use Rattle.run_check.specs.Judged.{Begins, entry_head}
use Rattle.run_check.specs.Places.{lines_of}
use Rattle.run_check.specs.TablePlaces.{TablePlace, table_place_after}
use Rattle.replay_parts.specs.Compared.{Compared, GoesPast, Takes}
use Rattle.table_replay.specs.declared.replay.TableStep.TheVariants.{Entered, Whole, Wrong}
use Rattle.table_replay.specs.Places.{call_at}
use Rattle.table_replay.specs.Replays.{Another, IsNextCaller, IsReplayed, IsUnderWay, Nobodys, Replay, Steps, have_all_ended, settled}
use Rattle.table_replay.proofs.Behind.{place_sees}
use Rattle.table_replay.proofs.Entering.{entered, may_come}
use Rattle.table_replay.proofs.Nexts.{call_there}
use Rattle.table_replay.proofs.Stopping.{are_whole, nobodys, one_missing}

-- What is read off the lists. --

-- a member of a list, whatever stands for it past the end
pub member_is : {X : Type 0} (xs : List X) (i : ℕ) (x d : X) → i < length xs → x ≡ get_or xs i x → x ≡ get_or xs i d
member_is xs i x d within is = is ∙ get_or_from_slice_get xs i (get_or xs i d) x (slice_get-get_or xs i d within)

-- an application's lines
pub lines_are : (script : ScriptText) (app : ℕ) (found : Application) → 1 ≤ app → app ≤ length script.apps → found ≡ get_or script.apps (app - 1) found → found.lines ≡ lines_of script app
lines_are script app found one few is =
    ap (λ (a : Application). a.lines) (member_is script.apps (app - 1) found (record { name = []; lines = [] }) (omega (arith, one, few)) is)

-- each application has a place
pub place_within : (r : Replay) (app : ℕ) → IsUnderWay r → 1 ≤ app → app ≤ length r.script.apps → app - 1 < length r.places
place_within r app (history, at) one few = slice_get_within r.places (app - 1) (table_place_after r.script app history) (at.places app one few)

-- which is where it is behind the history
pub place_is : (history : List Entry) (r : Replay) (app : ℕ) (found : TablePlace) → IsReplayed history r → 1 ≤ app → app ≤ length r.script.apps → found ≡ get_or r.places (app - 1) found →
    found ≡ table_place_after r.script app history
place_is history r app found at one few is = is ∙ get_or_from_slice_get r.places (app - 1) (table_place_after r.script app history) found (at.places app one few)

-- there is a call that comes next
pub call_comes : (r : Replay) (app : ℕ) (found : TablePlace) → IsUnderWay r → 1 ≤ app → app ≤ length r.script.apps → found ≡ get_or r.places (app - 1) found →
    is_some (call_at (lines_of r.script app) found) ≡ true
call_comes r app found (history, at) one few is =
    ap (λ p. is_some (call_at (lines_of r.script app) p)) (place_is history r app found at one few is)
    ∙ call_there (lines_of r.script app) (table_place_after r.script app history) (place_sees r.script app history)

-- The next line. --

-- An entry that may come next, and how its line begins.
pub record Coming (history : List Entry) (r : Replay) (e : Entry) (text : Compared) : Type 0 where
  pub begun : AreBegunTables r.script (history ++ e ∷ [])
  pub headed : Begins text.rest (entry_head (length history + 1) e.app)

pub coming : (history : List Entry) (r : Replay) (e : Entry) (found : TablePlace) (text : Compared) → IsReplayed history r → IsNextCaller r e.app text → 1 ≤ e.app → found ≡ get_or r.places (e.app - 1) found →
    Some e.call ≡ call_at (lines_of r.script e.app) found → e.answer ≡ (step r.limits r.state e.app e.call).0 → Coming history r e text
coming history r e found text at caller one is comes answered = record {
  begun = may_come history r e at one caller.known caller.going
      (ap (λ p. call_at (lines_of r.script e.app) p) (sym (place_is history r e.app found at one caller.known is)) ∙ sym comes) answered;
  headed = subst (λ n. Begins text.rest (entry_head (n + 1) e.app)) at.entries caller.headed;
}

-- its line isn't there
pub steps_wrong : (history : List Entry) (r now : Replay) (e : Entry) (from then to : Compared) (number line : ℕ) (text : List ℕ) → IsReplayed history r → Coming history r e from →
    number ≡ r.entries + 1 → text ≡ table_entry_text number e → (¬ Begins from.rest text) × (then ≡ from) → line ≡ then.lines + wrong_line then.rest text →
    Steps history r now from to (Wrong line)
steps_wrong history r now e from then to number line text at next counted is another says =
    Another e next.begun next.headed (subst (λ t. ¬ Begins from.rest t) text_is another.0)
    (says ∙ ap (λ (t : Compared). t.lines + wrong_line t.rest text) another.1 ∙ ap (λ t. from.lines + wrong_line from.rest t) text_is)
  where
    text_is : text ≡ table_entry_text (length history + 1) e
    text_is = is ∙ ap (λ n. table_entry_text n e) (counted ∙ ap (λ n. n + 1) at.entries)

-- its line is there, and everything past it
pub steps_on : (history : List Entry) (r now : Replay) (e : Entry) (from to : Compared) (number : ℕ) (text : List ℕ) → IsReplayed history r → Coming history r e from → 1 ≤ e.app → e.app ≤ length r.script.apps →
    number ≡ r.entries + 1 → text ≡ table_entry_text number e → GoesPast from to text → now ≡ settled (record r { state = (step r.limits r.state e.app e.call).1 }) number e →
    Steps history r now from to Entered
steps_on history r now e from to number text at next one few counted is past moved = (
  ap (λ (x : Replay). x.script) moved,
  record {
    entry = e;
    replayed = entered history r now e at next.begun (moved ∙ ap (λ n. settled (record r { state = (step r.limits r.state e.app e.call).1 }) n e) counted) one few;
    text = subst (λ t. GoesPast from to t) (is ∙ ap (λ n. table_entry_text n e) (counted ∙ ap (λ n. n + 1) at.entries)) past;
  },
)

-- no entry is missing
pub steps_whole : (history : List Entry) (r : Replay) (text : Compared) → IsReplayed history r → have_all_ended r.state (length r.script.apps) ≡ true → Steps history r r text text Whole
steps_whole history r text at all = (are_whole history r at all, refl, refl)

-- the line begins with the number of none that hasn't ended
pub steps_nobodys : (history : List Entry) (r now : Replay) (from to : Compared) (line : ℕ) → IsReplayed history r → have_all_ended r.state (length r.script.apps) ≡ false →
    ((app : ℕ) → 1 ≤ app → app ≤ length r.script.apps → has_ended r.state app ≡ false → ¬ Begins from.rest (entry_head (r.entries + 1) app)) →
    line ≡ from.lines + wrong_line from.rest [] → Steps history r now from to (Wrong line)
steps_nobodys history r now from to line at some none says = Nobodys (one_missing history r at some) (nobodys history r at from.rest none) says

-- what stands for something is there
pub some_there : {A B : Type 0} (f : A → B) (o : Option A) → is_some (option_map f o) ≡ true → IsSome o
some_there f None is = absurd (true≢false (sym is))
some_there f (Some a) is = refl

-- a text that was there, and one that wasn't
pub taken : (there : Bool) (from to : Compared) (text : List ℕ) → there ≡ true → Takes there from to text → GoesPast from to text
taken there from to text is takes = subst (λ b. Takes b from to text) is takes

pub not_taken : (there : Bool) (from to : Compared) (text : List ℕ) → there ≡ false → Takes there from to text → (¬ Begins from.rest text) × (to ≡ from)
not_taken there from to text is takes = subst (λ b. Takes b from to text) is takes
