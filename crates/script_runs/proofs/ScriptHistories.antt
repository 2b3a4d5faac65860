-- The rotation of a script ends; and its history of the bus is a legal one that has each application's calls, each once and in order.
use Rattle.std.proofs.Common.{◌≡◌, ◌⊎◌, ℕ, zero, suc, ◌+◌, ◌-◌, ◌*◌, ◌<◌, ◌≤◌, ◌==◌, not, Bool, true, false, cond, true≢false, eq-eqb, ne_eqb, IsTrue, All, List, [], ◌∷◌, ◌++◌, length, replicate, sum_by, slice_index_or, Option, Some, None, refl, ap, sym, ◌∙◌, subst, arith}
use Rattle.std.specs.Prelude.{find}
use Rattle.std.specs.Option.{is_some, option_map}
use Rattle.std.proofs.lemmas.List.{length-replicate}
use Rattle.std.proofs.lemmas.List.Elements.{All-nil, All-cons}
use Rattle.std.proofs.lemmas.List.Sums.{sum_by-cons}
use Rattle.fsw_base.specs.Limits.{Limits}
use Rattle.bus_words.specs.declared.history.Entry.{Entry}
use Rattle.bus_words.specs.Bus.{Buffer, State, Standing, Active, Waiting, Ended, opening, standing_of, has_ended}
use Rattle.bus_words.specs.Held.{HoldsNothing}
use Rattle.bus_words.specs.Machine.{step, may_call, state_after, LegalFrom, IsLegal}
use Rattle.bus_words.proofs.HeldBlocks.{holds_nothing}
use Rattle.bus_words.proofs.Owners.{AreOwned-after, AreHanded-after, none_left, none_handed}
use Rattle.bus_words.proofs.Steps.{length-standings-step}
use Rattle.script_runs.specs.Rotation.{Running, SoFar, before_all, enough, rotation, rotations, starting}
use Rattle.app_script.specs.Script.{Application, ScriptText, app_at}
use Rattle.script_runs.specs.TableTrace.{first_handles}
use Rattle.script_runs.specs.Trace.{Trace, first_registers, own_entries}
use Rattle.script_runs.specs.Written.{first_written}
use Rattle.bus_words.proofs.LegalSteps.{standing_at}
use Rattle.script_runs.specs.Owing.{Owes}
use Rattle.script_runs.proofs.OneTurn.{HasWritten, waits, is_ended}
use Rattle.script_runs.proofs.RotationSteps.{left_of, AreApart, IsFit, Owed, HasRotated, weights, rotations-end}

-- At the opening. --

pub left-starting : (from : ℕ) (apps : List Application) (k : ℕ) → k < from → left_of (starting from apps) k ≡ None
left-starting from [] k below = refl
left-starting from (a ∷ apps) k below =
    ap (λ b. cond {A = Option Running} b (Some (record { app = from; lines = a.lines; registers = first_registers; handles = first_handles; written = first_written })) (left_of (starting (from + 1) apps) k))
    (ne_eqb from k (λ same. omega (arith, same, below)))
    ∙ left-starting (from + 1) apps k (omega (arith, below))

apart-starting : (from : ℕ) (apps : List Application) → AreApart (starting from apps)
apart-starting from [] = tt
apart-starting from (a ∷ apps) = (left-starting (from + 1) apps from (omega arith), apart-starting (from + 1) apps)

-- the application with this number, before its first line
abbrev pub first_of : ℕ → Application → Running
first_of app a = record { app = app; lines = a.lines; registers = first_registers; handles = first_handles; written = first_written }

skip-starting : (from : ℕ) (a : Application) (apps : List Application) (i : ℕ) → left_of (starting from (a ∷ apps)) (from + suc i) ≡ left_of (starting (from + 1) apps) ((from + 1) + i)
skip-starting from a apps i =
    ap (λ b. cond {A = Option Running} b (Some (first_of from a)) (left_of (starting (from + 1) apps) (from + suc i))) (ne_eqb from (from + suc i) (λ same. omega (arith, same)))
    ∙ ap (left_of (starting (from + 1) apps)) (moved from i)
  where
    moved : (from i : ℕ) → from + suc i ≡ (from + 1) + i
    moved from i = omega arith

here-starting : (from : ℕ) (a : Application) (apps : List Application) → left_of (starting from (a ∷ apps)) (from + 0) ≡ Some (first_of from a)
here-starting from a apps =
    ap (λ b. cond {A = Option Running} b (Some (first_of from a)) (left_of (starting (from + 1) apps) (from + 0))) (eq-eqb from (from + 0) (same from))
  where
    same : (from : ℕ) → from ≡ from + 0
    same from = omega arith

pub fits-starting : (from : ℕ) (apps : List Application) (i : ℕ) →
    is_some (left_of (starting from apps) (from + i)) ≡ not (is_ended (slice_index_or (replicate (length apps) Active) i Ended))
fits-starting from [] i = refl
fits-starting from (a ∷ apps) zero = ap is_some (here-starting from a apps)
fits-starting from (a ∷ apps) (suc i) = ap is_some (skip-starting from a apps i) ∙ fits-starting (from + 1) apps i

pub lines-starting : (from : ℕ) (apps : List Application) (i : ℕ) (d : Application) → i < length apps →
    left_of (starting from apps) (from + i) ≡ Some (first_of (from + i) (slice_index_or apps i d))
lines-starting from [] i d few = absurd (omega (arith, few))
lines-starting from (a ∷ apps) zero d few = here-starting from a apps ∙ ap (λ n. Some (first_of n a)) (same from)
  where
    same : (from : ℕ) → from ≡ from + 0
    same from = omega arith
lines-starting from (a ∷ apps) (suc i) d few =
    skip-starting from a apps i ∙ lines-starting (from + 1) apps i d (omega (arith, few)) ∙ ap (λ n. Some (first_of n (slice_index_or apps i d))) (moved from i)
  where
    moved : (from i : ℕ) → (from + 1) + i ≡ from + suc i
    moved from i = omega arith

pub first-plus : (i : ℕ) → suc i ≡ 1 + i
first-plus i = omega arith

fits-opening : (limits : Limits) (apps : List Application) (k : ℕ) → is_some (left_of (starting 1 apps) k) ≡ not (is_ended (standing_of (opening limits (length apps)) k))
fits-opening limits apps zero = ap is_some (left-starting 1 apps 0 (omega arith))
fits-opening limits apps (suc i) =
    ap (λ n. is_some (left_of (starting 1 apps) n)) (first-plus i)
    ∙ fits-starting 1 apps i
    ∙ ap (λ st. not (is_ended st)) (sym (standing_at (opening limits (length apps)) i))

-- at the opening no application has a buffer
written-opening : (limits : Limits) (n k from : ℕ) (apps : List Application) → HasWritten (opening limits n) k (left_of (starting from apps) k)
written-opening limits n k from [] = tt
written-opening limits n k from (a ∷ apps) =
    elim (from == k) as (λ b. HasWritten (opening limits n) k (cond {A = Option Running} b (Some (first_of from a)) (left_of (starting (from + 1) apps) k))) [
      | true ↦ λ number. ap (λ bs. option_map (λ (x : Buffer). x.size) (find (λ (b : Buffer). b.number == number) bs)) (sym (none_at n (k - 1)))
      | false ↦ written-opening limits n k (from + 1) apps
    ]
  where
    none_at : (n i : ℕ) → slice_index_or (replicate {A = List Buffer} n []) i [] ≡ []
    none_at zero i = refl
    none_at (suc n) zero = refl
    none_at (suc n) (suc i) = none_at n i

pub fit-opening : (script : ScriptText) → IsFit script.limits (length script.apps) (before_all script).0 (before_all script).1
fit-opening script = record {
  sound = record { legal = tt; state = refl };
  apart = apart-starting 1 script.apps;
  fits = fits-opening script.limits script.apps;
  written = λ k first. written-opening script.limits (length script.apps) k 1 script.apps;
}

-- at the opening nobody waits
opening-waits : (limits : Limits) (n k : ℕ) → waits (standing_of (opening limits n) k) ≡ 0
opening-waits limits n zero = refl
opening-waits limits n (suc i) = ap waits (standing_at (opening limits n) i) ∙ none n i
  where
    none : (n i : ℕ) → waits (slice_index_or (replicate n Active) i Ended) ≡ 0
    none zero i = refl
    none (suc n) zero = refl
    none (suc n) (suc i) = none n i

weights-starting : (s : State) → ((k : ℕ) → waits (standing_of s k) ≡ 0) → (from : ℕ) (apps : List Application) →
    weights s (starting from apps) ≡ sum_by (λ (a : Application). 2 * length a.lines + 1) apps
weights-starting s calm from [] = refl
weights-starting s calm from (a ∷ apps) =
    let rest = weights-starting s calm (from + 1) apps in
    let none = calm from in
    omega (arith, rest, none, sum_by-cons (λ (x : Application). 2 * length x.lines + 1) a apps)

-- Rotations. --

pub all-rotated : (script : ScriptText) → HasRotated script.limits (length script.apps) (before_all script).0 (before_all script).1 (rotations (enough script) script.limits (before_all script))
all-rotated script =
    rotations-end (enough script) script.limits (length script.apps) (before_all script).0 (before_all script).1 (fit-opening script)
    (enough-turns (weights-starting (opening script.limits (length script.apps)) (opening-waits script.limits (length script.apps)) 1 script.apps))
  where
    enough-turns : {a b : ℕ} → a ≡ b → a ≤ b
    enough-turns same = omega (arith, same)

pub rotation-ends : (script : ScriptText) → (rotations (enough script) script.limits (before_all script)).1 ≡ []
rotation-ends script = (all-rotated script).none

pub rotation-legal : (script : ScriptText) → IsLegal script.limits (length script.apps) (rotation script).bus
rotation-legal script = (all-rotated script).leads.fit.sound.legal

-- who isn't left has ended
pub rotation-all_ended : (script : ScriptText) (app : ℕ) → has_ended (standing_of (state_after script.limits (length script.apps) (rotation script).bus) app) ≡ true
rotation-all_ended script app =
    let done = all-rotated script in
    let last : SoFar × List Running = rotations (enough script) script.limits (before_all script) in
    ap (λ (s : State). has_ended (standing_of s app)) (sym done.leads.fit.sound.state)
    ∙ over (standing_of last.0.state app) (ap (λ (rs : List Running). is_some (left_of rs app)) (sym done.none) ∙ done.leads.fit.fits app)
  where
    over : (standing : Standing) → false ≡ not (is_ended standing) → has_ended standing ≡ true
    over Active gone = absurd (true≢false (sym gone))
    over (Waiting pipe) gone = absurd (true≢false (sym gone))
    over Ended gone = refl

-- so nothing is held
pub rotation-holds_nothing : (script : ScriptText) → HoldsNothing script.limits (state_after script.limits (length script.apps) (rotation script).bus)
rotation-holds_nothing script =
    let s = state_after script.limits (length script.apps) (rotation script).bus in
    let legal = rotation-legal script in
    holds_nothing script.limits s
    (none_left s s.pipes (AreOwned-after script.limits (length script.apps) (rotation script).bus legal) (rotation-all_ended script))
    (none_handed s (AreHanded-after script.limits (length script.apps) (rotation script).bus legal) (rotation-all_ended script))

-- Merges. --

known-caller : (s : State) (app apps : ℕ) → length s.standings ≡ apps → is_ended (standing_of s app) ≡ false → (1 ≤ app) × (app ≤ apps)
known-caller s zero apps many live = absurd (true≢false live)
known-caller s (suc app) apps many live =
    let there = within s.standings app (ap is_ended (sym (standing_at s app)) ∙ live) in
    (omega arith, omega (arith, many, there))
  where
    within : (xs : List Standing) (i : ℕ) → is_ended (slice_index_or xs i Ended) ≡ false → i < length xs
    within [] i live = absurd (true≢false live)
    within (x ∷ xs) zero live = omega arith
    within (x ∷ xs) (suc i) live = let there = within xs i live in omega (arith, there)

pub caller-live : (standing : Standing) (call : Rattle.bus_words.specs.declared.history.Call.Call) → IsTrue (may_call standing call) → is_ended standing ≡ false
caller-live Active call may = refl
caller-live (Waiting pipe) call may = refl
caller-live Ended call may = absurd (true≢false (sym may))

-- the entries of a legal history are of known applications
pub legal-known : (limits : Limits) (apps : ℕ) (history : List Entry) (s : State) (es : List Entry) → length s.standings ≡ apps → LegalFrom limits history s es →
    All (λ e. (1 ≤ e.app) × (e.app ≤ apps)) es
legal-known limits apps history s [] many legal = All-nil (λ e. (1 ≤ e.app) × (e.app ≤ apps))
legal-known limits apps history s (e ∷ es) many legal =
    All-cons (λ x. (1 ≤ x.app) × (x.app ≤ apps)) e es
    (known-caller s e.app apps many (caller-live (standing_of s e.app) e.call legal.0))
    (legal-known limits apps (history ++ e ∷ []) ((step limits history s e.app e.call).1) es (length-standings-step limits history s e.app e.call ∙ many) legal.4)

-- what an application owes at the opening are its lines' entries
opening-owed : (script : ScriptText) (app : ℕ) (es : List Entry) → 1 ≤ app → app ≤ length script.apps →
    Owes (standing_of (opening script.limits (length script.apps)) app) (left_of (starting 1 script.apps) app) es → Trace first_registers first_written (app_at script app).lines es
opening-owed script zero es first last owed = absurd (omega (arith, first))
opening-owed script (suc i) es first last owed =
    let d : Application = record { name = []; lines = [] } in
    let few : i < length script.apps = omega (arith, last) in
    let stands : standing_of (opening script.limits (length script.apps)) (suc i) ≡ Active = standing_at (opening script.limits (length script.apps)) i ∙ active (length script.apps) i few in
    let left : left_of (starting 1 script.apps) (suc i) ≡ Some (first_of (1 + i) (slice_index_or script.apps i d)) =
    ap (left_of (starting 1 script.apps)) (first-plus i) ∙ lines-starting 1 script.apps i d few in
    subst (λ n. Trace first_registers first_written (slice_index_or script.apps n d).lines es) (sym (minus i))
    (subst (λ o. Owes Active o es) left (subst (λ st. Owes st (left_of (starting 1 script.apps) (suc i)) es) stands owed))
  where
    minus : (i : ℕ) → suc i - 1 ≡ i
    minus i = omega arith

    active : (n i : ℕ) → i < n → slice_index_or (replicate n Active) i Ended ≡ Active
    active zero i few = absurd (omega (arith, few))
    active (suc n) zero few = refl
    active (suc n) (suc i) few = active n i (omega (arith, few))

-- nobody who is left owes nothing
none-owed : (sofar : SoFar) (rs : List Running) → rs ≡ [] → Owed sofar rs sofar.history
none-owed sofar rs none = record {
  entries = [];
  history = sym (Rattle.std.proofs.Common.append-nil sofar.history);
  owes = λ k. subst (λ l. Owes (standing_of sofar.state k) (left_of l k) []) (sym none) refl;
}

-- Each application's calls of the bus, each once and in order, and no other's.
pub record MergesAtBus (script : ScriptText) (history : List Entry) : Type 0 where
  pub each :
      (app : ℕ) → 1 ≤ app → app ≤ length script.apps →
      Trace first_registers first_written (app_at script app).lines (own_entries app history)
  pub nobody_else : All (λ e. (1 ≤ e.app) × (e.app ≤ length script.apps)) history

pub rotation-merges : (script : ScriptText) → MergesAtBus script (rotation script).bus
rotation-merges script =
    let done = all-rotated script in
    let last : SoFar × List Running = rotations (enough script) script.limits (before_all script) in
    let owed = done.leads.back last.0.history (none-owed last.0 last.1 done.none) in
    record {
      each = λ app first few.
          subst (λ h. Trace first_registers first_written (app_at script app).lines (own_entries app h)) (sym owed.history)
          (opening-owed script app (own_entries app owed.entries) first few (owed.owes app));
      nobody_else = legal-known script.limits (length script.apps) [] (opening script.limits (length script.apps)) (rotation script).bus (length-replicate (length script.apps) _) (rotation-legal script);
    }
