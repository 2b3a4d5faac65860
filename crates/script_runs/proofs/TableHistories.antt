-- The history that a script's rotation makes of the tables is a legal one that has each application's calls, each once and in
-- order; and behind it no table is left.
use Rattle.std.proofs.Common.{◌≡◌, ℕ, zero, suc, ◌+◌, ◌-◌, ◌<◌, ◌≤◌, not, Bool, true, false, cond, true≢false, ne_eqb, All, List, [], ◌∷◌, append-nil, length, replicate, slice_index_or, Some, refl, ap, sym, ◌∙◌, subst, arith}
use Rattle.std.specs.Option.{is_some}
use Rattle.std.proofs.lemmas.List.{length-replicate, length-set}
use Rattle.std.proofs.lemmas.List.Elements.{All-nil, All-cons}
use Rattle.fsw_base.specs.Limits.{Limits}
use Rattle.bus_words.specs.Bus.{Active, Ended}
use Rattle.bus_words.proofs.Finds.{not_false}
use Rattle.tbl_words.specs.declared.history.Call.{Call}
use Rattle.tbl_words.specs.declared.history.Call.TheVariants as calls
use Rattle.tbl_words.specs.declared.history.Entry.{Entry}
use Rattle.tbl_words.specs.Leaves.{HoldsNothing}
use Rattle.tbl_words.specs.Machine.{step, state_after, LegalFrom, IsLegal}
use Rattle.tbl_words.specs.Tables.{State, opening, has_ended}
use Rattle.tbl_words.proofs.Ends.{is_closed, ended_by, ended-step, ends_leave_nothing, goes}
use Rattle.tbl_words.proofs.Orders.{tables_have_handles}
use Rattle.app_script.specs.Script.{Application, ScriptText, app_at}
use Rattle.script_runs.specs.Merges.{Merges}
use Rattle.script_runs.specs.Rotation.{Running, SoFar, before_all, enough, rotation, rotations, starting}
use Rattle.script_runs.specs.TableTrace.{TableTrace, first_handles, own_table_entries}
use Rattle.script_runs.proofs.ScriptHistories.{first_of, left-starting, fits-starting, lines-starting, first-plus, fit-opening, all-rotated, rotation-merges}
use Rattle.script_runs.proofs.OneTurn.{is_ended}
use Rattle.script_runs.proofs.RotationSteps.{left_of}
use Rattle.script_runs.proofs.TableRotationSteps.{IsTableFit, TableOwed, TableLeads, rotations-tables}
use Rattle.script_runs.specs.Owing.{TableOwes}

-- At the opening. --

minus : (i : ℕ) → suc i - 1 ≡ i
minus i = omega arith

-- whether an application has ended stands at its place
pub closed_at : (ended : List Bool) (i : ℕ) → is_closed ended (suc i) ≡ slice_index_or ended i true
closed_at ended i =
    ap (λ b. cond {A = Bool} b true (slice_index_or ended (suc i - 1) true)) (ne_eqb (suc i) 0 (λ same. omega (arith, same)))
    ∙ ap (λ n. slice_index_or ended n true) (minus i)

-- nobody has ended at the tables who goes on at the bus
same-open : (n i : ℕ) → is_ended (slice_index_or (replicate n Active) i Ended) ≡ slice_index_or (replicate n false) i true
same-open zero i = refl
same-open (suc n) zero = refl
same-open (suc n) (suc i) = same-open n i

fits-tables : (limits : Limits) (apps : List Application) (k : ℕ) → is_some (left_of (starting 1 apps) k) ≡ not (has_ended (opening limits (length apps)) k)
fits-tables limits apps zero = ap is_some (left-starting 1 apps 0 some)
  where
    some : 0 < 1
    some = omega arith
fits-tables limits apps (suc i) =
    ap (λ n. is_some (left_of (starting 1 apps) n)) (first-plus i)
    ∙ fits-starting 1 apps i
    ∙ ap not (same-open (length apps) i)
    ∙ ap not (sym (closed_at (replicate (length apps) false) i))

table_fit-opening : (script : ScriptText) → IsTableFit script.limits (length script.apps) (before_all script).0 (before_all script).1
table_fit-opening script = record {
  sound = record { legal = tt; tables = refl };
  fits = fits-tables script.limits script.apps;
}

tables-rotated : (script : ScriptText) → TableLeads script.limits (length script.apps) (before_all script).0 (before_all script).1
    (rotations (enough script) script.limits (before_all script)).0 (rotations (enough script) script.limits (before_all script)).1
tables-rotated script =
    rotations-tables (enough script) script.limits (length script.apps) (before_all script).0 (before_all script).1 (fit-opening script) (table_fit-opening script)

pub rotation-legal_tables : (script : ScriptText) → IsLegal script.limits (length script.apps) (rotation script).tables
rotation-legal_tables script = (tables-rotated script).fit.sound.legal

-- who isn't left has ended
all_ended : (script : ScriptText) (app : ℕ) → has_ended (state_after script.limits (length script.apps) (rotation script).tables) app ≡ true
all_ended script app =
    let fit = (tables-rotated script).fit in
    let last : SoFar × List Running = rotations (enough script) script.limits (before_all script) in
    ap (λ (t : State). has_ended t app) (sym fit.sound.tables)
    ∙ not_false (has_ended last.0.tables app) (sym (fit.fits app) ∙ ap (λ (rs : List Running). is_some (left_of rs app)) (all-rotated script).none)

-- so no table is left
pub rotation-holds_no_tables : (script : ScriptText) → HoldsNothing script.limits (state_after script.limits (length script.apps) (rotation script).tables)
rotation-holds_no_tables script =
    ends_leave_nothing script.limits (length script.apps) (rotation script).tables (rotation-legal_tables script) (λ app first few. all_ended script app)
    (tables_have_handles script.limits (length script.apps) (rotation script).tables)

-- Merges. --

-- who goes on is known
known-caller : (ended : List Bool) (app apps : ℕ) → length ended ≡ apps → is_closed ended app ≡ false → (1 ≤ app) × (app ≤ apps)
known-caller ended zero apps many going = absurd (true≢false going)
known-caller ended (suc app) apps many going =
    let there = within ended app (sym (closed_at ended app) ∙ going) in
    (omega arith, omega (arith, many, there))
  where
    within : (xs : List Bool) (i : ℕ) → slice_index_or xs i true ≡ false → i < length xs
    within [] i live = absurd (true≢false live)
    within (x ∷ xs) zero live = omega arith
    within (x ∷ xs) (suc i) live = let there = within xs i live in omega (arith, there)

-- as many applications are known as before
length-ended : (app : ℕ) (call : Call) (ended : List Bool) → length (ended_by app call ended) ≡ length ended
length-ended app calls.End ended = length-set ended (app - 1) true
length-ended app call ended = refl

-- the entries of a legal history are of known applications
pub legal-known : (limits : Limits) (apps : ℕ) (s : State) (es : List Entry) → length s.ended ≡ apps → LegalFrom limits s es →
    All (λ e. (1 ≤ e.app) × (e.app ≤ apps)) es
legal-known limits apps s [] many legal = All-nil (λ e. (1 ≤ e.app) × (e.app ≤ apps))
legal-known limits apps s (e ∷ es) many legal =
    All-cons (λ x. (1 ≤ x.app) × (x.app ≤ apps)) e es
    (known-caller s.ended e.app apps many (goes s e.app legal.0))
    (legal-known limits apps ((step limits s e.app e.call).1) es (ap (length {A = Bool}) (ended-step limits s e.app e.call) ∙ length-ended e.app e.call s.ended ∙ many) legal.2)

-- what an application owes at the opening are its lines' entries
opening-owed : (script : ScriptText) (app : ℕ) (es : List Entry) → 1 ≤ app → app ≤ length script.apps →
    TableOwes (left_of (starting 1 script.apps) app) es → TableTrace first_handles (app_at script app).lines es
opening-owed script zero es first last owed = absurd (omega (arith, first))
opening-owed script (suc i) es first last owed =
    let d : Application = record { name = []; lines = [] } in
    let few : i < length script.apps = omega (arith, last) in
    let left : left_of (starting 1 script.apps) (suc i) ≡ Some (first_of (1 + i) (slice_index_or script.apps i d)) =
    ap (left_of (starting 1 script.apps)) (first-plus i) ∙ lines-starting 1 script.apps i d few in
    subst (λ n. TableTrace first_handles (slice_index_or script.apps n d).lines es) (sym (minus i)) (subst (λ o. TableOwes o es) left owed)

-- nobody who is left owes nothing
none-owed : (sofar : SoFar) (rs : List Running) → rs ≡ [] → TableOwed sofar rs sofar.table_history
none-owed sofar rs none = record {
  entries = [];
  history = sym (append-nil sofar.table_history);
  owes = λ k. subst (λ l. TableOwes (left_of l k) []) (sym none) refl;
}

-- both histories have each application's calls
pub rotation-merges_both : (script : ScriptText) → Merges script (rotation script)
rotation-merges_both script =
    let bus = rotation-merges script in
    let last : SoFar × List Running = rotations (enough script) script.limits (before_all script) in
    let owed = (tables-rotated script).back last.0.table_history (none-owed last.0 last.1 (all-rotated script).none) in
    record {
      each = bus.each;
      nobody_else = bus.nobody_else;
      each_at_tables = λ app first few.
          subst (λ h. TableTrace first_handles (app_at script app).lines (own_table_entries app h)) (sym owed.history)
          (opening-owed script app (own_table_entries app owed.entries) first few (owed.owes app));
      nobody_else_at_tables = legal-known script.limits (length script.apps) (opening script.limits (length script.apps)) (rotation script).tables (length-replicate (length script.apps) false)
          (rotation-legal_tables script);
    }
