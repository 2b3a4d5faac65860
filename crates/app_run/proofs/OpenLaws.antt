-- Before the first rotation and after the last one.
use Rattle.std.proofs.Common.{◌≡◌, ℕ, zero, suc, ◌+◌, ◌-◌, ◌*◌, ◌<◌, ◌≤◌, Bool, true, false, cond, if◌then◌else◌, List, [], ◌∷◌, ◌++◌, length, map, take, fold, sum_by, replicate, slice_index, slice_index_or, refl, ap, sym, ◌∙◌, subst, append-nil, add-one, ne_eqb, arith}
use Rattle.std.specs.List.{All, range_with_len}
use Rattle.std.proofs.lemmas.List.{length-map}
use Rattle.std.proofs.lemmas.List.Elements.{All-nil, All-cons, All-head, All-tail}
use Rattle.std.proofs.lemmas.List.FromFn.{length-range_with_len}
use Rattle.std.proofs.lemmas.List.Sums.{sum_by-cons}
use Rattle.fsw_base.specs.declared.config.Budget.{Budget}
use Rattle.fsw_base.specs.Limits.{Limits}
use Rattle.journal_store.specs.declared.allowance.Allowance.{Allowance}
use Rattle.bus_words.specs.declared.receipts.Receipt.{Receipt}
use Rattle.bus_words.specs.Bus.{Standing, Active, Ended, opening, standing_of}
use Rattle.journal_store.specs.Budgets.{AreBudgets, allowance_of}
use Rattle.bus_words.specs.Log.{left_of}
use Rattle.sb_calls.specs.Core.{Core, apps_of, state_of}
use Rattle.tbl_words.specs.Tables.{has_ended, opening as no_tables}
use Rattle.table_blocks.specs.Held.{HeldViews}
use Rattle.tbl_load.specs.Core.{Core as TableCore, apps_of as table_apps_of}
use Rattle.script_lines.specs.declared.line.Line.{Line}
use Rattle.script_lines.specs.declared.line.Line.TheVariants.{Create, Find, Send, SendRaw, Pend, Allocate, TransmitBuffer, TableRegister, TableShare, Stage, Load}
use Rattle.script_settings.specs.declared.account.Account.{Account}
use Rattle.script_settings.specs.Accounts.{no_calls, charge_of, waits_of, buffers_of, with_line, account_of, budget_of}
use Rattle.app_script.specs.Ranges.{IsInRange}
use Rattle.script_runs.specs.Rotation.{Running, SoFar, rotated, rotations, starting, enough, before_all, rotation}
use Rattle.app_script.specs.Script.{Application, ScriptText, app_at}
use Rattle.script_runs.specs.Histories.{Histories}
use Rattle.script_runs.specs.TableTrace.{first_handles}
use Rattle.script_runs.specs.Told.{Telling, receipts_told, seen_from, table_seen_from, told}
use Rattle.script_runs.specs.Trace.{first_registers}
use Rattle.script_runs.specs.Written.{first_written}
use Rattle.script_runs.proofs.ScriptHistories.{rotation-ends}
use Rattle.app_run.specs.Lines.{line_bytes, entries_due, bytes_due}
use Rattle.lend_block.specs.Loan.{LentBytes}
use Rattle.buf_desc.specs.Held.{Holding}
use Rattle.app_run.specs.Openings.{budgets_for, empty_bag, empty_bags, empty_held, opened, opened_tables}
use Rattle.app_run.specs.Rounds.{all_beginning, all_going, equipped, telling_now, AreNumbered, AllStand, AllTold, HasTold, Rotates, RotatesTimes, told_on}
use Rattle.app_run.specs.Runners.{Progress, Equipped, Services, beginning, running_of, standing_for}
use Rattle.app_run.specs.TableLines.{table_bytes_due, table_line_bytes}
use Rattle.app_run.specs.Turns.{so_far, AreOpened, HasCome, AtBeginning, ByTurn, OtherTurn, OthersAtBus, OthersAtTables, IsUnderWay, Stands, StandsAtBus, StandsAtTables}
use Rattle.app_run.proofs.OthersLaws.{stands-others, stands-others_at_tables}
use Rattle.app_run.proofs.RoundLaws.{length-equipped, moved-stands, same-more, same-none, the_histories}
use Rattle.app_run.proofs.TurnLaws.{both, so}

-- Rotations one after another. --

pub times-none : (before : Services) (first : List Equipped) → AllStand before first → RotatesTimes 0 before first before first
times-none before first stand = record { stand = stand; turns = refl; told = λ script told. told; count = refl; same = same-none before }

rotations-more : (n : ℕ) (limits : Limits) (now : SoFar × List Running) →
    rotations (suc n) limits now ≡ rotated limits (rotations n limits now).0 (rotations n limits now).1
rotations-more zero limits now = refl
rotations-more (suc n) limits now = rotations-more n limits (rotated limits now.0 now.1)

pub times-more : (n : ℕ) (before : Services) (first : List Equipped) (mid : Services) (some : List Equipped) (after : Services) (all : List Equipped) →
    RotatesTimes n before first mid some → Rotates mid some after all → RotatesTimes (n + 1) before first after all
times-more n before first mid some after all t r = record {
  stand = r.stand;
  turns = r.turns
      ∙ ap (λ l. rotated l (so_far mid) (all_going some)) t.same.limits
      ∙ ap (λ (x : SoFar × List Running). rotated before.bus.limits x.0 x.1) t.turns
      ∙ sym (rotations-more n before.bus.limits (so_far before, all_going first))
      ∙ ap (λ k. rotations k before.bus.limits (so_far before, all_going first)) (sym (add-one n));
  told = λ script told. r.told script (t.told script told);
  count = r.count ∙ t.count;
  same = same-more before mid after t.same r.same;
}

-- the applications that have all ended go on no more
pub going-none : (runners : List Progress) (bags : List (Holding LentBytes)) (helds : List HeldViews) →
    All (λ p. p.ended ≡ true) runners → all_going (equipped runners bags helds) ≡ []
going-none [] bags helds ended = refl
going-none (p ∷ others) [] helds ended = refl
going-none (p ∷ others) (bag ∷ bags) [] ended = refl
going-none (p ∷ others) (bag ∷ bags) (held ∷ helds) ended =
    ap (λ (is : Bool). (if is then [] else running_of (record { progress = p; bag = bag; held = held }) ∷ []) ++ all_going (equipped others bags helds)) (All-head (λ (p : Progress). p.ended ≡ true) p others ended)
    ∙ going-none others bags helds (All-tail (λ (p : Progress). p.ended ≡ true) p others ended)

-- a rotation in which nobody goes on changes nothing
rotates-nobody : (services : Services) (all : List Equipped) → AllStand services all → all_going all ≡ [] → Rotates services all services all
rotates-nobody services all stand none = record {
  stand = stand;
  turns = ap (λ (l : List Running). (so_far services, l)) none ∙ ap (λ (l : List Running). rotated services.bus.limits (so_far services) l) (sym none);
  told = λ script told. told;
  count = refl;
  same = same-none services;
}

-- nor do more of them
pub times-nobody : (k n : ℕ) (before : Services) (first : List Equipped) (after : Services) (all : List Equipped) →
    RotatesTimes n before first after all → all_going all ≡ [] → RotatesTimes (n + k) before first after all
times-nobody zero n before first after all t none = subst (λ m. RotatesTimes m before first after all) (omega arith) t
times-nobody (suc k) n before first after all t none =
    subst (λ m. RotatesTimes m before first after all) (omega arith)
    (times-more (n + k) before first after all after all (times-nobody k n before first after all t none) (rotates-nobody after all t.stand none))

-- Budgets. --

-- what a line takes is at least what its call brings
charged-enough : (account : Account) (line : Line) → line_bytes account.sizes line ≤ charge_of account line
unfolding line_bytes charge_of
charged-enough account (Create pipe depth name) = omega arith
charged-enough account (Find pipe name) = omega arith
charged-enough account (Send id size fill inc) = omega arith
charged-enough account (SendRaw bytes inc) = omega arith
charged-enough account (TransmitBuffer buf inc) = omega arith
charged-enough account line = omega arith

-- at the tables too
charged-table_enough : (account : Account) (line : Line) → table_line_bytes line ≤ charge_of account line
unfolding table_line_bytes charge_of
charged-table_enough account (TableRegister handle name size option rules) = omega arith
charged-table_enough account (TableShare handle name) = omega arith
charged-table_enough account (Stage handle offset content) = omega arith
charged-table_enough account (Load handle offset content) = omega arith
charged-table_enough account line = omega arith

calls-in : (account : Account) (lines : List Line) → (fold with_line account lines).calls ≡ account.calls + length lines
calls-in account [] = omega arith
calls-in account (line ∷ lines) = omega (arith, calls-in (with_line account line) lines)

waits-in : (account : Account) (lines : List Line) → (fold with_line account lines).waits ≡ account.waits + sum_by waits_of lines
waits-in account [] = omega arith
waits-in account (line ∷ lines) = omega (arith, waits-in (with_line account line) lines, sum_by-cons waits_of line lines)

bytes-in : (account : Account) (lines : List Line) → account.bytes + bytes_due account.sizes lines ≤ (fold with_line account lines).bytes
bytes-in account [] = omega arith
bytes-in account (line ∷ lines) = omega (arith, bytes-in (with_line account line) lines, charged-enough account line)

table_bytes-in : (account : Account) (lines : List Line) → account.bytes + table_bytes_due lines ≤ (fold with_line account lines).bytes
table_bytes-in account [] = omega arith
table_bytes-in account (line ∷ lines) = omega (arith, table_bytes-in (with_line account line) lines, charged-table_enough account line, sum_by-cons table_line_bytes line lines)

buffers-in : (account : Account) (lines : List Line) → (fold with_line account lines).buffers ≡ account.buffers + sum_by buffers_of lines
buffers-in account [] = omega arith
buffers-in account (line ∷ lines) = omega (arith, buffers-in (with_line account line) lines, sum_by-cons buffers_of line lines)

pub budget-entries : (lines : List Line) → (budget_of lines).entries ≡ entries_due lines
unfolding budget_of account_of
budget-entries lines = omega (arith, calls-in no_calls lines, waits-in no_calls lines)

pub budget-bytes : (lines : List Line) → bytes_due (replicate 64 0) lines ≤ (budget_of lines).bytes
unfolding budget_of account_of
budget-bytes lines = omega (arith, bytes-in no_calls lines)

table_budget-bytes : (lines : List Line) → table_bytes_due lines ≤ (budget_of lines).bytes
unfolding budget_of account_of
table_budget-bytes lines = omega (arith, table_bytes-in no_calls lines)

budget-asked : (lines : List Line) → (budget_of lines).buffers ≡ sum_by buffers_of lines
unfolding budget_of account_of
budget-asked lines = omega (arith, buffers-in no_calls lines)

-- Both services as they open. --

abbrev pub opened_both : ScriptText → Services
opened_both script = both (opened script) (opened_tables script)

pub apps-opened : (script : ScriptText) → apps_of (opened script) ≡ length script.apps
apps-opened script = length-map script.apps (λ (a : Application). budget_of a.lines)

active-at : (n i : ℕ) → i < n → slice_index_or (replicate n Active) i Ended ≡ Active
active-at zero i below = absurd (omega (arith, below))
active-at (suc n) zero below = refl
active-at (suc n) (suc i) below = active-at n i (omega (arith, below))

pub active-opening : (limits : Limits) (n k : ℕ) → 1 ≤ k → k ≤ n → standing_of (opening limits n) k ≡ Active
active-opening limits n k first last =
    ap (λ b. cond {A = Standing} b Ended (slice_index_or (replicate n Active) (k - 1) Ended)) (ne_eqb k 0 (λ is. omega (arith, is, first)))
    ∙ active-at n (k - 1) (omega (arith, first, last))

-- nobody has ended
none-at : (n i : ℕ) → i < n → slice_index_or (replicate n false) i true ≡ false
none-at zero i below = absurd (omega (arith, below))
none-at (suc n) zero below = refl
none-at (suc n) (suc i) below = none-at n i (omega (arith, below))

none-opening : (limits : Limits) (n k : ℕ) → 1 ≤ k → k ≤ n → has_ended (no_tables limits n) k ≡ false
none-opening limits n k first last =
    ap (λ b. cond {A = Bool} b true (slice_index_or (replicate n false) (k - 1) true)) (ne_eqb k 0 (λ is. omega (arith, is, first)))
    ∙ none-at n (k - 1) (omega (arith, first, last))

pub map-at : {X Y : Type 0} (f : X → Y) (xs : List X) (i : ℕ) (d : X) (e : Y) → i < length xs → slice_index_or (map f xs) i e ≡ f (slice_index_or xs i d)
map-at f [] i d e within = absurd (omega (arith, within))
map-at f (x ∷ xs) zero d e within = refl
map-at f (x ∷ xs) (suc i) d e within = map-at f xs i d e (omega (arith, within))

allowance-opened : (script : ScriptText) (k : ℕ) → 1 ≤ k → k ≤ length script.apps →
    allowance_of (left_of (opened script).log) k
    ≡ record { entries = (budget_of (app_at script k).lines).entries; bytes = (budget_of (app_at script k).lines).bytes }
allowance-opened script k first last =
    map-at (λ (budget : Budget). record { entries = budget.entries; bytes = budget.bytes }) (budgets_for script) (k - 1)
    (budget_of (app_at script k).lines) (record { entries = 0; bytes = 0 })
    (omega (arith, first, last, length-map script.apps (λ (a : Application). budget_of a.lines)))
    ∙ ap (λ (budget : Budget). record { entries = budget.entries; bytes = budget.bytes })
    (map-at (λ (a : Application). budget_of a.lines) script.apps (k - 1) (record { name = []; lines = [] }) (budget_of (app_at script k).lines) (omega (arith, first, last)))

-- all zeros
zeros : (n i : ℕ) → slice_index (replicate n 0) i ≡ 0
zeros zero i = refl
zeros (suc n) zero = refl
zeros (suc n) (suc i) = zeros n i

-- the bag of an application before the first call
abbrev pub first_bag : ScriptText → ℕ → Holding LentBytes
first_bag script k = empty_bag script.limits.pipes (budget_of (app_at script k).lines).buffers

-- and its bag of tables
abbrev pub first_held : ScriptText → HeldViews
first_held script = record { views = []; room = script.limits.handles }

abbrev pub first_equipped : ScriptText → ℕ → Equipped
first_equipped script k = record { progress = beginning script k; bag = first_bag script k; held = first_held script }

stands-opened_bus : (script : ScriptText) (k : ℕ) → script.limits.msgmax ≤ 65542 → 1 ≤ k → k ≤ length script.apps → StandsAtBus (first_equipped script k) (opened script)
stands-opened_bus script k small first last =
    let allowed = allowance-opened script k first last in
    let lines = (app_at script k).lines in
    record {
      known = omega (arith, last, apps-opened script);
      standing = active-opening script.limits (apps_of (opened script)) k first (omega (arith, last, apps-opened script));
      entries = subst (λ (a : Allowance). entries_due lines + 0 ≤ a.entries) (sym allowed) (omega (arith, budget-entries lines));
      asked = replicate 64 0;
      buffers = record { alike = refl; sizes = λ register. omega arith; numbers = λ register. omega (arith, zeros 64 register); none = refl };
      bytes = subst (λ (a : Allowance). bytes_due (replicate 64 0) lines ≤ a.bytes) (sym allowed) (budget-bytes lines);
      room = omega (arith, budget-asked lines);
      remember = λ pipe. tt;
      small = small;
    }

stands-opened_tables : (script : ScriptText) (k : ℕ) → script.limits.tablemax ≤ 65536 → 1 ≤ k → k ≤ length script.apps → StandsAtTables (first_equipped script k) (opened_tables script)
stands-opened_tables script k small first last =
    let allowed = allowance-opened script k first last in
    let lines = (app_at script k).lines in
    record {
      known = omega (arith, last, apps-opened script);
      ended = none-opening script.limits (table_apps_of (opened_tables script)) k first (omega (arith, last, apps-opened script));
      entries = subst (λ (a : Allowance). entries_due lines + 0 ≤ a.entries) (sym allowed) (omega (arith, budget-entries lines));
      bytes = subst (λ (a : Allowance). table_bytes_due lines ≤ a.bytes) (sym allowed) (table_budget-bytes lines);
      remember = λ handle. tt;
      small = small;
    }

pub stands-opened : (script : ScriptText) (k : ℕ) → script.limits.msgmax ≤ 65542 → script.limits.tablemax ≤ 65536 → 1 ≤ k → k ≤ length script.apps →
    Stands (first_equipped script k) (opened_both script)
stands-opened script k small small_tables first last =
    record { bus = stands-opened_bus script k small first last; tables = stands-opened_tables script k small_tables first last; limits = refl }

-- However the application came so far, its number counts from 1.
come-some : (script : ScriptText) (one : Equipped) (services : Services) → HasCome script one services → 1 ≤ one.progress.running.app
come-some script one services (AtBeginning _ _ opened) = opened.some
come-some script one services (ByTurn old _ before _ come t) = omega (arith, come-some script old before come, t.same_app)
come-some script one services (OtherTurn _ before _ other come another moved tables_moved) = come-some script one before come
come-some script one services (OthersAtBus _ before bus come others) = come-some script one before come
come-some script one services (OthersAtTables _ before tables come others) = come-some script one before come

-- And both services know it as it is.
come-stands : (script : ScriptText) (one : Equipped) (services : Services) → HasCome script one services → Stands one services
come-stands script one services (AtBeginning _ _ opened) =
    let equipped : one ≡ first_equipped script one.progress.running.app = λ i. record { progress = opened.progress i; bag = opened.bag i; held = opened.held i } in
    let both_are : services ≡ opened_both script = λ i. record { bus = opened.bus i; tables = opened.tables i } in
    subst (λ e. Stands e services) (sym equipped)
    (subst (λ s. Stands (first_equipped script one.progress.running.app) s) (sym both_are)
    (stands-opened script one.progress.running.app opened.small opened.small_tables opened.some opened.known))
come-stands script one services (ByTurn old _ before _ come t) = t.stands
come-stands script one services (OtherTurn _ before _ other come another moved tables_moved) =
    moved-stands one before services other (record { moved = moved; tables_moved = tables_moved }) another (come-some script one before come) (come-stands script one before come)
come-stands script one services (OthersAtBus _ before bus come others) =
    let s = come-stands script one before come in
    record {
      bus = stands-others one before.bus bus others (come-some script one before come) s.bus;
      tables = s.tables;
      limits = s.limits ∙ sym (ap (λ (core : Core). core.limits) others.grown);
    }
come-stands script one services (OthersAtTables _ before tables come others) =
    let s = come-stands script one before come in
    record {
      bus = s.bus;
      tables = stands-others_at_tables one before.tables tables others (come-some script one before come) s.tables;
      limits = ap (λ (core : TableCore). core.limits) others.grown ∙ s.limits;
    }

pub way-stands : (one : Equipped) (services : Services) → IsUnderWay one services → Stands one services
way-stands one services way = come-stands way.0 one services way.1

-- an application before its first line has come so far
pub come-opened : (script : ScriptText) (k : ℕ) → script.limits.msgmax ≤ 65542 → script.limits.tablemax ≤ 65536 → 1 ≤ k → k ≤ length script.apps →
    HasCome script (first_equipped script k) (opened_both script)
come-opened script k small small_tables first last =
    AtBeginning (first_equipped script k) (opened_both script)
    (record { bus = refl; tables = refl; some = first; known = last; progress = refl; bag = refl; held = refl; small = small; small_tables = small_tables })

-- before the first line, with so many applications
abbrev telling_first : ScriptText → ℕ → ℕ → Histories → Telling
telling_first script k m entries = record {
  registers = first_registers;
  handles = first_handles;
  written = first_written;
  state = opening script.limits m;
  tables = no_tables script.limits m;
  seen = seen_from script.limits [] (opening script.limits m) k entries.bus;
  table_seen = table_seen_from script.limits (no_tables script.limits m) k entries.tables;
}

pub told-opened : (script : ScriptText) (k : ℕ) → 1 ≤ k → k ≤ length script.apps → HasTold script (opened_both script) (first_equipped script k)
told-opened script k first last = λ entries.
    let lines = (app_at script k).lines in
    let n = apps_of (opened script) in
    let apps : length script.apps ≡ n = sym (apps-opened script) in
    ap (λ m. told k lines (telling_first script k m entries)) apps
    ∙ ap (λ st. told_on st k lines (telling_first script k n entries)) (sym (active-opening script.limits n k first (omega (arith, last, apps-opened script))))

-- the bag of an application with these lines
abbrev bag_for : ScriptText → Application → Holding LentBytes
bag_for script a = empty_bag script.limits.pipes (budget_of a.lines).buffers

take-next : {X Y : Type 0} (f : X → Y) (xs : List X) (i : ℕ) (d : X) → i < length xs → map f (take i xs) ++ f (slice_index_or xs i d) ∷ [] ≡ map f (take (suc i) xs)
take-next f [] i d within = absurd (omega (arith, within))
take-next f (x ∷ xs) zero d within = refl
take-next f (x ∷ xs) (suc i) d within = ap (λ ys. f x ∷ ys) (take-next f xs i d (omega (arith, within)))

-- one bag more
pub bags-next : (script : ScriptText) (i : ℕ) → i < length script.apps →
    map (λ a. empty_bag script.limits.pipes (budget_of a.lines).buffers) (take i script.apps) ++ empty_bag script.limits.pipes (budget_of (app_at script (i + 1)).lines).buffers ∷ []
    ≡ map (λ a. empty_bag script.limits.pipes (budget_of a.lines).buffers) (take (i + 1) script.apps)
bags-next script i within =
    let back : i + 1 - 1 ≡ i = omega arith in
    ap (λ k. map (bag_for script) (take i script.apps) ++ bag_for script (slice_index_or script.apps k (record { name = []; lines = [] })) ∷ []) back
    ∙ take-next (bag_for script) script.apps i (record { name = []; lines = [] }) within
    ∙ ap (λ k. map (bag_for script) (take k script.apps)) (sym (add-one i))

-- and one of tables
pub helds-next : (script : ScriptText) (i : ℕ) → i < length script.apps →
    map (λ a. first_held script) (take i script.apps) ++ first_held script ∷ [] ≡ map (λ a. first_held script) (take (i + 1) script.apps)
helds-next script i within =
    take-next (λ (a : Application). first_held script) script.apps i (record { name = []; lines = [] }) within
    ∙ ap (λ k. map (λ (a : Application). first_held script) (take k script.apps)) (sym (add-one i))

-- these are the script's applications from a number on
abbrev AreFrom : ScriptText → ℕ → List Application → Type 0
AreFrom script a apps = (i : ℕ) → i < length apps → app_at script (a + i) ≡ slice_index_or apps i (record { name = []; lines = [] })

from-next : (script : ScriptText) (a : ℕ) (x : Application) (apps : List Application) → AreFrom script a (x ∷ apps) → AreFrom script (a + 1) apps
from-next script a x apps same = λ i below. ap (λ k. app_at script k) (omega arith) ∙ same (suc i) (omega (arith, below))

from-here : (script : ScriptText) (a : ℕ) (x : Application) (apps : List Application) → AreFrom script a (x ∷ apps) → app_at script a ≡ x
from-here script a x apps same = ap (λ k. app_at script k) (omega arith) ∙ same 0 (omega arith)

abbrev equipped_from : ScriptText → ℕ → List Application → List Equipped
equipped_from script a apps = equipped (map (beginning script) (range_with_len a (length apps))) (map (bag_for script) apps) (map (λ x. first_held script) apps)

-- what holds of each number holds of each application
each-beginning : (P : Equipped → Type 0) (script : ScriptText) (a : ℕ) (apps : List Application) → AreFrom script a apps →
    ((k : ℕ) → a ≤ k → k < a + length apps → P (first_equipped script k)) → All P (equipped_from script a apps)
each-beginning P script a [] same each = All-nil P
each-beginning P script a (x ∷ apps) same each =
    All-cons P (record { progress = beginning script a; bag = bag_for script x; held = first_held script }) (equipped_from script (a + 1) apps)
    (subst (λ y. P (record { progress = beginning script a; bag = bag_for script y; held = first_held script })) (from-here script a x apps same) (each a (omega arith) (omega arith)))
    (each-beginning P script (a + 1) apps (from-next script a x apps same) (λ k from to. each k (omega (arith, from)) (omega (arith, to))))

numbered-beginning : (script : ScriptText) (a : ℕ) (apps : List Application) → AreNumbered a (equipped_from script a apps)
numbered-beginning script a [] = tt
numbered-beginning script a (x ∷ apps) = (refl, numbered-beginning script (a + 1) apps)

-- the applications before the first rotation, each with its bags
abbrev pub all_equipped : ScriptText → List Equipped
all_equipped script = equipped (all_beginning script) (empty_bags script) (empty_held script)

all-from : (script : ScriptText) → AreFrom script 1 script.apps
all-from script = λ i below. ap (λ k. slice_index_or script.apps k (record { name = []; lines = [] })) (omega arith)

pub all-stand : (script : ScriptText) → script.limits.msgmax ≤ 65542 → script.limits.tablemax ≤ 65536 → AllStand (opened_both script) (all_equipped script)
all-stand script small small_tables = record {
  numbered = numbered-beginning script 1 script.apps;
  each = each-beginning (λ p. IsUnderWay p (opened_both script)) script 1 script.apps (all-from script) (λ k from to. (script, come-opened script k small small_tables from (omega (arith, to))));
}

pub all-told : (script : ScriptText) → AllTold script (opened_both script) (all_equipped script)
all-told script = record {
  limits = refl;
  apps = apps-opened script;
  table_apps = apps-opened script;
  each = each-beginning (λ p. HasTold script (opened_both script) p) script 1 script.apps (all-from script) (λ k from to. told-opened script k from (omega (arith, to)));
}

-- the applications before the first rotation, as the definitions have them
starting-from : (script : ScriptText) (a : ℕ) (apps : List Application) → AreFrom script a apps → all_going (equipped_from script a apps) ≡ starting a apps
starting-from script a [] same = refl
starting-from script a (x ∷ apps) same =
    ap (λ (y : Application). record { app = a; lines = y.lines; registers = first_registers; handles = first_handles; written = first_written } ∷ all_going (equipped_from script (a + 1) apps)) (from-here script a x apps same)
    ∙ ap (λ rest. record { app = a; lines = x.lines; registers = first_registers; handles = first_handles; written = first_written } ∷ rest) (starting-from script (a + 1) apps (from-next script a x apps same))

pub all-starting : (script : ScriptText) → (so_far (opened_both script), all_going (all_equipped script)) ≡ before_all script
all-starting script =
    ap (λ rs. (so_far (opened_both script), rs)) (starting-from script 1 script.apps (all-from script))
    ∙ ap (λ n. (so [] (opening script.limits n) [] (no_tables script.limits n), starting 1 script.apps)) (apps-opened script)

-- After the last rotation. --

ended-none : (b : Bool) (running : Running) (rest : List Running) → cond {A = List Running} b [] (running ∷ []) ++ rest ≡ [] → (b ≡ true) × (rest ≡ [])
ended-none true running rest none = (refl, none)
ended-none false running rest none = absurd cc

pub all-ended : (all : List Equipped) → all_going all ≡ [] → All (λ one. one.progress.ended ≡ true) all
all-ended [] none = All-nil (λ (one : Equipped). one.progress.ended ≡ true)
all-ended (p ∷ ps) none =
    let parts = ended-none p.progress.ended (running_of p) (all_going ps) none in
    All-cons (λ (one : Equipped). one.progress.ended ≡ true) p ps parts.0 (all-ended ps parts.1)

-- both histories
abbrev histories_of : Services → Histories
histories_of services = the_histories services.bus.log.entries services.tables.log.entries

told-ended : (script : ScriptText) (services : Services) (p : Equipped) → Stands p services → HasTold script services p → p.progress.ended ≡ true →
    p.progress.receipts ≡ receipts_told script (histories_of services) p.progress.running.app
told-ended script services p stands told ended =
    let place = p.progress.running in
    let its = services.bus.log.entries in
    let theirs = services.tables.log.entries in
    let standing : standing_of (state_of services.bus) place.app ≡ Ended =
    stands.bus.standing ∙ ap (λ b. cond {A = Standing} b Ended (standing_for p.progress.waits_on)) ended in
    sym (append-nil p.progress.receipts)
    ∙ ap (λ st. p.progress.receipts ++ told_on st place.app place.lines (telling_now services.bus.limits (so_far services) (running_of p) (the_histories [] []))) (sym standing)
    ∙ sym (told (the_histories [] []))
    ∙ ap (λ h. receipts_told script (the_histories h (theirs ++ [])) place.app) (append-nil its)
    ∙ ap (λ h. receipts_told script (the_histories its h) place.app) (append-nil theirs)

-- the receipts of an application that are told of it
abbrev IsToldAs : (ℕ → List Receipt) → Equipped → Type 0
IsToldAs f one = one.progress.receipts ≡ f one.progress.running.app

all-receipts : (f : ℕ → List Receipt) (a : ℕ) (all : List Equipped) → AreNumbered a all → All (IsToldAs f) all →
    map (λ (one : Equipped). one.progress.receipts) all ≡ map f (range_with_len a (length all))
all-receipts f a [] numbered each = refl
all-receipts f a (p ∷ ps) numbered each =
    ap (λ r. r ∷ map (λ (one : Equipped). one.progress.receipts) ps) (All-head (IsToldAs f) p ps each ∙ ap f numbered.0)
    ∙ ap (λ rest. f a ∷ rest) (all-receipts f (a + 1) ps numbered.1 (All-tail (IsToldAs f) p ps each))

each-ended : (script : ScriptText) (services : Services) (all : List Equipped) → All (λ p. IsUnderWay p services) all → All (λ p. HasTold script services p) all →
    All (λ one. one.progress.ended ≡ true) all → All (IsToldAs (receipts_told script (histories_of services))) all
each-ended script services [] ways told ended = All-nil (IsToldAs (receipts_told script (histories_of services)))
each-ended script services (p ∷ ps) ways told ended =
    All-cons (IsToldAs (receipts_told script (histories_of services))) p ps
    (told-ended script services p (way-stands p services (All-head (λ p. IsUnderWay p services) p ps ways)) (All-head (λ p. HasTold script services p) p ps told)
    (All-head (λ (one : Equipped). one.progress.ended ≡ true) p ps ended))
    (each-ended script services ps (All-tail (λ p. IsUnderWay p services) p ps ways) (All-tail (λ p. HasTold script services p) p ps told)
    (All-tail (λ (one : Equipped). one.progress.ended ≡ true) p ps ended))

-- Applications without their bags. --

ended-bare : (all : List Progress) (bags : List (Holding LentBytes)) (helds : List HeldViews) → length bags ≡ length all → length helds ≡ length all →
    All (λ one. one.progress.ended ≡ true) (equipped all bags helds) → All (λ p. p.ended ≡ true) all
ended-bare [] bags helds as_many as_many_held each = All-nil (λ (p : Progress). p.ended ≡ true)
ended-bare (p ∷ ps) [] helds as_many as_many_held each = absurd (omega (arith, as_many))
ended-bare (p ∷ ps) (bag ∷ bags) [] as_many as_many_held each = absurd (omega (arith, as_many_held))
ended-bare (p ∷ ps) (bag ∷ bags) (held ∷ helds) as_many as_many_held each =
    let one : Equipped = record { progress = p; bag = bag; held = held } in
    All-cons (λ (p : Progress). p.ended ≡ true) p ps (All-head (λ (one : Equipped). one.progress.ended ≡ true) one (equipped ps bags helds) each)
    (ended-bare ps bags helds (omega (arith, as_many)) (omega (arith, as_many_held)) (All-tail (λ (one : Equipped). one.progress.ended ≡ true) one (equipped ps bags helds) each))

receipts-bare : (all : List Progress) (bags : List (Holding LentBytes)) (helds : List HeldViews) → length bags ≡ length all → length helds ≡ length all →
    map (λ (p : Progress). p.receipts) all ≡ map (λ (one : Equipped). one.progress.receipts) (equipped all bags helds)
receipts-bare [] bags helds as_many as_many_held = refl
receipts-bare (p ∷ ps) [] helds as_many as_many_held = absurd (omega (arith, as_many))
receipts-bare (p ∷ ps) (bag ∷ bags) [] as_many as_many_held = absurd (omega (arith, as_many_held))
receipts-bare (p ∷ ps) (bag ∷ bags) (held ∷ helds) as_many as_many_held =
    ap (λ rest. p.receipts ∷ rest) (receipts-bare ps bags helds (omega (arith, as_many)) (omega (arith, as_many_held)))

-- what a whole run leaves
pub record Finishes (script : ScriptText) (services : Services) (all : List Progress) : Type 0 where
  pub ended : All (λ p. p.ended ≡ true) all
  pub history : services.bus.log.entries ≡ (rotation script).bus
  pub table_history : services.tables.log.entries ≡ (rotation script).tables
  pub limits : services.bus.limits ≡ script.limits
  pub table_limits : services.tables.limits ≡ script.limits
  pub apps : apps_of services.bus ≡ length script.apps
  pub table_apps : table_apps_of services.tables ≡ length script.apps
  pub receipts : map (λ (p : Progress). p.receipts) all ≡ map (receipts_told script (rotation script)) (range_with_len 1 (length script.apps))

length-beginning : (script : ScriptText) → length (all_beginning script) ≡ length script.apps
length-beginning script = length-map (range_with_len 1 (length script.apps)) (beginning script) ∙ length-range_with_len 1 (length script.apps)

length-first : (script : ScriptText) → length (all_equipped script) ≡ length script.apps
length-first script =
    length-equipped (all_beginning script) (empty_bags script) (empty_held script) (length-map script.apps (bag_for script) ∙ sym (length-beginning script))
    (length-map script.apps (λ (a : Application). first_held script) ∙ sym (length-beginning script))
    ∙ length-beginning script

pub finishes : (script : ScriptText) (n : ℕ) (services : Services) (all : List Progress) (bags : List (Holding LentBytes)) (helds : List HeldViews) → n ≡ enough script →
    length bags ≡ length all → length helds ≡ length all →
    RotatesTimes n (opened_both script) (all_equipped script) services (equipped all bags helds) → Finishes script services all
finishes script n services all bags helds is as_many as_many_held t =
    let whole = equipped all bags helds in
    let turns : (so_far services, all_going whole) ≡ rotations (enough script) script.limits (before_all script) =
    t.turns ∙ ap (λ k. rotations k script.limits (so_far (opened_both script), all_going (all_equipped script))) is
    ∙ ap (λ x. rotations (enough script) script.limits x) (all-starting script) in
    let ended = all-ended whole (ap (λ (x : SoFar × List Running). x.1) turns ∙ rotation-ends script) in
    let histories : histories_of services ≡ rotation script = ap (λ (x : SoFar × List Running). the_histories x.0.history x.0.table_history) turns in
    let told = t.told script (all-told script) in
    let count : length whole ≡ length script.apps = t.count ∙ length-first script in
    record {
      ended = ended-bare all bags helds as_many as_many_held ended;
      history = ap (λ (h : Histories). h.bus) histories;
      table_history = ap (λ (h : Histories). h.tables) histories;
      limits = told.limits;
      table_limits = t.same.table_limits;
      apps = told.apps;
      table_apps = told.table_apps;
      receipts = receipts-bare all bags helds as_many as_many_held
          ∙ all-receipts (receipts_told script (histories_of services)) 1 whole t.stand.numbered (each-ended script services whole t.stand.each told.each ended)
          ∙ ap (λ h. map (receipts_told script h) (range_with_len 1 (length whole))) histories
          ∙ ap (λ m. map (receipts_told script (rotation script)) (range_with_len 1 m)) count;
    }

-- The budgets of a script in range. --

sum-map : {X Y : Type 0} (f : Y → ℕ) (g : X → Y) (xs : List X) → sum_by f (map g xs) ≡ sum_by (λ x. f (g x)) xs
sum-map f g [] = refl
sum-map f g (x ∷ xs) =
    sum_by-cons f (g x) (map g xs) ∙ ap (λ n. f (g x) + n) (sum-map f g xs) ∙ sym (sum_by-cons (λ y. f (g y)) x xs)

one-wait : (line : Line) → waits_of line ≤ 1
unfolding waits_of
one-wait (Pend pipe) = omega arith
one-wait line = omega arith

one-buffer : (line : Line) → buffers_of line ≤ 1
unfolding buffers_of
one-buffer (Allocate buf size) = omega arith
one-buffer line = omega arith

few-waits : (lines : List Line) → sum_by waits_of lines ≤ length lines
few-waits [] = omega arith
few-waits (line ∷ lines) = omega (arith, sum_by-cons waits_of line lines, one-wait line, few-waits lines)

few-asked : (lines : List Line) → sum_by buffers_of lines ≤ length lines
few-asked [] = omega arith
few-asked (line ∷ lines) = omega (arith, sum_by-cons buffers_of line lines, one-buffer line, few-asked lines)

budget-buffers : (lines : List Line) → (budget_of lines).buffers ≤ length lines
budget-buffers lines = omega (arith, budget-asked lines, few-asked lines)

few-entries : (apps : List Application) →
    sum_by (λ a. (budget_of a.lines).entries) apps ≤ 2 * sum_by (λ a. length a.lines) apps + length apps
few-entries [] = omega arith
few-entries (a ∷ apps) =
    omega (
      arith,
      sum_by-cons (λ (a : Application). (budget_of a.lines).entries) a apps,
      sum_by-cons (λ (a : Application). length a.lines) a apps,
      few-entries apps,
      few-waits a.lines,
      budget-entries a.lines,
    )

few-buffers : (apps : List Application) → sum_by (λ a. (budget_of a.lines).buffers) apps ≤ sum_by (λ a. length a.lines) apps
few-buffers [] = omega arith
few-buffers (a ∷ apps) =
    omega (
      arith,
      sum_by-cons (λ (a : Application). (budget_of a.lines).buffers) a apps,
      sum_by-cons (λ (a : Application). length a.lines) a apps,
      few-buffers apps,
      budget-buffers a.lines,
    )

pub are-budgets : (script : ScriptText) → IsInRange script → 1 ≤ length script.apps → length script.apps ≤ 16 → AreBudgets (budgets_for script)
are-budgets script range some few =
    let budget = λ (a : Application). budget_of a.lines in
    record {
      some = omega (arith, some, length-map script.apps budget);
      few = omega (arith, few, length-map script.apps budget);
      entries = omega (arith, sum-map (λ (b : Budget). b.entries) budget script.apps, few-entries script.apps, range.calls, few);
      bytes = omega (arith, sum-map (λ (b : Budget). b.bytes) budget script.apps, range.bytes);
      buffers = omega (arith, sum-map (λ (b : Budget). b.buffers) budget script.apps, few-buffers script.apps, range.calls);
    }

abbrev core_with : Limits → List Budget → Core
core_with limits budgets = record { limits = limits; log = record { budgets = budgets; entries = [] }; notes = [] }

-- the bus that was opened with these limits and budgets
pub opened-is : (script : ScriptText) (bus : Core) (limits : Limits) (budgets given : List Budget) →
    bus ≡ record { limits = limits; log = record { budgets = given; entries = [] }; notes = [] } → limits ≡ script.limits → given ≡ budgets → budgets ≡ budgets_for script →
    bus ≡ opened script
opened-is script bus limits budgets given is same deref found =
    is
    ∙ ap (λ l. core_with l given) same
    ∙ ap (λ bs. core_with script.limits bs) (deref ∙ found)

abbrev table_core_with : Limits → List Budget → TableCore
table_core_with limits budgets = record { limits = limits; log = record { budgets = budgets; entries = [] }; notes = [] }

-- and the tables
pub tables_opened-is : (script : ScriptText) (tables : TableCore) (limits : Limits) (budgets given : List Budget) →
    tables ≡ record { limits = limits; log = record { budgets = given; entries = [] }; notes = [] } → limits ≡ script.limits → given ≡ budgets → budgets ≡ budgets_for script →
    tables ≡ opened_tables script
tables_opened-is script tables limits budgets given is same deref found =
    is
    ∙ ap (λ l. table_core_with l given) same
    ∙ ap (λ bs. table_core_with script.limits bs) (deref ∙ found)

-- A run that was begun so. --

pub record IsBegun (script : ScriptText) (services : Services) (first : List Progress) (bags : List (Holding LentBytes)) (helds : List HeldViews) : Type 0 where
  pub bus : services.bus ≡ opened script
  pub tables : services.tables ≡ opened_tables script
  pub runners : first ≡ all_beginning script
  pub its_bags : bags ≡ empty_bags script
  pub its_helds : helds ≡ empty_held script

-- what holds of one that begins holds of it
pub from-begun : (P : Services → List Progress → List (Holding LentBytes) → List HeldViews → Type 0) (script : ScriptText) (bus : Core) (tables : TableCore) (first : List Progress)
    (bags : List (Holding LentBytes)) (helds : List HeldViews) → IsBegun script (both bus tables) first bags helds →
    P (opened_both script) (all_beginning script) (empty_bags script) (empty_held script) → P (both bus tables) first bags helds
from-begun P script bus tables first bags helds begun holds =
    subst (λ b. P (both b tables) first bags helds) (sym begun.bus)
    (subst (λ t. P (both (opened script) t) first bags helds) (sym begun.tables)
    (subst (λ f. P (opened_both script) f bags helds) (sym begun.runners)
    (subst (λ b. P (opened_both script) (all_beginning script) b helds) (sym begun.its_bags)
    (subst (λ h. P (opened_both script) (all_beginning script) (empty_bags script) h) (sym begun.its_helds) holds))))

pub finishes-from : (script : ScriptText) (n : ℕ) (bus : Core) (tables : TableCore) (services : Services) (first all : List Progress) (before after : List (Holding LentBytes))
    (before_held after_held : List HeldViews) → IsBegun script (both bus tables) first before before_held → n ≡ enough script → length after ≡ length all → length after_held ≡ length all →
    RotatesTimes n (both bus tables) (equipped first before before_held) services (equipped all after after_held) → Finishes script services all
finishes-from script n bus tables services first all before after before_held after_held begun times as_many as_many_held t =
    from-begun (λ s f b h. RotatesTimes n s (equipped f b h) services (equipped all after after_held) → Finishes script services all) script bus tables first before before_held begun
    (finishes script n services all after after_held times as_many as_many_held) t

pub stands-from : (script : ScriptText) (bus : Core) (tables : TableCore) (first : List Progress) (bags : List (Holding LentBytes)) (helds : List HeldViews) →
    script.limits.msgmax ≤ 65542 → script.limits.tablemax ≤ 65536 → IsBegun script (both bus tables) first bags helds → AllStand (both bus tables) (equipped first bags helds)
stands-from script bus tables first bags helds small small_tables begun =
    from-begun (λ s f b h. AllStand s (equipped f b h)) script bus tables first bags helds begun (all-stand script small small_tables)

-- as many bags as applications
pub as-many-from : (script : ScriptText) (first : List Progress) (bags : List (Holding LentBytes)) → first ≡ all_beginning script → bags ≡ empty_bags script → length bags ≡ length first
as-many-from script first bags begun empty = ap length empty ∙ length-map script.apps (bag_for script) ∙ sym (length-beginning script) ∙ sym (ap length begun)

pub as-many_held-from : (script : ScriptText) (first : List Progress) (helds : List HeldViews) → first ≡ all_beginning script → helds ≡ empty_held script → length helds ≡ length first
as-many_held-from script first helds begun empty =
    ap length empty ∙ length-map script.apps (λ (a : Application). first_held script) ∙ sym (length-beginning script) ∙ sym (ap length begun)
