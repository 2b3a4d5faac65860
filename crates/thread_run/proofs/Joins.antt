-- Ports that were joined, and services that were closed behind them.
use Rattle.std.proofs.Common.{◌≡◌, inl, inr, ℕ, ◌+◌, ◌<◌, ◌≤◌, All, Contains, List, [], ◌∷◌, ◌++◌, length, map, refl, ap, sym, ◌∙◌, subst, arith}
use Rattle.std.specs.List.{range_with_len}
use Rattle.std.proofs.lemmas.List.{length-map, length-replicate, map-append}
use Rattle.std.proofs.lemmas.List.Elements.{All-nil, All-head, All-tail, All-weaker, All-push, All-contains_itself, Contains-push, Contains-append_left, Contains-append_right}
use mathlib.Core.Logic.{dite}
use native.Mathlib.Decide.{ℕ_discrete}
use Rattle.atomic_table.specs.Seated.{TableId}
use Rattle.fsw_base.proofs.Prefix.{prefix_self, prefix_trans}
use Rattle.bus_words.specs.declared.history.Entry.{Entry}
use Rattle.bus_words.specs.Bus.{opening}
use Rattle.bus_words.specs.Machine.{IsLegal}
use Rattle.sb_calls.specs.Core.{Core, IsLegalCore, apps_of}
use Rattle.tbl_words.specs.declared.history.Entry.{Entry as TableEntry}
use Rattle.tbl_words.specs.Machine.{IsLegal as IsLegalAtTables}
use Rattle.tbl_words.specs.Tables.{opening as no_tables}
use Rattle.tbl_load.specs.Core.{Core as TableCore, IsLegalCore as AreLegalTables, apps_of as table_apps_of}
use Rattle.bus_service.specs.Ports.{MainView, Begins, KeepsLongerOf}
use Rattle.tbl_service.specs.Ports.{MainView as TablesMainView, Begins as BeginsAtTables, KeepsLongerOf as KeepsLongerAtTables}
use Rattle.app_script.specs.Script.{Application, ScriptText, app_at}
use Rattle.script_runs.specs.Histories.{Histories}
use Rattle.script_runs.specs.Merges.{Merges}
use Rattle.script_runs.specs.Runs.{IsRunOf}
use Rattle.script_runs.specs.TableTrace.{TableTrace, first_handles, own_table_entries}
use Rattle.script_runs.specs.Told.{receipts_told}
use Rattle.script_runs.specs.Trace.{Trace, first_registers, own_entries}
use Rattle.script_runs.specs.Written.{first_written}
use Rattle.script_runs.proofs.ScriptHistories.{legal-known}
use Rattle.script_runs.proofs.TableHistories.{legal-known as table_legal-known}
use Rattle.app_run.specs.Runners.{histories_of}
use Rattle.script_settings.specs.Accounts.{budget_of}
use Rattle.thread_run.specs.declared.works.Done.{Done}
use Rattle.thread_run.specs.Mains.{numbers, IsOpen, AreOpen, IsJoined, AreJoined, ended_at_bus, ended_at_tables}
use Rattle.thread_run.specs.Works.{IsDone, Numbered}
use Rattle.thread_run.proofs.Numbers.{in-numbers}

-- Each application, by its number. --

module _ {E : Type 0} (own : ℕ → List E → List E) (P : ℕ → Done → Type 0) (number : Done → ℕ) (entries : Done → List E)
    (is : (app : ℕ) (d : Done) → P app d → number d ≡ app) where
  abbrev pub ended_of : Done → ℕ × List E
  ended_of d = (number d, entries d)

  abbrev pub number_in : ℕ × List E → ℕ
  number_in e = e.0

  pub named : (first app : ℕ) (ds : List Done) → Numbered P first ds → first ≤ app → app < first + length ds → Contains (map number_in (map ended_of ds)) app
  named first app [] all low high = absurd (omega arith)
  named first app (d ∷ ds) all low high =
      dite (ℕ_discrete app first)
      (λ here. Contains-append_left (number d ∷ []) (map number_in (map ended_of ds)) app (subst (λ n. Contains (n ∷ []) app) (sym (is first d all.0 ∙ sym here)) (Contains-push [] app)))
      (λ later. Contains-append_right (number d ∷ []) (map number_in (map ended_of ds)) app (named (first + 1) app ds all.1 (omega (arith, low, later)) (omega (arith, high))))

  -- all whose ports were made were joined
  pub all-named : (n : ℕ) (apps : List ℕ) (ds : List Done) → apps ≡ numbers n → length ds ≡ n → Numbered P 1 ds → All (Contains (map number_in (map ended_of ds))) apps
  all-named n apps ds made count all =
      subst (λ l. All (Contains (map number_in (map ended_of ds))) l) (sym made)
      (All-weaker (Contains (numbers n)) (Contains (map number_in (map ended_of ds)))
      (λ app there. let r = in-numbers n app there in let p = r.0 in let q = r.1 in named 1 app ds all p (omega (arith, q, count))) (numbers n) (All-contains_itself (numbers n)))

  module _ (Traced : ℕ → List E → Type 0) (traced : (app : ℕ) (d : Done) → P app d → Traced app (entries d)) where
    -- the closed history has of each application the entries of its lines
    pub each-at : (history : List E) (first app : ℕ) (ds : List Done) → Numbered P first ds → All (λ (e : ℕ × List E). own e.0 history ≡ e.1) (map ended_of ds) →
        first ≤ app → app < first + length ds → Traced app (own app history)
    each-at history first app [] all had low high = absurd (omega arith)
    each-at history first app (d ∷ ds) all had low high =
        dite (ℕ_discrete app first)
        (λ here.
        let it : own (number d) history ≡ entries d = All-head (λ (e : ℕ × List E). own e.0 history ≡ e.1) (ended_of d) (map ended_of ds) had in
        let is-app : number d ≡ app = is first d all.0 ∙ sym here in
        subst (Traced app) (sym it ∙ ap (λ n. own n history) is-app) (subst (λ n. Traced n (entries d)) (sym here) (traced first d all.0)))
        (λ later. each-at history (first + 1) app ds all.1 (All-tail (λ (e : ℕ × List E). own e.0 history ≡ e.1) (ended_of d) (map ended_of ds) had)
        (omega (arith, low, later)) (omega (arith, high)))

-- Joins. --

pub begins-trans : (one two three : Core) → Begins one two → Begins two three → Begins one three
begins-trans one two three first then = record {
  entries = prefix_trans one.log.entries two.log.entries three.log.entries first.entries then.entries;
  notes = prefix_trans one.notes two.notes three.notes first.notes then.notes;
}

-- both begin the longer one, whose limits and budgets are the first one's
pub begins-longer : (one other kept : Core) → KeepsLongerOf one other kept → Begins one kept × Begins other kept
begins-longer one other kept (inl longer) =
    subst (λ core. Begins one core × Begins other core) (sym longer.1)
    (record { entries = longer.0.entries; notes = longer.0.notes }, record { entries = prefix_self other.log.entries; notes = prefix_self other.notes })
begins-longer one other kept (inr longer) =
    subst (λ core. Begins one core × Begins other core) (sym longer.1)
    (record { entries = prefix_self one.log.entries; notes = prefix_self one.notes }, longer.0)

pub same-longer : (one other kept : Core) → KeepsLongerOf one other kept → (kept.limits ≡ one.limits) × (kept.log.budgets ≡ one.log.budgets)
same-longer one other kept (inl longer) = (ap (λ (core : Core). core.limits) longer.1, ap (λ (core : Core). core.log.budgets) longer.1)
same-longer one other kept (inr longer) = (ap (λ (core : Core). core.limits) longer.1, ap (λ (core : Core). core.log.budgets) longer.1)

-- one more is joined
pub joined-one : (script : ScriptText) (lock : TableId) (ds : List Done) (d : Done) (main now : MainView) → IsJoined script lock ds main →
    now.lock ≡ main.lock → KeepsLongerOf main.seen d.port.seen now.seen → now.apps ≡ main.apps → now.ended ≡ main.ended ++ ended_at_bus d ∷ [] → IsJoined script lock (ds ++ d ∷ []) now
joined-one script lock ds d main now j same keeps apps ended =
    let longer = begins-longer main.seen d.port.seen now.seen keeps in
    let kept = same-longer main.seen d.port.seen now.seen keeps in
    record {
      lock_is = same ∙ j.lock_is;
      limits = kept.0 ∙ j.limits;
      budgets = kept.1 ∙ j.budgets;
      made = apps ∙ j.made;
      joined = ended ∙ ap (λ l. l ++ ended_at_bus d ∷ []) j.joined ∙ sym (map-append ended_at_bus ds (d ∷ []));
      begun = All-push (λ (x : Done). Begins x.port.seen now.seen) ds d
          (All-weaker (λ (x : Done). Begins x.port.seen main.seen) (λ (x : Done). Begins x.port.seen now.seen)
          (λ x before. begins-trans x.port.seen main.seen now.seen before longer.0) ds j.begun) longer.1;
    }

pub begins-trans_at_tables : (one two three : TableCore) → BeginsAtTables one two → BeginsAtTables two three → BeginsAtTables one three
begins-trans_at_tables one two three first then = record {
  entries = prefix_trans one.log.entries two.log.entries three.log.entries first.entries then.entries;
  notes = prefix_trans one.notes two.notes three.notes first.notes then.notes;
}

-- both begin the longer one, whose limits and budgets are the first one's
pub begins-longer_at_tables : (one other kept : TableCore) → KeepsLongerAtTables one other kept → BeginsAtTables one kept × BeginsAtTables other kept
begins-longer_at_tables one other kept (inl longer) =
    subst (λ core. BeginsAtTables one core × BeginsAtTables other core) (sym longer.1)
    (record { entries = longer.0.entries; notes = longer.0.notes }, record { entries = prefix_self other.log.entries; notes = prefix_self other.notes })
begins-longer_at_tables one other kept (inr longer) =
    subst (λ core. BeginsAtTables one core × BeginsAtTables other core) (sym longer.1)
    (record { entries = prefix_self one.log.entries; notes = prefix_self one.notes }, longer.0)

pub same-longer_at_tables : (one other kept : TableCore) → KeepsLongerAtTables one other kept → (kept.limits ≡ one.limits) × (kept.log.budgets ≡ one.log.budgets)
same-longer_at_tables one other kept (inl longer) = (ap (λ (core : TableCore). core.limits) longer.1, ap (λ (core : TableCore). core.log.budgets) longer.1)
same-longer_at_tables one other kept (inr longer) = (ap (λ (core : TableCore). core.limits) longer.1, ap (λ (core : TableCore). core.log.budgets) longer.1)

-- one more is joined
pub joined-one_at_tables : (script : ScriptText) (lock : TableId) (ds : List Done) (d : Done) (main now : TablesMainView) → AreJoined script lock ds main →
    now.lock ≡ main.lock → KeepsLongerAtTables main.seen d.tables_port.seen now.seen → now.apps ≡ main.apps → now.ended ≡ main.ended ++ ended_at_tables d ∷ [] → AreJoined script lock (ds ++ d ∷ []) now
joined-one_at_tables script lock ds d main now j same keeps apps ended =
    let longer = begins-longer_at_tables main.seen d.tables_port.seen now.seen keeps in
    let kept = same-longer_at_tables main.seen d.tables_port.seen now.seen keeps in
    record {
      lock_is = same ∙ j.lock_is;
      limits = kept.0 ∙ j.limits;
      budgets = kept.1 ∙ j.budgets;
      made = apps ∙ j.made;
      joined = ended ∙ ap (λ l. l ++ ended_at_tables d ∷ []) j.joined ∙ sym (map-append ended_at_tables ds (d ∷ []));
      begun = All-push (λ (x : Done). BeginsAtTables x.tables_port.seen now.seen) ds d
          (All-weaker (λ (x : Done). BeginsAtTables x.tables_port.seen main.seen) (λ (x : Done). BeginsAtTables x.tables_port.seen now.seen)
          (λ x before. begins-trans_at_tables x.tables_port.seen main.seen now.seen before longer.0) ds j.begun) longer.1;
    }

-- if ports of all were made, none is joined
pub open-joined : (script : ScriptText) (lock : TableId) (main : MainView) → IsOpen script lock (length script.apps) main → IsJoined script lock [] main
open-joined script lock main o = record {
  lock_is = o.lock_is;
  limits = ap (λ (core : Core). core.limits) o.before;
  budgets = ap (λ (core : Core). core.log.budgets) o.before;
  made = o.made;
  joined = o.none;
  begun = All-nil (λ (d : Done). Begins d.port.seen main.seen);
}

pub open-joined_at_tables : (script : ScriptText) (lock : TableId) (main : TablesMainView) → AreOpen script lock (length script.apps) main → AreJoined script lock [] main
open-joined_at_tables script lock main o = record {
  lock_is = o.lock_is;
  limits = ap (λ (core : TableCore). core.limits) o.before;
  budgets = ap (λ (core : TableCore). core.log.budgets) o.before;
  made = o.made;
  joined = o.none;
  begun = All-nil (λ (d : Done). BeginsAtTables d.tables_port.seen main.seen);
}

-- Closes. --

module _ (script : ScriptText) (bus tables : TableId) (ds : List Done) (all : Numbered (IsDone script bus tables) 1 ds) where
  pub bus-joined : (count : length ds ≡ length script.apps) (main : MainView) → IsJoined script bus ds main → All (Contains (map (λ (e : ℕ × List Entry). e.0) main.ended)) main.apps
  bus-joined count main j =
      subst (λ l. All (Contains (map (λ (e : ℕ × List Entry). e.0) l)) main.apps) (sym j.joined)
      (all-named own_entries (IsDone script bus tables) (λ d. d.port.app) (λ d. d.port.mine) (λ app d p. p.bus_app) (length script.apps) main.apps ds j.made count all)

  pub tables-joined : (count : length ds ≡ length script.apps) (main : TablesMainView) → AreJoined script tables ds main → All (Contains (map (λ (e : ℕ × List TableEntry). e.0) main.ended)) main.apps
  tables-joined count main j =
      subst (λ l. All (Contains (map (λ (e : ℕ × List TableEntry). e.0) l)) main.apps) (sym j.joined)
      (all-named own_table_entries (IsDone script bus tables) (λ d. d.tables_port.app) (λ d. d.tables_port.mine) (λ app d p. p.tables_app) (length script.apps) main.apps ds j.made count all)

  -- both services, closed
  module _ (main : MainView) (tables_main : TablesMainView) (j : IsJoined script bus ds main) (k : AreJoined script tables ds tables_main) (core : Core) (table_core : TableCore)
      (limits : core.limits ≡ main.seen.limits) (budgets : core.log.budgets ≡ main.seen.log.budgets) (legal : IsLegalCore core) (extends : Begins main.seen core)
      (ended : All (λ (e : ℕ × List Entry). own_entries e.0 core.log.entries ≡ e.1) main.ended)
      (table_limits : table_core.limits ≡ tables_main.seen.limits) (table_budgets : table_core.log.budgets ≡ tables_main.seen.log.budgets) (legal_tables : AreLegalTables table_core)
      (table_extends : BeginsAtTables tables_main.seen table_core)
      (table_ended : All (λ (e : ℕ × List TableEntry). own_table_entries e.0 table_core.log.entries ≡ e.1) tables_main.ended) where
    pub closed-limits : core.limits ≡ script.limits
    closed-limits = limits ∙ j.limits

    pub closed-table_limits : table_core.limits ≡ script.limits
    closed-table_limits = table_limits ∙ k.limits

    pub closed-apps : apps_of core ≡ length script.apps
    closed-apps = ap length (budgets ∙ j.budgets) ∙ length-map script.apps (λ (a : Application). budget_of a.lines)

    pub closed-table_apps : table_apps_of table_core ≡ length script.apps
    closed-table_apps = ap length (table_budgets ∙ k.budgets) ∙ length-map script.apps (λ (a : Application). budget_of a.lines)

    pub closed-legal : IsLegal script.limits (length script.apps) core.log.entries
    closed-legal = subst (λ l. IsLegal l (length script.apps) core.log.entries) closed-limits (subst (λ n. IsLegal core.limits n core.log.entries) closed-apps legal)

    pub closed-legal_tables : IsLegalAtTables script.limits (length script.apps) table_core.log.entries
    closed-legal_tables =
        subst (λ l. IsLegalAtTables l (length script.apps) table_core.log.entries) closed-table_limits
        (subst (λ n. IsLegalAtTables table_core.limits n table_core.log.entries) closed-table_apps legal_tables)

    pub closed-merges : length ds ≡ length script.apps → Merges script (histories_of core table_core)
    closed-merges count = record {
      each = λ app low high.
          each-at own_entries (IsDone script bus tables) (λ d. d.port.app) (λ d. d.port.mine) (λ n d p. p.bus_app)
          (λ n es. Trace first_registers first_written (app_at script n).lines es) (λ n d p. p.trace) core.log.entries 1 app ds all
          (subst (λ l. All (λ (e : ℕ × List Entry). own_entries e.0 core.log.entries ≡ e.1) l) j.joined ended) low (omega (arith, high, count));
      nobody_else =
          legal-known script.limits (length script.apps) [] (opening script.limits (length script.apps)) core.log.entries (length-replicate (length script.apps) _) closed-legal;
      each_at_tables = λ app low high.
          each-at own_table_entries (IsDone script bus tables) (λ d. d.tables_port.app) (λ d. d.tables_port.mine) (λ n d p. p.tables_app)
          (λ n es. TableTrace first_handles (app_at script n).lines es) (λ n d p. p.table_trace) table_core.log.entries 1 app ds all
          (subst (λ l. All (λ (e : ℕ × List TableEntry). own_table_entries e.0 table_core.log.entries ≡ e.1) l) k.joined table_ended) low (omega (arith, high, count));
      nobody_else_at_tables =
          table_legal-known script.limits (length script.apps) (no_tables script.limits (length script.apps)) table_core.log.entries (length-replicate (length script.apps) _)
          closed-legal_tables;
    }

    pub closed-run : length ds ≡ length script.apps → IsRunOf script (histories_of core table_core)
    closed-run count = record { legal = closed-legal; legal_tables = closed-legal_tables; merges = closed-merges count }

    -- the receipts of each: what followed its end was some entries, of which `told` speaks
    pub told-at : (first : ℕ) (xs : List Done) → Numbered (IsDone script bus tables) first xs → All (λ (d : Done). Begins d.port.seen main.seen) xs →
        All (λ (d : Done). BeginsAtTables d.tables_port.seen tables_main.seen) xs →
        map (λ (d : Done). d.receipts.receipts) xs ≡ map (receipts_told script (histories_of core table_core)) (range_with_len first (length xs))
    told-at first [] done begun table_begun = refl
    told-at first (d ∷ xs) done begun table_begun =
        let there = begins-trans d.port.seen main.seen core (All-head (λ (x : Done). Begins x.port.seen main.seen) d xs begun) extends in
        let there_at_tables =
        begins-trans_at_tables d.tables_port.seen tables_main.seen table_core (All-head (λ (x : Done). BeginsAtTables x.tables_port.seen tables_main.seen) d xs table_begun) table_extends in
        let rests : Histories = record { bus = there.entries.0; tables = there_at_tables.entries.0 } in
        let its : d.receipts.receipts ≡ receipts_told script (histories_of core table_core) first =
        sym (done.0.told rests)
        ∙ ap (λ h. receipts_told script (record { bus = h; tables = d.tables_port.seen.log.entries ++ there_at_tables.entries.0 }) first) there.entries.1
        ∙ ap (λ h. receipts_told script (record { bus = core.log.entries; tables = h }) first) there_at_tables.entries.1 in
        ap (λ r. r ∷ map (λ (x : Done). x.receipts.receipts) xs) its
        ∙ ap (λ rs. receipts_told script (histories_of core table_core) first ∷ rs)
        (told-at (first + 1) xs done.1 (All-tail (λ (x : Done). Begins x.port.seen main.seen) d xs begun)
        (All-tail (λ (x : Done). BeginsAtTables x.tables_port.seen tables_main.seen) d xs table_begun))

    pub closed-receipts : length ds ≡ length script.apps → map (λ (d : Done). d.receipts.receipts) ds ≡ map (receipts_told script (histories_of core table_core)) (range_with_len 1 (length script.apps))
    closed-receipts count = told-at 1 ds all j.begun k.begun ∙ ap (λ n. map (receipts_told script (histories_of core table_core)) (range_with_len 1 n)) count
