-- A side whose ports were joined, the bridge's last, and whose services were closed behind them.
use Rattle.std.proofs.Common.{◌≡◌, ap₂, ℕ, ◌+◌, All, Contains, List, [], ◌∷◌, ◌++◌, length, map, Some, ap, sym, ◌∙◌, subst, arith, length-append}
use Rattle.std.specs.List.{range_with_len}
use Rattle.std.proofs.lemmas.List.{length-replicate, map-append}
use Rattle.std.proofs.lemmas.List.Elements.{All-pop, All-weaker, All-contains_itself, Contains-push, Contains-append_left}
use mathlib.Core.Logic.{dite}
use native.Mathlib.Decide.{ℕ_discrete}
use Rattle.atomic_table.specs.Seated.{TableId}
use Rattle.fsw_base.specs.declared.config.Budget.{Budget}
use Rattle.bus_words.specs.declared.history.Entry.{Entry}
use Rattle.bus_words.specs.Bus.{opening}
use Rattle.bus_words.specs.Machine.{IsLegal}
use Rattle.bus_service.specs.Ports.{Begins, KeepsLongerOf, MainView}
use Rattle.sb_calls.specs.Core.{Core, IsLegalCore, apps_of}
use Rattle.tbl_words.specs.declared.history.Entry.{Entry as TableEntry}
use Rattle.tbl_words.specs.Machine.{IsLegal as IsLegalAtTables}
use Rattle.tbl_words.specs.Tables.{opening as no_tables}
use Rattle.tbl_load.specs.Core.{Core as TableCore, IsLegalCore as AreLegalTables, apps_of as table_apps_of}
use Rattle.tbl_service.specs.Ports.{MainView as TablesMainView, Begins as BeginsAtTables, KeepsLongerOf as KeepsLongerAtTables}
use Rattle.app_run.specs.declared.rotating.Finished.{Finished}
use Rattle.app_run.specs.Runners.{histories_of}
use Rattle.app_script.specs.Script.{Application, ScriptText, app_at}
use Rattle.script_runs.specs.TableTrace.{TableTrace, first_handles, own_table_entries}
use Rattle.script_runs.specs.Told.{receipts_told}
use Rattle.script_runs.specs.Trace.{Trace, first_registers, own_entries}
use Rattle.script_runs.specs.Written.{first_written}
use Rattle.script_runs.proofs.ScriptHistories.{legal-known}
use Rattle.script_runs.proofs.TableHistories.{legal-known as table_legal-known}
use Rattle.thread_run.specs.declared.works.Done.{Done}
use Rattle.thread_run.specs.Mains.{numbers, IsJoined, AreJoined}
use Rattle.thread_run.specs.Whole.{app_beside, whole_of}
use Rattle.thread_run.specs.Works.{IsDone, Numbered}
use Rattle.thread_run.proofs.Joins.{begins-longer, begins-longer_at_tables, begins-trans, begins-trans_at_tables, each-at, named, same-longer, same-longer_at_tables}
use Rattle.thread_run.proofs.Joins as joins
use Rattle.thread_run.proofs.Numbers.{in-numbers}
use Rattle.thread_run.proofs.Wholes.{app_at-whole}
use Rattle.bridge_plan.specs.Plan.{bridge_of}
use Rattle.bridge_runs.specs.Sides.{AreLegal, MergesBeside}
use Rattle.sb_bridge.specs.declared.ends.EndedPorts.{EndedPorts}
use Rattle.sb_bridge.specs.Sides.{IsClosedSide}

-- ---- all were joined

module _ {E : Type 0} (P : ℕ → Done → Type 0) (number : Done → ℕ) (entries : Done → List E) (is : (app : ℕ) (d : Done) → P app d → number d ≡ app) (own : ℕ → List E → List E) where
  abbrev number_in : ℕ × List E → ℕ
  number_in e = e.0

  abbrev ended_of : Done → ℕ × List E
  ended_of d = (number d, entries d)

  pub all-beside : (n all app : ℕ) (mine : List E) (apps : List ℕ) (ds : List Done) (ended : List (ℕ × List E)) → apps ≡ numbers all → all ≡ n + 1 → app ≡ n + 1 → length ds ≡ n → Numbered P 1 ds →
      ended ≡ map ended_of ds ++ (app, mine) ∷ [] → All (Contains (map number_in ended)) apps
  all-beside n all app mine apps ds ended made one bridge count each joined =
      let named_in : List ℕ = map number_in (map ended_of ds) in
      let parts : map number_in ended ≡ named_in ++ app ∷ [] = ap (map number_in) joined ∙ map-append number_in (map ended_of ds) ((app, mine) ∷ []) in
      subst (λ l. All (Contains l) apps) (sym parts)
      (subst (λ l. All (Contains (named_in ++ app ∷ [])) l) (sym made)
      (All-weaker (Contains (numbers all)) (Contains (named_in ++ app ∷ []))
      (λ k there.
      let r = in-numbers all k there in
      let p = r.0 in
      let q = r.1 in
      dite (ℕ_discrete k (n + 1))
      (λ here. subst (Contains (named_in ++ app ∷ [])) (bridge ∙ sym here) (Contains-push named_in app))
      (λ other. Contains-append_left named_in (app ∷ []) k (named own P number entries is 1 k ds each p (omega (arith, q, one, other, count)))))
      (numbers all) (All-contains_itself (numbers all))))

-- ---- of which script and lock

pub joined-of : (one other : ScriptText) (lock its : TableId) (ds : List Done) (main : MainView) → one ≡ other → lock ≡ its → IsJoined one lock ds main → IsJoined other its ds main
joined-of one other lock its ds main script same j = subst (λ w. IsJoined w its ds main) script (subst (λ l. IsJoined one l ds main) same j)

pub joined-of_at_tables : (one other : ScriptText) (lock its : TableId) (ds : List Done) (main : TablesMainView) → one ≡ other → lock ≡ its → AreJoined one lock ds main → AreJoined other its ds main
joined-of_at_tables one other lock its ds main script same j = subst (λ w. AreJoined w its ds main) script (subst (λ l. AreJoined one l ds main) same j)

-- ---- both services, closed

module _ (script : ScriptText) (budget : Budget) (bus tables : TableId) (ds : List Done) (each : Numbered (IsDone (whole_of script (Some budget)) bus tables) 1 ds) (count : length ds ≡ length script.apps) where
  abbrev whole : ScriptText
  whole = whole_of script (Some budget)

  more : length whole.apps ≡ length script.apps + 1
  more = length-append script.apps (app_beside budget ∷ [])

  -- the bridge's port of the bus, joined last
  module _ (main now : MainView) (app : ℕ) (mine : List Entry) (seen : Core) (j : IsJoined whole bus ds main) (apps : now.apps ≡ main.apps) (keeps : KeepsLongerOf main.seen seen now.seen)
      (ended : now.ended ≡ main.ended ++ (app, mine) ∷ []) (bridge : app ≡ bridge_of script) where
    pub bus-joined : All (Contains (map (λ (e : ℕ × List Entry). e.0) now.ended)) now.apps
    bus-joined =
        all-beside (IsDone whole bus tables) (λ d. d.port.app) (λ d. d.port.mine) (λ n d p. p.bus_app) own_entries (length script.apps) (length whole.apps) app mine now.apps ds now.ended
        (apps ∙ j.made) more bridge count each (ended ∙ ap (λ l. l ++ (app, mine) ∷ []) j.joined)

  module _ (main now : TablesMainView) (app : ℕ) (mine : List TableEntry) (seen : TableCore) (j : AreJoined whole tables ds main) (apps : now.apps ≡ main.apps)
      (ended : now.ended ≡ main.ended ++ (app, mine) ∷ []) (bridge : app ≡ bridge_of script) where
    pub tables-joined : All (Contains (map (λ (e : ℕ × List TableEntry). e.0) now.ended)) now.apps
    tables-joined =
        all-beside (IsDone whole bus tables) (λ d. d.tables_port.app) (λ d. d.tables_port.mine) (λ n d p. p.tables_app) own_table_entries (length script.apps) (length whole.apps) app mine now.apps ds now.ended
        (apps ∙ j.made) more bridge count each (ended ∙ ap (λ l. l ++ (app, mine) ∷ []) j.joined)

  -- both main parts, once the bridge's ports were joined behind the others, and both services closed
  module _ (main now : MainView) (tables_main tables_now : TablesMainView) (j : IsJoined whole bus ds main) (k : AreJoined whole tables ds tables_main)
      (app : ℕ) (mine : List Entry) (seen : Core) (keeps : KeepsLongerOf main.seen seen now.seen) (ended : now.ended ≡ main.ended ++ (app, mine) ∷ [])
      (table_app : ℕ) (table_mine : List TableEntry) (table_seen : TableCore) (table_keeps : KeepsLongerAtTables tables_main.seen table_seen tables_now.seen) (table_ended : tables_now.ended ≡ tables_main.ended ++ (table_app, table_mine) ∷ [])
      (core : Core) (table_core : TableCore)
      (c_limits : core.limits ≡ now.seen.limits) (c_budgets : core.log.budgets ≡ now.seen.log.budgets) (c_legal : IsLegalCore core) (c_extends : Begins now.seen core)
      (c_ended : All (λ (e : ℕ × List Entry). own_entries e.0 core.log.entries ≡ e.1) now.ended)
      (t_limits : table_core.limits ≡ tables_now.seen.limits) (t_budgets : table_core.log.budgets ≡ tables_now.seen.log.budgets) (t_legal : AreLegalTables table_core) (t_extends : BeginsAtTables tables_now.seen table_core)
      (t_ended : All (λ (e : ℕ × List TableEntry). own_table_entries e.0 table_core.log.entries ≡ e.1) tables_now.ended) where
    abbrev Own : ℕ × List Entry → Type 0
    Own e = own_entries e.0 core.log.entries ≡ e.1

    abbrev OwnAtTables : ℕ × List TableEntry → Type 0
    OwnAtTables e = own_table_entries e.0 table_core.log.entries ≡ e.1

    bus_ended : All Own main.ended × Own (app, mine)
    bus_ended = All-pop Own now.ended main.ended (Some (app, mine)) ended c_ended

    tables_ended : All OwnAtTables tables_main.ended × OwnAtTables (table_app, table_mine)
    tables_ended = All-pop OwnAtTables tables_now.ended tables_main.ended (Some (table_app, table_mine)) table_ended t_ended

    limits : core.limits ≡ main.seen.limits
    limits = c_limits ∙ (same-longer main.seen seen now.seen keeps).0

    budgets : core.log.budgets ≡ main.seen.log.budgets
    budgets = c_budgets ∙ (same-longer main.seen seen now.seen keeps).1

    table_limits : table_core.limits ≡ tables_main.seen.limits
    table_limits = t_limits ∙ (same-longer_at_tables tables_main.seen table_seen tables_now.seen table_keeps).0

    table_budgets : table_core.log.budgets ≡ tables_main.seen.log.budgets
    table_budgets = t_budgets ∙ (same-longer_at_tables tables_main.seen table_seen tables_now.seen table_keeps).1

    extends-main : Begins main.seen core
    extends-main = begins-trans main.seen now.seen core (begins-longer main.seen seen now.seen keeps).0 c_extends

    extends-port : Begins seen core
    extends-port = begins-trans seen now.seen core (begins-longer main.seen seen now.seen keeps).1 c_extends

    tables-extend : BeginsAtTables tables_main.seen table_core
    tables-extend = begins-trans_at_tables tables_main.seen tables_now.seen table_core (begins-longer_at_tables tables_main.seen table_seen tables_now.seen table_keeps).0 t_extends

    limits-are : core.limits ≡ script.limits
    limits-are = limits ∙ j.limits

    table_limits-are : table_core.limits ≡ script.limits
    table_limits-are = table_limits ∙ k.limits

    apps-are : apps_of core ≡ length script.apps + 1
    apps-are =
        joins.closed-apps whole bus tables ds each main tables_main j k core table_core limits budgets c_legal extends-main bus_ended.0 table_limits table_budgets t_legal tables-extend tables_ended.0
        ∙ more

    table_apps-are : table_apps_of table_core ≡ length script.apps + 1
    table_apps-are =
        joins.closed-table_apps whole bus tables ds each main tables_main j k core table_core limits budgets c_legal extends-main bus_ended.0 table_limits table_budgets t_legal tables-extend tables_ended.0
        ∙ more

    legal : AreLegal script (histories_of core table_core)
    legal = record {
      bus =
          subst (λ n. IsLegal script.limits n core.log.entries) more
          (joins.closed-legal whole bus tables ds each main tables_main j k core table_core limits budgets c_legal extends-main bus_ended.0 table_limits table_budgets t_legal tables-extend tables_ended.0);
      tables =
          subst (λ n. IsLegalAtTables script.limits n table_core.log.entries) more
          (joins.closed-legal_tables whole bus tables ds each main tables_main j k core table_core limits budgets c_legal extends-main bus_ended.0 table_limits table_budgets t_legal tables-extend tables_ended.0);
    }

    merges : MergesBeside script (histories_of core table_core)
    merges = record {
      each = λ n low high.
          subst (λ (a : Application). Trace first_registers first_written a.lines (own_entries n core.log.entries)) (app_at-whole script (Some budget) n low high)
          (each-at own_entries (IsDone whole bus tables) (λ d. d.port.app) (λ d. d.port.mine) (λ m d p. p.bus_app)
          (λ m es. Trace first_registers first_written (app_at whole m).lines es) (λ m d p. p.trace) core.log.entries 1 n ds each
          (subst (λ l. All Own l) j.joined bus_ended.0) low (omega (arith, high, count)));
      nobody_else =
          legal-known script.limits (length script.apps + 1) [] (opening script.limits (length script.apps + 1)) core.log.entries (length-replicate (length script.apps + 1) _) legal.bus;
      each_at_tables = λ n low high.
          subst (λ (a : Application). TableTrace first_handles a.lines (own_table_entries n table_core.log.entries)) (app_at-whole script (Some budget) n low high)
          (each-at own_table_entries (IsDone whole bus tables) (λ d. d.tables_port.app) (λ d. d.tables_port.mine) (λ m d p. p.tables_app)
          (λ m es. TableTrace first_handles (app_at whole m).lines es) (λ m d p. p.table_trace) table_core.log.entries 1 n ds each
          (subst (λ l. All OwnAtTables l) k.joined tables_ended.0) low (omega (arith, high, count)));
      nobody_else_at_tables =
          table_legal-known script.limits (length script.apps + 1) (no_tables script.limits (length script.apps + 1)) table_core.log.entries (length-replicate (length script.apps + 1) _) legal.tables;
    }

    bridge-is : app ≡ bridge_of script → own_entries (bridge_of script) core.log.entries ≡ mine
    bridge-is is = ap (λ n. own_entries n core.log.entries) (sym is) ∙ bus_ended.1

    bridge-is_at_tables : table_app ≡ bridge_of script → own_table_entries (bridge_of script) table_core.log.entries ≡ table_mine
    bridge-is_at_tables is = ap (λ n. own_table_entries n table_core.log.entries) (sym is) ∙ tables_ended.1

    receipts-are : map (λ (d : Done). d.receipts.receipts) ds ≡ map (receipts_told whole (histories_of core table_core)) (range_with_len 1 (length script.apps))
    receipts-are =
        joins.told-at whole bus tables ds each main tables_main j k core table_core limits budgets c_legal extends-main bus_ended.0 table_limits table_budgets t_legal tables-extend tables_ended.0 1 ds each j.begun k.begun
        ∙ ap (λ n. map (receipts_told whole (histories_of core table_core)) (range_with_len 1 n)) count

    pub is-closed : (first : MainView) (ports : EndedPorts) (finished : Finished) → Begins first.seen main.seen → finished.bus ≡ core → finished.tables ≡ table_core → app ≡ bridge_of script → table_app ≡ bridge_of script →
        mine ≡ ports.port.mine → table_mine ≡ ports.tables_port.mine → seen ≡ ports.port.seen → map (λ list. list.receipts) finished.receipts.items ≡ map (λ (d : Done). d.receipts.receipts) ds → IsClosedSide script whole first ports finished
    is-closed first ports finished before bus_is tables_is bridge table_bridge mine_is table_mine_is seen_is lists =
        let histories = ap₂ histories_of (sym bus_is) (sym tables_is) in
        record {
          limits = ap (λ (c : Core). c.limits) bus_is ∙ limits-are;
          table_limits = ap (λ (c : TableCore). c.limits) tables_is ∙ table_limits-are;
          apps = ap apps_of bus_is ∙ apps-are;
          table_apps = ap table_apps_of tables_is ∙ table_apps-are;
          legal = subst (AreLegal script) histories legal;
          merges = subst (MergesBeside script) histories merges;
          bridge = ap (λ (c : Core). own_entries (bridge_of script) c.log.entries) bus_is ∙ bridge-is bridge ∙ mine_is;
          bridge_at_tables = ap (λ (c : TableCore). own_table_entries (bridge_of script) c.log.entries) tables_is ∙ bridge-is_at_tables table_bridge ∙ table_mine_is;
          extends = subst (Begins first.seen) (sym bus_is) (begins-trans first.seen main.seen core before extends-main);
          extends_port = subst (λ (s : Core). Begins s finished.bus) seen_is (subst (Begins seen) (sym bus_is) extends-port);
          receipts = lists ∙ receipts-are ∙ ap (λ h. map (receipts_told whole h) (range_with_len 1 (length script.apps))) histories;
        }
