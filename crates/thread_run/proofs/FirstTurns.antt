-- Applications before their first turn.
use Rattle.std.proofs.Common.{◌≡◌, ℕ, suc, ◌+◌, ◌-◌, ◌≤◌, [], ◌∷◌, ◌++◌, length, refl, ap, sym, ◌∙◌, subst, arith}
use Rattle.atomic_table.specs.Seated.{TableId}
use Rattle.fsw_base.specs.declared.config.Budget.{Budget}
use Rattle.lend_block.specs.Loan.{LentBytes}
use Rattle.buf_desc.specs.Held.{Holding}
use Rattle.sb_calls.specs.Bags.{HasBag}
use Rattle.sb_calls.specs.Core.{Core}
use Rattle.table_blocks.specs.Held.{HeldViews}
use Rattle.tbl_load.specs.Bags.{HasBag as HasTableBag}
use Rattle.tbl_load.specs.Core.{Core as TableCore}
use Rattle.bus_service.specs.Ports.{PortView, MainView, buffers_for}
use Rattle.tbl_service.specs.Ports.{PortView as TablesPortView, MainView as TablesMainView}
use Rattle.port_calls.specs.Ports.{caller_of}
use Rattle.app_script.specs.Script.{Application, ScriptText}
use Rattle.script_settings.specs.Accounts.{budget_of}
use Rattle.app_run.specs.Openings.{empty_bag, opened, opened_tables}
use Rattle.app_run.specs.Runners.{Progress, beginning}
use Rattle.app_run.proofs.OpenLaws.{apps-opened, first_bag, first_held, first_equipped, come-opened, map-at, opened_both, stands-opened, told-opened}
use Rattle.app_run.proofs.RoundLaws.{the_equipped}
use Rattle.app_run.specs.Turns.{with_bags}
use Rattle.app_run.proofs.TurnLaws.{both}
use Rattle.thread_run.specs.declared.works.Work.{Work}
use Rattle.thread_run.specs.Mains.{IsOpen, AreOpen, numbers}
use Rattle.thread_run.specs.Ways.{IsOnItsWay}
use Rattle.thread_run.specs.Works.{AreItsPorts, IsBetweenTurns, MayWork}

-- the main part, once one port more was made
pub next-open : (script : ScriptText) (lock : TableId) (n app : ℕ) (main now : MainView) → IsOpen script lock n main → app ≡ suc n →
    now ≡ record main { apps = main.apps ++ app ∷ [] } → IsOpen script lock app now
next-open script lock n app main now o own is =
    subst (λ (m : MainView). IsOpen script lock app m) (sym is)
    (record {
      lock_is = o.lock_is;
      before = o.before;
      made = ap (λ l. l ++ app ∷ []) o.made ∙ ap (λ k. numbers n ++ k ∷ []) own ∙ ap numbers (sym own);
      none = o.none;
    })

pub next-open_at_tables : (script : ScriptText) (lock : TableId) (n app : ℕ) (main now : TablesMainView) → AreOpen script lock n main → app ≡ suc n →
    now ≡ record main { apps = main.apps ++ app ∷ [] } → AreOpen script lock app now
next-open_at_tables script lock n app main now o own is =
    subst (λ (m : TablesMainView). AreOpen script lock app m) (sym is)
    (record {
      lock_is = o.lock_is;
      before = o.before;
      made = ap (λ l. l ++ app ∷ []) o.made ∙ ap (λ k. numbers n ++ k ∷ []) own ∙ ap numbers (sym own);
      none = o.none;
    })

-- An application before its first line is on its way: it owes the entries of all its lines, has made none, and has told nothing.
pub way-opened : (script : ScriptText) (app : ℕ) → script.limits.msgmax ≤ 65542 → script.limits.tablemax ≤ 65536 → 1 ≤ app → app ≤ length script.apps →
    HasBag (opened script) app (first_bag script app) → HasTableBag (opened_tables script) app (first_held script) →
    IsOnItsWay script (opened_both script) (first_equipped script app)
way-opened script app small small_tables first last bag held = record {
  script_is = record { limits = refl; apps = apps-opened script; table_apps = apps-opened script; legal = tt; legal_tables = tt };
  come = come-opened script app small small_tables first last;
  stands = stands-opened script app small small_tables first last;
  bag = bag;
  held = held;
  trace = λ rest owed. owed;
  table_trace = λ rest owed. owed;
  told = told-opened script app first last;
}

-- the bag of a port that was just made: the room of the script's limits and of the application's budget
pub bag-opened : (script : ScriptText) (app : ℕ) (seen : Core) (bag : Holding LentBytes) → 1 ≤ app → app ≤ length script.apps → seen ≡ opened script →
    bag ≡ record { views = []; buffers = []; view_room = seen.limits.pipes; buffer_room = buffers_for seen.log.budgets app } → bag ≡ first_bag script app
bag-opened script app seen bag first last before is =
    is
    ∙ ap (λ (core : Core). empty_bag core.limits.pipes (buffers_for core.log.budgets app)) before
    ∙ ap (λ (b : Budget). empty_bag script.limits.pipes b.buffers)
    (map-at (λ (a : Application). budget_of a.lines) script.apps (app - 1) (record { name = []; lines = [] }) (record { entries = 0; bytes = 0; buffers = 0 })
    (omega (arith, first, last)))

pub held-opened : (script : ScriptText) (seen : TableCore) (bag : HeldViews) → seen ≡ opened_tables script →
    bag ≡ record { views = []; room = seen.limits.handles } → bag ≡ first_held script
held-opened script seen bag before is = is ∙ ap (λ (core : TableCore). record { views = []; room = core.limits.handles }) before

-- So it is between turns, with ports that were just made.
pub between-opened : (script : ScriptText) (bus tables : TableId) (app : ℕ) (p : Progress) (port : PortView) (tables_port : TablesPortView) →
    script.limits.msgmax ≤ 65542 → script.limits.tablemax ≤ 65536 → 1 ≤ app → app ≤ length script.apps → p ≡ beginning script app →
    AreItsPorts bus tables app port tables_port → port.seen ≡ opened script → tables_port.seen ≡ opened_tables script →
    port.bag ≡ first_bag script app → tables_port.bag ≡ first_held script →
    HasBag port.seen port.app port.bag → HasTableBag tables_port.seen tables_port.app tables_port.bag →
    IsBetweenTurns script app p (caller_of port tables_port)
between-opened script bus tables app p port tables_port small small_tables first last begins ports seen seen_there bag held has has_there =
    let its : HasBag (opened script) app (first_bag script app) =
    subst (λ core. HasBag core app (first_bag script app)) seen
    (subst (λ k. HasBag port.seen k (first_bag script app)) ports.bus_app (subst (λ g. HasBag port.seen port.app g) bag has)) in
    let its_held : HasTableBag (opened_tables script) app (first_held script) =
    subst (λ core. HasTableBag core app (first_held script)) seen_there
    (subst (λ k. HasTableBag tables_port.seen k (first_held script)) ports.tables_app (subst (λ g. HasTableBag tables_port.seen tables_port.app g) held has_there)) in
    record {
      some = first;
      app_is = ap (λ (x : Progress). x.running.app) begins;
      own = ports.bus_app;
      way =
          subst (λ core. IsOnItsWay script (both core tables_port.seen) (with_bags p (caller_of port tables_port))) (sym seen)
          (subst (λ core. IsOnItsWay script (both (opened script) core) (with_bags p (caller_of port tables_port))) (sym seen_there)
          (subst (λ q. IsOnItsWay script (opened_both script) (the_equipped q port.bag tables_port.bag)) (sym begins)
          (subst (λ g. IsOnItsWay script (opened_both script) (the_equipped (beginning script app) g tables_port.bag)) (sym bag)
          (subst (λ h. IsOnItsWay script (opened_both script) (the_equipped (beginning script app) (first_bag script app) h)) (sym held)
          (way-opened script app small small_tables first last its its_held)))));
    }

-- And may take its first turn.
pub work-opened : (script : ScriptText) (bus tables : TableId) (app n : ℕ) (main : MainView) (tables_main : TablesMainView) (work : Work) →
    script.limits.msgmax ≤ 65542 → script.limits.tablemax ≤ 65536 → 1 ≤ app → app ≤ length script.apps → IsOpen script bus n main → AreOpen script tables n tables_main →
    work.runner ≡ beginning script app →
    work.port
    ≡ record {
      lock = bus;
      app = app;
      seen = main.seen;
      mine = [];
      bag = record { views = []; buffers = []; view_room = main.seen.limits.pipes; buffer_room = buffers_for main.seen.log.budgets app };
    } →
    work.tables_port
    ≡ record { lock = tables; app = app; seen = tables_main.seen; mine = []; bag = record { views = []; room = tables_main.seen.limits.handles } } →
    HasBag work.port.seen work.port.app work.port.bag → HasTableBag work.tables_port.seen work.tables_port.app work.tables_port.bag → MayWork script bus tables app work
work-opened script bus tables app n main tables_main work small small_tables first last o k begins port tables_port has has_there =
    let ports : AreItsPorts bus tables app work.port work.tables_port =
    record {
      bus_lock = ap (λ (p : PortView). p.lock) port;
      tables_lock = ap (λ (p : TablesPortView). p.lock) tables_port;
      bus_app = ap (λ (p : PortView). p.app) port;
      tables_app = ap (λ (p : TablesPortView). p.app) tables_port;
    } in
    record {
      before = ap (λ (p : PortView). p.seen) port ∙ o.before;
      none = ap (λ (p : PortView). p.mine) port;
      ports = ports;
      between = between-opened script bus tables app work.runner work.port work.tables_port small small_tables first last begins ports
          (ap (λ (p : PortView). p.seen) port ∙ o.before) (ap (λ (p : TablesPortView). p.seen) tables_port ∙ k.before)
          (bag-opened script app main.seen work.port.bag first last o.before (ap (λ (p : PortView). p.bag) port))
          (held-opened script tables_main.seen work.tables_port.bag k.before (ap (λ (p : TablesPortView). p.bag) tables_port)) has has_there;
      goes_on = ap (λ (p : Progress). p.ended) begins;
    }
