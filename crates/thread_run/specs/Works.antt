-- What an application takes along to its thread, and what it leaves there.
use Rattle.std.specs.Prelude.{◌≡◌, ℕ, ◌+◌, ◌≤◌, ◌++◌, false, List, [], ◌∷◌}
use Rattle.atomic_table.specs.Seated.{TableId}
use Rattle.bus_service.specs.Ports.{PortView}
use Rattle.tbl_service.specs.Ports.{PortView as TablesPortView}
use Rattle.app_calls.specs.Callers.{Caller}
use Rattle.port_calls.specs.Ports.{caller_of}
use Rattle.app_script.specs.Script.{ScriptText, app_at}
use Rattle.script_runs.specs.Histories.{Histories}
use Rattle.script_runs.specs.TableTrace.{TableTrace, first_handles}
use Rattle.script_runs.specs.Told.{receipts_told}
use Rattle.script_runs.specs.Trace.{Trace, first_registers}
use Rattle.script_runs.specs.Written.{first_written}
use Rattle.app_run.specs.Openings.{opened}
use Rattle.app_run.specs.Runners.{Progress}
use Rattle.app_run.specs.Turns.{services_of, with_bags}
use Rattle.thread_run.specs.declared.works.Done.{Done}
use Rattle.thread_run.specs.declared.works.Work.{Work}
use Rattle.thread_run.specs.Ways.{IsOnItsWay}

-- the ports are the application's, and of these two locks
pub record AreItsPorts (bus tables : TableId) (app : ℕ) (port : PortView)
    (tables_port : TablesPortView) : Type 0 where
  pub bus_lock : port.lock ≡ bus
  pub tables_lock : tables_port.lock ≡ tables
  pub bus_app : port.app ≡ app
  pub tables_app : tables_port.app ≡ app

-- An application between two turns: the calls are its own, and it is on its way by the services as
-- these calls saw them last.
pub record IsBetweenTurns (script : ScriptText) (app : ℕ) (progress : Progress)
    (caller : Caller) : Type 0 where
  pub some : 1 ≤ app
  pub app_is : progress.running.app ≡ app
  pub own : caller.app ≡ app
  pub way : IsOnItsWay script (services_of caller) (with_bags progress caller)

-- the application may take its first turn, by its own ports; it has made no call of the bus, and
-- seen none
pub record MayWork (script : ScriptText) (bus tables : TableId) (app : ℕ)
    (work : Work) : Type 0 where
  pub before : work.port.seen ≡ opened script
  pub none : work.port.mine ≡ []
  pub ports : AreItsPorts bus tables app work.port work.tables_port
  pub between : IsBetweenTurns script app work.runner (caller_of work.port work.tables_port)
  pub goes_on : work.runner.ended ≡ false

-- The application is through: its entries at each service are those of its lines, each once and in
-- order; and whatever others did behind what it has seen, its receipts are those that its lines
-- tell.
pub record IsDone (script : ScriptText) (bus tables : TableId) (app : ℕ)
    (done : Done) : Type 0 where
  pub bus_lock : done.port.lock ≡ bus
  pub tables_lock : done.tables_port.lock ≡ tables
  pub bus_app : done.port.app ≡ app
  pub tables_app : done.tables_port.app ≡ app
  pub trace : Trace first_registers first_written (app_at script app).lines done.port.mine
  pub table_trace : TableTrace first_handles (app_at script app).lines done.tables_port.mine
  pub told :
      (entries : Histories) →
      receipts_told script
      (record {
        bus = done.port.seen.log.entries ++ entries.bus;
        tables = done.tables_port.seen.log.entries ++ entries.tables;
      }) app
      ≡ done.receipts.receipts

-- each of a list, by its application's number, from this one on
abbrev pub Numbered : {X : Type 0} → (ℕ → X → Type 0) → ℕ → List X → Type 0
Numbered P app [] = Unit {0}
Numbered P app (x ∷ xs) = P app x × Numbered P (app + 1) xs
