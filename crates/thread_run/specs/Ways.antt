-- One application on its way through its lines, beside others that call the services too.
use Rattle.std.specs.Prelude.{◌≡◌, List, length, ◌++◌, Option}
use Rattle.bus_words.specs.declared.history.Entry.{Entry}
use Rattle.sb_calls.specs.Bags.{HasBag}
use Rattle.sb_calls.specs.Core.{IsLegalCore, apps_of}
use Rattle.tbl_words.specs.declared.history.Entry.{Entry as TableEntry}
use Rattle.tbl_load.specs.Bags.{HasBag as HasTableBag}
use Rattle.tbl_load.specs.Core.{IsLegalCore as AreLegalTables, apps_of as table_apps_of}
use Rattle.app_script.specs.Script.{ScriptText, app_at}
use Rattle.script_runs.specs.Owing.{Owes, TableOwes, first_left}
use Rattle.script_runs.specs.Rotation.{Running}
use Rattle.script_runs.specs.TableTrace.{TableTrace, first_handles, own_table_entries}
use Rattle.script_runs.specs.Trace.{Trace, first_registers, own_entries}
use Rattle.script_runs.specs.Written.{first_written}
use Rattle.app_run.specs.Rounds.{HasTold}
use Rattle.app_run.specs.Runners.{Services, Equipped, going, standing_in}
use Rattle.app_run.specs.Turns.{HasCome, Stands}

-- the application, if it goes on
abbrev pub still_going : Equipped → Option Running
still_going one = first_left (going one)

-- the services are for the script's applications, under its limits, and their histories are ones
-- that can be
pub record AreForScript (script : ScriptText) (services : Services) : Type 0 where
  pub limits : services.bus.limits ≡ script.limits
  pub apps : apps_of services.bus ≡ length script.apps
  pub table_apps : table_apps_of services.tables ≡ length script.apps
  pub legal : IsLegalCore services.bus
  pub legal_tables : AreLegalTables services.tables

-- The application has come so far by its own turns, and services as it saw them last know it as it
-- is; it has its bags; its entries so far, with those that it has still to make, are those of its
-- lines, at each of the two; and its receipts so far are what it has told.
pub record IsOnItsWay (script : ScriptText) (services : Services) (one : Equipped) : Type 0 where
  pub script_is : AreForScript script services
  pub come : HasCome script one services
  pub stands : Stands one services
  pub bag : HasBag services.bus one.progress.running.app one.bag
  pub held : HasTableBag services.tables one.progress.running.app one.held
  pub trace :
      (rest : List Entry) → Owes (standing_in one.progress) (still_going one) rest →
      Trace first_registers first_written (app_at script one.progress.running.app).lines
      (own_entries one.progress.running.app services.bus.log.entries ++ rest)
  pub table_trace :
      (rest : List TableEntry) → TableOwes (still_going one) rest →
      TableTrace first_handles (app_at script one.progress.running.app).lines
      (own_table_entries one.progress.running.app services.tables.log.entries ++ rest)
  pub told : HasTold script services one
