-- An application with its calls, from turn to turn.
use Rattle.std.proofs.Common.{◌≡◌, inl, inr, ℕ, ◌≤◌, ◌++◌, true, false, ap, sym, ◌∙◌, subst}
use Rattle.atomic_table.specs.Seated.{TableId}
use Rattle.sb_calls.specs.Bags.{HasBag, CalledByOthers}
use Rattle.bus_words.specs.Bus.{has_ended, standing_of}
use Rattle.sb_calls.specs.Core.{Core, state_of}
use Rattle.tbl_words.specs.Tables.{has_ended as has_ended_at_tables}
use Rattle.tbl_load.specs.Bags.{HasBag as HasTableBag, CalledByOthers as CalledByOthersAtTables}
use Rattle.tbl_load.specs.Core.{Core as TableCore, state_of as tables_of}
use Rattle.bus_service.specs.Ports.{PortView, DoneView}
use Rattle.tbl_service.specs.Ports.{PortView as TablesPortView, DoneView as TablesDoneView}
use Rattle.app_calls.specs.Callers.{Caller, Meets}
use Rattle.app_calls.specs.TableCallers.{MeetsTables}
use Rattle.app_script.specs.Script.{ScriptText, app_at}
use Rattle.app_run.specs.Rounds.{histories_with}
use Rattle.app_run.specs.Runners.{Progress}
use Rattle.app_run.specs.Turns.{MayTurn, TakesTurnBy, services_of, with_bags}
use Rattle.app_run.proofs.TurnLaws.{both}
use Rattle.script_runs.specs.TableTrace.{TableTrace, first_handles, own_table_entries}
use Rattle.script_runs.specs.Told.{receipts_told}
use Rattle.script_runs.specs.Trace.{Trace, first_registers, own_entries}
use Rattle.script_runs.specs.Written.{first_written}
use Rattle.thread_run.specs.declared.works.Done.{Done}
use Rattle.thread_run.specs.Ways.{IsOnItsWay}
use Rattle.thread_run.specs.Works.{AreItsPorts, IsBetweenTurns, IsDone}
use Rattle.thread_run.proofs.Ways.{BagsStay, TableBagsStay, ended-standing, ended-table_trace, ended-told, ended-trace, way-bus, way-tables, way-turn}

module _ (script : ScriptText) (app : ℕ) (p : Progress) (caller : Caller) (b : IsBetweenTurns script app p caller) where
  -- the calls are the runner's application's
  its_app : caller.app ≡ p.running.app
  its_app = b.own ∙ sym b.app_is

  pub may-turn : p.ended ≡ false → MayTurn p caller
  may-turn goes_on = record {
    own = its_app;
    goes_on = goes_on;
    way = (script, b.way.come);
    bag = subst (λ k. HasBag caller.core k caller.bag) (sym its_app) b.way.bag;
    held = subst (λ k. HasTableBag caller.tables k caller.held) (sym its_app) b.way.held;
  }

  -- the services that the turn met have the application on its way as well
  met-bus : BagsStay → (now : Core) → Meets caller now → IsOnItsWay script (both now caller.tables) (with_bags p caller)
  met-bus stay now (inl same) = subst (λ core. IsOnItsWay script (both core caller.tables) (with_bags p caller)) (sym same) b.way
  met-bus stay now (inr others) =
      way-bus stay script caller.core now caller.tables (with_bags p caller) (subst (λ k. CalledByOthers caller.core now k) its_app others.1)
      (subst (λ k. 1 ≤ k) (sym b.app_is) b.some) b.way

  met-tables : BagsStay → TableBagsStay → (now : Core) (then : TableCore) → Meets caller now → MeetsTables caller then →
      IsOnItsWay script (both now then) (with_bags p caller)
  met-tables stay stay_there now then meets (inl same) =
      subst (λ core. IsOnItsWay script (both now core) (with_bags p caller)) (sym same) (met-bus stay now meets)
  met-tables stay stay_there now then meets (inr others) =
      way-tables stay_there script now caller.tables then (with_bags p caller) (subst (λ k. CalledByOthersAtTables caller.tables then k) its_app others.1)
      (subst (λ k. 1 ≤ k) (sym b.app_is) b.some) (met-bus stay now meets)

  -- a turn leads from one moment between turns to the next
  pub turn-on : BagsStay → TableBagsStay → (q : Progress) (after : Caller) → p.ended ≡ false → TakesTurnBy p q caller after → after.app ≡ caller.app →
      IsBetweenTurns script app q after
  turn-on stay stay_there q after goes_on t same =
      let its : q.running.app ≡ p.running.app = t.turn.same_app in
      let to_app : after.app ≡ q.running.app = same ∙ its_app ∙ sym its in
      record {
        some = b.some;
        app_is = its ∙ b.app_is;
        own = same ∙ b.own;
        way = way-turn script t.now (services_of after) (with_bags p caller) (with_bags q after)
            (met-tables stay stay_there t.now.bus t.now.tables t.meets t.meets_tables) goes_on t.turn
            (subst (λ k. HasBag after.core k after.bag) to_app t.bag) (subst (λ k. HasTableBag after.tables k after.held) to_app t.held);
      }

  -- an application that is through has ended at both services, as the ports saw them last
  pub at-bus : p.ended ≡ true → (port : PortView) → port.app ≡ caller.app → port.seen ≡ caller.core → has_ended (standing_of (state_of port.seen) port.app) ≡ true
  at-bus ended port own seen =
      ap (λ core. has_ended (standing_of (state_of core) port.app)) seen
      ∙ ap (λ k. has_ended (standing_of (state_of caller.core) k)) (own ∙ its_app)
      ∙ ap has_ended (ended-standing script (services_of caller) (with_bags p caller) ended b.way)

  pub at-tables : p.ended ≡ true → (port : TablesPortView) → port.app ≡ caller.app → port.seen ≡ caller.tables → has_ended_at_tables (tables_of port.seen) port.app ≡ true
  at-tables ended port own seen =
      ap (λ core. has_ended_at_tables (tables_of core) port.app) seen
      ∙ ap (λ k. has_ended_at_tables (tables_of caller.tables) k) (own ∙ its_app)
      ∙ b.way.stands.tables.ended ∙ ended

-- What is left of an application that has ended. --

abbrev pub left_of : PortView → DoneView
left_of port = record { lock = port.lock; app = port.app; seen = port.seen; mine = own_entries port.app port.seen.log.entries }

abbrev pub left_at_tables : TablesPortView → TablesDoneView
left_at_tables port = record { lock = port.lock; app = port.app; seen = port.seen; mine = own_table_entries port.app port.seen.log.entries }

-- the ports saw the services as the calls by them did
pub record AreOfCaller (caller : Caller) (port : PortView) (tables_port : TablesPortView) : Type 0 where
  pub seen : port.seen ≡ caller.core
  pub tables_seen : tables_port.seen ≡ caller.tables

pub is-done : (script : ScriptText) (bus tables : TableId) (app : ℕ) (q : Progress) (caller : Caller) (port : PortView) (tables_port : TablesPortView) (done : Done) →
    IsBetweenTurns script app q caller → q.ended ≡ true → AreItsPorts bus tables app port tables_port → AreOfCaller caller port tables_port →
    done.port ≡ left_of port → done.tables_port ≡ left_at_tables tables_port → done.receipts.receipts ≡ q.receipts → IsDone script bus tables app done
is-done script bus tables app q caller port tables_port done b ended ports saw port-is tables-is receipts-are =
    let services = services_of caller in
    let one = with_bags q caller in
    let seen : done.port.seen ≡ caller.core = ap (λ (d : DoneView). d.seen) port-is ∙ saw.seen in
    let seen_there : done.tables_port.seen ≡ caller.tables = ap (λ (d : TablesDoneView). d.seen) tables-is ∙ saw.tables_seen in
    record {
      bus_lock = ap (λ (d : DoneView). d.lock) port-is ∙ ports.bus_lock;
      tables_lock = ap (λ (d : TablesDoneView). d.lock) tables-is ∙ ports.tables_lock;
      bus_app = ap (λ (d : DoneView). d.app) port-is ∙ ports.bus_app;
      tables_app = ap (λ (d : TablesDoneView). d.app) tables-is ∙ ports.tables_app;
      trace =
          subst (λ es. Trace first_registers first_written (app_at script app).lines es)
          (sym (ap (λ (d : DoneView). d.mine) port-is ∙ ap (λ k. own_entries k port.seen.log.entries) ports.bus_app ∙ ap (λ (core : Core). own_entries app core.log.entries) saw.seen))
          (subst (λ k. Trace first_registers first_written (app_at script k).lines (own_entries k caller.core.log.entries)) b.app_is (ended-trace script services one ended b.way));
      table_trace =
          subst (λ es. TableTrace first_handles (app_at script app).lines es)
          (sym (ap (λ (d : TablesDoneView). d.mine) tables-is ∙ ap (λ k. own_table_entries k tables_port.seen.log.entries) ports.tables_app
          ∙ ap (λ (core : TableCore). own_table_entries app core.log.entries) saw.tables_seen))
          (subst (λ k. TableTrace first_handles (app_at script k).lines (own_table_entries k caller.tables.log.entries)) b.app_is
          (ended-table_trace script services one ended b.way));
      told = λ entries.
          ap (λ (c : Core). receipts_told script (record { bus = c.log.entries ++ entries.bus; tables = done.tables_port.seen.log.entries ++ entries.tables }) app) seen
          ∙ ap (λ (c : TableCore). receipts_told script (record { bus = caller.core.log.entries ++ entries.bus; tables = c.log.entries ++ entries.tables }) app) seen_there
          ∙ ap (λ k. receipts_told script (histories_with services entries) k) (sym b.app_is)
          ∙ ended-told script services one ended b.way entries ∙ sym receipts-are;
    }
