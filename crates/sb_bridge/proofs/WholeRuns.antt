-- The run of a plan, put together: the first calls, the bridge's thread, and both sides as they closed.
use Rattle.std.proofs.Common.{◌≡◌, ⊎_elim, ℕ, ◌+◌, List, [], ◌∷◌, ◌++◌, length, map, refl, ap, ap₂, sym, ◌∙◌, subst, arith}
use Rattle.std.proofs.lemmas.List.{length-map, map-append}
use Rattle.fsw_base.specs.declared.config.Budget.{Budget}
use Rattle.fsw_base.specs.declared.config.Scope.TheVariants.{Global}
use Rattle.fsw_base.specs.Limits.{Limits}
use Rattle.bus_words.specs.declared.calls.BusAnswer.TheVariants.{Done}
use Rattle.bus_words.specs.declared.history.Call.{Call}
use Rattle.bus_words.specs.declared.history.Call.TheVariants.{End, Subscribe}
use Rattle.bus_words.specs.Alone.{Received, receipts}
use Rattle.bus_words.specs.declared.history.Entry.{Entry}
use Rattle.bus_words.specs.Machine.{IsLegal}
use Rattle.bus_words.specs.Runs.{callers, own_entries}
use Rattle.bus_service.specs.Ports.{Begins, DoneView, MainView, PortView}
use Rattle.sb_calls.specs.Core.{apps_of}
use Rattle.tbl_words.specs.declared.calls.TblAnswer.TheVariants as table_answers
use Rattle.tbl_words.specs.declared.history.Call.TheVariants as table_calls
use Rattle.tbl_words.specs.declared.history.Entry.{Entry as TableEntry}
use Rattle.tbl_service.specs.Ports.{DoneView as TablesDoneView}
use Rattle.script_runs.specs.TableTrace.{own_table_entries}
use Rattle.script_runs.proofs.HeldTables.{tables_stay}
use Rattle.script_runs.proofs.KeptMessages.{messages_stay}
use Rattle.app_run.specs.declared.rotating.Finished.{Finished}
use Rattle.app_run.specs.Runners.{histories_of}
use Rattle.app_script.specs.Script.{ScriptText}
use Rattle.thread_run.specs.declared.works.RunParts.{RunParts}
use Rattle.bridge_plan.specs.declared.routes.Route.{Route}
use Rattle.bridge_plan.specs.Plan.{PlanText, bridge_of}
use Rattle.bridge_plan.specs.Sends.{budget_on_two_of}
use Rattle.bridge_runs.specs.Bridge.{MakesPipe, first_calls, forwarding, given_by}
use Rattle.bridge_runs.specs.Bridged.{IsBridged}
use Rattle.bridge_runs.specs.Lefts.{bytes_of}
use Rattle.bridge_runs.specs.Sides.{EndsAlone, side_apps}
use Rattle.sb_bridge.specs.declared.ends.BridgeDone.{BridgeDone}
use Rattle.sb_bridge.specs.declared.bridge.BridgePorts.{BridgePorts}
use Rattle.sb_bridge.specs.declared.bridge.Crossing.{Crossing}
use Rattle.sb_bridge.specs.declared.ends.EndedPorts.{EndedPorts}
use Rattle.sb_bridge.specs.Calls.{calls_in}
use Rattle.sb_bridge.specs.Openings.{IsFirst}
use Rattle.sb_bridge.specs.Ports.{given_in}
use Rattle.sb_bridge.specs.Sides.{IsClosedSide}
use Rattle.sb_bridge.specs.Works.{AreTooMany, EndInTimeOut, EndsAs, IsThrough, MayEnd}
use Rattle.sb_bridge.proofs.Arrivals.{bridges, few_bytes, few_given, given_in_all}

-- ---- the ends

abbrev end_entry : PortView → Entry
end_entry port = record { app = port.app; call = End; answer = Done }

-- the entries that are left of a port, behind its end
left-mine : (ports : BridgePorts) (ended : EndedPorts) (ends : EndsAs ports ended) → ended.port.mine ≡ ports.port.mine ++ end_entry ports.port ∷ []
left-mine ports ended ends = ap (λ (d : DoneView). d.mine) ends.port ∙ ends.answers.mine

ends_alone : (shared : RunParts) (ports : BridgePorts) (ended : EndedPorts) → MayEnd shared ports → EndsAs ports ended → (script : ScriptText) (history : List TableEntry) →
    own_table_entries (bridge_of script) history ≡ ended.tables_port.mine → EndsAlone script history
ends_alone shared ports ended may ends script history own =
    ap (map (λ (e : TableEntry). e.call))
    (own ∙ ap (λ (d : TablesDoneView). d.mine) ends.tables_port ∙ ends.table_answers.mine
    ∙ ap (λ (es : List TableEntry). es ++ record { app = ports.tables_port.app; call = table_calls.End; answer = table_answers.Done } ∷ []) may.none)

-- ---- the run

module _ (plan : PlanText) (crossing : Crossing) (done : BridgeDone) (through : IsThrough crossing done) (met : MainView) (port : PortView) (first : IsFirst plan crossing.pipe met.seen.log.entries port)
    (with_bridge_one with_bridge_two : ScriptText) (main_two : MainView) (one two : Finished) (side_one : IsClosedSide plan.one with_bridge_one met done.from one) (side_two : IsClosedSide plan.two with_bridge_two main_two done.to two)
    (script_one : crossing.one.script.now ≡ plan.one) (script_two : crossing.two.script.now ≡ plan.two) (most : crossing.most ≡ budget_on_two_of plan)
    (firsts : crossing.firsts ≡ length plan.routes + 1) (apps : apps_of through.from.port.seen ≡ side_apps plan.one) where
  abbrev p : ℕ
  p = crossing.pipe

  abbrev from : PortView
  from = through.from.port

  app-is : from.app ≡ bridge_of plan.one
  app-is = through.stopped.begun.bridges.app ∙ ap bridge_of script_one

  limits-are : from.seen.limits ≡ plan.one.limits
  limits-are = through.stopped.begun.bridges.limits ∙ ap (λ (s : ScriptText). s.limits) script_one

  -- what the pipe gave by then is what it gave in all
  given-is : given_by plan.one p one.bus.log.entries ≡ given_in from.seen p
  given-is =
      let ends = through.ends_on_one in
      ap₂ (λ (l : Limits) n. map (λ (received : Received). received.message) (receipts l n p one.bus.log.entries)) (sym limits-are) (sym apps)
      ∙ given_in_all p from ends.last through.stopped.begun.at ends.answers ends.mine one.bus
      (subst (λ (d : DoneView). Begins d.seen one.bus) ends.port side_one.extends_port)
      (side_one.limits ∙ sym limits-are) (side_one.apps ∙ sym apps)
      (subst (λ l. IsLegal l (apps_of from.seen) one.bus.log.entries) (sym limits-are) (subst (λ n. IsLegal plan.one.limits n one.bus.log.entries) (sym apps) side_one.legal.bus))
      (ap (λ n. own_entries n one.bus.log.entries) app-is ∙ side_one.bridge ∙ ap (λ (d : DoneView). d.mine) ends.port)

  begun-count : length through.stopped.first ≡ length met.seen.log.entries
  begun-count =
      through.stopped.begun.count ∙ firsts
      ∙ sym (ap length first.whole_is ∙ sym (length-map port.mine (λ (e : Entry). (e.app, e.call))) ∙ ap length first.calls ∙ length-map (first_calls plan p) (λ (call : Call). (bridge_of plan.one, call))
      ∙ count plan.routes)
    where
      count : (routes : List Route) → length (first_calls (record plan { routes = routes }) p) ≡ length routes + 1
      count routes = omega (arith, length-map routes (λ (route : Route). Subscribe route.id p route.limit Global))

  own-is : own_entries (bridge_of plan.one) one.bus.log.entries ≡ (through.stopped.first ++ through.stopped.waits) ++ end_entry from ∷ []
  own-is = side_one.bridge ∙ left-mine through.from done.from through.ends_on_one ∙ ap (λ (es : List Entry). es ++ end_entry from ∷ []) through.stopped.begun.mine

  own-first : own_entries (bridge_of plan.one) met.seen.log.entries ≡ met.seen.log.entries
  own-first = first.alone

  calls : callers met.seen.log.entries ≡ map (λ (call : Call). (bridge_of plan.one, call)) (first_calls plan p)
  calls = ap callers first.whole_is ∙ first.calls

  -- there were no more messages than the budget of side 2 is for
  not-too-many : AreTooMany crossing (given_in from.seen p) → ⊥
  not-too-many many =
      let extends = side_one.extends.entries in
      let few = few_given plan p (histories_of one.bus one.tables) side_one.legal side_one.merges met.seen.log.entries extends.0 through.stopped.waits extends.1 own-first calls (subst (MakesPipe p) (sym first.whole_is) first.pipe)
      through.stopped.first begun-count (end_entry from) refl through.stopped.begun.waited own-is in
      let bytes = few_bytes plan p (histories_of one.bus one.tables) side_one.legal side_one.merges met.seen.log.entries extends.0 through.stopped.waits extends.1 own-first calls (subst (MakesPipe p) (sym first.whole_is) first.pipe)
      through.stopped.first begun-count (end_entry from) refl through.stopped.begun.waited own-is in
      ⊎_elim
      (λ entries. omega (arith, entries, few, ap length given-is, ap (λ (b : Budget). b.entries) most))
      (λ long. omega (arith, long, bytes, ap bytes_of given-is, ap (λ (b : Budget). b.bytes) most))
      many

  bridged-by : EndInTimeOut through.stopped.waits × (through.stopped.messages ≡ given_in from.seen p) → IsBridged plan (histories_of one.bus one.tables) (histories_of two.bus two.tables)
  bridged-by out =
      let extends = side_one.extends.entries in
      record {
        legal_on_one = side_one.legal;
        legal_on_two = side_two.legal;
        merges_on_one = side_one.merges;
        merges_on_two = side_two.merges;
        pipe = p;
        from = bridges plan p (histories_of one.bus one.tables) side_one.legal side_one.merges met.seen.log.entries extends.0 through.stopped.waits extends.1 own-first calls (subst (MakesPipe p) (sym first.whole_is) first.pipe)
            through.stopped.first begun-count (end_entry from) refl through.stopped.begun.waited own-is out.0.before out.0.last out.0.all out.0.timed_out out.0.in_time;
        to =
            ap calls_in (side_two.bridge ∙ left-mine through.to done.to through.ends_on_two)
            ∙ map-append (λ (e : Entry). e.call) through.to.port.mine (end_entry through.to.port ∷ [])
            ∙ ap (λ (cs : List Call). cs ++ End ∷ []) through.stopped.sent.sent
            ∙ ap forwarding (out.1 ∙ sym given-is);
        tables_on_one = ends_alone crossing.one through.from done.from through.on_one through.ends_on_one plan.one one.tables.log.entries side_one.bridge_at_tables;
        tables_on_two = ends_alone crossing.two through.to done.to through.on_two through.ends_on_two plan.two two.tables.log.entries side_two.bridge_at_tables;
        messages_stay_on_one = messages_stay plan.one.limits (side_apps plan.one) one.bus.log.entries side_one.legal.bus;
        messages_stay_on_two = messages_stay plan.two.limits (side_apps plan.two) two.bus.log.entries side_two.legal.bus;
        tables_stay_on_one = tables_stay plan.one.limits (side_apps plan.one) one.tables.log.entries side_one.legal.tables;
        tables_stay_on_two = tables_stay plan.two.limits (side_apps plan.two) two.tables.log.entries side_two.legal.tables;
      }

  pub bridged : IsBridged plan (histories_of one.bus one.tables) (histories_of two.bus two.tables)
  bridged = ⊎_elim bridged-by (λ many. absurd (not-too-many many)) through.stopped.how
