-- The bridge's ports before its first call, and behind its first calls on side 1.
use Rattle.std.specs.Prelude.{◌≡◌, ◌⊎◌, ℕ, true, List, [], ◌++◌, map, codes}
use Rattle.fsw_base.specs.declared.config.Scope.TheVariants.{Global}
use Rattle.fsw_base.specs.declared.statuses.SbStatus.{SbStatus}
use Rattle.bus_words.specs.declared.calls.BusAnswer.{BusAnswer}
use Rattle.bus_words.specs.declared.calls.BusAnswer.TheVariants.{Number, Sb}
use Rattle.bus_words.specs.declared.history.Call.{Call}
use Rattle.bus_words.specs.declared.history.Call.TheVariants.{Create, Subscribe}
use Rattle.bus_words.specs.declared.history.Entry.{Entry}
use Rattle.bus_words.specs.Bus.{Active, owns}
use Rattle.bus_words.specs.Runs.{callers, own_entries, standing_behind}
use Rattle.bus_service.specs.Ports.{PortView}
use Rattle.sb_calls.specs.Core.{state_of}
use Rattle.app_run.specs.Openings.{opened, opened_tables}
use Rattle.thread_run.specs.declared.works.RunParts.{RunParts}
use Rattle.thread_run.specs.Whole.{whole}
use Rattle.bridge_plan.specs.declared.routes.Route.{Route}
use Rattle.bridge_plan.specs.Plan.{PlanText, bridge_of}
use Rattle.bridge_runs.specs.Bridge.{MakesPipe, first_calls}
use Rattle.sb_bridge.specs.declared.bridge.BridgePorts.{BridgePorts}
use Rattle.sb_bridge.specs.Calls.{calls_in}
use Rattle.sb_bridge.specs.Ports.{IsAt, IsOwn, IsSame, given_in, one_more}
use Rattle.sb_bridge.specs.Works.{IsBridges}

-- the bridge's ports of a side, which made no call and saw none
pub record AreNew (shared : RunParts) (ports : BridgePorts) : Type 0 where
  pub bridges : IsBridges shared ports.port
  pub seen : ports.port.seen ≡ opened (whole shared)
  pub none : ports.port.mine ≡ []
  pub lock : ports.tables_port.lock ≡ shared.tables.now
  pub app : ports.tables_port.app ≡ bridge_of shared.script.now
  pub seen_at_tables : ports.tables_port.seen ≡ opened_tables (whole shared)
  pub none_at_tables : ports.tables_port.mine ≡ []

-- the calls that subscribe pipe p to routes, in order
abbrev pub subscriptions : ℕ → List Route → List Call
subscriptions p routes = map (λ route. Subscribe route.id p route.limit Global) routes

-- Its application created the bridge's pipe, of this number, or was refused.
pub record HasCreated (plan : PlanText) (p : ℕ) (old new : PortView) : Type 0 where
  pub same : IsSame old new
  pub own : IsOwn new
  pub active : standing_behind new.mine ≡ Active
  pub answer : BusAnswer
  pub mine : new.mine ≡ one_more old (Create plan.one.limits.depth (codes "BRIDGE")) answer
  pub told : (answer ≡ Number p) ⊎ ((status : SbStatus) × (answer ≡ Sb status))
  pub owned : answer ≡ Number p → owns (state_of new.seen).pipes new.app p ≡ true

-- The port made these calls more, and nobody is told of another; its application has the pipes that
-- it had.
pub record HasCalled (old new : PortView) (calls : List Call) : Type 0 where
  pub same : IsSame old new
  pub own : IsOwn new
  pub active : standing_behind new.mine ≡ Active
  pub calls_are : calls_in new.mine ≡ calls_in old.mine ++ calls
  pub begins : List Entry
  pub behind : new.mine ≡ old.mine ++ begins
  pub owned : (p : ℕ) → owns (state_of old.seen).pipes old.app p ≡ true →
      owns (state_of new.seen).pipes new.app p ≡ true

-- Behind its first calls on side 1: these are all that anybody made there, its pipe is p, and gave
-- nothing yet.
pub record IsFirst (plan : PlanText) (p : ℕ) (entries : List Entry) (port : PortView)
    : Type 0 where
  pub at : IsAt p port
  pub active : standing_behind port.mine ≡ Active
  pub whole_is : entries ≡ port.mine
  pub alone : own_entries (bridge_of plan.one) entries ≡ entries
  pub calls : callers port.mine ≡ map (λ call. (bridge_of plan.one, call)) (first_calls plan p)
  pub pipe : MakesPipe p port.mine
  pub given : given_in port.seen p ≡ []
