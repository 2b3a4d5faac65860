-- The applications of both sides and the bridge, before their first calls and once all are through.
use Rattle.std.specs.Prelude.{◌≡◌, ℕ, ◌+◌, ◌≤◌, Some, length, vec_capacity}
use Rattle.bus_service.specs.Ports.{MainView, PortView}
use Rattle.bridge_plan.specs.Plan.{PlanText, script_of}
use Rattle.bridge_plan.specs.Sends.{budget_on_two_of}
use Rattle.sb_bridge.specs.declared.bridge.Crossing.{Crossing}
use Rattle.sb_bridge.specs.declared.crews.Crew.{Crew}
use Rattle.sb_bridge.specs.declared.crews.ScriptSide.{ScriptSide}
use Rattle.sb_bridge.specs.declared.run.SecondClosed.{SecondClosed}
use Rattle.sb_bridge.specs.declared.threads.BothEnded.{BothEnded}
use Rattle.sb_bridge.specs.Openings.{AreNew, IsFirst}
use Rattle.sb_bridge.specs.Sides.{IsClosedSide, IsDoneSide, MayBegin, budget_on, whole_on}
use Rattle.sb_bridge.specs.Works.{IsThrough}

-- the applications of a side of the plan, with the bridge there, may begin
pub record IsCrewOf (plan : PlanText) (side : ℕ) (crew : Crew) : Type 0 where
  pub script : crew.side.shared.script.now ≡ script_of plan side
  pub beside : crew.side.shared.beside ≡ Some (budget_on plan side)
  pub begins : MayBegin crew.side
  pub room : length crew.side.works.items ≤ vec_capacity crew.side.works
  pub ports : AreNew crew.side.shared crew.ports

-- All are through. The bridge's first calls on side 1 were the first of all that the main part of
-- its bus had seen by then; the bridge crossed from side 1 to side 2.
pub record AreAllThrough (plan : PlanText) (one two : ScriptSide) (main : MainView)
    (ended : BothEnded) : Type 0 where
  pub side_one : IsDoneSide one ended.one
  pub side_two : IsDoneSide two ended.two
  pub crossing : Crossing
  pub from : crossing.one ≡ one.shared
  pub to : crossing.two ≡ two.shared
  pub firsts : crossing.firsts ≡ length plan.routes + 1
  pub most : crossing.most ≡ budget_on_two_of plan
  pub port : PortView
  pub first : IsFirst plan crossing.pipe main.seen.log.entries port
  pub bridge : IsThrough crossing ended.bridge

-- All are through, with this left of side 1, and side 2 is closed.
pub record IsSecondClosed (plan : PlanText) (one : ScriptSide) (main : MainView)
    (left : SecondClosed) : Type 0 where
  pub two : ScriptSide
  pub ended : BothEnded
  pub all : AreAllThrough plan one two main ended
  pub done : left.done ≡ ended.one
  pub from : left.from ≡ ended.bridge.from
  pub script : two.shared.script.now ≡ plan.two
  pub main_two : MainView
  pub closed : IsClosedSide plan.two (whole_on plan 2) main_two ended.bridge.to left.two
