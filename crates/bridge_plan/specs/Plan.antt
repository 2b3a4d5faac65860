-- What a bridge is to do: its routes, and the scripts of both sides.
use Rattle.std.specs.Prelude.{ℕ, ◌+◌, ◌≤◌, ◌==◌, List, length, if◌then◌else◌}
use Rattle.app_script.specs.Script.{ScriptText}
use Rattle.app_script.specs.ScriptRanges.{IsScript}
use Rattle.bridge_plan.specs.declared.routes.Route.{Route}
use Rattle.bridge_plan.specs.Routes.{AreRoutes}

-- A plan: the routes in their order, and the scripts of side 1 and of side 2.
pub record PlanText : Type 0 where
  pub routes : List Route
  pub one : ScriptText
  pub two : ScriptText

-- the script of a side
abbrev pub script_of : PlanText → ℕ → ScriptText
script_of plan side = if side == 1 then plan.one else plan.two

-- The plans that a text can be: at most 16 routes, each of another id, and two scripts, each of
-- which leaves room for one application more.
pub record IsPlan (plan : PlanText) : Type 0 where
  pub routes : AreRoutes plan.routes
  pub one : IsScript plan.one
  pub two : IsScript plan.two
  pub room_on_one : length plan.one.apps ≤ 15
  pub room_on_two : length plan.two.apps ≤ 15

-- the bridge's number on a side: it comes after the script's last application
abbrev pub bridge_of : ScriptText → ℕ
bridge_of script = length script.apps + 1

-- what a gate calls an application: those of side 2 come 16 later
abbrev pub gate_number_of : ℕ → ℕ → ℕ
gate_number_of side app = if side == 1 then app else app + 16
