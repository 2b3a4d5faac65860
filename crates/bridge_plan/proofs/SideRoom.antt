-- Each side of a plan has room for the bridge.
use Rattle.std.proofs.Common.{ℕ, ◌≤◌, true, false, cond, eqb, length}
use Rattle.bridge_plan.specs.Plan.{PlanText, IsPlan, script_of}

pub room_on : (plan : PlanText) (side : ℕ) → IsPlan plan → length (script_of plan side).apps ≤ 15
room_on plan side is = elim (eqb side 1) as (λ b. length (cond b plan.one plan.two).apps ≤ 15) [ true ↦ is.room_on_one | false ↦ is.room_on_two ]
