use Rattle.std.proofs.Common.{length, ap, arith}
use Rattle.app_script.specs.Script.{ScriptText}
use Rattle.bridge_plan.proofs.SideRoom.{room_on}
use Rattle.bridge_plan.proofs.plan.BridgePlan.bridge.Goals as goal

pub app_behind-requires : goal.app_behind-requires
app_behind-requires c =
    omega (arith, room_on c.args.self.now c.args.side c.recall_ranges.ensures, c.apps.ensures.count, ap (λ (s : ScriptText). length s.apps) c.script.ensures)

pub returns : goal.returns
returns c = omega (arith, c.app_behind.ensures, c.apps.ensures.count, ap (λ (s : ScriptText). length s.apps) c.script.ensures)
