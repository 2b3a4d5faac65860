-- What a run of two buses and a bridge leaves.
use Rattle.std.specs.Prelude.{◌≡◌, ℕ, length, map}
use Rattle.std.specs.List.{range_with_len}
use Rattle.app_run.specs.declared.rotating.Finished.{Finished}
use Rattle.app_run.specs.Runners.{histories_of}
use Rattle.script_runs.specs.Told.{receipts_told}
use Rattle.sb_calls.specs.Core.{apps_of}
use Rattle.tbl_load.specs.Core.{apps_of as table_apps_of}
use Rattle.bridge_plan.specs.Plan.{PlanText, script_of}
use Rattle.bridge_runs.specs.Bridged.{IsBridged}
use Rattle.bridge_runs.specs.Sides.{side_apps}
use Rattle.sb_bridge.specs.declared.run.Bridged.{Bridged}
use Rattle.sb_bridge.specs.Sides.{whole_on}

-- The services that a side leaves have its script's configuration, for one application more than it
-- has. Its receipts are those of the script's applications in the histories.
pub record LeavesSide (plan : PlanText) (side : ℕ) (finished : Finished) : Type 0 where
  pub limits : finished.bus.limits ≡ (script_of plan side).limits
  pub table_limits : finished.tables.limits ≡ (script_of plan side).limits
  pub apps : apps_of finished.bus ≡ side_apps (script_of plan side)
  pub table_apps : table_apps_of finished.tables ≡ side_apps (script_of plan side)
  pub receipts : map (λ list. list.receipts) finished.receipts.items ≡
      map (receipts_told (whole_on plan side) (histories_of finished.bus finished.tables))
      (range_with_len 1 (length (script_of plan side).apps))

-- histories by which each message of a route went over the bridge once and in order, and what each
-- side leaves
pub record Leaves (plan : PlanText) (left : Bridged) : Type 0 where
  pub bridged : IsBridged plan (histories_of left.one.bus left.one.tables)
      (histories_of left.two.bus left.two.tables)
  pub one : LeavesSide plan 1 left.one
  pub two : LeavesSide plan 2 left.two
