-- What a run of two buses and a bridge leaves: each message of a route goes from the first bus to
-- the second, once and in order.
use Rattle.std.specs.Prelude.{◌≡◌, ℕ}
use Rattle.script_runs.specs.Histories.{Histories}
use Rattle.script_runs.specs.Stays.{MessagesStay, TablesStay}
use Rattle.bridge_plan.specs.Plan.{PlanText, bridge_of}
use Rattle.bridge_runs.specs.Bridge.{BridgesFrom, given_by, forwarding, calls_by}
use Rattle.bridge_runs.specs.Sides.{AreLegal, MergesBeside, EndsAlone, side_apps}

-- A run of the plan may have left these histories of side 1 and of side 2. Each side's are legal,
-- and merge what its applications do. On side 1 the bridge comes first, creates its pipe and
-- subscribes it to the routes; then it waits on it until it first times out, and ends. On side 2 it
-- sends just the messages that this pipe gave, each once and in order, with the counts that they
-- came with, and ends. On each side a message that was received stays until its receiver lets go of
-- it, and so does a table that is held.
pub record IsBridged (plan : PlanText) (one two : Histories) : Type 0 where
  pub legal_on_one : AreLegal plan.one one
  pub legal_on_two : AreLegal plan.two two
  pub merges_on_one : MergesBeside plan.one one
  pub merges_on_two : MergesBeside plan.two two
  -- the bridge's pipe
  pub pipe : ℕ
  pub from : BridgesFrom plan pipe one.bus
  pub to : calls_by (bridge_of plan.two) two.bus ≡ forwarding (given_by plan.one pipe one.bus)
  pub tables_on_one : EndsAlone plan.one one.tables
  pub tables_on_two : EndsAlone plan.two two.tables
  pub messages_stay_on_one : MessagesStay plan.one.limits (side_apps plan.one) one.bus
  pub messages_stay_on_two : MessagesStay plan.two.limits (side_apps plan.two) two.bus
  pub tables_stay_on_one : TablesStay plan.one.limits (side_apps plan.one) one.tables
  pub tables_stay_on_two : TablesStay plan.two.limits (side_apps plan.two) two.tables
