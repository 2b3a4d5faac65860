-- A run before the first call.
use Rattle.std.specs.Prelude.{ℕ, ◌*◌, ◌≤◌, List, [], map}
use Rattle.lend_block.specs.Loan.{LentBytes}
use Rattle.buf_desc.specs.Held.{Holding}
use Rattle.fsw_base.specs.declared.config.Budget.{Budget}
use Rattle.fsw_base.specs.Limits.{Limits}
use Rattle.sb_calls.specs.Core.{Core}
use Rattle.table_blocks.specs.Held.{HeldViews}
use Rattle.tbl_load.specs.Core.{Core as TableCore}
use Rattle.script_settings.specs.Accounts.{budget_of}
use Rattle.app_script.specs.Script.{ScriptText}

-- each application's budget
abbrev pub budgets_for : ScriptText → List Budget
budgets_for script = map (λ a. budget_of a.lines) script.apps

-- the bus before the first call
abbrev pub opened : ScriptText → Core
opened script =
    record {
      limits = script.limits;
      log = record { budgets = budgets_for script; entries = [] };
      notes = [];
    }

-- the tables before the first call, with the same budgets
abbrev pub opened_tables : ScriptText → TableCore
opened_tables script =
    record {
      limits = script.limits;
      log = record { budgets = budgets_for script; entries = [] };
      notes = [];
    }

-- a bag with nothing in it, and room for so many views and buffers
abbrev pub empty_bag : ℕ → ℕ → Holding LentBytes
empty_bag views buffers =
    record { views = []; buffers = []; view_room = views; buffer_room = buffers }

-- the bags of a script's applications before the first call: room for a view of each pipe that
-- there may be, and for each buffer that the application asks for
abbrev pub empty_bags : ScriptText → List (Holding LentBytes)
empty_bags script = map (λ a. empty_bag script.limits.pipes (budget_of a.lines).buffers) script.apps

-- their bags of tables: room for a view of each handle that there may be
abbrev pub empty_held : ScriptText → List HeldViews
empty_held script = map (λ a. record { views = []; room = script.limits.handles }) script.apps

-- the sizes of a run's regions, in bytes: for the bus's pool, for the tables' pool, and for the
-- working buffers of the tables
pub record RegionSizes : Type 0 where
  pub pool : ℕ
  pub tables : ℕ
  pub work : ℕ

-- the regions are large enough for these limits: four working buffers of the largest table
pub record HaveRoom (sizes : RegionSizes) (limits : Limits) : Type 0 where
  pub pool : limits.pool ≤ sizes.pool
  pub tables : limits.tablepool ≤ sizes.tables
  pub work : 4 * limits.tablemax ≤ sizes.work
