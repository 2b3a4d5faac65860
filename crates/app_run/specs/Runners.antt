-- How far an application has come.
use Rattle.std.specs.Prelude.{ℕ, ◌&&◌, nat_lt, Bool, false, List, [], ◌∷◌, length, Option, Some, None, if◌then◌else◌}
use Rattle.std.specs.Option.{is_none}
use Rattle.lend_block.specs.Loan.{LentBytes}
use Rattle.buf_desc.specs.Held.{Holding}
use Rattle.bus_words.specs.declared.receipts.Receipt.{Receipt}
use Rattle.bus_words.specs.Bus.{Standing, Active, Waiting, Ended}
use Rattle.app_script.specs.Script.{ScriptText, app_at}
use Rattle.script_lines.specs.declared.line.Line.{Line}
use Rattle.sb_calls.specs.Core.{Core}
use Rattle.table_blocks.specs.Held.{HeldViews}
use Rattle.tbl_load.specs.Core.{Core as TableCore}
use Rattle.script_runs.specs.Histories.{Histories}
use Rattle.script_runs.specs.TableTrace.{first_handles}
use Rattle.script_runs.specs.Trace.{Registers, first_registers}
use Rattle.script_runs.specs.Rotation.{Running}
use Rattle.app_calls.specs.Callers.{written_in}

-- Both services: the bus and the tables.
pub record Services : Type 0 where
  pub bus : Core
  pub tables : TableCore

-- the histories of both services
abbrev pub histories_of : Core → TableCore → Histories
histories_of bus tables = record { bus = bus.log.entries; tables = tables.log.entries }

-- Where an application is in its script: its number, how many lines it has begun, the lines left
-- and its registers, those of table handles by themselves.
pub record Place : Type 0 where
  pub app : ℕ
  pub begun : ℕ
  pub lines : List Line
  pub registers : Registers
  pub handles : List ℕ

-- An application of a run: where it is in its script; the pipe that it waits on; whether it has
-- ended; and its receipts so far.
pub record Progress : Type 0 where
  pub running : Place
  pub waits_on : Option ℕ
  pub ended : Bool
  pub receipts : List Receipt

-- before the first line
abbrev pub beginning : ScriptText → ℕ → Progress
beginning script app = record {
  running =
      record {
        app = app;
        begun = 0;
        lines = (app_at script app).lines;
        registers = first_registers;
        handles = first_handles;
      };
  waits_on = None;
  ended = false;
  receipts = [];
}

-- whether the next turn begins a line: the application waits for nothing, and a line is left
abbrev pub begins_line : Progress → Bool
begins_line progress = is_none progress.waits_on && nat_lt 0 (length progress.running.lines)

-- the standing of an application that has not ended
abbrev pub standing_for : Option ℕ → Standing
standing_for None = Active
standing_for (Some pipe) = Waiting pipe

-- the application's standing on the bus
abbrev pub standing_in : Progress → Standing
standing_in progress = if progress.ended then Ended else standing_for progress.waits_on

-- An application of a run with its bags: one of messages, and of buffers with what it wrote, and
-- one of tables.
pub record Equipped : Type 0 where
  pub progress : Progress
  pub bag : Holding LentBytes
  pub held : HeldViews

-- the application, with what its bag has of its buffers
abbrev pub running_of : Equipped → Running
running_of one = record {
  app = one.progress.running.app;
  lines = one.progress.running.lines;
  registers = one.progress.running.registers;
  handles = one.progress.running.handles;
  written = written_in one.bag;
}

-- the application, if it goes on
abbrev pub going : Equipped → List Running
going one = if one.progress.ended then [] else running_of one ∷ []
